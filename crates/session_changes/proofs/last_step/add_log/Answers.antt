use Rattle.std.proofs.Common.{ap, subst, sym, ◌∙◌, option_copied, rules}
use Rattle.std.proofs.lemmas.Result.{on_ok_weaker}
use Rattle.std.proofs.lemmas.List.Sorted.{answers_always}
use Rattle.std.specs.List.{flat_map}
use Rattle.change_log.specs.Reading.{held_entry}
use Rattle.session_changes.specs.declared.last_step.NamedEntry.{NamedEntry}
use Rattle.session_changes.specs.inside.Lined.{AddsLines}
use Rattle.session_changes.specs.inside.Told.{is_of_text, asked_lines}
use Rattle.session_changes.specs.inside.NamedPairs.{pairs_of}
use Rattle.session_changes.proofs.NamedTold.{found_told}
use Rattle.session_changes.proofs.last_step.add_log.Goals as goal

pub returns : goal.returns
returns c =
    on_ok_weaker c.add_named.result
    (subst (λ l. AddsLines l c.args.lines.now c.add_named.new.lines)
    (ap (λ ys. flat_map (asked_lines (option_copied c.args.name) c.args.store.now) (pairs_of ys)) c.deref.ensures.value
    ∙ sym (found_told (option_copied c.args.name) c.args.store.now c.names_are_distinct.ensures.trees
    c.names_are_distinct.ensures.modules c.args.log.now c.in_ok-found.found.items c.sort_unstable_by_key.new.self.items
    c.in_ok-found.ensures.log c.in_ok-found.ensures.names c.sort_unstable_by_key.ensures.permutation
    (c.sort_unstable_by_key.ensures.sorted (λ (x : NamedEntry). (is_of_text (held_entry x.held), x.name, x.held.path))
    (answers_always _ _ _ (λ f a r g h. search rules)))
    c.requires.compact c.requires.fits))) c.add_named.ensures
