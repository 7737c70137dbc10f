use Rattle.std.proofs.Common.{◌+◌, rules, tests, sym, ap, ◌∙◌, length, drop, Some}
use Rattle.std.specs.List.{slice_split}
use Rattle.std.proofs.lemmas.List.{length_push}
use Rattle.std.proofs.lemmas.Iterator.Consumers.{YieldsList-turn, YieldsList-end}
use Rattle.std.proofs.lemmas.Iterator.Splits.{YieldsList-from_slice_split}
use Rattle.term_paths.specs.PathText.{parts_of, is_slash}
use Rattle.term_paths.proofs.TextLemmas.{after, no_parts_yet, one_more_part, no_part, all_parts}
use Rattle.term_paths.proofs.text.read_parts.Goals as goal

pub loop-piece-init : goal.loop-piece-init
loop-piece-init c =
    no_parts_yet c.new-parts.result.items (slice_split is_slash c.args.text.now) c.new-parts.ensures.items

pub loop-piece-preserved : goal.loop-piece-preserved
loop-piece-preserved c =
    let turn = YieldsList-turn
    (YieldsList-from_slice_split _ is_slash c.args.text.now (cc) (cc) (cc) (λ x b q k. search (rules, tests)))
    c.loop-piece.yielded _ c.loop-piece.yielded_by _ _ c.in-Some.piece c.in-Some.is c.next.ensures.steps in
    let pieces = slice_split is_slash c.args.text.now in
    c.loop-piece.invariant
    ∙ one_more_part pieces (length c.loop-piece.yielded) c.in-Some.piece.now c.loop-piece.parts.items
    c.in-Some-read_number.part turn (sym c.in-Some-read_number.ensures)
    ∙ ap (λ xs. after xs (parts_of (drop (length c.loop-piece.yielded + 1) pieces)))
    (sym c.in_ok-push-in-Some-read_number.ensures.items)
    ∙ ap (λ n. after c.push.new.self.items (parts_of (drop n pieces)))
    (sym (length_push c.loop-piece.yielded c.in-Some.piece))

pub returns-in-None-read_number-clause-line : goal.returns-in-None-read_number-clause-line
returns-in-None-read_number-clause-line c =
    let turn = YieldsList-turn
    (YieldsList-from_slice_split _ is_slash c.args.text.now (cc) (cc) (cc) (λ x b q k. search (rules, tests)))
    c.loop-piece.yielded _ c.loop-piece.yielded_by _ _ c.in-Some.piece c.in-Some.is c.next.ensures.steps in
    λ _. c.loop-piece.invariant ∙ no_part (slice_split is_slash c.args.text.now) (length c.loop-piece.yielded)
    c.in-Some.piece.now c.loop-piece.parts.items turn (sym c.in-None-read_number.ensures)

pub returns-clause-path : goal.returns-clause-path
returns-clause-path c =
    let last = YieldsList-end
    (YieldsList-from_slice_split _ is_slash c.args.text.now (cc) (cc) (cc) (λ x b q k. search (rules, tests)))
    c.loop-piece.yielded _ c.loop-piece.yielded_by _ _ c.in-None.is c.next.ensures.steps in
    c.loop-piece.invariant ∙ all_parts (slice_split is_slash c.args.text.now) (length c.loop-piece.yielded)
    c.loop-piece.parts.items last.1 ∙ ap Some (sym c.from_parts.ensures)
