use Rattle.std.proofs.Common.{◌≡◌, ◌++◌, map, sym, ap, ◌∙◌, append-nil}
use Rattle.std.proofs.lemmas.List.{drop_all}
use Rattle.strategy_names.specs.Binders.{names_of}
use Rattle.strategy_names.proofs.BinderLemmas.{names_all}
use Rattle.strategy_names.proofs.binders.Binders.names.Goals as goal

pub returns : goal.returns
returns c =
    let es = c.self.inside.entries.items in
    let all : c.loop-entry.names.items ≡ map (λ e. e.name) es =
    sym (append-nil c.loop-entry.names.items)
    ∙ ap (λ l. c.loop-entry.names.items ++ map (λ e. e.name) l)
    (sym (drop_all c.loop-entry.entry-index c.as_slice-entries.result.now c.loop-entry-test.false))
    ∙ c.loop-entry.invariant ∙ ap (map (λ e. e.name)) c.as_slice-entries.ensures.value in
    names_all es c.loop-entry.names.items all ∙ ap names_of c.self.view_is
