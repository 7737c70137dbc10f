use Rattle.std.proofs.Common.{List, ◌∷◌, [], ◌++◌, ◌∙◌, subst, IfOk}
use Rattle.std.specs.Option.{IfNone}
use Rattle.term_sorts.specs.Sorts.{Injection, TakeNoneAlike}
use Rattle.term_sorts.proofs.table.SortTable.with_injection.Goals as goal

pub returns-clause-none : goal.returns-clause-none
returns-clause-none c =
    subst (λ (l : List Injection).
    IfOk c.joined.result (λ made. IfNone made (TakeNoneAlike (l ++ c.args.injection.now ∷ []) → ⊥)))
    (c.in_ok-to.ensures.kept.injections ∙ c.in_ok-from.ensures.kept.injections) c.joined.ensures.none
