use Rattle.std.proofs.Common.{ℕ, ◌<◌, List, arith, subst, length, get_or, refl}
use Rattle.std.specs.List.{Contains}
use Rattle.std.specs.declared.option.Option.{Option}
use Rattle.term_sorts.specs.Sorts.{Sort, list_sort}
use Rattle.term_sorts.specs.inside.Tables.{IsNumber}
use Rattle.term_sorts.proofs.ListLemmas.{has_value}
use Rattle.term_sorts.proofs.WantedLemmas.{elements_are, no_elements}
use Rattle.term_sorts.proofs.table.SortTable.elements.Goals as goal

pub returns-in-Some-element_of : goal.returns-in-Some-element_of
returns-in-Some-element_of c =
    let t = c.args.self.now in
    let row = c.in-Some.row.now in
    let all = c.deref-taken-items.result.now in
    let i = c.loop-taken.taken-index in
    elements_are t.injections t.sorts row c.in-Some.ensures.row.1 c.in-Some.ensures.agreed c.args.wanted
    c.in-Some.ensures.row.0
    (get_or all i 0) c.in-Some-element_of.element
    (subst (λ (l : List ℕ). Contains l (get_or all i 0)) c.deref-taken-items.ensures.value
    (has_value all i (get_or all i 0) c.loop-taken-test.true refl))
    c.in-Some-element_of.ensures.some

pub returns : goal.returns
returns c =
    let t = c.args.self.now in
    let row = c.in-Some.row.now in
    no_elements t.injections t.sorts row c.in-Some.ensures.row.1 c.args.wanted c.in-Some.ensures.row.0
    (subst (λ (l : List ℕ). (k : ℕ) → k < length l → (element : Option Sort)
    → IsNumber t.sorts (get_or l k 0) (list_sort element) → ⊥) c.deref-taken-items.ensures.value
    (λ k below. c.loop-taken.invariant k (omega (arith, below, c.loop-taken-test.false))))
