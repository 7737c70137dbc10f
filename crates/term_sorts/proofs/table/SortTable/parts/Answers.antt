use Rattle.std.proofs.Common.{◌≡◌, ℕ, ◌<◌, List, arith, subst, length, get_or, refl}
use Rattle.std.specs.List.{Contains}
use Rattle.term_sorts.specs.Sorts.{Sort, tuple_sort}
use Rattle.term_sorts.specs.inside.Tables.{IsNumber}
use Rattle.term_sorts.proofs.ListLemmas.{has_value}
use Rattle.term_sorts.proofs.WantedLemmas.{parts_are, no_parts}
use Rattle.term_sorts.proofs.table.SortTable.parts.Goals as goal

pub returns-in-Some-parts_of : goal.returns-in-Some-parts_of
returns-in-Some-parts_of c =
    let t = c.args.self.now in
    let row = c.in-Some.row.now in
    let all = c.deref-taken-items.result.now in
    let i = c.loop-taken.taken-index in
    parts_are t.injections t.sorts row c.in-Some.ensures.row.1 c.in-Some.ensures.agreed c.args.wanted
    c.in-Some.ensures.row.0
    (get_or all i 0) c.args.count c.in-Some-parts_of.parts
    (subst (λ (l : List ℕ). Contains l (get_or all i 0)) c.deref-taken-items.ensures.value
    (has_value all i (get_or all i 0) c.loop-taken-test.true refl))
    c.in-Some-parts_of.ensures.some

pub returns : goal.returns
returns c =
    let t = c.args.self.now in
    let row = c.in-Some.row.now in
    no_parts t.injections t.sorts row c.in-Some.ensures.row.1 c.args.wanted c.in-Some.ensures.row.0 c.args.count
    (subst (λ (l : List ℕ). (k : ℕ) → k < length l → (parts : List Sort)
    → length parts ≡ c.args.count → IsNumber t.sorts (get_or l k 0) (tuple_sort parts) → ⊥)
    c.deref-taken-items.ensures.value
    (λ k below. c.loop-taken.invariant k (omega (arith, below, c.loop-taken-test.false))))
