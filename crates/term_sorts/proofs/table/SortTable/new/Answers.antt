use Rattle.std.proofs.Common.{List, [], ◌∙◌, sym, subst, arith}
use Rattle.term_sorts.specs.Sorts.{Injection}
use Rattle.term_sorts.specs.inside.TableView.{IsTable}
use Rattle.term_sorts.specs.declared.table.Row.{Row}
use Rattle.term_sorts.proofs.TakesLemmas.{nothing_taken}
use Rattle.term_sorts.proofs.table.SortTable.new.Goals as goal

empty_table : IsTable [] []
empty_table = record {
  each = λ k r e. absurd (cc);
  once = λ j k s e f. absurd (cc);
  ends = λ i h. absurd (omega (arith, h.1));
  agreed = λ s p q t u alike. nothing_taken s p t ∙ sym (nothing_taken s q u);
}

pub invariant_of-result : goal.invariant_of-result
invariant_of-result c =
    subst (λ (l : List Row). IsTable l c.new-2.result.items) (sym c.new.ensures.items)
    (subst (λ (l : List Injection). IsTable [] l) (sym c.new-2.ensures.items) empty_table)
