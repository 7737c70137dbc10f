-- One step of the exchange at a path.
use Rattle.std.proofs.Common.{◌≡◌, ℕ, ◌∷◌, List, length, set, slice_get, Some, None, sym, ap, ◌∙◌}
use Rattle.std.specs.List.{refill}
use Rattle.std.specs.Option.{option_map_or}
use Rattle.term_core.specs.Tree.{Tree, children, with_children, with_child}
use Rattle.term_paths.specs.Paths.{at, set_at}
use Rattle.term_paths.proofs.PathLemmas.{at-child, set_at-child, with_child-same}
use Rattle.term_paths.proofs.StepLemmas.{written}
use Rattle.term_changes.specs.Change.{Change, changed}
use Rattle.term_changes.specs.Exchange.{taken, changed_in, taken_in}

module _ (c : Change) (t kid : Tree) (i : ℕ) (rest : List ℕ) (is : slice_get (children t) i ≡ Some kid) where
  in_child : with_child t i (changed_in c kid rest) ≡ changed_in c t (i ∷ rest)
  in_child =
      (elim (at kid rest) as (λ o. with_child t i (option_map_or (λ u. set_at kid rest (changed c u)) o kid)
      ≡ option_map_or (λ u. set_at t (i ∷ rest) (changed c u)) o t) [
        | None ↦ with_child-same t i kid is
        | Some u ↦ sym (set_at-child t kid (changed c u) i rest is)
      ])
      ∙ ap (λ o. option_map_or (λ u. set_at t (i ∷ rest) (changed c u)) o t) (sym (at-child t kid i rest is))

  pub below_tree : (new : Tree) (us : List Tree) (p : List ℕ) → p ≡ i ∷ rest → us ≡ children t
      → new ≡ changed_in c kid rest
      → with_children t (refill (length (children t)) (children t) (set us i new)) ≡ changed_in c t p
  below_tree new us p e lent h = written t new us i lent ∙ ap (with_child t i) h
      ∙ in_child ∙ ap (changed_in c t) (sym e)

  pub below_patch : (d : Change) (p : List ℕ) → p ≡ i ∷ rest → d ≡ taken_in c kid rest → d ≡ taken_in c t p
  below_patch d p e h = h ∙ ap (λ o. option_map_or (taken c) o c) (sym (at-child t kid i rest is))
      ∙ ap (taken_in c t) (sym e)
