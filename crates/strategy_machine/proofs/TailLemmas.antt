-- The first children of a node.
use Rattle.std.proofs.Common.{◌≡◌, ◌<◌, ◌≤◌, ℕ, ◌+◌, List, [], ◌∷◌, ◌++◌, take, sym, ap, ◌∙◌, arith, suc, Some, None, slice_get}
use Rattle.std.proofs.lemmas.List.{take_all}
use Rattle.std.proofs.lemmas.Option.{slice_get_within, get_or_from_slice_get}
use Rattle.std.proofs.Math.Seq.{take-suc}
use Rattle.term_core.specs.Tree.{Tree, integer, branch, application, list, tuple, children, annotations, with_annotations, with_children, list_term, of_list}
use Rattle.term_core.proofs.TreeLemmas.{of_list-to_list}
use Rattle.strategy_meaning.specs.Matching.{elements}
use Rattle.strategy_machine.proofs.PartsLemmas.{past_all}

next : (i : ℕ) → i + 1 ≡ suc i
next i = omega arith

taken : (us : List Tree) (i : ℕ) (u : Tree) → slice_get us i ≡ Some u → take (suc i) us ≡ take i us ++ u ∷ []
taken us i u e = take-suc us i u (slice_get_within us i u e)
    ∙ ap (λ x. take i us ++ x ∷ []) (get_or_from_slice_get us i u u e)

pub first_more : (us : List Tree) (i : ℕ) (u : Tree) (old new : List Tree) → slice_get us i ≡ Some u → old ≡ take i us
    → new ≡ old ++ u ∷ [] → new ≡ take (i + 1) us
first_more us i u old new e o n = n ∙ ap (λ x. x ++ u ∷ []) o ∙ sym (taken us i u e)
    ∙ ap (λ k. take k us) (sym (next i))

pub first_all : (us : List Tree) (i n : ℕ) (all : List Tree) → i < n → slice_get us i ≡ None → all ≡ take i us
    → all ≡ take n us
first_all us i n all lt e a = a ∙ take_all i us (past_all us i e)
    ∙ sym (take_all n us (omega (arith, lt, past_all us i e)))

pub first_over : (us : List Tree) (i n : ℕ) (all : List Tree) → n ≤ i → i ≤ n → all ≡ take i us → all ≡ take n us
first_over us i n all lt le a = let same : i ≡ n = omega (arith, lt, le) in a ∙ ap (λ k. take k us) same

-- a list with other elements
pub relisted : (t : Tree) (us : List Tree) → elements t ≡ Some (children t)
    → with_annotations (list_term us) (annotations t) ≡ with_children t us
relisted (integer z notes) us e = absurd (cc)
relisted (branch (application f) kids notes) us e = absurd (cc)
relisted (branch list kids notes) us e = ap (branch list (of_list us)) (of_list-to_list notes)
relisted (branch tuple kids notes) us e = absurd (cc)

-- the same without annotations
pub relisted_bare : (t : Tree) (us : List Tree) → elements t ≡ Some (children t)
    → annotations t ≡ [] → list_term us ≡ with_children t us
relisted_bare t us e none = ap (λ ns. with_annotations (list_term us) ns) (sym none) ∙ relisted t us e
