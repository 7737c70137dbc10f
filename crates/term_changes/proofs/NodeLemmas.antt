-- Terms with other children.
use Rattle.std.proofs.Common.{◌≡◌, List, [], ◌∷◌, length, refl, sym, ap, arith}
use Rattle.term_core.specs.Tree.{Tree, integer, branch, children, annotations, with_children}
use Rattle.term_core.proofs.TreeLemmas.{to_list-of_list, of_list-to_list}

no_length : (us : List Tree) → length us ≡ 0 → us ≡ []
no_length [] h = refl
no_length (u ∷ us) h = absurd (omega (arith, h))

pub children-with_children : (t : Tree) (us : List Tree) → length us ≡ length (children t)
    → children (with_children t us) ≡ us
children-with_children (integer z notes) us h = sym (no_length us h)
children-with_children (branch head kids notes) us h = to_list-of_list us

pub annotations-with_children : (t : Tree) (us : List Tree) → annotations (with_children t us) ≡ annotations t
annotations-with_children (integer z notes) us = refl
annotations-with_children (branch head kids notes) us = refl

pub with_children-with_children : (t : Tree) (us vs : List Tree)
    → with_children (with_children t us) vs ≡ with_children t vs
with_children-with_children (integer z notes) us vs = refl
with_children-with_children (branch head kids notes) us vs = refl

pub same_children : (t : Tree) → with_children t (children t) ≡ t
same_children (integer z notes) = refl
same_children (branch head kids notes) = ap (λ k. branch head k notes) (of_list-to_list kids)
