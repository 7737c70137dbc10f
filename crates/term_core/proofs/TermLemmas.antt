-- The parts of a term, by its fields and by its data.
use Rattle.std.proofs.Common.{◌≡◌, ℕ, ◌<◌, List, length, get_or, refl, sym, ap, ◌∙◌, arith, suc, Some, None, IsSome, IfSome, MutBor}
use Rattle.std.proofs.Math.Nat.{lt_of_not-le}
use Rattle.std.specs.declared.option.Option.{Option}
use Rattle.std.specs.List.{slice_get}
use Rattle.std.specs.Option.{option_copied_mut}
use Rattle.std.proofs.lemmas.Option.{slice_get_read, slice_get_past}
use Rattle.term_core.specs.Tree.{application, list, tuple, Tree, integer, branch, children, annotations, with_children, with_annotations}
use Rattle.term_core.specs.declared.term.Node.{Node}
use Rattle.term_core.specs.declared.term.Node.TheVariants.{Integer, Application, List as AList, Tuple}
use Rattle.term_core.proofs.TreeLemmas.{to_list-of_list, of_list-to_list}
use Rattle.term_core.specs.inside.TermView.{node_term, node_shape}

pub children-node_term : (n : Node) (us notes : List Tree) → node_shape n us → children (node_term n us notes) ≡ us
children-node_term (Integer z) us notes h = sym h
children-node_term (Application name) us notes h = to_list-of_list us
children-node_term AList us notes h = to_list-of_list us
children-node_term Tuple us notes h = to_list-of_list us

pub annotations-node_term : (n : Node) (us notes : List Tree) → annotations (node_term n us notes) ≡ notes
annotations-node_term (Integer z) us notes = to_list-of_list notes
annotations-node_term (Application name) us notes = to_list-of_list notes
annotations-node_term AList us notes = to_list-of_list notes
annotations-node_term Tuple us notes = to_list-of_list notes

pub with_annotations-node_term : (n : Node) (us notes other : List Tree)
    → with_annotations (node_term n us notes) other ≡ node_term n us other
with_annotations-node_term (Integer z) us notes other = refl
with_annotations-node_term (Application name) us notes other = refl
with_annotations-node_term AList us notes other = refl
with_annotations-node_term Tuple us notes other = refl

pub with_children-node_term : (n : Node) (us notes other : List Tree) → length other ≡ length us → node_shape n us
    → with_children (node_term n us notes) other ≡ node_term n other notes
with_children-node_term (Integer z) us notes other e h = refl
with_children-node_term (Application name) us notes other e h = refl
with_children-node_term AList us notes other e h = refl
with_children-node_term Tuple us notes other e h = refl

-- ---- equal terms have equal parts

-- the root
abbrev root : Tree → Node
root (integer z notes) = Integer z
root (branch (application name) kids notes) = Application name
root (branch list kids notes) = AList
root (branch tuple kids notes) = Tuple

root-node_term : (n : Node) (us notes : List Tree) → root (node_term n us notes) ≡ n
root-node_term (Integer z) us notes = refl
root-node_term (Application name) us notes = refl
root-node_term AList us notes = refl
root-node_term Tuple us notes = refl

pub same_root : (n m : Node) (us vs ns ms : List Tree) → node_term n us ns ≡ node_term m vs ms → n ≡ m
same_root n m us vs ns ms e = sym (root-node_term n us ns) ∙ ap root e ∙ root-node_term m vs ms

pub same_children : (n m : Node) (us vs ns ms : List Tree) → node_shape n us → node_shape m vs
    → node_term n us ns ≡ node_term m vs ms → us ≡ vs
same_children n m us vs ns ms h k e = sym (children-node_term n us ns h) ∙ ap children e ∙ children-node_term m vs ms k

pub same_annotations : (n m : Node) (us vs ns ms : List Tree) → node_term n us ns ≡ node_term m vs ms → ns ≡ ms
same_annotations n m us vs ns ms e = sym (annotations-node_term n us ns) ∙ ap annotations e
    ∙ annotations-node_term m vs ms

pub same_term : (n m : Node) (us vs ns ms : List Tree)
    → n ≡ m → us ≡ vs → ns ≡ ms → node_term n us ns ≡ node_term m vs ms
same_term n m us vs ns ms p q r = λ i. node_term (p i) (q i) (r i)

-- a vector's `get_mut` gives the element at the index
pub option_copied_mut-get : (o : Option (MutBor Tree)) (us : List Tree) (n i : ℕ) → n ≡ length us
    → (IsSome o → i < n) × (i < n → IsSome o) → IfSome o (λ x. x.now ≡ get_or us i x.now)
    → option_copied_mut o ≡ slice_get us i
option_copied_mut-get None us n i e h k = let past : n < suc i = lt_of_not-le (λ lt. let no = h.1 lt in cc) in
    sym (slice_get_past us i (omega (arith, past, e)))
option_copied_mut-get (Some x) us n i e h k = sym (slice_get_read us n i x.now e (h.0 refl) k)

pub ruleset term_parts =
    (to_list-of_list, of_list-to_list, children-node_term, annotations-node_term, with_annotations-node_term)
