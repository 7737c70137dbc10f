-- Terms and their parts.
use Rattle.std.proofs.Common.{◌≡◌, List, refl, sym, ap, ◌∙◌, subst}
use Rattle.term_core.specs.Tree.{Tree, integer, branch, children, annotations, with_children, with_annotations, of_list}
use Rattle.term_core.specs.Kind.{made_of}
use Rattle.term_core.specs.declared.kind.Kind.{Kind}
use Rattle.term_core.specs.declared.kind.Kind.TheVariants.{Integer, Application, List as AList, Tuple}
use Rattle.term_core.proofs.TreeLemmas.{to_list-of_list, of_list-to_list}
use Rattle.term_changes.specs.Change.{changed_all}
use Rattle.term_changes.specs.Standing.{Altered, after}
use Rattle.term_values.specs.inside.Shape.{kind_shape}
use Rattle.term_values.specs.declared.value.Top.{Top}
use Rattle.term_values.specs.declared.value.Top.TheVariants.{Borrowed, Owned}
use Rattle.term_values.specs.inside.ValueView.{top_tree, top_shape}

pub children-made_of : (k : Kind) (us notes : List Tree) → kind_shape k us → children (made_of k us notes) ≡ us
children-made_of (Integer z) us notes h = sym h
children-made_of (Application name) us notes h = to_list-of_list us
children-made_of AList us notes h = to_list-of_list us
children-made_of Tuple us notes h = to_list-of_list us

pub children-top_tree : (n : Top) (us notes : List Tree) → top_shape n us → children (top_tree n us notes) ≡ us
children-top_tree (Borrowed k) us notes h = children-made_of k us notes h
children-top_tree (Owned name) us notes h = to_list-of_list us

pub annotations-made_of : (k : Kind) (us notes : List Tree) → annotations (made_of k us notes) ≡ notes
annotations-made_of (Integer z) us notes = to_list-of_list notes
annotations-made_of (Application name) us notes = to_list-of_list notes
annotations-made_of AList us notes = to_list-of_list notes
annotations-made_of Tuple us notes = to_list-of_list notes

pub annotations-top_tree : (n : Top) (us notes : List Tree) → annotations (top_tree n us notes) ≡ notes
annotations-top_tree (Borrowed k) us notes = annotations-made_of k us notes
annotations-top_tree (Owned name) us notes = to_list-of_list notes

with_children-made_of : (k : Kind) (us notes vs : List Tree)
    → with_children (made_of k us notes) vs ≡ made_of k vs notes
with_children-made_of (Integer z) us notes vs = refl
with_children-made_of (Application name) us notes vs = refl
with_children-made_of AList us notes vs = refl
with_children-made_of Tuple us notes vs = refl

with_annotations-made_of : (k : Kind) (us notes ns : List Tree)
    → with_annotations (made_of k us notes) ns ≡ made_of k us ns
with_annotations-made_of (Integer z) us notes ns = refl
with_annotations-made_of (Application name) us notes ns = refl
with_annotations-made_of AList us notes ns = refl
with_annotations-made_of Tuple us notes ns = refl

pub children-with_annotations : (t : Tree) (ns : List Tree) → children (with_annotations t ns) ≡ children t
children-with_annotations (integer z notes) ns = refl
children-with_annotations (branch head kids notes) ns = refl

pub annotations-with_annotations : (t : Tree) (ns : List Tree) → annotations (with_annotations t ns) ≡ ns
annotations-with_annotations (integer z notes) ns = to_list-of_list ns
annotations-with_annotations (branch head kids notes) ns = to_list-of_list ns

pub with_annotations-again : (t : Tree) (ns ms : List Tree)
    → with_annotations (with_annotations t ns) ms ≡ with_annotations t ms
with_annotations-again (integer z notes) ns ms = refl
with_annotations-again (branch head kids notes) ns ms = refl

pub with_annotations-same : (t : Tree) → with_annotations t (annotations t) ≡ t
with_annotations-same (integer z notes) = ap (integer z) (of_list-to_list notes)
with_annotations-same (branch head kids notes) = ap (branch head kids) (of_list-to_list notes)

-- ---- roots

abbrev pub IsOfKind : Kind → Tree → Type 0
IsOfKind k t = t ≡ made_of k (children t) (annotations t)

pub kind-made_of : (k : Kind) (us notes : List Tree) → IsOfKind k (made_of k us notes)
kind-made_of (Integer z) us notes = λ i. integer z (sym (of_list-to_list (of_list notes)) i)
kind-made_of (Application name) us notes =
    λ i. made_of (Application name) (sym (to_list-of_list us) i) (sym (to_list-of_list notes) i)
kind-made_of AList us notes = λ i. made_of AList (sym (to_list-of_list us) i) (sym (to_list-of_list notes) i)
kind-made_of Tuple us notes = λ i. made_of Tuple (sym (to_list-of_list us) i) (sym (to_list-of_list notes) i)

pub kind-with_children : (k : Kind) (t : Tree) (us : List Tree) → IsOfKind k t → IsOfKind k (with_children t us)
kind-with_children k t us h =
    subst (λ (x : Tree). IsOfKind k x)
    (sym (ap (λ x. with_children x us) h ∙ with_children-made_of k (children t) (annotations t) us))
    (kind-made_of k us (annotations t))

pub kind-with_annotations : (k : Kind) (t : Tree) (ns : List Tree) → IsOfKind k t → IsOfKind k (with_annotations t ns)
kind-with_annotations k t ns h =
    subst (λ (x : Tree). IsOfKind k x)
    (sym (ap (λ x. with_annotations x ns) h ∙ with_annotations-made_of k (children t) (annotations t) ns))
    (kind-made_of k (children t) ns)

pub kind-after : (k : Kind) (t : Tree) (x : Altered) → x.before ≡ t → IsOfKind k t → IsOfKind k (after x)
kind-after k t x e h =
    kind-with_children k x.before (changed_all x.changes (children x.before))
    (subst (λ (u : Tree). IsOfKind k u) (sym e) h)

-- the same for a tree known by another name
pub kind_along : (k : Kind) (t u : Tree) → t ≡ u → IsOfKind k t → IsOfKind k u
kind_along k t u e h = subst (λ (x : Tree). IsOfKind k x) e h

pub ruleset node_parts = (
  to_list-of_list,
  of_list-to_list,
  children-made_of,
  annotations-made_of,
  children-top_tree,
  annotations-top_tree,
  children-with_annotations,
  annotations-with_annotations,
)
