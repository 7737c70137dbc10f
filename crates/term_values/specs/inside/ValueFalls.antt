-- Parts of a value have a lower measure than the value.
use Rattle.std.specs.Prelude.{◌≡◌, ◌≤◌, ◌<◌, ◌+◌, ◌*◌, List, [], ◌∷◌, ◌++◌, length, max}
use Rattle.std.proofs.Common.{arith, ap}
use denote.Param.Weighed.{most}
use Rattle.term_core.specs.Tree.{Tree, integer, branch, to_list, of_list, children, annotations, with_children, with_annotations}
use Rattle.term_core.proofs.TreeLemmas.{size_pos, of_list-to_list, to_list-of_list}
use Rattle.term_core.specs.Kind.{made_of}
use Rattle.term_core.specs.Size.{size, sizes}
use Rattle.term_core.specs.declared.kind.Kind.{Kind}
use Rattle.term_core.specs.declared.kind.Kind.TheVariants.{Integer, Application, List as AList, Tuple}
use Rattle.term_values.specs.inside.Shape.{kind_shape}
use Rattle.term_changes.specs.Change.{inside, changed, changed_all}
use Rattle.term_changes.specs.Standing.{after, Standing, unchanged, altered, fresh, Suits, SuitAll, standing_change, standing_changes}
use Rattle.term_values.specs.declared.value.Form.{Form}
use Rattle.term_values.specs.declared.value.Form.TheVariants.{Leaf, Original, Bare, Rest, Built, Kept, BareKept, Joined, Annotated}
use Rattle.term_values.specs.declared.value.Top.{Top}
use Rattle.term_values.specs.declared.value.Top.TheVariants.{Borrowed, Owned}
use Rattle.term_values.specs.declared.value.Annotations.{Annotations}
use Rattle.term_values.specs.declared.value.Annotations.TheVariants as annotated
use Rattle.term_values.specs.declared.value.Items.{Items}
use Rattle.term_values.specs.declared.value.Items.TheVariants.{One, Two, Many}
use Rattle.term_values.specs.declared.value.Front.{Front}
use Rattle.term_values.specs.declared.value.Front.TheVariants as front
use Rattle.term_values.specs.declared.part.Parts.{Parts}
use Rattle.term_values.specs.declared.part.Parts.TheVariants as stored
use Rattle.term_values.specs.declared.part.PartForm.{PartForm}
use Rattle.term_values.specs.declared.part.PartForm.TheVariants.{Same, Inside, New}
use Rattle.term_values.specs.declared.part.Changed.TheInside.{Inside as ChangedFields}
use Rattle.term_values.specs.declared.part.Changed.TheDeep.{deep-Form, deep-Items, deep-Front, deep-Annotations, deep-Parts, deep-PartForm}
use Rattle.term_values.specs.inside.ValueView.{items_list, front_list, top_tree, top_shape, annotation_list, form_tree, form_shape, value_size, altered_size, standing_size, altered_of, parts_list, part_standing, PartsSuit}

most_le : (ts : List Tree) → most (λ t. value_size t + 1) ts ≤ 4 * sizes (of_list ts) + 2
most_le [] = omega arith
most_le (t ∷ ts) = omega (arith, most_le ts)

pub sizes-append : (us vs : List Tree) → sizes (of_list (us ++ vs)) ≡ sizes (of_list us) + sizes (of_list vs)
sizes-append [] vs = omega arith
sizes-append (u ∷ us) vs = omega (arith, sizes-append us vs)

pub some_size : (us : List Tree) → 0 < length us → 0 < sizes (of_list us)
some_size [] h = absurd (omega (arith, h))
some_size (u ∷ us) h = omega (arith, size_pos u)

pub size_parts : (t : Tree) → size t ≡ sizes (of_list (children t)) + sizes (of_list (annotations t)) + 1
size_parts (integer z notes) = omega (arith, ap sizes (of_list-to_list notes))
size_parts (branch head kids notes) =
    omega (arith, ap sizes (of_list-to_list kids), ap sizes (of_list-to_list notes))

pub size_annotated : (t : Tree) (ns : List Tree)
    → size (with_annotations t ns) ≡ sizes (of_list (children t)) + sizes (of_list ns) + 1
size_annotated (integer z notes) ns = omega arith
size_annotated (branch head kids notes) ns = omega (arith, ap sizes (of_list-to_list kids))

pub bare_size : (t : Tree) → annotations t ≡ [] → size t ≡ sizes (of_list (children t)) + 1
bare_size t h = omega (arith, size_parts t, ap (λ l. sizes (of_list l)) h)

-- ---- values

above_items : (us : Items) → deep-Items us ≤ 4 * sizes (of_list (items_list us)) + 2
above_items (One us) = omega (arith, most_le us.items)
above_items (Two us) = omega (arith, most_le us.items)
above_items (Many us) = omega (arith, most_le us.items)

above_front : (us : Front) → deep-Front us ≤ 4 * sizes (of_list (front_list us)) + 2
above_front (front.One us) = omega (arith, most_le us.items)
above_front (front.Chunk us) = omega (arith, most_le us.items)

above_annotations : (ns : Annotations) → deep-Annotations ns ≤ 4 * sizes (of_list (annotation_list ns)) + 2
above_annotations (annotated.Of t) = omega arith
above_annotations (annotated.Own us) = omega (arith, most_le us.items)

made_size : (k : Kind) (us : List Tree) → kind_shape k us → size (made_of k us []) ≡ sizes (of_list us) + 1
made_size (Integer z) us h = omega (arith, ap (λ l. sizes (of_list l)) h)
made_size (Application name) us h = omega arith
made_size AList us h = omega arith
made_size Tuple us h = omega arith

top_size : (n : Top) (us : List Tree) → top_shape n us → size (top_tree n us []) ≡ sizes (of_list us) + 1
top_size (Borrowed k) us h = made_size k us h
top_size (Owned name) us h = omega arith

pub above_form : (f : Form) → form_shape f → max (deep-Form f) 0 ≤ value_size (form_tree f)
above_form (Leaf k) h = omega arith
above_form (Original t) h = omega arith
above_form (Bare t) h = omega arith
above_form (Rest t k) h = omega arith
above_form (Built m) h = omega (arith, above_items m.value.items, top_size m.value.top (items_list m.value.items) h)
above_form (Kept c) h = omega (arith, size_parts (after c.value))
above_form (BareKept c) h = omega (arith, size_annotated (after c.value) [])
above_form (Joined j) h =
    let us = front_list j.value.front in
    omega (
      arith,
      above_front j.value.front,
      sizes-append us (children j.value.after),
      some_size us h.some,
      bare_size j.value.after (ap annotations h.list),
    )
above_form (Annotated n) h =
    let ns = annotation_list n.value.annotations in
    omega (
      arith,
      above_annotations n.value.annotations,
      size_annotated n.value.node ns,
      some_size ns h.some,
      bare_size n.value.node h.bare,
    )

-- ---- parts

above_standing : (u : Tree) (p : Standing) → Suits u p → standing_size p ≤ 4 * size (changed (standing_change p) u) + 2
above_standing u (unchanged t) h = omega (arith, ap size h)
above_standing u (altered a) h = omega (arith, ap (λ v. size (changed (inside a.changes) v)) h)
above_standing u (fresh v) h = omega arith

above_all : (us : List Tree) (ps : List Standing) → SuitAll us ps
    → most (λ p. standing_size p + 1) ps ≤ 4 * sizes (of_list (changed_all (standing_changes ps) us)) + 3
above_all [] [] h = omega arith
above_all [] (p ∷ ps) h = absurd h
above_all (u ∷ us) [] h = absurd h
above_all (u ∷ us) (p ∷ ps) h = omega (arith, above_standing u p h.0, above_all us ps h.1)

above_parts_of : (t : Tree) (ps : List Standing) → SuitAll (children t) ps
    → most (λ p. standing_size p + 1) ps
    ≤ 4 * sizes (of_list (children (with_children t (changed_all (standing_changes ps) (children t))))) + 3
above_parts_of (integer z notes) [] h = omega arith
above_parts_of (integer z notes) (p ∷ ps) h = absurd h
above_parts_of (branch head kids notes) ps h =
    omega (
      arith,
      above_all (to_list kids) ps h,
      ap (λ us. sizes (of_list us)) (to_list-of_list (changed_all (standing_changes ps) (to_list kids))),
    )

deep_le : (ps : Parts) → deep-Parts ps ≤ most (λ p. standing_size p + 1) (parts_list ps) + 1
deep_le (stored.One ps) = omega arith
deep_le (stored.Two ps) = omega arith
deep_le (stored.Many ps) = omega arith

pub above_parts : (a : ChangedFields) → PartsSuit a → max (deep-Parts a.parts) 0 ≤ altered_size (altered_of a)
above_parts a h = omega (arith, deep_le a.parts, above_parts_of a.of.now (parts_list a.parts) h)

pub above_part : (f : PartForm) → max (deep-PartForm f) 0 ≤ standing_size (part_standing f)
above_part (Same t b) = omega arith
above_part (Inside c b) = omega (arith, size_parts (after c.value))
above_part (New v) = omega arith
