-- What the fields of a `Value`, of a `Changed` and of a `Part` represent.
use Rattle.std.specs.Prelude.{◌+◌, ◌*◌, ◌≤◌, ℕ, List, [], ◌++◌, drop, length}
use Rattle.term_core.specs.Tree.{Tree, branch, application, children, annotations, with_annotations, bare, list_term, of_list}
use Rattle.term_core.specs.Size.{size, sizes}
use Rattle.term_core.specs.Kind.{made_of}
use Rattle.term_changes.specs.Standing.{Altered, after, Standing, unchanged, altered, fresh, SuitAll, standing_changes, standing_tree}
use Rattle.term_values.specs.inside.Shape.{kind_shape, JoinedShape, AnnotatedShape}
use Rattle.term_values.specs.inside.Bounded.{Bounded}
use Rattle.term_values.specs.declared.value.Form.{Form}
use Rattle.term_values.specs.declared.value.Form.TheVariants.{Leaf, Original, Bare, Rest, Built, Kept, BareKept, Joined, Annotated}
use Rattle.term_values.specs.declared.value.Top.{Top}
use Rattle.term_values.specs.declared.value.Top.TheVariants.{Borrowed, Owned}
use Rattle.term_values.specs.declared.value.Annotations.{Annotations}
use Rattle.term_values.specs.declared.value.Annotations.TheVariants as annotated
use Rattle.term_values.specs.declared.value.Items.{Items}
use Rattle.term_values.specs.declared.value.Items.TheVariants.{One, Two, Many}
use Rattle.term_values.specs.declared.value.Front.{Front}
use Rattle.term_values.specs.declared.value.Front.TheVariants as front
use Rattle.term_values.specs.declared.part.PartForm.{PartForm}
use Rattle.term_values.specs.declared.part.PartForm.TheVariants.{Same, Inside, New}
use Rattle.term_values.specs.declared.part.Parts.{Parts}
use Rattle.term_values.specs.declared.part.Parts.TheVariants as stored
use Rattle.term_values.specs.declared.value.Value.TheInside.{Inside as ValueFields}
use Rattle.term_values.specs.declared.part.Changed.TheInside.{Inside as ChangedFields}
use Rattle.term_values.specs.declared.part.Part.TheInside.{Inside as PartFields}

-- ---- values

abbrev pub items_list : Items → List Tree
items_list (One us) = us.items
items_list (Two us) = us.items
items_list (Many us) = us.items

abbrev pub front_list : Front → List Tree
front_list (front.One us) = us.items
front_list (front.Chunk us) = us.items

-- a node with this root and these children and annotations; an integer has no children
abbrev pub top_tree : Top → List Tree → List Tree → Tree
top_tree (Borrowed k) us ns = made_of k us ns
top_tree (Owned name) us ns = branch (application name.value) (of_list us) (of_list ns)

abbrev pub top_shape : Top → List Tree → Type 0
top_shape (Borrowed k) us = kind_shape k us
top_shape (Owned name) us = Unit {0}

abbrev pub annotation_list : Annotations → List Tree
annotation_list (annotated.Of t) = annotations t.now
annotation_list (annotated.Own us) = us.items

abbrev pub form_tree : Form → Tree
form_tree (Leaf k) = made_of k [] []
form_tree (Original t) = t.now
form_tree (Bare t) = bare t.now
form_tree (Rest t k) = list_term (drop k (children t.now))
form_tree (Built m) = top_tree m.value.top (items_list m.value.items) []
form_tree (Kept c) = after c.value
form_tree (BareKept c) = bare (after c.value)
form_tree (Joined j) = list_term (front_list j.value.front ++ children j.value.after)
form_tree (Annotated n) = with_annotations n.value.node (annotation_list n.value.annotations)

abbrev pub form_shape : Form → Type 0
form_shape (Leaf k) = Unit {0}
form_shape (Original t) = Unit {0}
form_shape (Bare t) = Unit {0}
form_shape (Rest t k) = k ≤ length (children t.now)
form_shape (Built m) = top_shape m.value.top (items_list m.value.items)
form_shape (Kept c) = Unit {0}
form_shape (BareKept c) = Unit {0}
form_shape (Joined j) = JoinedShape (front_list j.value.front) j.value.after j.value.count
form_shape (Annotated n) = AnnotatedShape n.value.node (annotation_list n.value.annotations)

abbrev pub view_of : ValueFields → Tree
view_of a = form_tree a.form

pub record HasShape (a : ValueFields) : Type 0 where
  pub shape : form_shape a.form
  pub bounded : Bounded (form_tree a.form) a.bounds

-- ---- changed subterms

abbrev pub parts_list : Parts → List Standing
parts_list (stored.One ps) = ps.items
parts_list (stored.Two ps) = ps.items
parts_list (stored.Many ps) = ps.items

abbrev pub altered_of : ChangedFields → Altered
altered_of a = record { before = a.of.now; changes = standing_changes (parts_list a.parts) }

abbrev pub PartsSuit : ChangedFields → Type 0
PartsSuit a = SuitAll (children a.of.now) (parts_list a.parts)

-- ---- parts

abbrev pub part_standing : PartForm → Standing
part_standing (Same t b) = unchanged t.now
part_standing (Inside c b) = altered c.value
part_standing (New v) = fresh v

abbrev pub standing_of : PartFields → Standing
standing_of a = part_standing a.form

abbrev pub part_shape : PartForm → Type 0
part_shape (Same t b) = Bounded t.now b
part_shape (Inside c b) = Bounded (after c.value) b
part_shape (New v) = Unit {0}

abbrev pub PartHasShape : PartFields → Type 0
PartHasShape a = part_shape a.form

-- ---- measures

-- A changed subterm may be held without its annotations; these aren't counted.
abbrev pub altered_size : Altered → ℕ
altered_size a = 4 * sizes (of_list (children (after a))) + 4

abbrev pub value_size : Tree → ℕ
value_size t = 4 * size t + 1

abbrev pub standing_size : Standing → ℕ
standing_size s = 4 * size (standing_tree s) + 2
