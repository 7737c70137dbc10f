-- What a log tells, entry by entry, in the order of names and places.
use Rattle.std.proofs.Common.{◌≡◌, ℕ, zero, suc, ◌+◌, ◌⊎◌, inl, inr, true, false, ◌||◌, List, [], ◌∷◌, ◌++◌, map, set, slice_get, Some, None, IsSome, option_map, refl, sym, ap, subst, ◌∙◌, arith, append_assoc, append-nil, nat_eq, if◌then◌else◌}
use Rattle.std.specs.Prelude.{option_and_then}
use Rattle.std.specs.declared.option.Option.{Option}
use Rattle.std.specs.Option.{option_map_or}
use Rattle.std.specs.List.{flat_map, IsDistinct}
use Rattle.std.specs.Ordering.{nat_cmp, is_eq}
use Rattle.std.specs.declared.cmp.Ordering.TheVariants.{Less}
use Rattle.std.specs.Cmp.Lexicographic.{slice_cmp, pointwise, nat_list_cmp_total, bytes_decides}
use Rattle.std.specs.FinMap as finmap
use Rattle.std.proofs.lemmas.List.{map-append}
use Rattle.std.proofs.lemmas.Map.Text.{is_eq-slice_cmp}
use Rattle.term_core.specs.Tree.{Tree, integer, branch, to_list, children, with_annotations, with_child}
use Rattle.term_core.proofs.TreeLemmas.{to_list-of_list}
use Rattle.term_paths.specs.Paths.{at, set_at, set_annotations_at}
use Rattle.term_paths.proofs.PathLemmas.{changed_at, child-with_child, set_at-changed, set_annotations_at-changed}
use Rattle.term_changes.specs.Contents.{Contents}
use Rattle.term_changes.specs.Slots.{Slots, Store, HaveDistinctLabels, labels, content, with_content, slot_of, contents}
use Rattle.term_changes.specs.Entries.{Entry, slot_tree, subterm, subterm_annotations, slot_text, put, before, Fits}
use Rattle.change_log.proofs.PlaceLemmas.{content_of_other}
use Rattle.session_history.specs.Differences.{differences, difference_line, tree_lines, text_lines, changes_of}
use Rattle.session_changes.specs.inside.Told.{entry_lines, IsNamed, AllAs, those, if_asked, asked_lines}
use Rattle.session_changes.proofs.AgreeLemmas.{Along, Later, change_differs, along_itself, later_kept}
use Rattle.session_changes.proofs.OneTreeLemmas.{change_of, path_of, told_at, MayGoOn, Agrees, agrees_itself, told_at_end, agrees_kept}
use Rattle.session_changes.proofs.NamesLemmas.{among, asked_of, one_more}
use Rattle.session_changes.proofs.ChangedLemmas.{tree_unchanged, text_unchanged, changes_split, unchanged, now_is, before_is, others_are, text_now, text_before, other_texts}

-- ---- the labels of slots stay

module _ {X : Type 0} where
  pub slot_of-with_content : (ss : Slots X) (i : ℕ) (c : Option X) (n : List ℕ)
      → slot_of (with_content ss i c) n ≡ slot_of ss n
  slot_of-with_content [] i c n = refl
  slot_of-with_content (s ∷ ss) zero c n = refl
  slot_of-with_content (s ∷ ss) (suc i) c n =
      ap (λ o. if pointwise nat_eq n s.0 then Some 0 else option_map (λ i. i + 1) o) (slot_of-with_content ss i c n)

  pub labels-with_content : (ss : Slots X) (i : ℕ) (c : Option X) → labels (with_content ss i c) ≡ labels ss
  labels-with_content [] i c = refl
  labels-with_content (s ∷ ss) zero c = refl
  labels-with_content (s ∷ ss) (suc i) c = ap (λ l. s.0 ∷ l) (labels-with_content ss i c)

-- ---- one entry more, in the slot of a tree

module _ (s t : Store) (n : List ℕ) (i : ℕ) (apart : HaveDistinctLabels s.trees) (slot : slot_of s.trees n ≡ Some i)
    (apart_now : HaveDistinctLabels t.trees) (slot_now : slot_of t.trees n ≡ Some i)
    (c : Option Tree) (extra : List (List ℕ))
    (below : (q : List ℕ)
    → slice_cmp nat_cmp q n ≡ Less → finmap.get (contents s).trees q ≡ finmap.get (contents t).trees q)
    (here : tree_lines n c (content t.trees i) ≡ extra ++ tree_lines n (content s.trees i) (content t.trees i)) where
  pub tree_more : (asked : Option (List ℕ)) → changes_of asked (contents (put (slot_tree i c) s)) (contents t)
      ≡ if_asked asked n extra ++ changes_of asked (contents s) (contents t)
  tree_more asked =
      let x = contents (put (slot_tree i c) s) in
      let a = contents s in
      let b = contents t in
      let told : tree_lines n (finmap.get x.trees n) (finmap.get b.trees n)
      ≡ extra ++ tree_lines n (finmap.get a.trees n) (finmap.get b.trees n) =
      (λ k. tree_lines n (before_is s i n apart slot c k) (now_is t i n apart_now slot_now k)) ∙ here
      ∙ (λ k. extra ++ tree_lines n (sym (now_is s i n apart slot) k) (sym (now_is t i n apart_now slot_now) k)) in
      changes_split asked x b
      ∙ ap (λ l. l ++ asked_of text_lines asked a.modules b.modules)
      (one_more tree_lines tree_unchanged x.trees a.trees b.trees n extra (others_are s i n apart slot c) below
      told asked)
      ∙ append_assoc (if_asked asked n extra) (asked_of tree_lines asked a.trees b.trees)
      (asked_of text_lines asked a.modules b.modules)
      ∙ ap (λ l. if_asked asked n extra ++ l) (sym (changes_split asked a b))

-- in the slot of a text, where the trees are the same
module _ (s t : Store) (n : List ℕ) (i : ℕ) (apart : HaveDistinctLabels s.modules) (slot : slot_of s.modules n ≡ Some i)
    (apart_now : HaveDistinctLabels t.modules) (slot_now : slot_of t.modules n ≡ Some i)
    (c : Option (List ℕ)) (extra : List (List ℕ)) (trees : s.trees ≡ t.trees)
    (below : (q : List ℕ)
    → slice_cmp nat_cmp q n ≡ Less → finmap.get (contents s).modules q ≡ finmap.get (contents t).modules q)
    (here : text_lines n c (content t.modules i)
    ≡ extra ++ text_lines n (content s.modules i) (content t.modules i)) where
  pub text_more : (asked : Option (List ℕ)) → changes_of asked (contents (put (slot_text i c) s)) (contents t)
      ≡ if_asked asked n extra ++ changes_of asked (contents s) (contents t)
  text_more asked =
      let x = contents (put (slot_text i c) s) in
      let a = contents s in
      let b = contents t in
      let told : text_lines n (finmap.get x.modules n) (finmap.get b.modules n)
      ≡ extra ++ text_lines n (finmap.get a.modules n) (finmap.get b.modules n) =
      (λ k. text_lines n (text_before s i n apart slot c k) (text_now t i n apart_now slot_now k)) ∙ here
      ∙ (λ k. extra ++ text_lines n (sym (text_now s i n apart slot) k) (sym (text_now t i n apart_now slot_now) k)) in
      let no_trees : asked_of tree_lines asked a.trees b.trees ≡ [] =
      ap (λ ss. asked_of tree_lines asked (contents (record s { trees = ss })).trees b.trees) trees
      ∙ unchanged tree_lines tree_unchanged asked b.trees in
      changes_split asked x b
      ∙ (λ k. no_trees k ++ one_more text_lines text_unchanged x.modules a.modules b.modules n extra
      (other_texts s i n apart slot c) below told asked k)
      ∙ ap (λ l. if_asked asked n extra ++ l)
      ((λ k. sym no_trees k ++ asked_of text_lines asked a.modules b.modules) ∙ sym (changes_split asked a b))

-- ---- a tree before later changes

-- The second tree is the first one before changes at places after this one.
data Reaches (May : Type 0) (p : List ℕ) (u : Tree) : Tree → Type 0 where
  stays : Reaches May p u u
  goes_on : (t : Tree) (g : Tree → Tree) (r : List ℕ) → Reaches May p u t → Later May p r
      → Reaches May p u (changed_at g t r)

get-set_other : (us : List Tree) (i j : ℕ) (x : Tree) → (i ≡ j → ⊥) → slice_get (set us j x) i ≡ slice_get us i
get-set_other [] i j x never = refl
get-set_other (u ∷ us) zero zero x never = absurd (never refl)
get-set_other (u ∷ us) zero (suc j) x never = refl
get-set_other (u ∷ us) (suc i) zero x never = refl
get-set_other (u ∷ us) (suc i) (suc j) x never = get-set_other us i j x (λ e. never (ap suc e))

other_child : (t x : Tree) (i j : ℕ)
    → (i ≡ j → ⊥) → slice_get (children (with_child t j x)) i ≡ slice_get (children t) i
other_child (integer z ns) x i j never = refl
other_child (branch h us ns) x i j never = ap (λ l. slice_get l i) (to_list-of_list (set (to_list us) j x))
    ∙ get-set_other (to_list us) i j x never

-- it has the place where the other has it
there_later : (May : Type 0) (g : Tree → Tree) (p r : List ℕ) (t : Tree) → Later May p r
    → IsSome (at (changed_at g t r) p) → IsSome (at t p)
there_later May g [] r t h e = refl
there_later May g (i ∷ p) [] t h e = absurd h
there_later May g (i ∷ p) (j ∷ r) t h e =
    elim (slice_get (children t) j) as (λ o. slice_get (children t) j ≡ o
    → IsSome (at (option_map_or (λ kid. with_child t j (changed_at g kid r)) o t) (i ∷ p)) → IsSome (at t (i ∷ p))) [
      | None ↦ λ f e. e
      | Some kid ↦ λ f e.
          let x = changed_at g kid r in
          elim h [
            | inl less ↦ subst (λ o. IsSome (option_and_then (λ kid. at kid p) o))
                (other_child t x i j (λ same. omega (arith, less, same))) e
            | inr same ↦
                (let inner : IsSome (at x p) =
                subst (λ o. IsSome (option_and_then (λ kid. at kid p) o))
                (ap (λ n. slice_get (children (with_child t j x)) n) same.0 ∙ child-with_child t j kid x f) e in
                subst (λ o. IsSome (option_and_then (λ kid. at kid p) o))
                (sym (ap (slice_get (children t)) same.0 ∙ f)) (there_later May g p r kid same.1 inner))
          ]
    ] refl e

there_before : (May : Type 0) (p : List ℕ) (u t : Tree) → Reaches May p u t → IsSome (at t p) → IsSome (at u p)
there_before May p u t stays e = e
there_before May p u t (goes_on x g r before later) e = there_before May p u x before (there_later May g p r x later e)

-- and agrees with it
agrees_before : (e : Entry) (u t : Tree) → Reaches (MayGoOn e) (path_of e) u t → Along (Agrees e) (path_of e) u u
    → Along (Agrees e) (path_of e) t u
agrees_before e u t stays h = h
agrees_before e u t (goes_on x g r before later) h =
    later_kept (Agrees e) (MayGoOn e) g (agrees_kept e g) (path_of e) r x u (agrees_before e u x before h) later

some_value : {X : Type 0} (o : Option X) → IsSome o → (x : X) × (o ≡ Some x)
some_value None h = absurd (cc)
some_value (Some x) h = (x, refl)

-- so an entry at this place tells the first difference
part_told : (e : Entry) (u t : Tree) → Reaches (MayGoOn e) (path_of e) u t → IsSome (at t (path_of e))
    → differences [] (changed_at (change_of e) t (path_of e)) u
    ≡ option_map_or (told_at e (path_of e)) (at u (path_of e)) [] ++ differences [] t u
part_told e u t reaches there =
    let w = some_value (at u (path_of e)) (there_before (MayGoOn e) (path_of e) u t reaches there) in
    let agree = agrees_before e u t reaches (along_itself (Agrees e) (agrees_itself e) (path_of e) u w.0 w.1) in
    change_differs (change_of e) (told_at e) (Agrees e) (told_at_end e) [] (path_of e) t u w.0 agree w.1
    ∙ (λ k. option_map_or (told_at e (path_of e)) (sym w.1 k) [] ++ differences [] t u)

-- ---- the order of names and places

-- An entry of a tree comes before those of later names, and of modules; one of a subterm also before
-- those at later places in the tree of its name.
abbrev pub TreeComes : List ℕ → List ℕ → Entry → Type 0
TreeComes n m (slot_tree j o) = slice_cmp nat_cmp n m ≡ Less
TreeComes n m (subterm j q o) = slice_cmp nat_cmp n m ≡ Less
TreeComes n m (subterm_annotations j q os) = slice_cmp nat_cmp n m ≡ Less
TreeComes n m (slot_text j y) = Unit {0}

abbrev pub PartComes : Type 0 → List ℕ → List ℕ → List ℕ → Entry → Type 0
PartComes May p n m (slot_tree j o) = slice_cmp nat_cmp n m ≡ Less
PartComes May p n m (subterm j q o) = (slice_cmp nat_cmp n m ≡ Less) ⊎ ((n ≡ m) × Later May p q)
PartComes May p n m (subterm_annotations j q os) = (slice_cmp nat_cmp n m ≡ Less) ⊎ ((n ≡ m) × Later May p q)
PartComes May p n m (slot_text j y) = Unit {0}

abbrev pub TextComes : List ℕ → List ℕ → Entry → Type 0
TextComes n m (slot_tree j o) = ⊥
TextComes n m (subterm j q o) = ⊥
TextComes n m (subterm_annotations j q os) = ⊥
TextComes n m (slot_text j y) = slice_cmp nat_cmp n m ≡ Less

abbrev pub Comes : List ℕ → Entry → List ℕ → Entry → Type 0
Comes n (slot_tree i o) m d = TreeComes n m d
Comes n (subterm i p o) m d = PartComes ⊥ p n m d
Comes n (subterm_annotations i p os) m d = PartComes (Unit {0}) p n m d
Comes n (slot_text i x) m d = TextComes n m d

abbrev pub ComeInOrder : List (List ℕ × Entry) → Type 0
ComeInOrder [] = Unit {0}
ComeInOrder (p ∷ ps) = AllAs (Comes p.0 p.1) ps × ComeInOrder ps

-- ---- labels stay in a store

tree_labels : (e : Entry) (s : Store) → labels (put e s).trees ≡ labels s.trees
tree_labels (slot_tree i o) s = labels-with_content s.trees i o
tree_labels (subterm i p u) s = labels-with_content s.trees i (option_map (λ t. set_at t p u) (content s.trees i))
tree_labels (subterm_annotations i p us) s =
    labels-with_content s.trees i (option_map (λ t. set_annotations_at t p us) (content s.trees i))
tree_labels (slot_text i x) s = refl

text_labels : (e : Entry) (s : Store) → labels (put e s).modules ≡ labels s.modules
text_labels (slot_tree i o) s = refl
text_labels (subterm i p u) s = refl
text_labels (subterm_annotations i p us) s = refl
text_labels (slot_text i x) s = labels-with_content s.modules i x

tree_slots : (e : Entry) (s : Store) (n : List ℕ) → slot_of (put e s).trees n ≡ slot_of s.trees n
tree_slots (slot_tree i o) s n = slot_of-with_content s.trees i o n
tree_slots (subterm i p u) s n = slot_of-with_content s.trees i (option_map (λ t. set_at t p u) (content s.trees i)) n
tree_slots (subterm_annotations i p us) s n =
    slot_of-with_content s.trees i (option_map (λ t. set_annotations_at t p us) (content s.trees i)) n
tree_slots (slot_text i x) s n = refl

text_slots : (e : Entry) (s : Store) (n : List ℕ) → slot_of (put e s).modules n ≡ slot_of s.modules n
text_slots (slot_tree i o) s n = refl
text_slots (subterm i p u) s n = refl
text_slots (subterm_annotations i p us) s n = refl
text_slots (slot_text i x) s n = slot_of-with_content s.modules i x n

trees_labelled : (es : List Entry) (s : Store) → labels (before es s).trees ≡ labels s.trees
trees_labelled [] s = refl
trees_labelled (e ∷ es) s = tree_labels e (before es s) ∙ trees_labelled es s

texts_labelled : (es : List Entry) (s : Store) → labels (before es s).modules ≡ labels s.modules
texts_labelled [] s = refl
texts_labelled (e ∷ es) s = text_labels e (before es s) ∙ texts_labelled es s

trees_slotted : (es : List Entry) (s : Store) (n : List ℕ) → slot_of (before es s).trees n ≡ slot_of s.trees n
trees_slotted [] s n = refl
trees_slotted (e ∷ es) s n = tree_slots e (before es s) n ∙ trees_slotted es s n

texts_slotted : (es : List Entry) (s : Store) (n : List ℕ) → slot_of (before es s).modules n ≡ slot_of s.modules n
texts_slotted [] s n = refl
texts_slotted (e ∷ es) s n = text_slots e (before es s) n ∙ texts_slotted es s n

trees_apart : (es : List Entry) (s : Store) → HaveDistinctLabels s.trees → HaveDistinctLabels (before es s).trees
trees_apart es s h = subst (IsDistinct (pointwise nat_eq)) (sym (trees_labelled es s)) h

texts_apart : (es : List Entry) (s : Store) → HaveDistinctLabels s.modules → HaveDistinctLabels (before es s).modules
texts_apart es s h = subst (IsDistinct (pointwise nat_eq)) (sym (texts_labelled es s)) h

-- ---- names of slots

one_less : (o : Option ℕ) (i : ℕ) → option_map (λ i. i + 1) o ≡ Some i → (j : ℕ) × (o ≡ Some j) × (i ≡ suc j)
one_less None i e = absurd (cc)
one_less (Some j) i e = let more : j + 1 ≡ i = cc in (j, refl, omega (arith, more))

module _ {X : Type 0} where
  slot_name : (ss : Slots X) (n : List ℕ) (i : ℕ) → slot_of ss n ≡ Some i
      → (o : Option X) × (slice_get ss i ≡ Some (n, o))
  slot_name [] n i e = absurd (cc)
  slot_name (s ∷ ss) n i e =
      elim (pointwise nat_eq n s.0) as (λ b.
      pointwise nat_eq n s.0 ≡ b → (if b then Some 0 else option_map (λ i. i + 1) (slot_of ss n)) ≡ Some i
      → (o : Option X) × (slice_get (s ∷ ss) i ≡ Some (n, o))) [
        | true ↦ λ t e.
            let is : 0 ≡ i = cc in
            let named : n ≡ s.0 = (bytes_decides n s.0).0 t in
            (s.1, ap (slice_get (s ∷ ss)) (sym is) ∙ (λ k. Some (sym named k, s.1)))
        | false ↦ λ t e.
            let rest = one_less (slot_of ss n) i e in
            let inner = slot_name ss n rest.0 rest.1 in
            (inner.0, ap (slice_get (s ∷ ss)) rest.2 ∙ inner.1)
      ] refl e

  same_name : (ss : Slots X) (n m : List ℕ) (i : ℕ) → slot_of ss n ≡ Some i → slot_of ss m ≡ Some i → n ≡ m
  same_name ss n m i e f =
      let a = slot_name ss n i e in
      let b = slot_name ss m i f in
      let both : Some (n, a.0) ≡ Some (m, b.0) = sym a.1 ∙ b.1 in
      ap (λ (o : Option (List ℕ × Option X)). option_map_or (λ s. s.0) o n) both

not_less : (n m : List ℕ) → n ≡ m → slice_cmp nat_cmp n m ≡ Less → ⊥
not_less n m e h =
    let tied : is_eq (slice_cmp nat_cmp n m) ≡ true = is_eq-slice_cmp n m ∙ (bytes_decides n m).1 e in
    let never : true ≡ false = sym tied ∙ ap is_eq h in
    cc

other_slot : (s : Store) (n m : List ℕ) (i j : ℕ) → slot_of s.trees n ≡ Some i → slot_of s.trees m ≡ Some j
    → slice_cmp nat_cmp n m ≡ Less → i ≡ j → ⊥
other_slot s n m i j e f less same = not_less n m (same_name s.trees n m j (e ∙ ap Some same) f) less

pub same_slot : (s : Store) (n m : List ℕ) (i j : ℕ) → slot_of s.trees n ≡ Some i → slot_of s.trees m ≡ Some j
    → n ≡ m → i ≡ j
same_slot s n m i j e f same = let both : Some i ≡ Some j = sym e ∙ ap (slot_of s.trees) same ∙ f in cc

pub same_text_slot : (s : Store) (n m : List ℕ) (i j : ℕ) → slot_of s.modules n ≡ Some i → slot_of s.modules m ≡ Some j
    → n ≡ m → i ≡ j
same_text_slot s n m i j e f same = let both : Some i ≡ Some j = sym e ∙ ap (slot_of s.modules) same ∙ f in cc

-- ---- the tree of a name before later entries

content-mapped : (f : Tree → Tree) (ss : Slots Tree) (i : ℕ)
    → content (with_content ss i (option_map f (content ss i))) i ≡ option_map f (content ss i)
content-mapped f [] i = refl
content-mapped f (s ∷ ss) zero = refl
content-mapped f (s ∷ ss) (suc i) = content-mapped f ss i

mapped_some : (f : Tree → Tree) (o : Option Tree) (t : Tree) → option_map f o ≡ Some t
    → (x : Tree) × (o ≡ Some x) × (t ≡ f x)
mapped_some f None t e = absurd (cc)
mapped_some f (Some x) t e = (x, refl, (let is : f x ≡ t = cc in sym is))

module _ (s : Store) (n : List ℕ) (i : ℕ) (slot : slot_of s.trees n ≡ Some i) (May : Type 0) (p : List ℕ) where
  -- what is in the slot now, of which the tree before the entries is reached
  abbrev Reached : Tree → Type 0
  Reached t = (u : Tree) × (content s.trees i ≡ Some u) × Reaches May p u t

  elsewhere : (x : Store) (j : ℕ) (c : Option Tree) (m : List ℕ) → slot_of s.trees m ≡ Some j
      → slice_cmp nat_cmp n m ≡ Less → (t : Tree)
      → content (with_content x.trees j c) i ≡ Some t → content x.trees i ≡ Some t
  elsewhere x j c m f less t e = sym (content_of_other (λ o. c) x.trees i j (other_slot s n m i j slot f less)) ∙ e

  changed_here : (x : Store) → ((t : Tree) → content x.trees i ≡ Some t → Reached t)
      → (j : ℕ) (q : List ℕ) (g f : Tree → Tree) → ((t : Tree) → f t ≡ changed_at g t q)
      → (m : List ℕ) → slot_of s.trees m ≡ Some j → (slice_cmp nat_cmp n m ≡ Less) ⊎ ((n ≡ m) × Later May p q)
      → (t : Tree)
      → content (with_content x.trees j (option_map f (content x.trees j))) i ≡ Some t → Reached t
  changed_here x others j q g f is m at_slot (inl less) t e =
      others t (elsewhere x j (option_map f (content x.trees j)) m at_slot less t e)
  changed_here x others j q g f is m at_slot (inr here) t e =
      let one = same_slot s n m i j slot at_slot here.0 in
      let moved : option_map f (content x.trees i) ≡ Some t =
      sym (content-mapped f x.trees i)
      ∙ (λ k. content (with_content x.trees (one k) (option_map f (content x.trees (one k)))) i) ∙ e in
      let old = mapped_some f (content x.trees i) t moved in
      let rest = others old.0 old.1 in
      (rest.0, rest.1, subst (Reaches May p rest.0) (sym (is old.0) ∙ sym old.2) (goes_on old.0 g q rest.2 here.1))

  reached : (ps : List (List ℕ × Entry)) → AllAs (IsNamed s) ps → AllAs (PartComes May p n) ps → (t : Tree)
      → content (before (those ps) s).trees i ≡ Some t → Reached t
  reached [] named come t e = (t, e, stays)
  reached ((m, slot_tree j o) ∷ ps) named come t e =
      reached ps named.1 come.1 t (elsewhere (before (those ps) s) j o m named.0 come.0 t e)
  reached ((m, subterm j q o) ∷ ps) named come t e =
      changed_here (before (those ps) s) (reached ps named.1 come.1) j q (λ _. o) (λ t. set_at t q o)
      (λ t. set_at-changed t o q) m named.0 come.0 t e
  reached ((m, subterm_annotations j q os) ∷ ps) named come t e =
      changed_here (before (those ps) s) (reached ps named.1 come.1) j q (λ u. with_annotations u os)
      (λ t. set_annotations_at t q os) (λ t. set_annotations_at-changed t os q) m named.0 come.0 t e
  reached ((m, slot_text j y) ∷ ps) named come t e = reached ps named.1 come.1 t e

-- ---- where later entries leave things as they are

is_apart : (n m : List ℕ) → (n ≡ m → ⊥) → among (m ∷ []) n ≡ false
is_apart n m never =
    elim (is_eq (slice_cmp nat_cmp n m)) as (λ b. is_eq (slice_cmp nat_cmp n m) ≡ b → (b || false) ≡ false) [
      | true ↦ λ e. absurd (never ((bytes_decides n m).0 (sym (is_eq-slice_cmp n m) ∙ e)))
      | false ↦ λ e. refl
    ] refl

-- the entry, if it is one of a tree, has this name or a later one
abbrev NotBefore : List ℕ → List ℕ → Entry → Type 0
NotBefore n m (slot_tree j o) = (slice_cmp nat_cmp n m ≡ Less) ⊎ (n ≡ m)
NotBefore n m (subterm j q o) = (slice_cmp nat_cmp n m ≡ Less) ⊎ (n ≡ m)
NotBefore n m (subterm_annotations j q os) = (slice_cmp nat_cmp n m ≡ Less) ⊎ (n ≡ m)
NotBefore n m (slot_text j y) = Unit {0}

differ : (q n m : List ℕ) → slice_cmp nat_cmp q n ≡ Less → (slice_cmp nat_cmp n m ≡ Less) ⊎ (n ≡ m) → q ≡ m → ⊥
differ q n m less (inl more) e = not_less q m e (nat_list_cmp_total.trans q n m less more)
differ q n m less (inr same) e = not_less q n (e ∙ sym same) less

module _ (s : Store) (trees_are : HaveDistinctLabels s.trees) (n q : List ℕ) (less : slice_cmp nat_cmp q n ≡ Less) where
  one_passed : (ps : List (List ℕ × Entry)) (j : ℕ) (c : Option Tree) (m : List ℕ) → slot_of s.trees m ≡ Some j
      → (slice_cmp nat_cmp n m ≡ Less) ⊎ (n ≡ m)
      → finmap.get (contents (put (slot_tree j c) (before (those ps) s))).trees q
      ≡ finmap.get (contents (before (those ps) s)).trees q
  one_passed ps j c m slot h =
      others_are (before (those ps) s) j m (trees_apart (those ps) s trees_are) (trees_slotted (those ps) s m ∙ slot) c
      q (is_apart q m (differ q n m less h))

  passed_below : (ps : List (List ℕ × Entry)) → AllAs (IsNamed s) ps → AllAs (NotBefore n) ps
      → finmap.get (contents (before (those ps) s)).trees q ≡ finmap.get (contents s).trees q
  passed_below [] named h = refl
  passed_below ((m, slot_tree j o) ∷ ps) named h = one_passed ps j o m named.0 h.0 ∙ passed_below ps named.1 h.1
  passed_below ((m, subterm j p o) ∷ ps) named h =
      one_passed ps j (option_map (λ t. set_at t p o) (content (before (those ps) s).trees j)) m named.0 h.0
      ∙ passed_below ps named.1 h.1
  passed_below ((m, subterm_annotations j p os) ∷ ps) named h =
      one_passed ps j (option_map (λ t. set_annotations_at t p os) (content (before (those ps) s).trees j)) m named.0
      h.0 ∙ passed_below ps named.1 h.1
  passed_below ((m, slot_text j y) ∷ ps) named h = passed_below ps named.1 h.1

tree_not_before : (n m : List ℕ) (d : Entry) → TreeComes n m d → NotBefore n m d
tree_not_before n m (slot_tree j o) h = inl h
tree_not_before n m (subterm j q o) h = inl h
tree_not_before n m (subterm_annotations j q os) h = inl h
tree_not_before n m (slot_text j y) h = tt

part_not_before : (May : Type 0) (p n m : List ℕ) (d : Entry) → PartComes May p n m d → NotBefore n m d
part_not_before May p n m (slot_tree j o) h = inl h
part_not_before May p n m (subterm j q o) (inl less) = inl less
part_not_before May p n m (subterm j q o) (inr same) = inr same.0
part_not_before May p n m (subterm_annotations j q os) (inl less) = inl less
part_not_before May p n m (subterm_annotations j q os) (inr same) = inr same.0
part_not_before May p n m (slot_text j y) h = tt

all_as : (P Q : List ℕ → Entry → Type 0) → ((m : List ℕ) (d : Entry) → P m d → Q m d)
    → (ps : List (List ℕ × Entry)) → AllAs P ps → AllAs Q ps
all_as P Q f [] h = tt
all_as P Q f (p ∷ ps) h = (f p.0 p.1 h.0, all_as P Q f ps h.1)

-- The tree of this name is the one now.
tree_alone : (s : Store) (n : List ℕ) (i : ℕ) → slot_of s.trees n ≡ Some i
    → (ps : List (List ℕ × Entry)) → AllAs (IsNamed s) ps → AllAs (TreeComes n) ps
    → content (before (those ps) s).trees i ≡ content s.trees i
tree_alone s n i slot [] named h = refl
tree_alone s n i slot ((m, slot_tree j o) ∷ ps) named h =
    content_of_other (λ c. o) (before (those ps) s).trees i j (other_slot s n m i j slot named.0 h.0)
    ∙ tree_alone s n i slot ps named.1 h.1
tree_alone s n i slot ((m, subterm j p o) ∷ ps) named h =
    content_of_other (option_map (λ t. set_at t p o)) (before (those ps) s).trees i j
    (other_slot s n m i j slot named.0 h.0) ∙ tree_alone s n i slot ps named.1 h.1
tree_alone s n i slot ((m, subterm_annotations j p os) ∷ ps) named h =
    content_of_other (option_map (λ t. set_annotations_at t p os)) (before (those ps) s).trees i j
    (other_slot s n m i j slot named.0 h.0) ∙ tree_alone s n i slot ps named.1 h.1
tree_alone s n i slot ((m, slot_text j y) ∷ ps) named h = tree_alone s n i slot ps named.1 h.1

-- After the first entry of a module come those of others alone.
texts_alone : (s : Store) (n : List ℕ) (ps : List (List ℕ × Entry)) → AllAs (TextComes n) ps
    → (before (those ps) s).trees ≡ s.trees
texts_alone s n [] h = refl
texts_alone s n ((m, slot_tree j o) ∷ ps) h = absurd h.0
texts_alone s n ((m, subterm j p o) ∷ ps) h = absurd h.0
texts_alone s n ((m, subterm_annotations j p os) ∷ ps) h = absurd h.0
texts_alone s n ((m, slot_text j y) ∷ ps) h = texts_alone s n ps h.1

text_alone : (s : Store) (n : List ℕ) (i : ℕ) → slot_of s.modules n ≡ Some i
    → (ps : List (List ℕ × Entry)) → AllAs (IsNamed s) ps → AllAs (TextComes n) ps
    → content (before (those ps) s).modules i ≡ content s.modules i
text_alone s n i slot [] named h = refl
text_alone s n i slot ((m, slot_tree j o) ∷ ps) named h = absurd h.0
text_alone s n i slot ((m, subterm j p o) ∷ ps) named h = absurd h.0
text_alone s n i slot ((m, subterm_annotations j p os) ∷ ps) named h = absurd h.0
text_alone s n i slot ((m, slot_text j y) ∷ ps) named h =
    let other : i ≡ j → ⊥ = λ same. not_less n m (same_name s.modules n m j (slot ∙ ap Some same) named.0) h.0 in
    content_of_other (λ c. y) (before (those ps) s).modules i j other ∙ text_alone s n i slot ps named.1 h.1

texts_passed : (s : Store) → HaveDistinctLabels s.modules → (n q : List ℕ)
    → slice_cmp nat_cmp q n ≡ Less → (ps : List (List ℕ × Entry)) → AllAs (IsNamed s) ps → AllAs (TextComes n) ps
    → finmap.get (contents (before (those ps) s)).modules q ≡ finmap.get (contents s).modules q
texts_passed s are n q less [] named h = refl
texts_passed s are n q less ((m, slot_tree j o) ∷ ps) named h = absurd h.0
texts_passed s are n q less ((m, subterm j p o) ∷ ps) named h = absurd h.0
texts_passed s are n q less ((m, subterm_annotations j p os) ∷ ps) named h = absurd h.0
texts_passed s are n q less ((m, slot_text j y) ∷ ps) named h =
    other_texts (before (those ps) s) j m (texts_apart (those ps) s are) (texts_slotted (those ps) s m ∙ named.0) y q
    (is_apart q m (differ q n m less (inl h.0)))
    ∙ texts_passed s are n q less ps named.1 h.1

-- ---- a subterm or annotations

mapped_or : {X A B : Type 0} (f : A → B) (g : X → List A) (o : Option X)
    → map f (option_map_or g o []) ≡ option_map_or (λ x. map f (g x)) o []
mapped_or f g None = refl
mapped_or f g (Some x) = refl

-- how the tree of its name differs
part_here : (e : Entry) (n : List ℕ) (f : Tree → Tree) → ((t : Tree) → f t ≡ changed_at (change_of e) t (path_of e))
    → (before_it now : Option Tree) → IsSome (option_and_then (λ t. at t (path_of e)) before_it)
    → ((t : Tree) → before_it ≡ Some t → (u : Tree) × (now ≡ Some u) × Reaches (MayGoOn e) (path_of e) u t)
    → tree_lines n (option_map f before_it) now
    ≡ option_map_or (λ w. map (difference_line n) (told_at e (path_of e) w))
    (option_and_then (λ t. at t (path_of e)) now) [] ++ tree_lines n before_it now
part_here e n f is None now there reach = absurd (cc)
part_here e n f is (Some t) now there reach =
    let r = reach t refl in
    let u = r.0 in
    (λ k. tree_lines n (Some (is t k)) (r.1 k))
    ∙ ap (map (difference_line n)) (part_told e u t r.2 there)
    ∙ map-append (difference_line n) (option_map_or (told_at e (path_of e)) (at u (path_of e)) []) (differences [] t u)
    ∙ ap (λ l. l ++ map (difference_line n) (differences [] t u))
    (mapped_or (difference_line n) (told_at e (path_of e)) (at u (path_of e)))
    ∙ (λ k. option_map_or (λ w. map (difference_line n) (told_at e (path_of e) w))
    (option_and_then (λ t. at t (path_of e)) (sym r.1 k)) [] ++ tree_lines n (Some t) (sym r.1 k))

-- ---- all entries

pub nothing_changed : (asked : Option (List ℕ)) (c : Contents) → changes_of asked c c ≡ []
nothing_changed asked c =
    changes_split asked c c ∙ (λ k.
    unchanged tree_lines tree_unchanged asked c.trees k ++ unchanged text_lines text_unchanged asked c.modules k)

module _ (asked : Option (List ℕ)) (s : Store) (trees_are : HaveDistinctLabels s.trees)
    (texts_are : HaveDistinctLabels s.modules) where
  pub log_told : (ps : List (List ℕ × Entry)) → AllAs (IsNamed s) ps → ComeInOrder ps → Fits (those ps) s
      → changes_of asked (contents (before (those ps) s)) (contents s) ≡ flat_map (asked_lines asked s) ps
  log_told [] named order fits = nothing_changed asked (contents s)
  log_told ((n, slot_tree i o) ∷ ps) named order fits =
      let x = before (those ps) s in
      let here : tree_lines n o (content s.trees i)
      ≡ tree_lines n o (content s.trees i) ++ tree_lines n (content x.trees i) (content s.trees i) =
      sym (append-nil (tree_lines n o (content s.trees i)))
      ∙ ap (λ l. tree_lines n o (content s.trees i) ++ l)
      (sym (ap (λ c. tree_lines n c (content s.trees i)) (tree_alone s n i named.0 ps named.1 order.0)
      ∙ tree_unchanged n (content s.trees i))) in
      tree_more x s n i (trees_apart (those ps) s trees_are) (trees_slotted (those ps) s n ∙ named.0) trees_are named.0
      o (tree_lines n o (content s.trees i))
      (λ q less. passed_below s trees_are n q less ps named.1
      (all_as (TreeComes n) (NotBefore n) (tree_not_before n) ps order.0)) here asked
      ∙ ap (λ l. if_asked asked n (tree_lines n o (content s.trees i)) ++ l) (log_told ps named.1 order.1 fits.1)
  log_told ((n, subterm i p o) ∷ ps) named order fits =
      let x = before (those ps) s in
      let e = subterm i p o in
      let extra = entry_lines s n e in
      let here = part_here e n (λ t. set_at t p o) (λ t. set_at-changed t o p) (content x.trees i) (content s.trees i)
      fits.0 (reached s n i named.0 ⊥ p ps named.1 order.0) in
      tree_more x s n i (trees_apart (those ps) s trees_are) (trees_slotted (those ps) s n ∙ named.0) trees_are named.0
      (option_map (λ t. set_at t p o) (content x.trees i)) extra
      (λ q less. passed_below s trees_are n q less ps named.1
      (all_as (PartComes ⊥ p n) (NotBefore n) (part_not_before ⊥ p n) ps order.0)) here asked
      ∙ ap (λ l. if_asked asked n extra ++ l) (log_told ps named.1 order.1 fits.1)
  log_told ((n, subterm_annotations i p os) ∷ ps) named order fits =
      let x = before (those ps) s in
      let e = subterm_annotations i p os in
      let extra = entry_lines s n e in
      let here = part_here e n (λ t. set_annotations_at t p os) (λ t. set_annotations_at-changed t os p)
      (content x.trees i) (content s.trees i) fits.0 (reached s n i named.0 (Unit {0}) p ps named.1 order.0) in
      tree_more x s n i (trees_apart (those ps) s trees_are) (trees_slotted (those ps) s n ∙ named.0) trees_are named.0
      (option_map (λ t. set_annotations_at t p os) (content x.trees i)) extra
      (λ q less. passed_below s trees_are n q less ps named.1
      (all_as (PartComes (Unit {0}) p n) (NotBefore n) (part_not_before (Unit {0}) p n) ps order.0)) here asked
      ∙ ap (λ l. if_asked asked n extra ++ l) (log_told ps named.1 order.1 fits.1)
  log_told ((n, slot_text i y) ∷ ps) named order fits =
      let x = before (those ps) s in
      let extra = text_lines n y (content s.modules i) in
      let here : text_lines n y (content s.modules i)
      ≡ extra ++ text_lines n (content x.modules i) (content s.modules i) =
      sym (append-nil extra)
      ∙ ap (λ l. extra ++ l) (sym (ap (λ c. text_lines n c (content s.modules i))
      (text_alone s n i named.0 ps named.1 order.0) ∙ text_unchanged n (content s.modules i))) in
      text_more x s n i (texts_apart (those ps) s texts_are) (texts_slotted (those ps) s n ∙ named.0) texts_are named.0
      y extra (texts_alone s n ps order.0)
      (λ q less. texts_passed s texts_are n q less ps named.1 order.0) here asked
      ∙ ap (λ l. if_asked asked n extra ++ l) (log_told ps named.1 order.1 fits.1)
