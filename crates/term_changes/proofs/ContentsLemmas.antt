-- The contents of a store by its slots.
use Rattle.std.proofs.Common.{◌≡◌, ℕ, zero, suc, ◌+◌, ◌<◌, Bool, true, false, cond, List, [], ◌∷◌, ◌++◌, length, Option, Some, None, option_map, option_and_then, is_some, IsSome, if◌then◌else◌, nat_eq, refl, sym, ap, subst, ◌∙◌, arith}
use Rattle.std.specs.List.{AllByRecursion}
use Rattle.std.specs.Ordering.{nat_cmp}
use Rattle.std.specs.Cmp.Lexicographic.{slice_cmp, pointwise, nat_list_cmp_total}
use Rattle.std.specs.FinMap.{find, from_entries, get, get-insert, get-remove, get-from_entries, same_map}
use Rattle.std.specs.FinMap as finmap
use Rattle.std.proofs.lemmas.List.{length-append}
use Rattle.std.proofs.lemmas.Cmp.{nat_list_eq_equiv}
use Rattle.std.proofs.lemmas.Map.Text.{is_eq-slice_cmp}
use Rattle.std.proofs.lemmas.Map.Lookups.{exact_bytes}
use Rattle.std.proofs.lemmas.Map.Keys.{IsDistinct-head, IsDistinct-tail}
use Rattle.term_core.specs.Tree.{Tree}
use Rattle.term_paths.specs.Paths.{at, set_at, set_annotations_at}
use Rattle.term_changes.specs.Slots.{Slots, Store, HaveDistinctLabels, labels, content, with_content, slot_of, with_slot, filled, named, with_tree_slot, with_module_slot}
use Rattle.term_changes.specs.Entries.{Entry, slot_tree, subterm, subterm_annotations, slot_text, HasPlace, put, before, after, Fits, FitsForward, changed_tree, subterm_in}
use Rattle.term_changes.specs.Laws.{NewSlotsAreEmpty, TreePut, TreeTaken, ModulePut, ModuleTaken, SubtermPut, AnnotationsPut, TreeOfName, ModuleOfName, FitsWithMore, FitsForwardWithMore, FitsWithMoreModules, FitsForwardWithMoreModules}

same : List ℕ → List ℕ → Bool
same q k = pointwise nat_eq q k

ends_true : (b : Bool) → b ≡ true → b ≡ false → ⊥
ends_true b h g = let no : true ≡ false = sym h ∙ g in cc

further : (o : Option ℕ) (i : ℕ) → option_map (λ i. i + 1) o ≡ Some i → (j : ℕ) × (o ≡ Some j) × (i ≡ suc j)
further None i e = absurd (cc)
further (Some j) i e = (j, refl, (let is : j + 1 ≡ i = cc in omega (arith, is)))

-- ---- what the map of slots has for a label

module _ {X : Type 0} where
  look : Slots X → List ℕ → Option X
  look ss q = find (slice_cmp nat_cmp) q (filled ss)

  -- a slot with content c on top of what the other slots give; b says whether its label is the one
  -- sought
  over : Option X → Bool → Option X → Option X
  over None b o = o
  over (Some x) b o = cond b (Some x) o

  look-cons : (s : List ℕ × Option X) (ss : Slots X) (q : List ℕ) → look (s ∷ ss) q ≡ over s.1 (same q s.0) (look ss q)
  unfolding look same over
  look-cons (l, None) ss q = refl
  look-cons (l, Some x) ss q = ap (λ b. cond b (Some x) (look ss q)) (is_eq-slice_cmp q l)

  named-look : (ss : Slots X) (q : List ℕ) → get (named ss) q ≡ look ss q
  unfolding look
  named-look ss q = get-from_entries nat_list_cmp_total (filled ss) q

  over-false : (c o : Option X) → over c false o ≡ o
  unfolding over
  over-false None o = refl
  over-false (Some x) o = refl

  -- a put in a slot of the same label
  put_over : (b : Bool) (d c o : Option X) → (b ≡ true → d ≡ None → o ≡ None) → over d b o ≡ cond b d (over c b o)
  unfolding over
  put_over true None c o h = h refl refl
  put_over true (Some x) c o h = refl
  put_over false d c o h = over-false d o ∙ sym (over-false c o)

  -- a slot of another label, on top of a put below it
  put_below : (b n : Bool) (c d o : Option X) → (b ≡ true → n ≡ false) → over c b (cond n d o) ≡ cond n d (over c b o)
  unfolding over
  put_below b n None d o h = refl
  put_below false n (Some x) d o h = refl
  put_below true n (Some x) d o h = ap (λ n. cond n d (Some x)) {x = false} {y = n} (sym (h refl))

  -- no other slot has the label of the first one
  absent : (k q : List ℕ) (ss : Slots X) → AllByRecursion (λ y. pointwise nat_eq k y ≡ false) (labels ss)
      → same q k ≡ true → look ss q ≡ None
  unfolding look same
  absent k q [] h e = refl
  absent k q (s ∷ ss) h e =
      let other : pointwise nat_eq q s.0 ≡ false = nat_list_eq_equiv.congr q k s.0 e ∙ h.0 in
      look-cons s ss q ∙ ap (λ b. over s.1 b (look ss q)) other ∙ over-false s.1 (look ss q) ∙ absent k q ss h.1 e

  -- the content put in the slot of a name
  put_look : (ss : Slots X) (i : ℕ) (d : Option X) (name q : List ℕ) → (d ≡ None → HaveDistinctLabels ss)
      → slot_of ss name ≡ Some i
      → look (with_content ss i d) q ≡ cond (same q name) d (look ss q)
  unfolding same
  put_look [] i d name q a h = absurd (cc)
  put_look (s ∷ ss) i d name q a h =
      elim (pointwise nat_eq name s.0) as (λ b.
      pointwise nat_eq name s.0 ≡ b → (if b then Some 0 else option_map (λ i. i + 1) (slot_of ss name)) ≡ Some i
      → look (with_content (s ∷ ss) i d) q ≡ cond (same q name) d (look (s ∷ ss) q)) [
        | true ↦ λ e h.
            let is : 0 ≡ i = cc in
            let alike : same q s.0 ≡ same q name =
            nat_list_eq_equiv.symm q s.0 ∙ sym (nat_list_eq_equiv.congr name s.0 q e) ∙ nat_list_eq_equiv.symm name q in
            ap (λ n. look (with_content (s ∷ ss) n d) q) (sym is)
            ∙ look-cons (s.0, d) ss q
            ∙ put_over (same q s.0) d s.1 (look ss q) (λ t n. absent s.0 q ss (IsDistinct-head _ _ _ (a n)) t)
            ∙ (λ j. cond (alike j) d (sym (look-cons s ss q) j))
        | false ↦ λ e h.
            let at = further (slot_of ss name) i h in
            ap (λ n. look (with_content (s ∷ ss) n d) q) at.2
            ∙ look-cons s (with_content ss at.0 d) q
            ∙ ap (over s.1 (same q s.0)) (put_look ss at.0 d name q (λ n. IsDistinct-tail _ _ _ (a n)) at.1)
            ∙ put_below (same q s.0) (same q name) s.1 d (look ss q)
            (λ t. nat_list_eq_equiv.congr q s.0 name t ∙ nat_list_eq_equiv.symm s.0 name ∙ e)
            ∙ ap (cond (same q name) d) (sym (look-cons s ss q))
      ] refl h

  pub named_put : (ss : Slots X) (i : ℕ) (x : X) (name : List ℕ) → slot_of ss name ≡ Some i
      → named (with_content ss i (Some x)) ≡ finmap.insert (named ss) name x
  unfolding same
  named_put ss i x name h = same_map nat_list_cmp_total exact_bytes _ _ (λ q.
      named-look (with_content ss i (Some x)) q ∙ put_look ss i (Some x) name q (λ n. absurd (cc)) h
      ∙ (λ j. cond (sym (is_eq-slice_cmp q name) j) (Some x) (sym (named-look ss q) j))
      ∙ sym (get-insert nat_list_cmp_total (named ss) name x q))

  pub named_taken : (ss : Slots X) (i : ℕ) (name : List ℕ) → HaveDistinctLabels ss → slot_of ss name ≡ Some i
      → named (with_content ss i None) ≡ finmap.remove (named ss) name
  unfolding same
  named_taken ss i name a h = same_map nat_list_cmp_total exact_bytes _ _ (λ q.
      named-look (with_content ss i None) q ∙ put_look ss i None name q (λ n. a) h
      ∙ (λ j. cond (sym (is_eq-slice_cmp q name) j) None (sym (named-look ss q) j))
      ∙ sym (get-remove nat_list_cmp_total (named ss) name q))

  next_content : (s : List ℕ × Option X) (ss : Slots X) (o : Option ℕ)
      → option_and_then (content ss) o ≡ option_and_then (content (s ∷ ss)) (option_map (λ i. i + 1) o)
  next_content s ss None = refl
  next_content s ss (Some j) = ap (content (s ∷ ss)) {x = suc j} {y = j + 1} (omega arith)

  first : (c o : Option X) → o ≡ None → over c true o ≡ c
  unfolding over
  first None o h = h
  first (Some x) o h = refl

  look_under : (ss : Slots X) (name : List ℕ) → HaveDistinctLabels ss
      → look ss name ≡ option_and_then (content ss) (slot_of ss name)
  unfolding look same
  look_under [] name a = refl
  look_under (s ∷ ss) name a =
      elim (pointwise nat_eq name s.0) as (λ b. pointwise nat_eq name s.0 ≡ b → look (s ∷ ss) name
      ≡ option_and_then (content (s ∷ ss)) (if b then Some 0 else option_map (λ i. i + 1) (slot_of ss name))) [
        | true ↦ λ e.
            look-cons s ss name ∙ ap (λ b. over s.1 b (look ss name)) e
            ∙ first s.1 (look ss name) (absent s.0 name ss (IsDistinct-head _ _ _ a) e)
        | false ↦ λ e.
            look-cons s ss name ∙ ap (λ b. over s.1 b (look ss name)) e ∙ over-false s.1 (look ss name)
            ∙ look_under ss name (IsDistinct-tail _ _ _ a) ∙ next_content s ss (slot_of ss name)
      ] refl

  pub named_under : (ss : Slots X) (name : List ℕ) → HaveDistinctLabels ss
      → get (named ss) name ≡ option_and_then (content ss) (slot_of ss name)
  named_under ss name a = named-look ss name ∙ look_under ss name a

  -- ---- one more slot

  filled_empty : (ss : Slots X) (name : List ℕ) → filled (ss ++ (name, None) ∷ []) ≡ filled ss
  filled_empty [] name = refl
  filled_empty ((l, None) ∷ ss) name = filled_empty ss name
  filled_empty ((l, Some x) ∷ ss) name = ap (λ es. (l, x) ∷ es) (filled_empty ss name)

  pub named_more : (ss : Slots X) (name : List ℕ) → named (with_slot ss name) ≡ named ss
  named_more ss name =
      elim (is_some (slot_of ss name)) as (λ b. named (if b then ss else ss ++ (name, None) ∷ []) ≡ named ss) [
        | true ↦ refl
        | false ↦ ap from_entries (filled_empty ss name)
      ]

  slot_of-with_content : (ss : Slots X) (i : ℕ) (c : Option X) (name : List ℕ)
      → slot_of (with_content ss i c) name ≡ slot_of ss name
  slot_of-with_content [] i c name = refl
  slot_of-with_content (s ∷ ss) zero c name = refl
  slot_of-with_content (s ∷ ss) (suc i) c name = ap
      (λ o. if pointwise nat_eq name s.0 then Some 0 else option_map (λ i. i + 1) o) (slot_of-with_content ss i c name)

  with_content-append : (ss : Slots X) (i : ℕ) (c : Option X) (s : List ℕ × Option X) → i < length ss
      → with_content (ss ++ s ∷ []) i c ≡ with_content ss i c ++ s ∷ []
  with_content-append [] i c s l = absurd (omega arith)
  with_content-append (r ∷ ss) zero c s l = refl
  with_content-append (r ∷ ss) (suc i) c s l = ap (λ l. r ∷ l) (with_content-append ss i c s (omega arith))

  content-append : (ss : Slots X) (i : ℕ) (s : List ℕ × Option X) → i < length ss
      → content (ss ++ s ∷ []) i ≡ content ss i
  content-append [] i s l = absurd (omega arith)
  content-append (r ∷ ss) zero s l = refl
  content-append (r ∷ ss) (suc i) s l = content-append ss i s (omega arith)

  pub more_slots : (ss : Slots X) (i : ℕ) (c : Option X) (name : List ℕ) → i < length ss
      → with_content (with_slot ss name) i c ≡ with_slot (with_content ss i c) name
  more_slots ss i c name l =
      elim (is_some (slot_of ss name)) as (λ b. with_content (if b then ss else ss ++ (name, None) ∷ []) i c
      ≡ (if b then with_content ss i c else with_content ss i c ++ (name, None) ∷ [])) [
        | true ↦ refl
        | false ↦ with_content-append ss i c (name, None) l
      ]
      ∙ ap (λ o. if is_some o then with_content ss i c else with_content ss i c ++ (name, None) ∷ [])
      (sym (slot_of-with_content ss i c name))

  pub same_content_with : (ss : Slots X) (i : ℕ) (name : List ℕ) → i < length ss
      → content (with_slot ss name) i ≡ content ss i
  same_content_with ss i name l =
      elim (is_some (slot_of ss name)) as (λ b. content (if b then ss else ss ++ (name, None) ∷ []) i ≡ content ss i) [
        | true ↦ refl
        | false ↦ content-append ss i (name, None) l
      ]

  pub longer : (ss : Slots X) (i : ℕ) (name : List ℕ) → i < length ss → i < length (with_slot ss name)
  longer ss i name l =
      elim (is_some (slot_of ss name)) as (λ b. i < length (if b then ss else ss ++ (name, None) ∷ [])) [
        | true ↦ l
        | false ↦ omega (arith, length-append ss ((name, None) ∷ []))
      ]

  within : (ss : Slots X) (i : ℕ) → IsSome (content ss i) → i < length ss
  within [] i h = absurd (cc)
  within (s ∷ ss) zero h = omega arith
  within (s ∷ ss) (suc i) h = let rest = within ss i h in omega (arith, rest)

has_tree : {Y : Type 0} (f : Tree → Option Y) (o : Option Tree) → IsSome (option_and_then f o) → IsSome o
has_tree f None h = absurd (cc)
has_tree f (Some t) h = refl

tree_within : (p : List ℕ) (ss : Slots Tree) (i : ℕ) → IsSome (subterm_in ss i p) → i < length ss
tree_within p ss i h = within ss i (has_tree (λ t. at t p) (content ss i) h)

more_trees : (f : Tree → Tree) (ss : Slots Tree) (i : ℕ) (name : List ℕ) → i < length ss
    → changed_tree f (with_slot ss name) i ≡ with_slot (changed_tree f ss i) name
more_trees f ss i name l = ap (λ o. with_content (with_slot ss name) i (option_map f o)) (same_content_with ss i name l)
    ∙ more_slots ss i (option_map f (content ss i)) name l

-- ---- entries and logs

put_with : (e : Entry) (s : Store) (name : List ℕ) → HasPlace e s
    → put e (with_tree_slot s name) ≡ with_tree_slot (put e s) name
put_with (slot_tree i c) s name h = λ j. record s { trees = more_slots s.trees i c name h j }
put_with (subterm i p u) s name h =
    λ j. record s { trees = more_trees (λ t. set_at t p u) s.trees i name (tree_within p s.trees i h) j }
put_with (subterm_annotations i p us) s name h =
    λ j. record s { trees = more_trees (λ t. set_annotations_at t p us) s.trees i name (tree_within p s.trees i h) j }
put_with (slot_text i c) s name h = refl

place_with : (e : Entry) (s : Store) (name : List ℕ) → HasPlace e s → HasPlace e (with_tree_slot s name)
place_with (slot_tree i c) s name h = longer s.trees i name h
place_with (subterm i p u) s name h = subst (λ o. IsSome (option_and_then (λ t. at t p) o))
    (sym (same_content_with s.trees i name (tree_within p s.trees i h))) h
place_with (subterm_annotations i p us) s name h = subst (λ o. IsSome (option_and_then (λ t. at t p) o))
    (sym (same_content_with s.trees i name (tree_within p s.trees i h))) h
place_with (slot_text i c) s name h = h

put_with_module : (e : Entry) (s : Store) (name : List ℕ) → HasPlace e s
    → put e (with_module_slot s name) ≡ with_module_slot (put e s) name
put_with_module (slot_tree i c) s name h = refl
put_with_module (subterm i p u) s name h = refl
put_with_module (subterm_annotations i p us) s name h = refl
put_with_module (slot_text i c) s name h = λ j. record s { modules = more_slots s.modules i c name h j }

place_with_module : (e : Entry) (s : Store) (name : List ℕ) → HasPlace e s → HasPlace e (with_module_slot s name)
place_with_module (slot_tree i c) s name h = h
place_with_module (subterm i p u) s name h = h
place_with_module (subterm_annotations i p us) s name h = h
place_with_module (slot_text i c) s name h = longer s.modules i name h

module _ (grown : Store → Store) (puts : (e : Entry) (s : Store) → HasPlace e s → put e (grown s) ≡ grown (put e s))
    (places : (e : Entry) (s : Store) → HasPlace e s → HasPlace e (grown s)) where
  fits_grown : (log : List Entry) (s : Store) → Fits log s
      → Fits log (grown s) × (before log (grown s) ≡ grown (before log s))
  fits_grown [] s h = (tt, refl)
  fits_grown (e ∷ es) s h =
      let rest = fits_grown es s h.1 in
      let b = before es s in
      ((subst (HasPlace e) (sym rest.1) (places e b h.0), rest.0), ap (put e) rest.1 ∙ puts e b h.0)

  fits_forward_grown : (log : List Entry) (s : Store) → FitsForward log s
      → FitsForward log (grown s) × (after log (grown s) ≡ grown (after log s))
  fits_forward_grown [] s h = (tt, refl)
  fits_forward_grown (e ∷ es) s h =
      let rest = fits_forward_grown es (put e s) h.1 in
      let next = puts e s h.0 in
      ((places e s h.0, subst (FitsForward es) (sym next) rest.0), ap (after es) next ∙ rest.1)

-- ---- the laws

pub new_slots_are_empty : NewSlotsAreEmpty
new_slots_are_empty s name = (
  λ j. record { trees = named_more s.trees name j; modules = named s.modules },
  λ j. record { trees = named s.trees; modules = named_more s.modules name j },
)

pub tree_put : TreePut
tree_put s name i t h = λ j. record { trees = named_put s.trees i t name h j; modules = named s.modules }

pub tree_taken : TreeTaken
tree_taken s name i a h = λ j. record { trees = named_taken s.trees i name a h j; modules = named s.modules }

pub module_put : ModulePut
module_put s name i text h = λ j. record { trees = named s.trees; modules = named_put s.modules i text name h j }

pub module_taken : ModuleTaken
module_taken s name i a h = λ j. record { trees = named s.trees; modules = named_taken s.modules i name a h j }

pub subterm_put : SubtermPut
subterm_put s i p t u e = λ j. record s { trees = with_content s.trees i (option_map (λ t. set_at t p u) (e j)) }

pub annotations_put : AnnotationsPut
annotations_put s i p t us e =
    λ j. record s { trees = with_content s.trees i (option_map (λ t. set_annotations_at t p us) (e j)) }

pub tree_of_name : TreeOfName
tree_of_name s name a = named_under s.trees name a

pub module_of_name : ModuleOfName
module_of_name s name a = named_under s.modules name a

pub fits_with_more : FitsWithMore
fits_with_more log s name h =
    fits_grown (λ s. with_tree_slot s name) (λ e s h. put_with e s name h) (λ e s h. place_with e s name h) log s h

pub fits_forward_with_more : FitsForwardWithMore
fits_forward_with_more log s name h = fits_forward_grown (λ s. with_tree_slot s name) (λ e s h. put_with e s name h)
    (λ e s h. place_with e s name h) log s h

pub fits_with_more_modules : FitsWithMoreModules
fits_with_more_modules log s name h = fits_grown (λ s. with_module_slot s name) (λ e s h. put_with_module e s name h)
    (λ e s h. place_with_module e s name h) log s h

pub fits_forward_with_more_modules : FitsForwardWithMoreModules
fits_forward_with_more_modules log s name h = fits_forward_grown (λ s. with_module_slot s name)
    (λ e s h. put_with_module e s name h) (λ e s h. place_with_module e s name h) log s h
