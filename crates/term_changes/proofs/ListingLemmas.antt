-- Places with their paths, taken out of a patch one after the other.
use Rattle.std.proofs.Common.{◌≡◌, ℕ, zero, suc, ◌+◌, ◌<◌, ◌≤◌, List, [], ◌∷◌, ◌++◌, length, map, take, drop, reverse, refl, sym, ap, subst, ◌∙◌, arith, append_assoc}
use Rattle.std.proofs.lemmas.List.{map-append, take-append-drop}
use Rattle.std.proofs.Math.Seq.{take-take}
use Rattle.term_core.specs.Tree.{Tree}
use Rattle.term_paths.specs.Edits.{Edits, prefixed}
use Rattle.term_changes.specs.Change.{Change, Changes, and_then, below, places, places_from}
use Rattle.term_changes.specs.Entries.{Entry}
use Rattle.term_changes.specs.Items.{Item, after_left, items_changes, first_item}
use Rattle.term_changes.specs.Putting.{entry_at, entries_at}
use Rattle.term_changes.specs.inside.Marks.{read, count, AreWhole}
use Rattle.term_changes.specs.inside.Walked.{Walked, Listed}
use Rattle.term_changes.specs.declared.draft.PlaceMark.{PlaceMark}
use Rattle.term_changes.proofs.WalkLemmas.{taken_nowhere}
use Rattle.term_changes.proofs.WalkedLemmas.{length-read, one_more}
use Rattle.term_changes.proofs.ExchangeLemmas.{node_passed, next_walked, next_item, left_say}

-- ---- paths

prefixed_below : (p : List ℕ) (j : ℕ) (e : Edits) → prefixed p (below j e) ≡ prefixed (p ++ j ∷ []) e
prefixed_below p j [] = refl
prefixed_below p j (x ∷ e) =
    λ l. record { path = sym (append_assoc p (j ∷ []) x.path) l; new = x.new } ∷ prefixed_below p j e l

places_after : (i n : ℕ) (c : Change) (cs : Changes)
    → places_from i (after_left n (and_then c cs)) ≡ below (i + n) (places c) ++ places_from (i + n + 1) cs
places_after i zero c cs = ap (λ k. below k (places c) ++ places_from (k + 1) cs) (omega arith)
places_after i (suc n) c cs = places_after (i + 1) n c cs
    ∙ ap (λ k. below k (places c) ++ places_from (k + 1) cs) (omega arith)

-- one more place, at child j, and what comes after it
pub kid_listed : (slot : ℕ) (p q : List ℕ) (i j next : ℕ) (x : Item) (xs : List Item) (plan now : List Entry)
    → j ≡ i + x.0 → next ≡ j + 1 → q ≡ p ++ j ∷ []
    → now ≡ plan ++ entries_at slot (prefixed q (places x.1))
    → now ++ entries_at slot (prefixed p (places_from next (items_changes xs)))
    ≡ plan ++ entries_at slot (prefixed p (places_from i (items_changes (x ∷ xs))))
kid_listed slot p q i j next x xs plan now e f g h =
    let first = prefixed (p ++ j ∷ []) (places x.1) in
    let others = prefixed p (places_from (j + 1) (items_changes xs)) in
    (λ l. h l ++ entries_at slot (prefixed p (places_from (f l) (items_changes xs))))
    ∙ append_assoc plan (entries_at slot (prefixed q (places x.1))) (entries_at slot others)
    ∙ ap (λ r. plan ++ (entries_at slot (prefixed r (places x.1)) ++ entries_at slot others)) g
    ∙ ap (λ l. plan ++ l) (sym (map-append (entry_at slot) first others))
    ∙ ap (λ l. plan ++ entries_at slot l) (
    ap (λ l. l ++ others) (sym (prefixed_below p j (places x.1)))
    ∙ sym (map-append (λ y. record { path = p ++ y.path; new = y.new }) (below j (places x.1))
    (places_from (j + 1) (items_changes xs)))
    ∙ ap (prefixed p) (ap (λ k. below k (places x.1) ++ places_from (k + 1) (items_changes xs)) e
    ∙ sym (places_after i x.0 x.1 (items_changes xs))))

-- ---- one level up

-- PlaceMark x is the last one, and a node.
pub node_listed : (marks : List PlaceMark) (terms : List Tree) (last : ℕ) (x d : PlaceMark)
    (h : suc last ≡ length marks) (is : Rattle.std.specs.Prelude.get_or marks last d ≡ x)
    (whole : AreWhole (reverse marks) (length terms)) (n : ℕ) (e : x.kids ≡ suc n) (left : List Tree) (m : ℕ)
    → Listed (take last marks) terms left m (take x.kids (read (reverse (take last marks)) (reverse terms)))
    → Listed marks terms left m (first_item (read (reverse marks) (reverse terms)) ∷ [])
node_listed marks terms last x d h is whole n e left m l =
    let kids = take x.kids (read (reverse (take last marks)) (reverse terms)) in
    record {
      walked = node_passed marks terms last x d h is whole n e terms m (length left)
          (subst (λ found. Walked (take last marks) terms terms m (length left) kids found) (sym (taken_nowhere kids))
          l.walked);
      rest = l.rest;
    }

-- ---- one place after the other

module _ (marks : List PlaceMark) (terms left : List Tree) (m k kids : ℕ) (enough : kids ≤ count (reverse marks))
    (whole : AreWhole (reverse marks) (length terms)) (l : k < kids)
    (w : Listed marks terms left m (take k (read (reverse marks) (reverse terms)))) where
  said : read (reverse (take m marks)) (reverse left) ≡ drop k (read (reverse marks) (reverse terms))
  said = ap (λ us. read (reverse (take m marks)) (reverse us)) w.rest
      ∙ left_say marks terms terms m (length left) k kids (take k (read (reverse marks) (reverse terms))) enough whole
      l w.walked

  pub item_listed : (k1 : ℕ) → k1 ≡ suc k
      → drop k (take kids (read (reverse marks) (reverse terms)))
      ≡ first_item (read (reverse (take m marks)) (reverse left))
      ∷ drop k1 (take kids (read (reverse marks) (reverse terms)))
  item_listed k1 e =
      next_item marks terms terms m (length left) k kids (take k (read (reverse marks) (reverse terms))) enough whole l
      w.walked k1 e
      ∙ ap (λ us. first_item (read (reverse (take m marks)) (reverse us))
      ∷ drop k1 (take kids (read (reverse marks) (reverse terms)))) (sym w.rest)

  pub next_listed : (next : List Tree) (n k1 : ℕ) → k1 ≡ suc k
      → Listed (take m marks) left next n (first_item (read (reverse (take m marks)) (reverse left)) ∷ [])
      → Listed marks terms next n (take k1 (read (reverse marks) (reverse terms)))
  next_listed next n k1 e v =
      let was = take k (read (reverse marks) (reverse terms)) in
      let x = first_item (read (reverse (take m marks)) (reverse left)) in
      let inner : Walked (take m marks) (take (length left) terms) (take (length left) terms) n (length next)
      (first_item (read (reverse (take m marks)) (reverse (take (length left) terms))) ∷ []) (x ∷ []) =
      subst (λ us. Walked (take m marks) us us n (length next)
      (first_item (read (reverse (take m marks)) (reverse us)) ∷ []) (x ∷ [])) w.rest v.walked in
      let both = next_walked marks terms terms m (length left) k kids was enough whole l w.walked
      (take (length left) terms) n (length next) k1 (x ∷ []) e inner in
      let long : length (read (reverse marks) (reverse terms)) ≡ count (reverse marks) =
      length-read (reverse marks) (reverse terms)
      (subst (λ i. AreWhole (reverse marks) i) (sym (Rattle.std.proofs.lemmas.List.length-reverse terms)) whole) in
      let items : was ++ x ∷ [] ≡ take k1 (read (reverse marks) (reverse terms)) =
      ap (λ xs. was ++ first_item xs ∷ []) said
      ∙ sym (one_more k (read (reverse marks) (reverse terms)) (omega (arith, long, enough, l)))
      ∙ ap (λ i. take i (read (reverse marks) (reverse terms))) (sym e) in
      record {
        walked = subst
            (λ ys. Walked marks terms terms n (length next) (take k1 (read (reverse marks) (reverse terms))) ys) items
            (subst (λ us. Walked marks terms us n (length next) (take k1 (read (reverse marks) (reverse terms)))
            (was ++ x ∷ [])) (take-append-drop (length left) terms) both);
        rest = v.rest ∙ ap (take (length next)) w.rest
            ∙ take-take (length next) (length left) terms v.walked.terms_left;
      }
