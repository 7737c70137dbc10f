-- Walks, one after the other and one level up.
use Rattle.std.proofs.Common.{◌≡◌, ℕ, zero, suc, ◌+◌, ◌-◌, ◌<◌, ◌≤◌, List, [], ◌∷◌, ◌++◌, length, take, drop, get_or, reverse, refl, sym, ap, subst, ◌∙◌, arith, append_assoc, length-append}
use Rattle.std.proofs.Math.Seq.{take-append_seam, drop-append_seam, drop-cons, take-take, take_all}
use Rattle.std.proofs.lemmas.List.{reverse-append, length-take, length-drop, drop_all, take-append-drop, take-append-le, drop-append-le}
use Rattle.term_core.specs.Tree.{Tree}
use Rattle.term_changes.specs.Change.{inside, replaced}
use Rattle.term_changes.specs.Items.{Item, items_changes, first_item}
use Rattle.term_changes.specs.inside.Marks.{read, read_mark, count, is_leaf, leaves, HaveKids, AreWhole}
use Rattle.term_changes.specs.inside.Walked.{Reads, Walked}
use Rattle.term_changes.specs.declared.draft.PlaceMark.{PlaceMark}

-- ---- vectors that are read from the end

module _ {X : Type 0} where
  -- the last one first
  pub last_first : (xs : List X) (i : ℕ) (d : X) → suc i ≡ length xs → reverse xs ≡ get_or xs i d ∷ reverse (take i xs)
  last_first xs i d h =
      ap reverse (sym (take-append-drop i xs) ∙ ap (λ l. take i xs ++ l)
      (drop-cons xs i d (omega (arith, h)) ∙ ap (λ l. get_or xs i d ∷ l) (drop_all (suc i) xs (omega (arith, h)))))
      ∙ reverse-append (take i xs) (get_or xs i d ∷ [])

  -- that one alone
  pub last_one : (xs : List X) (i : ℕ) (d : X) → suc i ≡ length xs → reverse (drop i xs) ≡ get_or xs i d ∷ []
  last_one xs i d h = ap reverse
      (drop-cons xs i d (omega (arith, h)) ∙ ap (λ l. get_or xs i d ∷ l) (drop_all (suc i) xs (omega (arith, h))))

  pub two_parts : (xs : List X) (i j : ℕ) → j ≤ i → i ≤ length xs
      → reverse (drop j xs) ≡ reverse (drop i xs) ++ reverse (drop j (take i xs))
  two_parts xs i j h l =
      ap (λ ys. reverse (drop j ys)) (sym (take-append-drop i xs))
      ∙ ap reverse (drop-append-le j (take i xs) (drop i xs) (omega (arith, h, l, length-take i xs)))
      ∙ reverse-append (drop j (take i xs)) (drop i xs)

  pub parts : (xs : List X) (i : ℕ) → reverse xs ≡ reverse (drop i xs) ++ reverse (take i xs)
  parts xs i = ap reverse (sym (take-append-drop i xs)) ∙ reverse-append (take i xs) (drop i xs)

  pub none_read : (xs : List X) → reverse (drop (length xs) xs) ≡ []
  none_read xs = ap reverse (drop_all (length xs) xs (omega arith))

-- ---- how many items there are

-- where the others after a mark have the items that they should
of_mark : (s n : ℕ) (ms : List PlaceMark) (ts : List Tree) → n ≤ count ms → is_leaf n + leaves ms ≡ length ts
    → ((us : List Tree) → leaves ms ≡ length us → length (read ms us) ≡ count ms)
    → length (read_mark s n (read ms) ts) ≡ suc (count ms - n)
of_mark s zero ms [] k l f = absurd (omega (arith, l))
of_mark s zero ms (t ∷ ts) k l f = omega (arith, f ts (omega (arith, l)))
of_mark s (suc n) ms ts k l f = omega (arith, length-drop (suc n) (read ms ts), f ts (omega (arith, l)))

all_of : (ms : List PlaceMark) (ts : List Tree) → HaveKids ms → leaves ms ≡ length ts → length (read ms ts) ≡ count ms
all_of [] ts h l = refl
all_of (x ∷ ms) ts h l = of_mark x.skipped x.kids ms ts h.0 l (λ us. all_of ms us h.1)

pub length-read : (ms : List PlaceMark) (ts : List Tree) → AreWhole ms (length ts) → length (read ms ts) ≡ count ms
length-read ms ts h = all_of ms ts h.0 h.1

-- ---- the first item

pub first_node : (x : PlaceMark) (n : ℕ) (ms : List PlaceMark) (ts : List Tree) → x.kids ≡ suc n
    → first_item (read (x ∷ ms) ts) ≡ (x.skipped, inside (items_changes (take x.kids (read ms ts))))
first_node x n ms ts e =
    ap (λ k. first_item (read_mark x.skipped k (read ms) ts)) e
    ∙ ap (λ k. (x.skipped, inside (items_changes (take k (read ms ts))))) (sym e)

pub first_leaf : (x : PlaceMark) (t : Tree) (ms : List PlaceMark) (ts : List Tree)
    → x.kids ≡ 0 → first_item (read (x ∷ ms) (t ∷ ts)) ≡ (x.skipped, replaced t)
first_leaf x t ms ts e = ap (λ k. first_item (read_mark x.skipped k (read ms) (t ∷ ts))) e

-- ---- what segments say

reads_leaf : (x : PlaceMark) (t : Tree) → x.kids ≡ 0 → Reads (x ∷ []) (t ∷ []) ((x.skipped, replaced t) ∷ [])
reads_leaf x t e ms ts = ap (λ k. read_mark x.skipped k (read ms) (t ∷ ts)) e

reads_node : (x : PlaceMark) (n : ℕ) (seg : List PlaceMark) (us : List Tree) (xs : List Item) → x.kids ≡ suc n
    → length xs ≡ suc n → Reads seg us xs
    → Reads (x ∷ seg) us ((x.skipped, inside (items_changes xs)) ∷ [])
reads_node x n seg us xs e many h ms ts =
    let node : ℕ → List Item → List Item = λ k l. (x.skipped, inside (items_changes (take k l))) ∷ drop k l in
    ap (λ k. read_mark x.skipped k (read (seg ++ ms)) (us ++ ts)) e
    ∙ ap (node (suc n)) (h ms ts)
    ∙ ap (λ k. node k (xs ++ read ms ts)) (sym many)
    ∙ (λ j.
    (x.skipped, inside (items_changes (take-append_seam xs (read ms ts) j))) ∷ drop-append_seam xs (read ms ts) j)

reads_append : (a b : List PlaceMark) (us vs : List Tree) (xs ys : List Item) → Reads a us xs → Reads b vs ys
    → Reads (a ++ b) (us ++ vs) (xs ++ ys)
reads_append a b us vs xs ys h g ms ts =
    (λ j. read (append_assoc a b ms j) (append_assoc us vs ts j))
    ∙ h (b ++ ms) (vs ++ ts)
    ∙ ap (λ l. xs ++ l) (g ms ts)
    ∙ sym (append_assoc xs ys (read ms ts))

same_reads : (a b : List PlaceMark) (us vs : List Tree) (xs : List Item) → a ≡ b → us ≡ vs → Reads b vs xs
    → Reads a us xs
same_reads a b us vs xs e f h ms ts = (λ j. read (e j ++ ms) (f j ++ ts)) ∙ h ms ts

-- ---- nothing read yet

pub walked_none : (marks : List PlaceMark) (terms : List Tree) → AreWhole (reverse marks) (length terms)
    → Walked marks terms terms (length marks) (length terms) [] []
walked_none marks terms h = record {
  marks_left = omega arith;
  terms_left = omega arith;
  reads = same_reads _ [] _ [] [] (none_read marks) (none_read terms) (λ ms ts. refl);
  reads_now = same_reads _ [] _ [] [] (none_read marks) (none_read terms) (λ ms ts. refl);
  stay = refl;
  as_many = refl;
  whole = subst (λ ms. AreWhole (reverse ms) (length terms)) (sym (take_all (length marks) marks (omega arith))) h;
  counted = omega (arith, ap (λ ms. count (reverse ms)) (take_all (length marks) marks (omega arith)));
}

-- ---- one mark

-- PlaceMark x is the last one.
module _ (marks : List PlaceMark) (terms now : List Tree) (last : ℕ) (x d : PlaceMark) (h : suc last ≡ length marks)
    (is : get_or marks last d ≡ x) where
  -- a node, whose places were walked through
  pub walked_node : (n m t : ℕ) (was found : List Item) → x.kids ≡ suc n → length was ≡ suc n → length found ≡ suc n
      → Walked (take last marks) terms now m t was found
      → Walked marks terms now m t
      ((x.skipped, inside (items_changes was)) ∷ []) ((x.skipped, inside (items_changes found)) ∷ [])
  walked_node n m t was found e many many_found w =
      let inner : m ≤ last = omega (arith, w.marks_left, length-take last marks, h) in
      let split : reverse (drop m marks) ≡ x ∷ reverse (drop m (take last marks)) =
      two_parts marks last m inner (omega (arith, h))
      ∙ ap (λ l. l ++ reverse (drop m (take last marks))) (last_one marks last d h ∙ ap (λ y. y ∷ []) is) in
      let shorter : take m (take last marks) ≡ take m marks = take-take m last marks inner in
      let first : count (reverse marks) ≡ suc (count (reverse (take last marks)) - x.kids) =
      ap count (last_first marks last d h) ∙ ap (λ y. suc (count (reverse (take last marks)) - y.kids)) is in
      let left : count (reverse (take m (take last marks))) ≡ count (reverse (take m marks)) =
      ap (λ ms. count (reverse ms)) shorter in
      record {
        marks_left = omega (arith, inner, h);
        terms_left = w.terms_left;
        reads = same_reads _ (x ∷ reverse (drop m (take last marks))) _ (reverse (drop t terms))
            ((x.skipped, inside (items_changes was)) ∷ []) split refl (reads_node x n _ _ was e many w.reads);
        reads_now = same_reads _ (x ∷ reverse (drop m (take last marks))) _ (reverse (drop t now))
            ((x.skipped, inside (items_changes found)) ∷ []) split refl
            (reads_node x n _ _ found e many_found w.reads_now);
        stay = w.stay;
        as_many = w.as_many;
        whole = subst (λ ms. AreWhole (reverse ms) t) shorter w.whole;
        counted = omega (arith, first, w.counted, many, e, left);
      }

  -- a term
  pub walked_leaf : (t : ℕ) (u v c : Tree) → x.kids ≡ 0 → suc t ≡ length terms
      → get_or terms t c ≡ u → get_or now t c ≡ v → take t now ≡ take t terms → length now ≡ length terms
      → AreWhole (reverse marks) (length terms)
      → Walked marks terms now last t ((x.skipped, replaced u) ∷ []) ((x.skipped, replaced v) ∷ [])
  walked_leaf t u v c e l p q same many w =
      let mark : reverse (drop last marks) ≡ x ∷ [] = last_one marks last d h ∙ ap (λ y. y ∷ []) is in
      let all : reverse marks ≡ x ∷ reverse (take last marks) = last_first marks last d h
      ∙ ap (λ y. y ∷ reverse (take last marks)) is in
      let whole : AreWhole (x ∷ reverse (take last marks)) (length terms) =
      subst (λ ms. AreWhole ms (length terms)) all w in
      let one : is_leaf x.kids ≡ 1 = ap is_leaf e in
      record {
        marks_left = omega (arith, h);
        terms_left = omega (arith, l);
        reads = same_reads _ (x ∷ []) _ (u ∷ []) ((x.skipped, replaced u) ∷ []) mark
            (last_one terms t c l ∙ ap (λ y. y ∷ []) p) (reads_leaf x u e);
        reads_now = same_reads _ (x ∷ []) _ (v ∷ []) ((x.skipped, replaced v) ∷ []) mark
            (last_one now t c (l ∙ sym many) ∙ ap (λ y. y ∷ []) q) (reads_leaf x v e);
        stay = same;
        as_many = many;
        whole = (whole.0.1, omega (arith, whole.1, one, l));
        counted = omega (arith, ap count all, e);
      }

-- ---- one walk after the other

pub walked_then : (marks : List PlaceMark) (terms now next : List Tree) (m t n u : ℕ)
    (was found then_was then_found : List Item)
    → Walked marks terms now m t was found → Walked (take m marks) (take t now) next n u then_was then_found
    → Walked marks terms (next ++ drop t now) n u (was ++ then_was) (found ++ then_found)
walked_then marks terms now next m t n u was found then_was then_found w v =
    let in_now : t ≤ length now = omega (arith, w.terms_left, w.as_many) in
    let marks_in : n ≤ m = omega (arith, v.marks_left, length-take m marks) in
    let terms_in : u ≤ t = omega (arith, v.terms_left, length-take t now) in
    let long : length next ≡ t = omega (arith, v.as_many, length-take t now, in_now) in
    let after : drop t (next ++ drop t now) ≡ drop t now = ap (λ k. drop k (next ++ drop t now)) (sym long)
    ∙ drop-append_seam next (drop t now) in
    let before : take t (next ++ drop t now) ≡ next = ap (λ k. take k (next ++ drop t now)) (sym long)
    ∙ take-append_seam next (drop t now) in
    let all : length (next ++ drop t now) ≡ length now =
    omega (arith, length-append next (drop t now), length-drop t now, long, in_now) in
    let shorter : take n (take m marks) ≡ take n marks = take-take n m marks marks_in in
    let left : count (reverse (take n (take m marks))) ≡ count (reverse (take n marks)) =
    ap (λ ms. count (reverse ms)) shorter in
    record {
      marks_left = omega (arith, marks_in, w.marks_left);
      terms_left = omega (arith, terms_in, w.terms_left);
      reads = same_reads _ (reverse (drop m marks) ++ reverse (drop n (take m marks))) _
          (reverse (drop t terms) ++ reverse (drop u (take t now))) (was ++ then_was)
          (two_parts marks m n marks_in w.marks_left)
          (two_parts terms t u terms_in w.terms_left
          ∙ ap (λ l. reverse (drop t terms) ++ reverse (drop u l)) (sym w.stay))
          (reads_append _ _ _ _ was then_was w.reads v.reads);
      reads_now = same_reads _ (reverse (drop m marks) ++ reverse (drop n (take m marks))) _
          (reverse (drop t now) ++ reverse (drop u next)) (found ++ then_found)
          (two_parts marks m n marks_in w.marks_left)
          (two_parts (next ++ drop t now) t u terms_in (omega (arith, all, in_now))
          ∙ (λ j. reverse (after j) ++ reverse (drop u (before j))))
          (reads_append _ _ _ _ found then_found w.reads_now v.reads_now);
      stay = take-append-le u next (drop t now) (omega (arith, long, terms_in)) ∙ v.stay ∙ ap (take u) w.stay
          ∙ take-take u t terms terms_in;
      as_many = all ∙ w.as_many;
      whole = subst (λ ms. AreWhole (reverse ms) u) shorter v.whole;
      counted = omega (arith, w.counted, v.counted, left, length-append was then_was);
    }

-- what wasn't read
pub walked_rest : (marks : List PlaceMark) (terms now : List Tree) (m t : ℕ) (was found : List Item)
    → Walked marks terms now m t was found
    → read (reverse marks) (reverse terms) ≡ was ++ read (reverse (take m marks)) (reverse (take t terms))
walked_rest marks terms now m t was found w =
    (λ j. read (parts marks m j) (parts terms t j)) ∙ w.reads (reverse (take m marks)) (reverse (take t terms))

-- what is said now
pub walked_now : (marks : List PlaceMark) (terms now : List Tree) (m t : ℕ) (was : List Item) (x : Item)
    → Walked marks terms now m t was (x ∷ [])
    → first_item (read (reverse marks) (reverse now)) ≡ x
walked_now marks terms now m t was x w =
    (λ j. first_item (read (parts marks m j) (parts now t j)))
    ∙ ap first_item (w.reads_now (reverse (take m marks)) (reverse (take t now)))

-- ---- items one after the other

pub first_dropped : (k : ℕ) (xs : List Item) → k < length xs → drop k xs ≡ first_item (drop k xs) ∷ drop (suc k) xs
first_dropped k [] h = absurd (omega (arith, h))
first_dropped zero (x ∷ xs) h = refl
first_dropped (suc k) (x ∷ xs) h = first_dropped k xs (omega (arith, h))

pub one_more : (k : ℕ) (xs : List Item) → k < length xs → take (suc k) xs ≡ take k xs ++ first_item (drop k xs) ∷ []
one_more k [] h = absurd (omega (arith, h))
one_more zero (x ∷ xs) h = refl
one_more (suc k) (x ∷ xs) h = ap (λ l. x ∷ l) (one_more k xs (omega (arith, h)))

pub first_within : (k n : ℕ) (xs : List Item) → k < n → n ≤ length xs
    → drop k (take n xs) ≡ first_item (drop k xs) ∷ drop (suc k) (take n xs)
first_within k n [] h l = absurd (omega (arith, h, l))
first_within k zero (x ∷ xs) h l = absurd (omega (arith, h))
first_within zero (suc n) (x ∷ xs) h l = refl
first_within (suc k) (suc n) (x ∷ xs) h l = first_within k n xs (omega (arith, h)) (omega (arith, l))
