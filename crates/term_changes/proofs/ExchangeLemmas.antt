-- The item of the last mark, and the walk over it.
use Rattle.std.proofs.Common.{◌≡◌, ℕ, zero, suc, ◌+◌, ◌<◌, ◌≤◌, List, [], ◌∷◌, ◌++◌, length, take, drop, set, get_or, reverse, refl, sym, ap, subst, ◌∙◌, arith}
use Rattle.std.proofs.lemmas.List.{length-take, length-reverse, length-set}
use Rattle.std.proofs.Math.Seq.{drop-append_seam}
use Rattle.term_core.specs.Tree.{Tree, children, with_children}
use Rattle.term_changes.specs.Change.{inside, replaced, changed, changed_all}
use Rattle.term_changes.specs.Exchange.{taken}
use Rattle.term_changes.specs.Items.{Item, items_changes, first_item}
use Rattle.term_changes.specs.inside.ItemCodes.{taken_items}
use Rattle.term_changes.specs.inside.Marks.{read, read_mark, count, is_leaf, leaves, AreWhole}
use Rattle.term_changes.specs.inside.Walked.{Walked}
use Rattle.term_changes.specs.declared.draft.PlaceMark.{PlaceMark}
use Rattle.term_changes.proofs.WalkLemmas.{taken_of_items, taken_nowhere, length-taken}
use Rattle.term_changes.proofs.WalkedLemmas.{last_first, length-read, first_node, first_leaf, walked_node, walked_leaf, walked_then, walked_rest, one_more, first_within}

pub take-set : {X : Type 0} (us : List X) (t : ℕ) (u : X) → take t (set us t u) ≡ take t us
take-set [] t u = refl
take-set (v ∷ us) zero u = refl
take-set (v ∷ us) (suc t) u = ap (λ l. v ∷ l) (take-set us t u)

pub get_set : {X : Type 0} (us : List X) (t : ℕ) (u d : X) → t < length us → get_or (set us t u) t d ≡ u
get_set [] t u d h = absurd (omega (arith, h))
get_set (v ∷ us) zero u d h = refl
get_set (v ∷ us) (suc t) u d h = get_set us t u d (omega (arith, h))

of_count : (ms : List PlaceMark) → 0 < count (reverse ms) → 0 < length ms
of_count [] h = h
of_count (x ∷ ms) h = omega arith

of_mark : (s k n : ℕ) (others : List Tree → List Item) (ts : List Tree) → is_leaf k + n ≡ length ts
    → (first_item (read_mark s k others ts)).0 ≡ s
of_mark s zero n others [] h = absurd (omega (arith, h))
of_mark s zero n others (t ∷ ts) h = refl
of_mark s (suc k) n others ts h = refl

-- PlaceMark x is the last one.
module _ (marks : List PlaceMark) (terms : List Tree) (last : ℕ) (x d : PlaceMark) (h : suc last ≡ length marks)
    (is : get_or marks last d ≡ x) (whole : AreWhole (reverse marks) (length terms)) where
  all : reverse marks ≡ x ∷ reverse (take last marks)
  all = last_first marks last d h ∙ ap (λ y. y ∷ reverse (take last marks)) is

  whole_first : AreWhole (x ∷ reverse (take last marks)) (length terms)
  whole_first = subst (λ ms. AreWhole ms (length terms)) all whole

  pub item_skipped : (first_item (read (reverse marks) (reverse terms))).0 ≡ x.skipped
  item_skipped =
      ap (λ ms. (first_item (read ms (reverse terms))).0) all
      ∙ of_mark x.skipped x.kids (leaves (reverse (take last marks))) (read (reverse (take last marks))) (reverse terms)
      (omega (arith, whole_first.1, length-reverse terms))

  -- ---- a node

  module _ (n : ℕ) (e : x.kids ≡ suc n) where
    pub enough : x.kids ≤ count (reverse (take last marks))
    enough = whole_first.0.0

    pub others_whole : AreWhole (reverse (take last marks)) (length terms)
    others_whole = (whole_first.0.1, omega (arith, whole_first.1, ap is_leaf e))

    pub node_item : first_item (read (reverse marks) (reverse terms))
        ≡ (x.skipped, inside (items_changes (take x.kids (read (reverse (take last marks)) (reverse terms)))))
    node_item = ap (λ ms. first_item (read ms (reverse terms))) all
        ∙ first_node x n (reverse (take last marks)) (reverse terms) e

    many : length (take x.kids (read (reverse (take last marks)) (reverse terms))) ≡ suc n
    many = omega (
      arith,
      length-take x.kids (read (reverse (take last marks)) (reverse terms)),
      length-read (reverse (take last marks)) (reverse terms)
          (subst (λ k. AreWhole (reverse (take last marks)) k) (sym (length-reverse terms)) others_whole),
      enough,
      e,
    )

    module _ (now : List Tree) (m t : ℕ) (us : List Tree)
        (w : Walked (take last marks) terms now m t (take x.kids (read (reverse (take last marks)) (reverse terms)))
        (taken_items (take x.kids (read (reverse (take last marks)) (reverse terms))) us)) where
      up : Walked marks terms now m t
          ((x.skipped, inside (items_changes (take x.kids (read (reverse (take last marks)) (reverse terms))))) ∷ [])
          ((
            x.skipped,
            inside (items_changes (taken_items (take x.kids (read (reverse (take last marks)) (reverse terms))) us)),
          ) ∷ [])
      up = walked_node marks terms now last x d h is n m t
          (take x.kids (read (reverse (take last marks)) (reverse terms)))
          (taken_items (take x.kids (read (reverse (take last marks)) (reverse terms))) us)
          e many (length-taken (take x.kids (read (reverse (take last marks)) (reverse terms))) us ∙ many) w

    pub node_walked : (now : List Tree) (m t : ℕ) (tree : Tree)
        → Walked (take last marks) terms now m t (take x.kids (read (reverse (take last marks)) (reverse terms)))
        (taken_items (take x.kids (read (reverse (take last marks)) (reverse terms))) (children tree))
        → Walked marks terms now m t (first_item (read (reverse marks) (reverse terms)) ∷ [])
        ((
          (first_item (read (reverse marks) (reverse terms))).0,
          taken (first_item (read (reverse marks) (reverse terms))).1 tree,
        ) ∷ [])
    node_walked now m t tree w =
        subst (λ (y : Item). Walked marks terms now m t (y ∷ []) ((y.0, taken y.1 tree) ∷ [])) (sym node_item)
        (subst (λ cs. Walked marks terms now m t
        ((x.skipped, inside (items_changes (take x.kids (read (reverse (take last marks)) (reverse terms)))))
        ∷ []) ((x.skipped, inside cs) ∷ []))
        (sym (taken_of_items (take x.kids (read (reverse (take last marks)) (reverse terms))) (children tree)))
        (up now m t (children tree) w))

    pub node_passed : (now : List Tree) (m t : ℕ)
        → Walked (take last marks) terms now m t (take x.kids (read (reverse (take last marks)) (reverse terms)))
        (taken_items (take x.kids (read (reverse (take last marks)) (reverse terms))) [])
        → Walked marks terms now m t (first_item (read (reverse marks) (reverse terms)) ∷ [])
        (first_item (read (reverse marks) (reverse terms)) ∷ [])
    node_passed now m t w =
        subst (λ (y : Item). Walked marks terms now m t (y ∷ []) (y ∷ [])) (sym node_item)
        (subst (λ l. Walked marks terms now m t
        ((x.skipped, inside (items_changes (take x.kids (read (reverse (take last marks)) (reverse terms)))))
        ∷ []) ((x.skipped, inside (items_changes l)) ∷ []))
        (taken_nowhere (take x.kids (read (reverse (take last marks)) (reverse terms))))
        (up now m t [] w))

    pub node_changed : (tree new : Tree) (us : List Tree) → us
        ≡ changed_all (items_changes (take x.kids (read (reverse (take last marks)) (reverse terms)))) (children tree)
        → new ≡ with_children tree us → new ≡ changed (first_item (read (reverse marks) (reverse terms))).1 tree
    node_changed tree new us p q = q ∙ ap (with_children tree) p ∙ ap (λ (y : Item). changed y.1 tree) (sym node_item)

  -- ---- a term

  module _ (e : x.kids ≡ 0) where
    pub one : 0 < length terms
    one = omega (arith, whole_first.1, ap is_leaf e)

    module _ (t : ℕ) (c : Tree) (l : suc t ≡ length terms) where
      pub leaf_item : first_item (read (reverse marks) (reverse terms)) ≡ (x.skipped, replaced (get_or terms t c))
      leaf_item =
          (λ j. first_item (read (all j) (last_first terms t c l j)))
          ∙ first_leaf x (get_or terms t c) (reverse (take last marks)) (reverse (take t terms)) e

      pub leaf_walked : (tree : Tree)
          → Walked marks terms (set terms t tree) last t (first_item (read (reverse marks) (reverse terms)) ∷ [])
          ((
            (first_item (read (reverse marks) (reverse terms))).0,
            taken (first_item (read (reverse marks) (reverse terms))).1 tree,
          ) ∷ [])
      leaf_walked tree =
          subst (λ (y : Item). Walked marks terms (set terms t tree) last t (y ∷ []) ((y.0, taken y.1 tree) ∷ []))
          (sym leaf_item)
          (walked_leaf marks terms (set terms t tree) last x d h is t (get_or terms t c) tree c e l refl
          (get_set terms t tree c (omega (arith, l))) (take-set terms t tree) (length-set terms t tree) whole)

      pub leaf_passed : Walked marks terms terms last t (first_item (read (reverse marks) (reverse terms)) ∷ [])
          (first_item (read (reverse marks) (reverse terms)) ∷ [])
      leaf_passed =
          subst (λ (y : Item). Walked marks terms terms last t (y ∷ []) (y ∷ [])) (sym leaf_item)
          (walked_leaf marks terms terms last x d h is t (get_or terms t c) (get_or terms t c) c e l refl refl refl
          refl whole)

-- ---- the places below the children of a node, one after the other

module _ (marks : List PlaceMark) (terms now : List Tree) (m t k kids : ℕ) (found : List Item)
    (enough : kids ≤ count (reverse marks)) (whole : AreWhole (reverse marks) (length terms)) (l : k < kids)
    (w : Walked marks terms now m t (take k (read (reverse marks) (reverse terms))) found) where
  long : length (read (reverse marks) (reverse terms)) ≡ count (reverse marks)
  long = length-read (reverse marks) (reverse terms)
      (subst (λ n. AreWhole (reverse marks) n) (sym (length-reverse terms)) whole)

  read_so_far : length (take k (read (reverse marks) (reverse terms))) ≡ k
  read_so_far = omega (arith, length-take k (read (reverse marks) (reverse terms)), long, enough, l)

  -- what is left says the other items
  pub left_say : read (reverse (take m marks)) (reverse (take t now)) ≡ drop k (read (reverse marks) (reverse terms))
  left_say =
      ap (λ us. read (reverse (take m marks)) (reverse us)) w.stay
      ∙ sym (drop-append_seam (take k (read (reverse marks) (reverse terms)))
      (read (reverse (take m marks)) (reverse (take t terms))))
      ∙ (λ j. drop (read_so_far j)
      (sym (walked_rest marks terms now m t (take k (read (reverse marks) (reverse terms))) found w) j))

  pub some_left : 0 < length (take m marks)
  some_left = of_count (take m marks) (omega (arith, w.counted, read_so_far, enough, l))

  pub rest_whole : AreWhole (reverse (take m marks)) (length (take t now))
  rest_whole = subst (λ n. AreWhole (reverse (take m marks)) n)
      (omega (arith, length-take t now, w.terms_left, w.as_many)) w.whole

  pub next_walked : (next : List Tree) (n u k1 : ℕ) (more : List Item) → k1 ≡ suc k
      → Walked (take m marks) (take t now) next n u
      (first_item (read (reverse (take m marks)) (reverse (take t now))) ∷ []) more
      → Walked marks terms (next ++ drop t now) n u (take k1 (read (reverse marks) (reverse terms))) (found ++ more)
  next_walked next n u k1 more e v =
      subst (λ l. Walked marks terms (next ++ drop t now) n u l (found ++ more))
      (sym (ap (λ j. take j (read (reverse marks) (reverse terms))) e
      ∙ one_more k (read (reverse marks) (reverse terms)) (omega (arith, long, enough, l))
      ∙ ap (λ xs. take k (read (reverse marks) (reverse terms)) ++ first_item xs ∷ []) (sym left_say)))
      (walked_then marks terms now next m t n u (take k (read (reverse marks) (reverse terms))) found
      (first_item (read (reverse (take m marks)) (reverse (take t now))) ∷ []) more w v)

  -- the items of the node that are left
  pub next_item : (k1 : ℕ) → k1 ≡ suc k
      → drop k (take kids (read (reverse marks) (reverse terms)))
      ≡ first_item (read (reverse (take m marks)) (reverse (take t now)))
      ∷ drop k1 (take kids (read (reverse marks) (reverse terms)))
  next_item k1 e =
      first_within k kids (read (reverse marks) (reverse terms)) l (omega (arith, long, enough))
      ∙ (λ j. first_item (sym left_say j) ∷ drop (sym e j) (take kids (read (reverse marks) (reverse terms))))
