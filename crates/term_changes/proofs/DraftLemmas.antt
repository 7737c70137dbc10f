-- The last mark of a draft.
use Rattle.std.proofs.Common.{◌≡◌, ℕ, zero, suc, ◌≤◌, List, [], ◌∷◌, ◌++◌, length, take, set, get_or, reverse, refl, sym, ap, subst, ◌∙◌, arith}
use Rattle.std.proofs.lemmas.List.{length-set, length-reverse, reverse-append}
use Rattle.term_core.specs.Tree.{Tree}
use Rattle.term_changes.specs.Change.{changed}
use Rattle.term_changes.proofs.NodeLemmas.{same_children}
use Rattle.term_changes.specs.Items.{Item, gathered, after_skipped, first_change}
use Rattle.term_changes.specs.inside.Marks.{read, read_mark, is_leaf, AreWhole}
use Rattle.term_changes.specs.declared.draft.PlaceMark.{PlaceMark}
use Rattle.term_changes.proofs.WalkedLemmas.{last_first, length-read}
use Rattle.term_changes.proofs.ExchangeLemmas.{get_set, take-set}

other_gap : (s r k : ℕ) (others : List Tree → List Item) (ts : List Tree)
    → read_mark s k others ts ≡ after_skipped s (read_mark r k others ts)
other_gap s r zero others [] = refl
other_gap s r zero others (t ∷ ts) = refl
other_gap s r (suc k) others ts = refl

-- PlaceMark x is the last one, and y takes its place.
module _ (marks : List PlaceMark) (last : ℕ) (x y d : PlaceMark) (h : suc last ≡ length marks)
    (is : get_or marks last d ≡ x) (e : y.kids ≡ x.kids) where
  before : reverse marks ≡ x ∷ reverse (take last marks)
  before = last_first marks last d h ∙ ap (λ z. z ∷ reverse (take last marks)) is

  after : reverse (set marks last y) ≡ y ∷ reverse (take last marks)
  after =
      last_first (set marks last y) last d (omega (arith, h, length-set marks last y))
      ∙ (λ j. get_set marks last y d (omega (arith, h)) j ∷ reverse (take-set marks last y j))

  pub left_whole : (n : ℕ) → AreWhole (reverse marks) n → AreWhole (reverse (set marks last y)) n
  left_whole n w =
      let first : AreWhole (x ∷ reverse (take last marks)) n = subst (λ ms. AreWhole ms n) before w in
      let now : AreWhole (y ∷ reverse (take last marks)) n =
      ((omega (arith, first.0.0, e), first.0.1), omega (arith, first.1, ap is_leaf e)) in
      subst (λ ms. AreWhole ms n) (sym after) now

  pub left_read : (ts : List Tree)
      → read (reverse (set marks last y)) ts ≡ after_skipped y.skipped (read (reverse marks) ts)
  left_read ts =
      ap (λ ms. read ms ts) after
      ∙ ap (λ k. read_mark y.skipped k (read (reverse (take last marks))) ts) e
      ∙ other_gap y.skipped x.skipped x.kids (read (reverse (take last marks))) ts
      ∙ ap (λ ms. after_skipped y.skipped (read ms ts)) (sym before)

-- PlaceMark x is added.
module _ (marks new : List PlaceMark) (x : PlaceMark) (h : new ≡ marks ++ x ∷ []) where
  first : reverse new ≡ x ∷ reverse marks
  first = ap reverse h ∙ reverse-append marks (x ∷ [])

  module _ (n : ℕ) (e : x.kids ≡ suc n) where
    pub node_whole : (terms : List Tree) → AreWhole (reverse marks) (length terms)
        → x.kids ≤ length (read (reverse marks) (reverse terms)) → AreWhole (reverse new) (length terms)
    node_whole terms w l =
        let many = length-read (reverse marks) (reverse terms)
        (subst (λ k. AreWhole (reverse marks) k) (sym (length-reverse terms)) w) in
        let now : AreWhole (x ∷ reverse marks) (length terms) =
        ((omega (arith, l, many), w.0), omega (arith, w.1, ap is_leaf e)) in
        subst (λ ms. AreWhole ms (length terms)) (sym first) now

    pub node_read : (ts : List Tree) → x.skipped ≡ 0 → read (reverse new) ts ≡ gathered x.kids (read (reverse marks) ts)
    node_read ts s =
        ap (λ ms. read ms ts) first
        ∙ (λ j. read_mark (s j) (e j) (read (reverse marks)) ts)
        ∙ ap (λ k. gathered k (read (reverse marks) ts)) (sym e)

-- No marks change nothing.
pub none_changed : (marks : List PlaceMark) (ts : List Tree) (t : Tree)
    → length marks ≡ 0 → changed (first_change (read (reverse marks) ts)) t ≡ t
none_changed [] ts t h = same_children t
none_changed (x ∷ marks) ts t h = absurd (omega (arith, h))
