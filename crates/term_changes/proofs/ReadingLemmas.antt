-- Reading a patch from its end.
use Rattle.std.proofs.Common.{◌≡◌, ℕ, suc, ◌+◌, ◌≤◌, List, [], ◌∷◌, ◌++◌, length, take, drop, reverse, refl, sym, ap, subst, ◌∙◌, arith}
use Rattle.std.proofs.lemmas.List.{reverse-append, length-append, length-reverse}
use Rattle.term_core.specs.Tree.{Tree}
use Rattle.term_changes.specs.Change.{inside, replaced}
use Rattle.term_changes.specs.Items.{items_changes}
use Rattle.term_changes.specs.inside.Marks.{read, read_mark, is_leaf, AreWhole}
use Rattle.term_changes.specs.declared.draft.PlaceMark.{PlaceMark}
use Rattle.term_changes.proofs.WalkedLemmas.{length-read}

none_left : {X : Type 0} (xs : List X) → length xs ≡ 0 → xs ≡ []
none_left [] e = refl
none_left (x ∷ xs) e = absurd (omega (arith, e))

pub read_none : (marks : List PlaceMark) (ts : List Tree) → length marks ≡ 0 → read (reverse marks) ts ≡ []
read_none marks ts e = ap (λ l. read (reverse l) ts) (none_left marks e)

module _ (marks rest : List PlaceMark) (x : PlaceMark) (is : marks ≡ rest ++ x ∷ []) where
  last_first : reverse marks ≡ x ∷ reverse rest
  last_first = ap reverse is ∙ reverse-append rest (x ∷ [])

  module _ (terms : List Tree) (whole : AreWhole (reverse marks) (length terms)) where
    whole_first : AreWhole (x ∷ reverse rest) (length terms)
    whole_first = subst (λ l. AreWhole l (length terms)) last_first whole

    -- a node
    module _ (n : ℕ) (e : x.kids ≡ suc n) where
      pub whole_kids : AreWhole (reverse rest) (length terms)
      whole_kids = (whole_first.0.1, omega (arith, whole_first.1, ap is_leaf e))

      pub enough_kids : x.kids ≤ length (read (reverse rest) (reverse terms))
      enough_kids =
          let reversed = length-reverse terms in
          omega (
            arith,
            whole_first.0.0,
            length-read (reverse rest) (reverse terms) (subst (AreWhole (reverse rest)) (sym reversed) whole_kids),
          )

      pub node_read : read (reverse marks) (reverse terms)
          ≡ (x.skipped, inside (items_changes (take x.kids (read (reverse rest) (reverse terms)))))
          ∷ drop x.kids (read (reverse rest) (reverse terms))
      node_read =
          let others = read (reverse rest) (reverse terms) in
          ap (λ l. read l (reverse terms)) last_first
          ∙ ap (λ k. read_mark x.skipped k (read (reverse rest)) (reverse terms)) e
          ∙ ap (λ k. (x.skipped, inside (items_changes (take k others))) ∷ drop k others) (sym e)

    -- a term
    module _ (e : x.kids ≡ 0) where
      pub some_term : 1 ≤ length terms
      some_term = omega (arith, whole_first.1, ap is_leaf e)

      module _ (others : List Tree) (t : Tree) (are : terms ≡ others ++ t ∷ []) where
        pub whole_others : AreWhole (reverse rest) (length others)
        whole_others =
            (whole_first.0.1, omega (arith, whole_first.1, ap is_leaf e, ap length are, length-append others (t ∷ [])))

        pub term_read : read (reverse marks) (reverse terms)
            ≡ (x.skipped, replaced t) ∷ read (reverse rest) (reverse others)
        term_read =
            ap (λ l. read l (reverse terms)) last_first
            ∙ ap (λ k. read_mark x.skipped k (read (reverse rest)) (reverse terms)) e
            ∙ ap (λ l. read_mark x.skipped 0 (read (reverse rest)) l) (ap reverse are ∙ reverse-append others (t ∷ []))
