-- Keeping the first occurrence of each name.
use Rattle.std.proofs.Common.{◌≡◌, ℕ, suc, ◌+◌, ◌<◌, ◌||◌, Bool, true, false, List, [], ◌∷◌, ◌++◌, length, get_or, take, drop, refl, sym, ap, ◌∙◌, subst, arith, add-one, drop-cons, append_assoc, append-nil}
use Rattle.std.proofs.Math.Seq.{take-suc}
use Rattle.std.proofs.lemmas.Bool.{not-true, not-false}
use Rattle.std.proofs.lemmas.List.{drop_all}
use Rattle.std.proofs.lemmas.List.Folds.{list_any-append}
use Rattle.std.specs.Prelude.{cond, if◌then◌else◌, not}
use Rattle.std.specs.Borrow.{Bor}
use Rattle.term_core.specs.Tree.{Symbol, same_name}
use Rattle.term_core.proofs.SameName.{same_name-true, same_name-sym}
use Rattle.strategy_syntax.specs.Lists.{is_among, first_ones}

-- ---- the names kept

-- the names kept of the first i, followed by what the rest adds
abbrev pub Kept : List Symbol → List Symbol → List Symbol → ℕ → Type 0
Kept others kept names i =
    kept ++ first_ones same_name (others ++ kept) (drop i names) ≡ first_ones same_name others names

pub kept-start : (others names : List Symbol) → Kept others [] names 0
kept-start others names = ap (λ l. first_ones same_name l names) (append-nil others)

module _ (others kept names : List Symbol) (i : ℕ) (x : Symbol) (h : Kept others kept names i) (lt : i < length names)
    (at : x ≡ get_or names i x) where
  next : drop i names ≡ x ∷ drop (suc i) names
  next = drop-cons names i x lt ∙ ap (λ y. y ∷ drop (suc i) names) (sym at)

  -- the final names, if x is among the names seen and if it isn't
  abbrev whole : Bool → List Symbol
  whole b =
      kept ++ (if b then first_ones same_name (others ++ kept) (drop (suc i) names)
      else x ∷ first_ones same_name ((others ++ kept) ++ x ∷ []) (drop (suc i) names))

  whole-is : (b : Bool) → is_among same_name x (others ++ kept) ≡ b → whole b ≡ first_ones same_name others names
  whole-is b e =
      ap whole (sym e) ∙ ap (λ l. kept ++ first_ones same_name (others ++ kept) l) (sym next) ∙ h

  pub kept-skip : is_among same_name x (others ++ kept) ≡ true → Kept others kept names (i + 1)
  kept-skip e = rw add-one (whole-is true e)

  pub kept-more : is_among same_name x (others ++ kept) ≡ false → Kept others (kept ++ x ∷ []) names (i + 1)
  kept-more e =
      rw add-one
      (append_assoc kept (x ∷ []) (first_ones same_name (others ++ (kept ++ x ∷ [])) (drop (suc i) names))
      ∙ ap (λ l. kept ++ x ∷ first_ones same_name l (drop (suc i) names)) (sym (append_assoc others kept (x ∷ [])))
      ∙ whole-is false e)

pub kept-end : (others kept names : List Symbol) → Kept others kept names (length names)
    → kept ≡ first_ones same_name others names
kept-end others kept names h =
    sym (append-nil kept)
    ∙ ap (λ l. kept ++ first_ones same_name (others ++ kept) l) (sym (drop_all (length names) names (omega arith))) ∙ h

-- ---- names seen, by a set of references to them

abbrev pub same_referred : Bor Symbol → Bor Symbol → Bool
same_referred q r = same_name q.now r.now

-- the set holds exactly these names
abbrev pub Saw : (Bor Symbol → Bool) → List Symbol → Type 0
Saw has fs = (q : Bor Symbol) → has q ≡ is_among same_name q.now fs

among-insert : (f x : Symbol) (fs : List Symbol)
    → is_among same_name f (fs ++ x ∷ []) ≡ cond (same_name x f) true (is_among same_name f fs)
among-insert f x fs =
    list_any-append (same_name f) fs (x ∷ []) ∙ ap (λ b. is_among same_name f fs || (b || false)) (same_name-sym f x)
    ∙ by (same_name x f) (is_among same_name f fs) where
      by : (b a : Bool) → (a || (b || false)) ≡ cond b true a
      by true true = refl
      by true false = refl
      by false true = refl
      by false false = refl

-- adding a name that is already there changes nothing
among-again : (f x : Symbol) (fs : List Symbol)
    → is_among same_name x fs ≡ true → is_among same_name f (fs ++ x ∷ []) ≡ is_among same_name f fs
among-again f x fs h = among-insert f x fs ∙ by (same_name x f) refl where
  by : (b : Bool) → same_name x f ≡ b → cond b true (is_among same_name f fs) ≡ is_among same_name f fs
  by true e = sym h ∙ ap (λ g. is_among same_name g fs) (same_name-true x f e)
  by false e = refl

module _ (has more : Bor Symbol → Bool) (fs : List Symbol) (x : Symbol) (saw : Saw has fs)
    (updates : (q : Bor Symbol) → more q ≡ cond (same_name x q.now) true (has q)) where
  pub saw-more : Saw more (fs ++ x ∷ [])
  saw-more q = updates q ∙ ap (λ b. cond (same_name x q.now) true b) (saw q) ∙ sym (among-insert q.now x fs)

  pub saw-again : is_among same_name x fs ≡ true → Saw more fs
  saw-again h q = saw-more q ∙ among-again q.now x fs h

-- ---- a step over one name

pub seen-next : (f x : Symbol) (fs : List Symbol) (i : ℕ) → i < length fs → x ≡ get_or fs i x
    → is_among same_name f (take i fs ++ x ∷ []) ≡ is_among same_name f (take (i + 1) fs)
seen-next f x fs i lt at =
    rw add-one (ap (is_among same_name f) (ap (λ y. take i fs ++ y ∷ []) at ∙ sym (take-suc fs i x lt)))

module _ (has more : Bor Symbol → Bool) (others kept names : List Symbol) (i : ℕ) (x : Symbol)
    (saw : Saw has (others ++ kept)) (h : Kept others kept names i)
    (updates : (q : Bor Symbol) → more q ≡ cond (same_name x q.now) true (has q)) (lt : i < length names)
    (at : x ≡ get_or names i x) (added : Bool) (told : added ≡ not (is_among same_name x (others ++ kept))) where
  pub step-kept : (kept' : List Symbol)
      → added ≡ true → kept' ≡ kept ++ x ∷ [] → Saw more (others ++ kept') × Kept others kept' names (i + 1)
  step-kept kept' e same =
      subst (λ l. Saw more (others ++ l) × Kept others l names (i + 1)) (sym same) (
        subst (λ l. Saw more l) (append_assoc others kept (x ∷ [])) (saw-more has more (others ++ kept) x saw updates),
        kept-more others kept names i x h lt at (not-true (is_among same_name x (others ++ kept)) (sym told ∙ e)),
      )

  pub step-skipped : (kept' : List Symbol)
      → added ≡ false → kept' ≡ kept → Saw more (others ++ kept') × Kept others kept' names (i + 1)
  step-skipped kept' e same =
      let there : is_among same_name x (others ++ kept) ≡ true =
      not-false (is_among same_name x (others ++ kept)) (sym told ∙ e) in
      subst (λ l. Saw more (others ++ l) × Kept others l names (i + 1)) (sym same) (
        saw-again has more (others ++ kept) x saw updates there,
        kept-skip others kept names i x h lt at there,
      )
