-- The forms of a signature, and where they are listed.
use Rattle.std.proofs.Common.{◌≡◌, inl, inr, ℕ, zero, suc, ◌<◌, List, [], ◌∷◌, ◌++◌, length, set, Some, Vec, Global, refl, sym, ap, ◌∙◌, subst, arith}
use Rattle.std.specs.declared.option.Option.{Option}
use Rattle.std.specs.Option.{option_map, IsSomeAnd}
use Rattle.std.specs.List.{Contains, slice_get}
use Rattle.std.proofs.lemmas.Option.{slice_get-map}
use Rattle.std.proofs.lemmas.List.Elements.{Contains-push, Contains-append_left, Contains-push_cases}
use Rattle.term_sorts.specs.Sorts.{Sort, Declaration, AreDeclaredOnce}
use Rattle.term_sorts.specs.inside.Tables.{KeepNumbers}
use Rattle.term_sorts.specs.inside.Forms.{declarations_in, bucket_of, IsForm, HasOther, AreSame}
use Rattle.term_sorts.specs.declared.signature.Form.{Form}
use Rattle.term_sorts.proofs.ListLemmas.{place_of, place_cases}
use Rattle.term_sorts.proofs.TableLemmas.{numbers_kept}
use Rattle.term_sorts.proofs.GainLemmas.{same_or_not}

abbrev pub Numbers : Type 0
Numbers = Vec ℕ Global

pub declaration_of_form : (forms : List Form) (k : ℕ) (f : Form) → slice_get forms k ≡ Some f
    → slice_get (declarations_in forms) k ≡ Some f.declaration
declaration_of_form forms k f e = slice_get-map (λ (f : Form). f.declaration) forms k
    ∙ ap (λ o. option_map (λ (f : Form). f.declaration) o) e

pub form_of_declaration : (forms : List Form) (k : ℕ) (d : Declaration) → slice_get (declarations_in forms) k ≡ Some d
    → (f : Form) × (slice_get forms k ≡ Some f) × (f.declaration ≡ d)
form_of_declaration [] k d e = absurd (cc)
form_of_declaration (f ∷ forms) zero d e = (f, refl, (cc))
form_of_declaration (f ∷ forms) (suc k) d e = form_of_declaration forms k d e

-- the form of a declaration among those of the forms
pub form_of : (forms : List Form) (d : Declaration) → Contains (declarations_in forms) d
    → (k : ℕ) × (f : Form) × (slice_get forms k ≡ Some f) × (f.declaration ≡ d)
form_of forms d h =
    let p = place_of (declarations_in forms) d h in
    let f = form_of_declaration forms p.0 d p.1 in (p.0, f.0, f.1, f.2)

pub declarations_push : (forms : List Form) (f : Form)
    → declarations_in (forms ++ f ∷ []) ≡ declarations_in forms ++ f.declaration ∷ []
declarations_push [] f = refl
declarations_push (g ∷ forms) f = ap (λ l. g.declaration ∷ l) (declarations_push forms f)

-- ---- one more declaration

module _ (ds : List Declaration) (d : Declaration) where
  pub still_once : AreDeclaredOnce ds → AreSame ds d → AreDeclaredOnce (ds ++ d ∷ [])
  still_once once same b c h k e l =
      elim (Contains-push_cases ds d b h) as (λ _. b ≡ c) [
        | inl x ↦ elim (Contains-push_cases ds d c k) as (λ _. b ≡ c) [
          | inl y ↦ once b c x y e l
          | inr y ↦ same b x
              (l ∙ ap (λ (q : Declaration). length q.arguments) (sym y), e ∙ ap (λ (q : Declaration). q.name) (sym y))
              ∙ y
        ]
        | inr x ↦ elim (Contains-push_cases ds d c k) as (λ _. b ≡ c) [
          | inl y ↦ sym x ∙ sym (same c y (
            sym l ∙ ap (λ (q : Declaration). length q.arguments) (sym x),
            sym e ∙ ap (λ (q : Declaration). q.name) (sym x),
          ))
          | inr y ↦ sym x ∙ y
        ]
      ]

  pub other_shows : HasOther ds d → AreDeclaredOnce (ds ++ d ∷ []) → ⊥
  other_shows h once = h.3 (once h.0 d (Contains-append_left ds (d ∷ []) h.0 h.1) (Contains-push ds d) h.2.1 h.2.0)

-- ---- one item of a list is set

module _ {X : Type 0} where
  pub place_set : (xs : List X) (i : ℕ) (x : X) → i < length xs → slice_get (set xs i x) i ≡ Some x
  place_set [] i x h = absurd (omega arith)
  place_set (y ∷ xs) zero x h = refl
  place_set (y ∷ xs) (suc i) x h = place_set xs i x (omega arith)

  pub place_unset : (xs : List X) (i k : ℕ) (x : X) → (k ≡ i → ⊥) → slice_get (set xs i x) k ≡ slice_get xs k
  place_unset [] i k x differ = refl
  place_unset (y ∷ xs) zero zero x differ = absurd (differ refl)
  place_unset (y ∷ xs) zero (suc k) x differ = refl
  place_unset (y ∷ xs) (suc i) zero x differ = refl
  place_unset (y ∷ xs) (suc i) (suc k) x differ = place_unset xs i k x (λ e. differ (ap suc e))

-- ---- one more form

-- the forms are listed in their buckets
abbrev pub AreListed : List Form → List Numbers → Type 0
AreListed forms buckets =
    (k : ℕ) (f : Form) → slice_get forms k ≡ Some f
    → IsSomeAnd (slice_get buckets (bucket_of f.declaration.name (length f.declaration.arguments)))
    (λ numbers. Contains numbers.items k)

module _ (forms : List Form) (buckets : List Numbers) (new : Form) (old filled : Numbers) (b : ℕ)
    (below : b < length buckets)
    (is : b ≡ bucket_of new.declaration.name (length new.declaration.arguments)) (read : slice_get buckets b ≡ Some old)
    (one_more : filled.items ≡ old.items ++ length forms ∷ []) where
  listed_here : (k : ℕ) → Contains filled.items k
      → IsSomeAnd (slice_get (set buckets b filled) b) (λ numbers. Contains numbers.items k)
  listed_here k h = subst (λ (o : Option Numbers). IsSomeAnd o (λ numbers. Contains numbers.items k))
      (sym (place_set buckets b filled below)) h

  listed_before : (k n : ℕ) → IsSomeAnd (slice_get buckets n) (λ numbers. Contains numbers.items k)
      → IsSomeAnd (slice_get (set buckets b filled) n) (λ numbers. Contains numbers.items k)
  listed_before k n h =
      elim (same_or_not b n) as (λ _.
      IsSomeAnd (slice_get (set buckets b filled) n) (λ numbers. Contains numbers.items k)) [
        | inl e ↦
            subst (λ (m : ℕ). IsSomeAnd (slice_get (set buckets b filled) m) (λ numbers. Contains numbers.items k))
            (sym e) (listed_here k
            (subst (λ (l : List ℕ). Contains l k) (sym one_more) (Contains-append_left old.items (length forms ∷ []) k
            (subst (λ (o : Option Numbers). IsSomeAnd o (λ numbers. Contains numbers.items k))
            (ap (λ (m : ℕ). slice_get buckets m) e ∙ read) h))))
        | inr differ ↦ subst (λ (o : Option Numbers). IsSomeAnd o (λ numbers. Contains numbers.items k))
            (sym (place_unset buckets b n filled differ)) h
      ]

  pub listed_more : AreListed forms buckets → AreListed (forms ++ new ∷ []) (set buckets b filled)
  listed_more listed k f e =
      elim (place_cases forms new f k e)
      as (λ _.
      IsSomeAnd (slice_get (set buckets b filled) (bucket_of f.declaration.name (length f.declaration.arguments)))
      (λ numbers. Contains numbers.items k)) [
        | inl x ↦ listed_before k (bucket_of f.declaration.name (length f.declaration.arguments)) (listed k f x)
        | inr x ↦
            subst (λ (m : ℕ). IsSomeAnd (slice_get (set buckets b filled) m) (λ numbers. Contains numbers.items k))
            (is ∙ ap (λ (g : Form). bucket_of g.declaration.name (length g.declaration.arguments)) (sym x.1))
            (listed_here k (subst (λ (l : List ℕ). Contains l k) (sym one_more)
            (subst (λ (n : ℕ). Contains (old.items ++ length forms ∷ []) n) (sym x.0)
            (Contains-push old.items (length forms)))))
      ]

pub forms_more : (old new : List Sort) (forms : List Form) (f : Form) → KeepNumbers old new → IsForm new f
    → ((k : ℕ) (g : Form) → slice_get forms k ≡ Some g → IsForm old g) → (k : ℕ) (g : Form)
    → slice_get (forms ++ f ∷ []) k ≡ Some g → IsForm new g
forms_more old new forms f keep right all k g e =
    elim (place_cases forms f g k e) as (λ _. IsForm new g) [
      | inl x ↦ let h = all k g x in (
        numbers_kept old new keep g.arguments.items g.declaration.arguments h.0,
        keep g.given g.declaration.result h.1,
      )
      | inr x ↦ subst (λ (h : Form). IsForm new h) (sym x.1) right
    ]
