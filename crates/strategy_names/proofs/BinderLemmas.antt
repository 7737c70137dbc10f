-- Stored binders, and the map of their numbers.
use Rattle.std.proofs.Common.{◌≡◌, ℕ, zero, suc, add-one, ◌+◌, ◌-◌, ◌<◌, Bool, true, false, cond, List, [], ◌∷◌, ◌++◌, length, length-append, append_assoc, append-nil, reverse, map, drop, slice_get, Option, Some, None, is_some, IsSome, ◌↔◌, refl, sym, ap, ◌∙◌, subst, arith}
use Rattle.std.specs.Prelude.{option_to_list, if◌then◌else◌}
use Rattle.std.specs.Option.{option_flatten}
use Rattle.std.specs.HashMap.{get}
use mathlib.Core.List.{reverse_aux}
use Rattle.std.proofs.lemmas.List.{reverse-append}
use Rattle.term_core.specs.Tree.{Symbol, same_name}
use Rattle.term_core.proofs.SameName.{same_name-true}
use Rattle.strategy_names.specs.declared.binders.OpenBinder.{OpenBinder}
use Rattle.strategy_names.specs.Binders.{Binder, binder_number, bound_from, names_of}
use Rattle.strategy_names.specs.inside.BinderView.{Numbers, number_in, binder_of, binders_of, Hides, IsKept}

-- the innermost comes first
pub binders_of-last : (es : List OpenBinder) (e : OpenBinder) → binders_of (es ++ e ∷ []) ≡ binder_of e ∷ binders_of es
binders_of-last es e = ap (map binder_of) (reverse-append es (e ∷ []))

flatten-cond : (b : Bool) (o : Option (Option ℕ)) (v : Option ℕ)
    → option_flatten (cond b (Some v) o) ≡ (if b then v else option_flatten o)
flatten-cond true o v = refl
flatten-cond false o v = refl

module _ (m n : Numbers) (es : List OpenBinder) (e : OpenBinder) (k : Symbol) where
  pub opened : IsKept m es
      → ((q : Symbol) → get same_name n q ≡ cond (same_name k q) (Some (Some e.number)) (get same_name m q))
      → e.name ≡ k → e.hidden ≡ option_flatten (get same_name m k) → IsKept n (es ++ e ∷ [])
  opened kept updates named hides = record {
    numbers = λ f.
        ap option_flatten (updates f) ∙ flatten-cond (same_name k f) (get same_name m f) (Some e.number)
        ∙ ap (λ o. if same_name k f then Some e.number else o) (kept.numbers f)
        ∙ ap (λ x. if same_name x f then Some e.number else binder_number f (binders_of es)) (sym named)
        ∙ ap (binder_number f) (sym (binders_of-last es e));
    hidden = subst Hides (sym (reverse-append es (e ∷ []))) (
      hides ∙ kept.numbers k ∙ ap (λ x. binder_number x (binders_of es)) (sym named),
      kept.hidden,
    );
  }

  pub closed : IsKept m
      (es ++ e ∷ []) → ((q : Symbol) → get same_name n q ≡ cond (same_name k q) (Some e.hidden) (get same_name m q))
      → k ≡ e.name → IsKept n es
  closed kept updates named = record {
    numbers = λ f.
        ap option_flatten (updates f) ∙ flatten-cond (same_name k f) (get same_name m f) e.hidden
        ∙ ap (λ x. if same_name x f then e.hidden else number_in m f) named
        ∙ by f (same_name e.name f) refl;
    hidden = hides.1;
  } where
    hides : (e.hidden ≡ binder_number e.name (binders_of es)) × Hides (reverse es)
    hides = subst Hides (reverse-append es (e ∷ [])) kept.hidden

    inside : (f : Symbol)
        → number_in m f ≡ (if same_name e.name f then Some e.number else binder_number f (binders_of es))
    inside f = kept.numbers f ∙ ap (binder_number f) (binders_of-last es e)

    by : (f : Symbol) (b : Bool)
        → same_name e.name f ≡ b → (if b then e.hidden else number_in m f) ≡ binder_number f (binders_of es)
    by f true t = hides.0 ∙ ap (λ x. binder_number x (binders_of es)) (same_name-true e.name f t)
    by f false t = inside f ∙ ap (λ b. if b then Some e.number else binder_number f (binders_of es)) t

-- the last element of a list that ends with it
slice_get-last : {X : Type 0} (xs : List X) (x : X) → slice_get (xs ++ x ∷ []) (length xs) ≡ Some x
slice_get-last [] x = refl
slice_get-last (y ∷ xs) x = slice_get-last xs x

last_place : {X : Type 0} (xs : List X) (x : X) → length (xs ++ x ∷ []) - 1 ≡ length xs
last_place xs x = rw (length-append xs (x ∷ [])) (omega arith)

pub last_is : (es fs : List OpenBinder) (o : Option OpenBinder) (x : OpenBinder) → es ≡ fs ++ option_to_list o
    → (IsSome o ↔ (0 < length es))
    → Some x ≡ slice_get es (length es - 1) → es ≡ fs ++ x ∷ []
last_is es fs None x e some at = absurd (empty es some.1 at)
  where
    nothing : Option OpenBinder
    nothing = None

    none_there : {o : Option OpenBinder} → o ≡ None → IsSome o → ⊥
    none_there h k = let no : ◌≡◌ {A = Bool} false true = sym (ap is_some h) ∙ k in cc

    empty : (es : List OpenBinder) → (0 < length es → IsSome nothing) → Some x ≡ slice_get es (length es - 1) → ⊥
    empty [] h at = cc
    empty (y ∷ es) h at = none_there refl (h (omega arith))
last_is es fs (Some y) x e some at =
    let found : slice_get es (length es - 1) ≡ Some y =
    ap (λ l. slice_get l (length l - 1)) e ∙ ap (slice_get (fs ++ y ∷ [])) (last_place fs y) ∙ slice_get-last fs y in
    e ∙ ap (λ z. fs ++ z ∷ []) (sym (same (at ∙ found)))
  where
    same : {y x : OpenBinder} → Some x ≡ Some y → x ≡ y
    same h = cc

-- ---- several at once

suc-plus : (a b : ℕ) → suc a + b ≡ suc (a + b)
suc-plus a b = omega arith

plus-suc : (a b : ℕ) → a + suc b ≡ suc (a + b)
plus-suc a b = omega arith

plus-zero : (a : ℕ) → a + 0 ≡ a
plus-zero a = omega arith

drop-within : (n : ℕ) (xs : List Symbol) (bs : List Binder) (i : ℕ)
    → drop (length xs + i) (bound_from n xs bs) ≡ drop i bs
drop-within n [] bs i = ap (λ k. drop k bs) (omega arith)
drop-within n (x ∷ xs) bs i =
    ap (λ k. drop k (bound_from (n + 1) xs (record { name = x; number = n } ∷ bs))) (suc-plus (length xs) i)
    ∙ ap (λ k. drop k (bound_from (n + 1) xs (record { name = x; number = n } ∷ bs))) (sym (plus-suc (length xs) i))
    ∙ drop-within (n + 1) xs (record { name = x; number = n } ∷ bs) (suc i)

pub drop-bound_from : (n : ℕ) (xs : List Symbol) (bs : List Binder) → drop (length xs) (bound_from n xs bs) ≡ bs
drop-bound_from n xs bs = ap (λ k. drop k (bound_from n xs bs)) (sym (plus-zero (length xs))) ∙ drop-within n xs bs 0

pub length-bound_from : (n : ℕ) (xs : List Symbol) (bs : List Binder)
    → length (bound_from n xs bs) ≡ length xs + length bs
length-bound_from n [] bs = omega arith
length-bound_from n (x ∷ xs) bs = length-bound_from (n + 1) xs (record { name = x; number = n } ∷ bs) ∙ omega arith

pub drop-one : (n : ℕ) (bs : List Binder) → drop 1 (drop n bs) ≡ drop (n + 1) bs
drop-one n bs = rw add-one (more n bs) where
  more : (n : ℕ) (bs : List Binder) → drop 1 (drop n bs) ≡ drop (suc n) bs
  more zero bs = refl
  more (suc n) [] = refl
  more (suc n) (b ∷ bs) = more n bs

pub bound_count : (n : ℕ) (xs : List Symbol) → length (bound_from n xs []) ≡ length xs
bound_count n xs = length-bound_from n xs [] ∙ plus-zero (length xs)

-- ---- the names of binders

stored_names : (es : List OpenBinder) → names_of (map binder_of (reverse es)) ≡ map (λ e. e.name) es
stored_names es = by es [] where
  by : (es fs : List OpenBinder)
      → names_of (map binder_of (reverse_aux es fs)) ≡ names_of (map binder_of fs) ++ map (λ e. e.name) es
  by [] fs = sym (append-nil (names_of (map binder_of fs)))
  by (e ∷ es) fs = by es (e ∷ fs) ∙ append_assoc (names_of (map binder_of fs)) (e.name ∷ []) (map (λ e. e.name) es)

-- the names taken so far, followed by the others
pub names_all : (es : List OpenBinder) (ns : List Symbol) → ns ≡ map (λ e. e.name) es → ns ≡ names_of (binders_of es)
names_all es ns e = e ∙ sym (stored_names es)

pub bound_names : (n : ℕ) (xs : List Symbol) (bs : List Binder) → names_of (bound_from n xs bs) ≡ names_of bs ++ xs
bound_names n [] bs = sym (append-nil (names_of bs))
bound_names n (x ∷ xs) bs =
    bound_names (n + 1) xs (record { name = x; number = n } ∷ bs) ∙ append_assoc (names_of bs) (x ∷ []) xs

pub names_found : (names xs : List Symbol) (found : List Binder) → names ≡ names_of found → found ≡ bound_from 0 xs []
    → names ≡ xs
names_found names xs found e is = e ∙ ap names_of is ∙ bound_names 0 xs []
