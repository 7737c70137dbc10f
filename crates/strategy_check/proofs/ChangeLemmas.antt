-- Tests of lists, element by element.
use Rattle.std.proofs.Common.{◌≡◌, ℕ, zero, suc, ◌+◌, ◌<◌, ◌≤◌, ◌||◌, Bool, true, false, List, [], ◌∷◌, ◌++◌, length, drop, get_or, drop-cons, add-one, map, slice_set, arith, refl, sym, ap, ◌∙◌}
use Rattle.std.proofs.lemmas.List.{drop_all}
use Rattle.std.specs.List.{list_any}
use Rattle.std.proofs.lemmas.List.{map-append}
use Rattle.strategy_syntax.specs.Modules.{Module}
use Rattle.strategy_syntax.specs.Lists.{with_new}
use Rattle.strategy_check.specs.Tables.{same_key, same_constructor, key_of, keys_of, Table, Modules, definitions_of, constructors_of}
use Rattle.strategy_check.specs.inside.Changing.{with_module, with_all}
use Rattle.strategy_check.proofs.ListLemmas.{with_new-append, with_new-none}

module _ {X : Type 0} (f : X → Bool) (xs : List X) (i : ℕ) where
  at : (x : X) → i < length xs → x ≡ get_or xs i x → list_any f (drop i xs) ≡ list_any f xs
      → (f x || list_any f (drop (suc i) xs)) ≡ list_any f xs
  at x lt same rest =
      ap (λ y. f y || list_any f (drop (suc i) xs)) same ∙ sym (ap (list_any f) (drop-cons xs i x lt)) ∙ rest

  -- the element at i passes the test
  pub any_found : (x : X) → i < length xs → x ≡ get_or xs i x → list_any f (drop i xs) ≡ list_any f xs
      → f x ≡ true → true ≡ list_any f xs
  any_found x lt same rest e = sym (ap (λ b. b || list_any f (drop (suc i) xs)) e) ∙ at x lt same rest

  -- it doesn't
  pub any_next : (x : X) → i < length xs → x ≡ get_or xs i x → list_any f (drop i xs) ≡ list_any f xs
      → f x ≡ false → list_any f (drop (i + 1) xs) ≡ list_any f xs
  any_next x lt same rest e = rw add-one (sym (ap (λ b. b || list_any f (drop (suc i) xs)) e) ∙ at x lt same rest)

  -- none is left
  pub any_none : length xs ≤ i → list_any f (drop i xs) ≡ list_any f xs → false ≡ list_any f xs
  any_none ended rest = sym (ap (list_any f) (drop_all i xs ended)) ∙ rest

-- ---- lists that are changed from the front

module _ {X : Type 0} (f : X → X) where
  -- the first i are changed
  abbrev pub partly : ℕ → List X → List X
  partly i [] = []
  partly zero (x ∷ xs) = x ∷ xs
  partly (suc i) (x ∷ xs) = f x ∷ partly i xs

  pub partly-none : (xs : List X) → xs ≡ partly 0 xs
  partly-none [] = refl
  partly-none (x ∷ xs) = refl

  pub partly-all : (i : ℕ) (xs : List X) → length xs ≤ i → partly i xs ≡ map f xs
  partly-all i [] h = refl
  partly-all zero (x ∷ xs) h = absurd (omega (arith, h))
  partly-all (suc i) (x ∷ xs) h = ap (λ ys. f x ∷ ys) (partly-all i xs (omega (arith, h)))

  -- the one at i is as it was
  pub partly-at : (i : ℕ) (xs : List X) (d : X) → i < length xs → get_or (partly i xs) i d ≡ get_or xs i d
  partly-at i [] d h = absurd (omega (arith, h))
  partly-at zero (x ∷ xs) d h = refl
  partly-at (suc i) (x ∷ xs) d h = partly-at i xs d (omega (arith, h))

  pub partly-length : (i : ℕ) (xs : List X) → length (partly i xs) ≡ length xs
  partly-length i [] = refl
  partly-length zero (x ∷ xs) = refl
  partly-length (suc i) (x ∷ xs) = ap suc (partly-length i xs)

  pub partly-set : (i : ℕ) (xs : List X) (d : X) → i < length xs
      → slice_set (partly i xs) i (f (get_or xs i d)) ≡ partly (suc i) xs
  partly-set i [] d h = absurd (omega (arith, h))
  partly-set zero (x ∷ xs) d h = ap (λ ys. f x ∷ ys) (partly-none xs)
  partly-set (suc i) (x ∷ xs) d h = ap (λ ys. f x ∷ ys) (partly-set i xs d (omega (arith, h)))

-- ---- tables

pub with_all-next : (T : Table) (m : List ℕ × Module) (ms : Modules)
    → with_all T (m ∷ ms) ≡ with_all (with_module T m.1) ms
with_all-next T m ms i = record {
  definitions =
      (ap (with_new same_key T.definitions) (map-append key_of m.1.definitions (definitions_of ms))
      ∙ with_new-append same_key T.definitions (keys_of m.1.definitions) (keys_of (definitions_of ms))) i;
  constructors = with_new-append same_constructor T.constructors m.1.constructors (constructors_of ms) i;
}

pub with_all-append : (T : Table) (ms ns : Modules) → with_all T (ms ++ ns) ≡ with_all (with_all T ms) ns
with_all-append T [] ns = sym (ap (λ U. with_all U ns) (λ i. record {
  definitions = with_new-none same_key T.definitions i;
  constructors = with_new-none same_constructor T.constructors i;
}))
with_all-append T (m ∷ ms) ns =
    with_all-next T m (ms ++ ns) ∙ with_all-append (with_module T m.1) ms ns
    ∙ ap (λ U. with_all U ns) (sym (with_all-next T m ms))
