-- The keys and constructors that modules have, and tests that none of them passes.
use Rattle.std.proofs.Common.{◌≡◌, ℕ, ◌==◌, ◌||◌, ◌⊎◌, inl, inr, Bool, true, false, List, [], ◌∷◌, ◌++◌, refl, sym, ap, ◌∙◌}
use Rattle.std.specs.List.{list_any}
use Rattle.std.proofs.lemmas.Bool.{false≢true, and_parts, or_right, or_parts, or_cases}
use Rattle.std.proofs.lemmas.Bool.Decides.{Decides-eqb}
use Rattle.std.proofs.lemmas.List.{map-append}
use Rattle.std.proofs.lemmas.List.Folds.{list_any-append}
use Rattle.std.proofs.lemmas.Grind.{flat_map-append}
use Rattle.term_core.specs.Tree.{same_name}
use Rattle.term_core.proofs.SameName.{same_name-true}
use Rattle.strategy_syntax.specs.Modules.{Constructor, Module}
use Rattle.strategy_syntax.specs.Lists.{is_among, first_ones, with_new}
use Rattle.strategy_check.specs.Tables.{DefinitionKey, same_key, same_constructor, Modules, key_of, keys_of, definitions_of, constructors_of, table_of}
use Rattle.strategy_check.specs.inside.Changing.{own_table, defines_key}
use Rattle.strategy_check.proofs.MentionLemmas.{same_constructor-self}
use Rattle.strategy_check.proofs.ReplacingLemmas.{not_among_first, among_new, same_key-true, same_key-self, keys-append}

-- ---- elements of lists and of modules

module _ {X : Type 0}
    (same : X → X → Bool) (self : (x : X) → same x x ≡ true) (true_same : (x y : X) → same x y ≡ true → x ≡ y) where
  among-new : (seen xs : List X) (x : X)
      → is_among same x (with_new same seen xs) ≡ (is_among same x seen || is_among same x xs)
  among-new seen xs x = by (is_among same x xs) refl where
    by : (b : Bool) → is_among same x xs ≡ b → is_among same x (with_new same seen xs)
        ≡ (is_among same x seen || is_among same x xs)
    by true e = among_new same self true_same seen xs x e ∙ sym (or_right (is_among same x seen) (is_among same x xs) e)
    by false e =
        list_any-append (same x) seen (first_ones same seen xs)
        ∙ ap (λ b. is_among same x seen || b) (not_among_first same seen xs x e ∙ sym e)

  -- no element passes a test that none passes
  none-there : (p : X → Bool) (xs : List X) (x : X) → list_any p xs ≡ false → is_among same x xs ≡ true → p x ≡ false
  none-there p [] x none t = absurd (cc)
  none-there p (y ∷ xs) x none t =
      let h = or_parts (p y) (list_any p xs) none in
      by (or_cases (same x y) (is_among same x xs) t) h.0 (none-there p xs x h.1)
    where
      by : (same x y ≡ true) ⊎ (is_among same x xs ≡ true) → p y
          ≡ false → (is_among same x xs ≡ true → p x ≡ false) → p x ≡ false
      by (inl t) here rest = ap p (true_same x y t) ∙ here
      by (inr t) here rest = rest t

  -- elements that each module has, and those of all modules
  module _ (own : List ℕ × Module → List X) (whole : Modules → List X)
      (empty : (x : X) → is_among same x (whole []) ≡ false)
      (next : (x : X) (m : List ℕ × Module) (ms : Modules)
      → is_among same x (whole (m ∷ ms)) ≡ (is_among same x (own m) || is_among same x (whole ms))) where
    none-anywhere : (p : X → Bool) (ms : Modules) (x : X)
        → list_any (λ m. list_any p (own m)) ms ≡ false → is_among same x (whole ms) ≡ true → p x ≡ false
    none-anywhere p [] x none t = absurd (false≢true (sym (empty x) ∙ t))
    none-anywhere p (m ∷ ms) x none t =
        let h = or_parts (list_any p (own m)) (list_any (λ m. list_any p (own m)) ms) none in
        by (or_cases (is_among same x (own m)) (is_among same x (whole ms)) (sym (next x m ms) ∙ t))
        (none-there p (own m) x h.0) (none-anywhere p ms x h.1)
      where
        by : (is_among same x (own m) ≡ true) ⊎ (is_among same x (whole ms) ≡ true) → (is_among same x (own m)
            ≡ true → p x ≡ false) → (is_among same x (whole ms) ≡ true → p x ≡ false) → p x ≡ false
        by (inl t) here rest = here t
        by (inr t) here rest = rest t

    some-has : (ms : Modules) (x : X) → list_any (λ m. is_among same x (own m)) ms ≡ is_among same x (whole ms)
    some-has [] x = sym (empty x)
    some-has (m ∷ ms) x = ap (λ b. is_among same x (own m) || b) (some-has ms x) ∙ sym (next x m ms)

-- ---- keys

abbrev pub has_key : DefinitionKey → Modules → Bool
has_key k ms = is_among same_key k (keys_of (definitions_of ms))

pub key-new : (seen ks : List DefinitionKey) (k : DefinitionKey)
    → is_among same_key k (with_new same_key seen ks) ≡ (is_among same_key k seen || is_among same_key k ks)
key-new = among-new same_key same_key-self same_key-true

key-table : (ms : Modules) (k : DefinitionKey) → is_among same_key k (table_of ms).definitions ≡ has_key k ms
key-table ms = key-new [] (keys_of (definitions_of ms))

pub key-parts : (xs ys : Modules) (k : DefinitionKey) → has_key k (xs ++ ys) ≡ (has_key k xs || has_key k ys)
key-parts xs ys k =
    ap (is_among same_key k) (keys-append xs ys)
    ∙ list_any-append (same_key k) (keys_of (definitions_of xs)) (keys_of (definitions_of ys))

pub key-middle : (xs ys zs : Modules) (k : DefinitionKey)
    → is_among same_key k (table_of (xs ++ (ys ++ zs))).definitions ≡ (has_key k xs || (has_key k ys || has_key k zs))
key-middle xs ys zs k =
    key-table (xs ++ (ys ++ zs)) k ∙ key-parts xs (ys ++ zs) k ∙ ap (λ b. has_key k xs || b) (key-parts ys zs k)

key-next : (k : DefinitionKey) (m : List ℕ × Module) (ms : Modules)
    → has_key k (m ∷ ms) ≡ (is_among same_key k (own_table m).definitions || has_key k ms)
key-next k m ms = key-parts (m ∷ []) ms k ∙ ap (λ b. b || has_key k ms) (sym (key-table (m ∷ []) k))

pub key-module : (k : DefinitionKey) (m : List ℕ × Module) (ms : Modules)
    → has_key k (m ∷ ms) ≡ (is_among same_key k (keys_of m.1.definitions) || has_key k ms)
key-module k m ms =
    ap (is_among same_key k) (map-append key_of m.1.definitions (definitions_of ms))
    ∙ list_any-append (same_key k) (keys_of m.1.definitions) (keys_of (definitions_of ms))

pub no-key : (p : DefinitionKey → Bool) (ms : Modules) (k : DefinitionKey)
    → list_any (λ m. list_any p (own_table m).definitions) ms ≡ false → has_key k ms ≡ true → p k ≡ false
no-key = none-anywhere same_key same_key-self same_key-true (λ m. (own_table m).definitions)
    (λ ms. keys_of (definitions_of ms)) (λ k. refl) key-next

pub some-key : (ms : Modules) (k : DefinitionKey) → list_any (defines_key k) ms ≡ has_key k ms
some-key = some-has same_key same_key-self same_key-true (λ m. (own_table m).definitions)
    (λ ms. keys_of (definitions_of ms)) (λ k. refl) key-next

-- ---- constructors

same_constructor-true : (c d : Constructor) → same_constructor c d ≡ true → c ≡ d
same_constructor-true c d e =
    let h = and_parts (same_name c.name d.name) (c.arity == d.arity) e in
    λ i. record { name = same_name-true c.name d.name h.0 i; arity = (Decides-eqb c.arity d.arity).0 h.1 i }

abbrev pub has_constructor : Constructor → Modules → Bool
has_constructor c ms = is_among same_constructor c (constructors_of ms)

constructor-table : (ms : Modules) (c : Constructor)
    → is_among same_constructor c (table_of ms).constructors ≡ has_constructor c ms
constructor-table ms = among-new same_constructor same_constructor-self same_constructor-true [] (constructors_of ms)

constructor-parts : (xs ys : Modules) (c : Constructor)
    → has_constructor c (xs ++ ys) ≡ (has_constructor c xs || has_constructor c ys)
constructor-parts xs ys c =
    ap (is_among same_constructor c) (flat_map-append (λ m. m.1.constructors) xs ys)
    ∙ list_any-append (same_constructor c) (constructors_of xs) (constructors_of ys)

pub constructor-middle : (xs ys zs : Modules) (c : Constructor)
    → is_among same_constructor c (table_of (xs ++ (ys ++ zs))).constructors
    ≡ (has_constructor c xs || (has_constructor c ys || has_constructor c zs))
constructor-middle xs ys zs c =
    constructor-table (xs ++ (ys ++ zs)) c ∙ constructor-parts xs (ys ++ zs) c
    ∙ ap (λ b. has_constructor c xs || b) (constructor-parts ys zs c)

pub no-constructor : (p : Constructor → Bool) (ms : Modules) (c : Constructor)
    → list_any (λ m. list_any p (own_table m).constructors) ms ≡ false → has_constructor c ms ≡ true → p c ≡ false
no-constructor =
    none-anywhere same_constructor same_constructor-self same_constructor-true (λ m. (own_table m).constructors)
    constructors_of (λ c. refl)
    (λ c m ms. constructor-parts (m ∷ []) ms c
    ∙ ap (λ b. b || has_constructor c ms) (sym (constructor-table (m ∷ []) c)))

pub no-declaration : (p : Constructor → Bool) (ms : Modules) (c : Constructor)
    → list_any (λ m. list_any p m.1.constructors) ms ≡ false → has_constructor c ms ≡ true → p c ≡ false
no-declaration =
    none-anywhere same_constructor same_constructor-self same_constructor-true (λ m. m.1.constructors) constructors_of
    (λ c. refl)
    (λ c m ms. list_any-append (same_constructor c) m.1.constructors (constructors_of ms))
