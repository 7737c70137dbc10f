-- Checked modules with the texts that they are read from.
use Rattle.std.proofs.Common.{◌≡◌, ◌<◌, ◌≤◌, ◌⊎◌, ℕ, zero, suc, ◌+◌, ◌-◌, Bool, true, false, List, [], ◌∷◌, ◌++◌, length, take, drop, drop-cons, add-one, get_or, Option, Some, None, Ok, Err, inl, inr, refl, sym, ap, subst, subst₂, ◌∙◌, arith}
use Rattle.std.proofs.lemmas.List.{drop_all, drop-drop, take-append-drop}
use Rattle.std.proofs.Math.Seq.{take-suc}
use Rattle.std.specs.List.{AllByRecursion}
use Rattle.std.specs.Prelude.{IfSome, IsSomeAnd}
use Rattle.std.specs.Bool.{OnFalse}
use Rattle.std.specs.FinMap as finmap
use Rattle.strategy_syntax.specs.Modules.{Module}
use Rattle.strategy_check.specs.Tables.{Modules}
use Rattle.strategy_check.specs.Faults.{Fault, Primitives, IsTold, faults, first}
use Rattle.strategy_check.specs.Checking.{with_modules}
use Rattle.strategy_check.specs.declared.fault.CheckFault.{CheckFault}
use Rattle.strategy_check.specs.declared.fault.CheckFault.TheVariants.{Memory as NoCheckMemory, Fault as Told}
use Rattle.session_modules.specs.Modules.{Texts, ReadsAsModule, AreRead, AreModules, Reports, Checks}
use Rattle.session_modules.specs.Kept.{AreReadFrom, Belong, AreCurrent, IsCurrent, IsKept}
use Rattle.session_modules.specs.declared.cache.ModuleCache.{ModuleCache}
use Rattle.session_modules.specs.declared.checked.CheckedTexts.{CheckedTexts}
use Rattle.session_modules.specs.Refusal.{check_refusal}
use Rattle.session_modules.specs.declared.refusal.Refusal.{Refusal}
use Rattle.session_modules.specs.declared.refusal.Refusal.TheVariants.{Memory}

-- ---- modules, and the texts that they are read from

pub read_from-length : (ts : List (List ℕ)) (ms : Modules) → AreReadFrom ts ms → length ts ≡ length ms
read_from-length [] [] h = refl
read_from-length [] (m ∷ ms) h = absurd h
read_from-length (t ∷ ts) [] h = absurd h
read_from-length (t ∷ ts) (m ∷ ms) h = ap suc (read_from-length ts ms h.1)

pub read_from-append : (ts us : List (List ℕ)) (ms ns : Modules) → AreReadFrom ts ms → AreReadFrom us ns
    → AreReadFrom (ts ++ us) (ms ++ ns)
read_from-append [] us [] ns h k = k
read_from-append [] us (m ∷ ms) ns h k = absurd h
read_from-append (t ∷ ts) us [] ns h k = absurd h
read_from-append (t ∷ ts) us (m ∷ ms) ns h k = (h.0, read_from-append ts us ms ns h.1 k)

read_from-take : (n : ℕ) (ts : List (List ℕ)) (ms : Modules) → AreReadFrom ts ms → AreReadFrom (take n ts) (take n ms)
read_from-take zero ts ms h = tt
read_from-take (suc n) [] [] h = tt
read_from-take (suc n) [] (m ∷ ms) h = absurd h
read_from-take (suc n) (t ∷ ts) [] h = absurd h
read_from-take (suc n) (t ∷ ts) (m ∷ ms) h = (h.0, read_from-take n ts ms h.1)

read_from-drop : (n : ℕ) (ts : List (List ℕ)) (ms : Modules) → AreReadFrom ts ms → AreReadFrom (drop n ts) (drop n ms)
read_from-drop zero ts ms h = h
read_from-drop (suc n) [] [] h = tt
read_from-drop (suc n) [] (m ∷ ms) h = absurd h
read_from-drop (suc n) (t ∷ ts) [] h = absurd h
read_from-drop (suc n) (t ∷ ts) (m ∷ ms) h = read_from-drop n ts ms h.1

-- some of them are replaced by others
pub read_from-put : (at gone : ℕ) (ts us : List (List ℕ)) (ms ns : Modules) → AreReadFrom ts ms → AreReadFrom us ns
    → AreReadFrom (take at ts ++ (us ++ drop (at + gone) ts)) (with_modules at gone ns ms)
read_from-put at gone ts us ms ns h k =
    read_from-append (take at ts) (us ++ drop (at + gone) ts) (take at ms) (ns ++ drop (at + gone) ms)
    (read_from-take at ts ms h)
    (read_from-append us (drop (at + gone) ts) ns (drop (at + gone) ms) k (read_from-drop (at + gone) ts ms h))

pub read_from-at : (ts : List (List ℕ)) (ms : Modules) (i : ℕ) (t : List ℕ) (m : List ℕ × Module) → AreReadFrom ts ms
    → i < length ms → t ≡ get_or ts i t → m ≡ get_or ms i m → ReadsAsModule t (Ok m.1)
read_from-at [] [] i t m h lt e f = absurd (omega (arith, lt))
read_from-at [] (x ∷ ms) i t m h lt e f = absurd h
read_from-at (u ∷ ts) [] i t m h lt e f = absurd h
read_from-at (u ∷ ts) (x ∷ ms) zero t m h lt e f =
    subst₂ (λ (t : List ℕ) (m : List ℕ × Module). ReadsAsModule t (Ok m.1)) (sym e) (sym f) h.0
read_from-at (u ∷ ts) (x ∷ ms) (suc i) t m h lt e f = read_from-at ts ms i t m h.1 (omega (arith, lt)) e f

-- ---- modules of some names

-- the elements from index i on
pub next_one : {X : Type 0} (xs : List X) (i : ℕ) (x : X) → i < length xs → x ≡ get_or xs i x
    → drop i xs ≡ x ∷ drop (i + 1) xs
next_one xs i x lt at = rw add-one (drop-cons xs i x lt ∙ ap (λ y. y ∷ drop (suc i) xs) (sym at))

module _ (texts : Texts) where
  pub are_read-append : (ns os : List (List ℕ)) (ms ks : Modules) → AreRead texts ns ms → AreRead texts os ks
      → AreRead texts (ns ++ os) (ms ++ ks)
  are_read-append [] os [] ks h k = k
  are_read-append [] os (m ∷ ms) ks h k = absurd h
  are_read-append (n ∷ ns) os [] ks h k = absurd h
  are_read-append (n ∷ ns) os (m ∷ ms) ks h k = (h.0, h.1, are_read-append ns os ms ks h.2 k)

  -- the text of a name is the one that a module of this name is read from
  abbrev pub IsOf : List ℕ → List ℕ × Module → Type 0
  IsOf n m = (m.0 ≡ n) × IsSomeAnd (finmap.get texts n) (λ text. ReadsAsModule text (Ok m.1))

  pub is_of : (n t : List ℕ) (m : List ℕ × Module) → m.0 ≡ n → finmap.get texts n ≡ Some t → ReadsAsModule t (Ok m.1)
      → IsOf n m
  is_of n t m same there reads =
      (same, subst (λ (o : Option (List ℕ)). IsSomeAnd o (λ text. ReadsAsModule text (Ok m.1))) (sym there) reads)

  -- one more of the first ones
  pub one_more : (ns : List (List ℕ)) (ms : Modules) (i : ℕ) (n : List ℕ) (m : List ℕ × Module) → i < length ns
      → i < length ms → n ≡ get_or ns i n → m ≡ get_or ms i m → IsOf n m
      → AreRead texts (take i ns) (take i ms) → AreRead texts (take (suc i) ns) (take (suc i) ms)
  one_more [] ms i n m lt less e f is h = absurd (omega (arith, lt))
  one_more (x ∷ ns) [] i n m lt less e f is h = absurd (omega (arith, less))
  one_more (x ∷ ns) (y ∷ ms) zero n m lt less e f is h =
      let first = subst₂ IsOf e f is in (first.0, first.1, tt)
  one_more (x ∷ ns) (y ∷ ms) (suc i) n m lt less e f is h =
      (h.0, h.1, one_more ns ms i n m (omega (arith, lt)) (omega (arith, less)) e f is h.2)

  -- one more of the last ones
  pub one_before : (ns : List (List ℕ)) (ms : Modules) (i j : ℕ) (n : List ℕ) (m : List ℕ × Module) → i < length ns
      → j < length ms → n ≡ get_or ns i n → m ≡ get_or ms j m → IsOf n m
      → AreRead texts (drop (i + 1) ns) (drop (j + 1) ms) → AreRead texts (drop i ns) (drop j ms)
  one_before ns ms i j n m lt less e f is h =
      subst₂ (AreRead texts) (sym (next_one ns i n lt e)) (sym (next_one ms j m less f)) (is.0, is.1, h)

-- the next name is read
pub one_read : (texts : Texts) (ns : List (List ℕ)) (ms : Modules) (i : ℕ) (n : List ℕ)
    (m : List ℕ × Module) → i < length ns → n ≡ get_or ns i n → IsOf texts n m → AreRead texts (take i ns) ms
    → AreRead texts (take (i + 1) ns) (ms ++ m ∷ [])
one_read texts ns ms i n m lt e is h =
    let next : suc i ≡ i + 1 = omega arith in
    subst (λ (l : List (List ℕ)). AreRead texts l (ms ++ m ∷ []))
    (sym (take-suc ns i n lt ∙ ap (λ x. take i ns ++ x ∷ []) (sym e)) ∙ ap (λ k. take k ns) next)
    (are_read-append texts (take i ns) (n ∷ []) ms (m ∷ []) h (is.0, is.1, tt))

-- after the last ones there are none
pub none_left : (texts : Texts) (ns : List (List ℕ)) (ms : Modules)
    → AreRead texts (drop (length ns - 0) ns) (drop (length ms - 0) ms)
none_left texts ns ms = subst₂ (AreRead texts) (sym (drop_all (length ns - 0) ns (omega arith)))
    (sym (drop_all (length ms - 0) ms (omega arith))) tt

-- Names whose modules are those from before in front and at the end, and new ones in between.
pub read_around : (texts : Texts) (ns : List (List ℕ)) (ms new : Modules) (front back gone : ℕ)
    → front + back ≤ length ns → front + back ≤ length ms → gone ≡ length ms - back - front
    → AreRead texts (take front ns) (take front ms) → AreRead texts (take (length ns - back - front) (drop front ns))
    new → AreRead texts (drop (length ns - back) ns) (drop (length ms - back) ms)
    → AreRead texts ns (with_modules front gone new ms)
read_around texts ns ms new front back gone in_names in_modules is first between last =
    let count = length ns - back - front in
    let to_end : front + count ≡ length ns - back = omega (arith, in_names) in
    let rest : drop count (drop front ns) ≡ drop (length ns - back) ns = drop-drop count front ns
    ∙ ap (λ n. drop n ns) to_end in
    let all : take front ns ++ (take count (drop front ns) ++ drop (length ns - back) ns) ≡ ns =
    ap (λ l. take front ns ++ (take count (drop front ns) ++ l)) (sym rest)
    ∙ ap (λ l. take front ns ++ l) (take-append-drop count (drop front ns)) ∙ take-append-drop front ns in
    let stays : length ms - back ≡ front + gone = omega (arith, in_modules, is) in
    subst (λ (l : List (List ℕ)). AreRead texts l (with_modules front gone new ms)) all
    (are_read-append texts (take front ns) (take count (drop front ns) ++ drop (length ns - back) ns) (take front ms)
    (new ++ drop (front + gone) ms) first
    (are_read-append texts (take count (drop front ns)) (drop (length ns - back) ns) new (drop (front + gone) ms)
    between (subst (λ n. AreRead texts (drop (length ns - back) ns) (drop n ms)) stays last)))

-- what holds of all holds of some of them
pub all_between : {X : Type 0} (P : X → Type 0) (xs : List X) (from count : ℕ) → AllByRecursion P xs
    → AllByRecursion P (take count (drop from xs))
all_between {X = X} P xs from count h = first count (drop from xs) (rest from xs h)
  where
    first : (n : ℕ) (xs : List X) → AllByRecursion P xs → AllByRecursion P (take n xs)
    first zero xs h = tt
    first (suc n) [] h = tt
    first (suc n) (x ∷ xs) h = (h.0, first n xs h.1)

    rest : (n : ℕ) (xs : List X) → AllByRecursion P xs → AllByRecursion P (drop n xs)
    rest zero xs h = h
    rest (suc n) [] h = tt
    rest (suc n) (x ∷ xs) h = rest n xs h.1

pub all_at : {X : Type 0} (P : X → Type 0) (xs : List X) (i : ℕ) (x : X) → AllByRecursion P xs → i < length xs
    → x ≡ get_or xs i x → P x
all_at P [] i x h lt e = absurd (omega (arith, lt))
all_at P (y ∷ xs) zero x h lt e = subst P (sym e) h.0
all_at P (y ∷ xs) (suc i) x h lt e = all_at P xs i x h.1 (omega (arith, lt)) e

-- ---- what the checker told

pub told_as : (told : CheckFault) (found : Option Fault) → IsTold told found
    → (check_refusal told ≡ Memory) ⊎ Reports found (check_refusal told)
told_as NoCheckMemory found is = inl refl
told_as (Told kind name n m) found is = inr (record { kind = kind; name = name; first = n; second = m }, is, refl)

-- a fault of modules that are those of these texts
pub checks_by : (ps : Primitives) (texts : Texts) (ms : Modules) (refusal : Refusal) → AreModules texts ms
    → Reports (first (faults ms ps)) refusal → Checks ps texts (Err refusal)
checks_by ps texts ms refusal are (fault, found, is) =
    (fault, record { modules = ms; are = are; fault = sym found }, is)

-- ---- what is kept

pub kept_current : (ps : Primitives) (texts : Texts) (k : ModuleCache) → IsCurrent ps texts k → IsKept ps texts k
kept_current ps texts k current = record { belong = by k.kept current; current = always k.is_stale current }
  where
    by : (o : Option CheckedTexts) → IsSomeAnd o (AreCurrent ps texts) → IfSome o (Belong ps)
    by None current = tt
    by (Some c) current = current.belong

    always : (b : Bool) → IsCurrent ps texts k → OnFalse b (IsCurrent ps texts k)
    always true current = tt
    always false current = current
