-- Modules without faults have their definitions apart: the table and the groups of modules are
-- those of their parts, one after another. So a program some of whose modules are replaced keeps
-- the bodies of the others, with other numbers.
use Rattle.std.proofs.Common.{◌≡◌, ℕ, suc, ◌+◌, ◌<◌, ◌≤◌, ◌==◌, ◌&&◌, ◌||◌, ◌⊎◌, inl, inr, Bool, true, false, cond, List, [], ◌∷◌, ◌++◌, length, length-append, take, drop, map, Option, Some, None, refl, sym, ap, ◌∙◌, subst, arith, append_assoc, append-nil}
use Rattle.std.specs.Prelude.{if◌then◌else◌, IfSome, option_map, position, flat_map, ⊤}
use Rattle.std.specs.List.{list_any, position_from}
use Rattle.std.proofs.lemmas.Bool.{or_left, or_right, or_parts, or_from, or_cases, and_parts, and_from}
use Rattle.std.proofs.lemmas.Bool.Decides.{Decides-eqb, nat_tests}
use Rattle.std.proofs.lemmas.List.{map-append, length-map}
use Rattle.std.proofs.lemmas.List.Folds.{list_any-append}
use Rattle.std.proofs.lemmas.List.Elements.{filter-append}
use Rattle.std.proofs.lemmas.List.Quantifiers.{position-Some}
use Rattle.std.proofs.lemmas.Grind.{flat_map-append}
use Rattle.std.proofs.lemmas.Iterator.Adapters.{position_from-zero}
use Rattle.std.proofs.Math.Seq.{take-append_seam, drop-append_seam}
use Rattle.indexmap.specs.IndexSet.{insert_key}
use Rattle.term_core.specs.Tree.{same_name}
use Rattle.term_core.proofs.SameName.{same_name-true, same_name-self}
use Rattle.strategy_syntax.specs.Modules.{Definition}
use Rattle.strategy_syntax.specs.Lists.{is_among, first_ones, with_new}
use Rattle.strategy_syntax.specs.declared.resolved.Resolved.{Resolved}
use Rattle.strategy_check.specs.declared.fault.FaultKind.{FaultKind}
use Rattle.strategy_check.specs.declared.fault.FaultKind.TheVariants.{Twice, Clash}
use Rattle.strategy_check.specs.Tables.{DefinitionKey, same_key, Table, is_declared, Modules, key_of, keys_of, definitions_of, table_of}
use Rattle.strategy_check.specs.Faults.{Primitives, fault_if, repeated_names, parameter_names, strategy_faults, header_faults, definition_faults, module_faults, faults_from, faults}
use Rattle.strategy_check.specs.Programs.{joined_definition, is_number, of_number, groups_from, groups, program}
use Rattle.strategy_check.specs.inside.Replacing.{renumbered_definition, definition_count, AllRenumbered}
use Rattle.strategy_check.proofs.ListLemmas.{with_new-next, with_new-append, with_new-none}
use Rattle.strategy_check.proofs.RangeLemmas.{left-none, right-none}
use Rattle.strategy_check.proofs.RenumberLemmas.{covered-append, renumbered-groups}

-- ---- lists without duplicates, in parts

module _ {X : Type 0} (same : X → X → Bool) where
  -- what is among the first ones is among all
  pub not_among_first : (seen xs : List X) (x : X)
      → is_among same x xs ≡ false → is_among same x (first_ones same seen xs) ≡ false
  not_among_first seen [] x e = refl
  not_among_first seen (y ∷ xs) x e =
      let h = or_parts (same x y) (is_among same x xs) e in
      by (is_among same y seen) h.0 (not_among_first seen xs x h.1) (not_among_first (seen ++ y ∷ []) xs x h.1)
    where
      by : (b : Bool) → same x y ≡ false → is_among same x (first_ones same seen xs)
          ≡ false → is_among same x (first_ones same (seen ++ y ∷ []) xs) ≡ false
          → is_among same x (if b then first_ones same seen xs else y ∷ first_ones same (seen ++ y ∷ []) xs) ≡ false
      by true other known new = known
      by false other known new = or_from (same x y) (is_among same x (first_ones same (seen ++ y ∷ []) xs)) other new

  module _ (self : (x : X) → same x x ≡ true) where
    pub among_self : (x : X) (xs : List X) → is_among same x (x ∷ xs) ≡ true
    among_self x xs = or_left (same x x) (is_among same x xs) (self x)

    -- those seen count for nothing where none of them is met
    seen_elsewhere : (seen more xs : List X) → ((x : X) → is_among same x xs ≡ true → is_among same x seen ≡ false)
        → first_ones same (seen ++ more) xs ≡ first_ones same more xs
    seen_elsewhere seen more [] apart = refl
    seen_elsewhere seen more (y ∷ xs) apart =
        ap (λ b. if b then first_ones same (seen ++ more) xs else y ∷ first_ones same ((seen ++ more) ++ y ∷ []) xs)
        (list_any-append (same y) seen more ∙ ap (λ b. b || is_among same y more) (apart y (among_self y xs)))
        ∙ λ i. if is_among same y more then seen_elsewhere seen more xs rest i
        else y ∷ (ap (λ l. first_ones same l xs) (append_assoc seen more (y ∷ [])) ∙ seen_elsewhere seen
        (more ++ y ∷ []) xs rest) i
      where
        rest : (x : X) → is_among same x xs ≡ true → is_among same x seen ≡ false
        rest x t = apart x (or_right (same x y) (is_among same x xs) t)

    first_parts : (xs ys : List X) → ((x : X) → is_among same x ys ≡ true → is_among same x xs ≡ false)
        → first_ones same [] (xs ++ ys) ≡ first_ones same [] xs ++ first_ones same [] ys
    first_parts xs ys apart =
        with_new-append same [] xs ys
        ∙ ap (λ l. first_ones same [] xs ++ l)
        (ap (λ l. first_ones same l ys) (sym (append-nil (first_ones same [] xs)))
        ∙ seen_elsewhere (first_ones same [] xs) [] ys (λ x t. not_among_first [] xs x (apart x t)))

    among_inserted : (seen : List X) (x : X) → is_among same x (insert_key same seen x) ≡ true
    among_inserted seen x = by (is_among same x seen) refl where
      by : (b : Bool) → is_among same x seen ≡ b → is_among same x (if b then seen else seen ++ x ∷ []) ≡ true
      by true e = e
      by false e = list_any-append (same x) seen (x ∷ []) ∙ or_right (is_among same x seen)
          (is_among same x (x ∷ [])) (among_self x [])

    -- all are among those with the new ones
    pub among_new : (true_same : (x y : X) → same x y ≡ true → x ≡ y) (seen xs : List X) (x : X)
        → is_among same x xs ≡ true → is_among same x (with_new same seen xs) ≡ true
    among_new true_same seen [] x e = absurd (cc)
    among_new true_same seen (y ∷ xs) x e =
        ap (is_among same x) (with_new-next same seen y xs)
        ∙ by (or_cases (same x y) (is_among same x xs) e) (among_new true_same (insert_key same seen y) xs x)
      where
        by : (same x y ≡ true) ⊎ (is_among same x xs ≡ true)
            → (is_among same x xs ≡ true → is_among same x (with_new same (insert_key same seen y) xs) ≡ true)
            → is_among same x (with_new same (insert_key same seen y) xs) ≡ true
        by (inl t) rest =
            list_any-append (same x) (insert_key same seen y) (first_ones same (insert_key same seen y) xs)
            ∙ or_left (is_among same x (insert_key same seen y))
            (is_among same x (first_ones same (insert_key same seen y) xs))
            (subst (λ z. is_among same z (insert_key same seen y) ≡ true) (sym (true_same x y t))
            (among_inserted seen y))
        by (inr t) rest = rest t

-- ---- positions in parts of a list

module _ {X : Type 0} (p : X → Bool) where
  position-is : (xs : List X) → position p xs ≡ position_from p 0 xs
  position-is xs = position_from-zero p xs

  nowhere : (i : ℕ) (xs : List X) → list_any p xs ≡ false → position_from p i xs ≡ None
  nowhere i [] e = refl
  nowhere i (x ∷ xs) e =
      let h = or_parts (p x) (list_any p xs) e in
      ap (λ b. cond b (Some i) (position_from p (i + 1) xs)) h.0 ∙ nowhere (i + 1) xs h.1

  from_left : (i : ℕ) (xs ys : List X) → list_any p ys ≡ false → position_from p i (xs ++ ys) ≡ position_from p i xs
  from_left i [] ys e = nowhere i ys e
  from_left i (x ∷ xs) ys e = ap (cond (p x) (Some i)) (from_left (i + 1) xs ys e)

  from_right : (i : ℕ) (xs ys : List X)
      → list_any p xs ≡ false → position_from p i (xs ++ ys) ≡ position_from p (i + length xs) ys
  from_right i [] ys e = ap (λ k. position_from p k ys) (omega arith)
  from_right i (x ∷ xs) ys e =
      let h = or_parts (p x) (list_any p xs) e in
      ap (λ b. cond b (Some i) (position_from p (i + 1) (xs ++ ys))) h.0 ∙ from_right (i + 1) xs ys h.1
      ∙ ap (λ k. position_from p k ys) (omega arith)

  from_more : (n i : ℕ) (xs : List X) → position_from p (n + i) xs ≡ option_map (λ k. n + k) (position_from p i xs)
  from_more n i [] = refl
  from_more n i (x ∷ xs) = by (p x) (ap (λ k. position_from p k xs) (omega arith) ∙ from_more n (i + 1) xs) where
    by : (b : Bool) → position_from p ((n + i) + 1) xs ≡ option_map (λ k. n + k) (position_from p (i + 1) xs)
        → cond b (Some (n + i)) (position_from p ((n + i) + 1) xs)
        ≡ option_map (λ k. n + k) (cond b (Some i) (position_from p (i + 1) xs))
    by true rest = refl
    by false rest = rest

  position-left : (xs ys : List X) → list_any p ys ≡ false → position p (xs ++ ys) ≡ position p xs
  position-left xs ys e = position-is (xs ++ ys) ∙ from_left 0 xs ys e ∙ sym (position-is xs)

  position-right : (xs ys : List X)
      → list_any p xs ≡ false → position p (xs ++ ys) ≡ option_map (λ k. length xs + k) (position p ys)
  position-right xs ys e =
      position-is (xs ++ ys) ∙ from_right 0 xs ys e ∙ ap (λ k. position_from p k ys) (omega arith)
      ∙ from_more (length xs) 0 ys
      ∙ ap (option_map (λ k. length xs + k)) (sym (position-is ys))

-- ---- keys

pub same_key-true : (k j : DefinitionKey) → same_key k j ≡ true → k ≡ j
same_key-true k j e =
    let h = and_parts (same_name k.name j.name) ((k.strategies == j.strategies) && (k.terms == j.terms)) e in
    let c = and_parts (k.strategies == j.strategies) (k.terms == j.terms) h.1 in
    λ i. record {
      name = same_name-true k.name j.name h.0 i;
      strategies = (Decides-eqb k.strategies j.strategies).0 c.0 i;
      terms = (Decides-eqb k.terms j.terms).0 c.1 i;
    }

pub same_key-self : (k : DefinitionKey) → same_key k k ≡ true
same_key-self k =
    and_from (same_name k.name k.name) ((k.strategies == k.strategies) && (k.terms == k.terms)) (same_name-self k.name)
    (and_from (k.strategies == k.strategies) (k.terms == k.terms) ((Decides-eqb k.strategies k.strategies).1 refl)
    ((Decides-eqb k.terms k.terms).1 refl))

-- no definition has one of these keys
abbrev Fresh : List DefinitionKey → List Definition → Type 0
Fresh ks [] = ⊤
Fresh ks (d ∷ ds) = (is_among same_key (key_of d) ks ≡ false) × Fresh ks ds

fresh_from : (ks : List DefinitionKey) (ds : List Definition)
    → ((k : DefinitionKey) → is_among same_key k (keys_of ds) ≡ true → is_among same_key k ks ≡ false) → Fresh ks ds
fresh_from ks [] h = tt
fresh_from ks (d ∷ ds) h = (
  h (key_of d) (among_self same_key same_key-self (key_of d) (keys_of ds)),
  fresh_from ks ds (λ k t. h k (or_right (same_key k (key_of d)) (is_among same_key k (keys_of ds)) t)),
)

-- ---- groups

group_count : (T : Table) (ds : List Definition) (i : ℕ) (ks : List DefinitionKey)
    → length (groups_from T ds i ks) ≡ length ks
group_count T ds i [] = refl
group_count T ds i (k ∷ ks) = ap suc (group_count T ds (i + 1) ks)

groups-parts : (T : Table) (ds : List Definition) (i : ℕ) (ks js : List DefinitionKey)
    → groups_from T ds i (ks ++ js) ≡ groups_from T ds i ks ++ groups_from T ds (i + length ks) js
groups-parts T ds i [] js = ap (λ n. groups_from T ds n js) (omega arith)
groups-parts T ds i (k ∷ ks) js =
    ap (λ gs. of_number T ds i ∷ gs)
    (groups-parts T ds (i + 1) ks js ∙ ap (λ n. groups_from T ds (i + 1) ks ++ groups_from T ds n js) (omega arith))

-- the same groups, from another number on
groups-same : (T U : Table) (ds es : List Definition) (i j : ℕ) (ks : List DefinitionKey)
    → ((n : ℕ) → n < length ks → of_number T ds (i + n) ≡ of_number U es (j + n))
    → groups_from T ds i ks ≡ groups_from U es j ks
groups-same T U ds es i j [] same = refl
groups-same T U ds es i j (k ∷ ks) same =
    let here : of_number T ds i ≡ of_number U es j = by 0 i j (omega arith) (omega arith) (omega arith) in
    λ l. here l
    ∷ groups-same T U ds es (i + 1) (j + 1) ks
    (λ n lt. by (1 + n) ((i + 1) + n) ((j + 1) + n) (omega arith) (omega arith) (omega arith)) l
  where
    by : (n a b : ℕ) → n < length (k ∷ ks) → i + n ≡ a → j + n ≡ b → of_number T ds a ≡ of_number U es b
    by n a b lt left right = ap (of_number T ds) (sym left) ∙ same n lt ∙ ap (of_number U es) right

number-low : (i n : ℕ) (o : Option ℕ) → i < n → is_number i (option_map (λ k. n + k) o) ≡ false
number-low i n None lt = refl
number-low i n (Some k) lt = grind (arith, nat_tests)

number-more : (n i : ℕ) (o : Option ℕ) → is_number (n + i) (option_map (λ k. n + k) o) ≡ is_number i o
number-more n i None = refl
number-more n i (Some k) = grind (arith, nat_tests)

number-high : (n i : ℕ) (o : Option ℕ) → IfSome o (λ k. k < n) → is_number (n + i) o ≡ false
number-high n i None lt = refl
number-high n i (Some k) lt = grind (arith, nat_tests)

-- the number of a definition in these keys
abbrev number : List DefinitionKey → Definition → Option ℕ
number ks d = position (same_key (key_of d)) ks

number-in : (ks : List DefinitionKey) (d : Definition) (o : Option ℕ) → number ks d ≡ o → IfSome o (λ k. k < length ks)
number-in ks d None e = tt
number-in ks d (Some k) e = (position-Some (same_key (key_of d)) ks k (key_of d) e).0

-- a table in two parts, where the definitions of each have none of the keys of the other
module _ (T A B : Table) (parts : T.definitions ≡ A.definitions ++ B.definitions) where
  number-left : (d : Definition)
      → is_among same_key (key_of d) B.definitions ≡ false → number T.definitions d ≡ number A.definitions d
  number-left d fresh = ap (position (same_key (key_of d))) parts
      ∙ position-left (same_key (key_of d)) A.definitions B.definitions fresh

  number-right : (d : Definition) → is_among same_key (key_of d) A.definitions ≡ false → number T.definitions d
      ≡ option_map (λ k. length A.definitions + k) (number B.definitions d)
  number-right d fresh = ap (position (same_key (key_of d))) parts
      ∙ position-right (same_key (key_of d)) A.definitions B.definitions fresh

  group-left : (i : ℕ) (ds : List Definition) → Fresh B.definitions ds → of_number T ds i ≡ of_number A ds i
  group-left i [] fresh = refl
  group-left i (d ∷ ds) fresh = λ l.
      cond (is_number i (number-left d fresh.0 l)) (d ∷ group-left i ds fresh.1 l) (group-left i ds fresh.1 l)

  none-left : (i : ℕ) (ds : List Definition) → Fresh B.definitions ds → of_number T ds (length A.definitions + i) ≡ []
  none-left i [] fresh = refl
  none-left i (d ∷ ds) fresh =
      ap (λ b. cond b (d ∷ of_number T ds (length A.definitions + i)) (of_number T ds (length A.definitions + i)))
      (ap (is_number (length A.definitions + i)) (number-left d fresh.0)
      ∙ number-high (length A.definitions) i (number A.definitions d)
      (number-in A.definitions d (number A.definitions d) refl))
      ∙ none-left i ds fresh.1

  group-right : (i : ℕ) (ds : List Definition) → Fresh A.definitions ds
      → of_number T ds (length A.definitions + i) ≡ of_number B ds i
  group-right i [] fresh = refl
  group-right i (d ∷ ds) fresh = λ l.
      cond ((ap (is_number (length A.definitions + i)) (number-right d fresh.0)
      ∙ number-more (length A.definitions) i (number B.definitions d)) l)
      (d ∷ group-right i ds fresh.1 l) (group-right i ds fresh.1 l)

  none-right : (i : ℕ) (ds : List Definition) → i < length A.definitions → Fresh A.definitions ds
      → of_number T ds i ≡ []
  none-right i [] lt fresh = refl
  none-right i (d ∷ ds) lt fresh =
      ap (λ b. cond b (d ∷ of_number T ds i) (of_number T ds i))
      (ap (is_number i) (number-right d fresh.0) ∙ number-low i (length A.definitions) (number B.definitions d) lt)
      ∙ none-right i ds lt fresh.1

  module _ (ds es : List Definition) (left : Fresh B.definitions ds) (right : Fresh A.definitions es) where
    all-left : groups_from T (ds ++ es) 0 A.definitions ≡ groups A ds
    all-left = groups-same T A (ds ++ es) ds 0 0 A.definitions (λ n lt.
        filter-append (λ d. is_number (0 + n) (number T.definitions d)) ds es
        ∙ (λ l. group-left (0 + n) ds left l ++ none-right (0 + n) es (omega arith) right l)
        ∙ append-nil (of_number A ds (0 + n)))

    all-right : groups_from T (ds ++ es) (length A.definitions) B.definitions ≡ groups B es
    all-right = groups-same T B (ds ++ es) es (length A.definitions) 0 B.definitions (λ n lt.
        filter-append (λ d. is_number (length A.definitions + n) (number T.definitions d)) ds es
        ∙ (λ l. none-left n ds left l ++ group-right n es right l)
        ∙ (let same : n ≡ 0 + n = omega arith in ap (of_number B es) same))

    groups-joined : groups T (ds ++ es) ≡ groups A ds ++ groups B es
    groups-joined =
        let start : 0 + length A.definitions ≡ length A.definitions = omega arith in
        ap (groups_from T (ds ++ es) 0) parts ∙ groups-parts T (ds ++ es) 0 A.definitions B.definitions
        ∙ (λ l. all-left l ++ (ap (λ n. groups_from T (ds ++ es) n B.definitions) start ∙ all-right) l)

-- ---- modules

-- modules that have no key of a definition in common
abbrev pub Apart : Modules → Modules → Type 0
Apart xs ys =
    (k : DefinitionKey) → is_among same_key k (keys_of (definitions_of xs))
    ≡ true → is_among same_key k (keys_of (definitions_of ys)) ≡ false

-- the same from the other side
other_side : (a b : Bool) → (a ≡ true → b ≡ false) → b ≡ true → a ≡ false
other_side true b apart t = let f : b ≡ false = apart refl in absurd (cc)
other_side false b apart t = refl

definitions-append : (xs ys : Modules) → definitions_of (xs ++ ys) ≡ definitions_of xs ++ definitions_of ys
definitions-append xs ys = flat_map-append (λ m. m.1.definitions) xs ys

pub keys-append : (xs ys : Modules)
    → keys_of (definitions_of (xs ++ ys)) ≡ keys_of (definitions_of xs) ++ keys_of (definitions_of ys)
keys-append xs ys = ap keys_of (definitions-append xs ys) ∙ map-append key_of (definitions_of xs) (definitions_of ys)

module _ (xs ys : Modules) (apart : Apart xs ys) where
  apart_again : (k : DefinitionKey) → is_among same_key k (keys_of (definitions_of ys))
      ≡ true → is_among same_key k (keys_of (definitions_of xs)) ≡ false
  apart_again k t = other_side (is_among same_key k (keys_of (definitions_of xs)))
      (is_among same_key k (keys_of (definitions_of ys))) (apart k) t

  pub table-parts : (table_of (xs ++ ys)).definitions ≡ (table_of xs).definitions ++ (table_of ys).definitions
  table-parts =
      ap (first_ones same_key []) (keys-append xs ys)
      ∙ first_parts same_key same_key-self (keys_of (definitions_of xs)) (keys_of (definitions_of ys)) apart_again

  pub count-parts : definition_count (xs ++ ys) ≡ definition_count xs + definition_count ys
  count-parts = ap length table-parts ∙ length-append (table_of xs).definitions (table_of ys).definitions

  pub group-parts : groups (table_of (xs ++ ys)) (definitions_of (xs ++ ys)) ≡ groups (table_of xs) (definitions_of xs)
      ++ groups (table_of ys) (definitions_of ys)
  group-parts =
      ap (groups (table_of (xs ++ ys))) (definitions-append xs ys)
      ∙ groups-joined (table_of (xs ++ ys)) (table_of xs) (table_of ys) table-parts (definitions_of xs)
      (definitions_of ys)
      (fresh_from (table_of ys).definitions (definitions_of xs)
      (λ k t. not_among_first same_key [] (keys_of (definitions_of ys)) k (apart k t)))
      (fresh_from (table_of xs).definitions (definitions_of ys)
      (λ k t. not_among_first same_key [] (keys_of (definitions_of xs)) k (apart_again k t)))

-- ---- without faults

module _ (T : Table) (P : Primitives) where
  pub no_fault : (b : Bool) (kind : FaultKind) (d : Definition) (n m : ℕ) → fault_if b kind d.name n m ≡ [] → b ≡ false
  no_fault true kind d n m e = absurd (cc)
  no_fault false kind d n m e = refl

  new_key : (earlier : List DefinitionKey) (d : Definition)
      → definition_faults T P earlier d ≡ [] → is_among same_key (key_of d) earlier ≡ false
  new_key earlier d e =
      let n = length d.strategy_parameters in
      let m = length d.term_parameters in
      let twice = fault_if (is_among same_key (key_of d) earlier) Twice d.name n m in
      let clash = fault_if ((m == 0) && is_declared T d.name n) Clash d.name n 0 in
      no_fault (is_among same_key (key_of d) earlier) Twice d n m
      (left-none twice clash (right-none (repeated_names (d.strategy_parameters ++ d.term_parameters)) (twice ++ clash)
      (left-none (header_faults T earlier d) (strategy_faults T P (parameter_names d) d.body) e)))

  new_keys : (earlier : List DefinitionKey) (ds : List Definition) → flat_map (definition_faults T P earlier) ds ≡ []
      → (k : DefinitionKey) → is_among same_key k (keys_of ds) ≡ true → is_among same_key k earlier ≡ false
  new_keys earlier [] e k t = absurd (cc)
  new_keys earlier (d ∷ ds) e k t =
      by (or_cases (same_key k (key_of d)) (is_among same_key k (keys_of ds)) t)
      (new_keys earlier ds
      (right-none (definition_faults T P earlier d) (flat_map (definition_faults T P earlier) ds) e) k)
    where
      by : (same_key k (key_of d) ≡ true) ⊎ (is_among same_key k (keys_of ds) ≡ true)
          → (is_among same_key k (keys_of ds) ≡ true → is_among same_key k earlier ≡ false)
          → is_among same_key k earlier ≡ false
      by (inl t) rest =
          ap (λ k. is_among same_key k earlier) (same_key-true k (key_of d) t)
          ∙ new_key earlier d
          (left-none (definition_faults T P earlier d) (flat_map (definition_faults T P earlier) ds) e)
      by (inr t) rest = rest t

  -- no module has a key of an earlier one
  pub module_keys : (earlier : List DefinitionKey) (ms : Modules) → faults_from T P earlier ms ≡ []
      → (k : DefinitionKey)
      → is_among same_key k (keys_of (definitions_of ms)) ≡ true → is_among same_key k earlier ≡ false
  module_keys earlier [] e k t = absurd (cc)
  module_keys earlier (m ∷ ms) e k t =
      by (or_cases (is_among same_key k keys) (is_among same_key k (keys_of (definitions_of ms)))
      (sym (ap (is_among same_key k) (map-append key_of m.1.definitions (definitions_of ms))
      ∙ list_any-append (same_key k) keys (keys_of (definitions_of ms))) ∙ t))
      (module_keys (with_new same_key earlier keys) ms
      (right-none (module_faults T P earlier m.1) (faults_from T P (with_new same_key earlier keys) ms) e) k)
    where
      keys : List DefinitionKey
      keys = keys_of m.1.definitions

      by : (is_among same_key k keys ≡ true) ⊎ (is_among same_key k (keys_of (definitions_of ms)) ≡ true)
          → (is_among same_key k (keys_of (definitions_of ms))
          ≡ true → is_among same_key k (with_new same_key earlier keys) ≡ false)
          → is_among same_key k earlier ≡ false
      by (inl t) rest = new_keys earlier m.1.definitions
          (left-none (module_faults T P earlier m.1) (faults_from T P (with_new same_key earlier keys) ms) e) k t
      by (inr t) rest =
          (or_parts (is_among same_key k earlier) (is_among same_key k (first_ones same_key earlier keys))
          (sym (list_any-append (same_key k) earlier (first_ones same_key earlier keys)) ∙ rest t)).0

  -- the faults of the first modules, and of the others after them
  pub first_faultless : (earlier : List DefinitionKey) (xs ys : Modules)
      → faults_from T P earlier (xs ++ ys) ≡ [] → faults_from T P earlier xs ≡ []
  first_faultless earlier [] ys e = refl
  first_faultless earlier (m ∷ xs) ys e =
      let later = with_new same_key earlier (keys_of m.1.definitions) in
      (λ i. left-none (module_faults T P earlier m.1) (faults_from T P later (xs ++ ys)) e i
      ++ first_faultless later xs ys
      (right-none (module_faults T P earlier m.1) (faults_from T P later (xs ++ ys)) e) i)

  pub other_faultless : (earlier : List DefinitionKey) (xs ys : Modules) → faults_from T P earlier (xs ++ ys) ≡ []
      → faults_from T P (with_new same_key earlier (keys_of (definitions_of xs))) ys ≡ []
  other_faultless earlier [] ys e = ap (λ l. faults_from T P l ys) (with_new-none same_key earlier) ∙ e
  other_faultless earlier (m ∷ xs) ys e =
      let later = with_new same_key earlier (keys_of m.1.definitions) in
      ap (λ l. faults_from T P l ys)
      (ap (with_new same_key earlier) (map-append key_of m.1.definitions (definitions_of xs))
      ∙ with_new-append same_key earlier (keys_of m.1.definitions) (keys_of (definitions_of xs)))
      ∙ other_faultless later xs ys (right-none (module_faults T P earlier m.1) (faults_from T P later (xs ++ ys)) e)

  pub apart_from : (earlier : List DefinitionKey) (xs ys : Modules)
      → faults_from T P earlier (xs ++ ys) ≡ [] → Apart xs ys
  apart_from earlier xs ys e k t = by (is_among same_key k (keys_of (definitions_of ys))) refl where
    by : (b : Bool) → is_among same_key k (keys_of (definitions_of ys)) ≡ b → b ≡ false
    by false there = refl
    by true there =
        let seen : is_among same_key k (with_new same_key earlier (keys_of (definitions_of xs))) ≡ true =
        among_new same_key same_key-self same_key-true earlier (keys_of (definitions_of xs)) k t in
        let new : is_among same_key k (with_new same_key earlier (keys_of (definitions_of xs))) ≡ false =
        module_keys (with_new same_key earlier (keys_of (definitions_of xs))) ys (other_faultless earlier xs ys e)
        k there in
        absurd (cc)

pub apart-keys : (xs ys : Modules) (P : Primitives) → faults (xs ++ ys) P ≡ [] → Apart xs ys
apart-keys xs ys P e = apart_from (table_of (xs ++ ys)) P [] xs ys e

-- ---- modules between others

-- each definition of the modules has a body, in whatever table it is resolved
pub body_count : (T : Table) (P : Primitives) (ms : Modules)
    → length (map (joined_definition T P) (groups (table_of ms) (definitions_of ms))) ≡ definition_count ms
body_count T P ms =
    length-map (groups (table_of ms) (definitions_of ms)) (joined_definition T P)
    ∙ group_count (table_of ms) (definitions_of ms) 0 (table_of ms).definitions

module _ (xs ys zs : Modules) (P : Primitives) (none : faults (xs ++ (ys ++ zs)) P ≡ []) where
  pub apart-first : Apart xs (ys ++ zs)
  apart-first = apart-keys xs (ys ++ zs) P none

  pub apart-middle : Apart ys zs
  apart-middle =
      apart_from (table_of (xs ++ (ys ++ zs))) P (with_new same_key [] (keys_of (definitions_of xs))) ys zs
      (other_faultless (table_of (xs ++ (ys ++ zs))) P [] xs (ys ++ zs) none)

  pub table-middle : (table_of (xs ++ (ys ++ zs))).definitions ≡ (table_of xs).definitions
      ++ ((table_of ys).definitions ++ (table_of zs).definitions)
  table-middle = table-parts xs (ys ++ zs) apart-first
      ∙ ap (λ ks. (table_of xs).definitions ++ ks) (table-parts ys zs apart-middle)

  pub count-middle : definition_count (xs ++ (ys ++ zs)) ≡ definition_count xs
      + (definition_count ys + definition_count zs)
  count-middle = count-parts xs (ys ++ zs) apart-first
      ∙ ap (λ n. definition_count xs + n) (count-parts ys zs apart-middle)

  pub group-middle : groups (table_of (xs ++ (ys ++ zs))) (definitions_of (xs ++ (ys ++ zs)))
      ≡ groups (table_of xs) (definitions_of xs)
      ++ (groups (table_of ys) (definitions_of ys) ++ groups (table_of zs) (definitions_of zs))
  group-middle = group-parts xs (ys ++ zs) apart-first
      ∙ ap (λ gs. groups (table_of xs) (definitions_of xs) ++ gs) (group-parts ys zs apart-middle)

  -- the bodies are those of the parts, resolved in the table of all
  pub bodies-middle : (program (xs ++ (ys ++ zs)) P).bodies
      ≡ map (joined_definition (table_of (xs ++ (ys ++ zs))) P) (groups (table_of xs) (definitions_of xs))
      ++ (map (joined_definition (table_of (xs ++ (ys ++ zs))) P) (groups (table_of ys) (definitions_of ys))
      ++ map (joined_definition (table_of (xs ++ (ys ++ zs))) P) (groups (table_of zs) (definitions_of zs)))
  bodies-middle =
      let body = joined_definition (table_of (xs ++ (ys ++ zs))) P in
      let before = groups (table_of xs) (definitions_of xs) in
      let middle = groups (table_of ys) (definitions_of ys) in
      let after = groups (table_of zs) (definitions_of zs) in
      ap (map body) group-middle
      ∙ map-append body before (middle ++ after) ∙ ap (λ bs. map body before ++ bs) (map-append body middle after)

  pub bodies-fit : definition_count xs + definition_count ys ≤ length (program (xs ++ (ys ++ zs)) P).bodies
  bodies-fit = let count = body_count (table_of (xs ++ (ys ++ zs))) P (xs ++ (ys ++ zs)) in
      omega (arith, count, count-middle)

-- ---- bodies with other numbers

module _ (numbers : List ℕ) (T : Table) (T' : Table) (P : Primitives) where
  -- each group has the definitions of one module
  renumbered-modules : (U : Table) (earlier : List DefinitionKey) (ms : Modules)
      → faults_from U P earlier ms ≡ [] → AllRenumbered numbers T T' ms
      → map (joined_definition T' P) (groups (table_of ms) (definitions_of ms))
      ≡ map (renumbered_definition numbers) (map (joined_definition T P) (groups (table_of ms) (definitions_of ms)))
  renumbered-modules U earlier [] none all = refl
  renumbered-modules U earlier (m ∷ ms) none all =
      ap (map body') parts ∙ map-append body' here others
      ∙ (λ l. renumbered-groups all.0.0 numbers T T' P all.0.2 (table_of (m ∷ [])) (definitions_of (m ∷ []))
      (covered-append all.0.0 m.1.definitions [] all.0.1 tt) 0 (table_of (m ∷ [])).definitions l
      ++ renumbered-modules U (with_new same_key earlier (keys_of m.1.definitions)) ms
      (right-none (module_faults U P earlier m.1)
      (faults_from U P (with_new same_key earlier (keys_of m.1.definitions)) ms) none) all.1 l)
      ∙ sym (map-append (renumbered_definition numbers) (map body here) (map body others))
      ∙ ap (map (renumbered_definition numbers)) (sym (map-append body here others) ∙ ap (map body) (sym parts))
    where
      body : List Definition → Resolved
      body = joined_definition T P

      body' : List Definition → Resolved
      body' = joined_definition T' P

      here : List (List Definition)
      here = groups (table_of (m ∷ [])) (definitions_of (m ∷ []))

      others : List (List Definition)
      others = groups (table_of ms) (definitions_of ms)

      parts : groups (table_of (m ∷ ms)) (definitions_of (m ∷ ms)) ≡ here ++ others
      parts = group-parts (m ∷ []) ms (apart_from U P earlier (m ∷ []) ms none)

-- Some modules are replaced: the bodies of the others stay, with other numbers.
pub replaced-bodies : (pre old new post : Modules) (P : Primitives) (numbers : List ℕ)
    → faults (pre ++ (old ++ post)) P ≡ [] → faults (pre ++ (new ++ post)) P ≡ []
    → AllRenumbered numbers (table_of (pre ++ (old ++ post))) (table_of (pre ++ (new ++ post))) pre
    → AllRenumbered numbers (table_of (pre ++ (old ++ post))) (table_of (pre ++ (new ++ post))) post
    → (program (pre ++ (new ++ post)) P).bodies
    ≡ map (renumbered_definition numbers) (take (definition_count pre) (program (pre ++ (old ++ post)) P).bodies)
    ++ (map (joined_definition (table_of (pre ++ (new ++ post))) P) (groups (table_of new) (definitions_of new))
    ++ map (renumbered_definition numbers)
    (drop (definition_count pre + definition_count old) (program (pre ++ (old ++ post)) P).bodies))
replaced-bodies pre old new post P numbers none none' all_pre all_post =
    bodies-middle pre new post P none'
    ∙ (λ i. (renumbered-modules numbers T T' P T [] pre (first_faultless T P [] pre (old ++ post) none) all_pre
    ∙ ap (map (renumbered_definition numbers)) (sym left)) i
    ++ (map (joined_definition T' P) (groups (table_of new) (definitions_of new))
    ++ (renumbered-modules numbers T T' P T later post
    (other_faultless T P later' old post (other_faultless T P [] pre (old ++ post) none)) all_post
    ∙ ap (map (renumbered_definition numbers)) (sym right)) i))
  where
    T : Table
    T = table_of (pre ++ (old ++ post))

    T' : Table
    T' = table_of (pre ++ (new ++ post))

    later' : List DefinitionKey
    later' = with_new same_key [] (keys_of (definitions_of pre))

    later : List DefinitionKey
    later = with_new same_key later' (keys_of (definitions_of old))

    bodies : Modules → List Resolved
    bodies ms = map (joined_definition T P) (groups (table_of ms) (definitions_of ms))

    left : take (definition_count pre) (program (pre ++ (old ++ post)) P).bodies ≡ bodies pre
    left =
        ap (take (definition_count pre)) (bodies-middle pre old post P none)
        ∙ ap (λ n. take n (bodies pre ++ (bodies old ++ bodies post))) (sym (body_count T P pre))
        ∙ take-append_seam (bodies pre) (bodies old ++ bodies post)

    right : drop (definition_count pre + definition_count old) (program (pre ++ (old ++ post)) P).bodies ≡ bodies post
    right =
        ap (drop (definition_count pre + definition_count old))
        (bodies-middle pre old post P none ∙ sym (append_assoc (bodies pre) (bodies old) (bodies post)))
        ∙ ap (λ n. drop n ((bodies pre ++ bodies old) ++ bodies post))
        (sym (length-append (bodies pre) (bodies old) ∙ (λ i. body_count T P pre i + body_count T P old i)))
        ∙ drop-append_seam (bodies pre ++ bodies old) (bodies post)
