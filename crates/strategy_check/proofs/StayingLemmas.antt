-- Modules are replaced: if no module that stays notices, then no module has a fault, and all that
-- stays is renumbered.
use Rattle.std.proofs.Common.{◌≡◌, ℕ, ◌+◌, ◌==◌, ◌&&◌, ◌||◌, Bool, true, false, not, List, [], ◌∷◌, ◌++◌, length, get_or, Option, Some, None, is_some, unwrap_or, refl, sym, ap, ◌∙◌, subst}
use Rattle.std.specs.Prelude.{option_map, flat_map}
use Rattle.std.specs.List.{list_any}
use Rattle.std.proofs.lemmas.Bool.{false≢true, and_left, and_right, or_left, or_right, or_parts, or_from}
use Rattle.std.proofs.lemmas.Bool.Decides.{Decides-eqb}
use Rattle.std.proofs.lemmas.List.{map-append}
use Rattle.std.proofs.lemmas.List.Quantifiers.{position-Some}
use Rattle.std.proofs.lemmas.Option.{slice_get-map, slice_get-get_or}
use Rattle.term_core.specs.Tree.{Symbol}
use Rattle.strategy_syntax.specs.Modules.{Constructor, Definition, Module}
use Rattle.strategy_syntax.specs.Lists.{is_among, with_new}
use Rattle.strategy_syntax.specs.Renumbering.{new_number}
use Rattle.strategy_check.specs.declared.fault.FaultKind.TheVariants.{Twice, Clash}
use Rattle.strategy_check.specs.Tables.{DefinitionKey, same_key, same_constructor, Table, definition_number, is_declared, Modules, key_of, keys_of, definitions_of, table_of}
use Rattle.strategy_check.specs.Faults.{Primitives, fault_if, repeated_names, parameter_names, strategy_faults, header_faults, definition_faults, module_faults, faults_from, faults}
use Rattle.strategy_check.specs.inside.Changing.{mentioned, own_table, defines_key, mentions_key, mentions_constructor, is_again, is_clash, is_missed, misses_definition, is_missed_constructor, misses_constructor, number_in, numbers_in}
use Rattle.strategy_check.specs.inside.Mentions.{BodiesCovered, Keeps, Renumbers}
use Rattle.strategy_check.specs.inside.Replacing.{definition_count, AllRenumbered}
use Rattle.strategy_check.specs.inside.Staying.{StaysFaultless, is_noticed, own_count}
use Rattle.strategy_check.proofs.ListLemmas.{with_new-append, with_new-none}
use Rattle.strategy_check.proofs.RangeLemmas.{left-none, right-none}
use Rattle.strategy_check.proofs.MentionLemmas.{position-among, both_none, kept-strategy, bodies_covered}
use Rattle.strategy_check.proofs.ReplacingLemmas.{among_self, same_key-true, same_key-self, count-parts, no_fault, module_keys, first_faultless, other_faultless, apart_from, apart-first, apart-middle}
use Rattle.strategy_check.proofs.AmongLemmas.{key-new, has_key, key-middle, key-parts, key-module, no-key, some-key, has_constructor, constructor-middle, no-constructor, no-declaration}

-- ---- tests

-- b holds, and it fails without a: so a holds
otherwise : (a b : Bool) → (a ≡ false → b ≡ false) → b ≡ true → a ≡ true
otherwise true b f t = refl
otherwise false b f t = let e : b ≡ false = f refl in absurd (cc)

-- a can't hold, since it would then fail
never : (a : Bool) → (a ≡ true → a ≡ false) → a ≡ false
never true f = f refl
never false f = refl

-- b fails unless a holds
unless : (a b : Bool) → (not a && b) ≡ false → a ≡ false → b ≡ false
unless a b e f = sym (ap (λ a. not a && b) f) ∙ e

-- What is in three parts, but not in those with another middle, is in the middle.
in_middle : (f m n l : Bool) → (f || (m || l)) ≡ true → (f || (n || l)) ≡ false → m ≡ true
in_middle true m n l t e = absurd (cc)
in_middle false true n l t e = refl
in_middle false false true l t e = absurd (cc)
in_middle false false false l t e = absurd (cc)

-- ---- modules that don't notice

-- Modules mention nothing that comes or goes from a table T to a table T'.
record Unnoticed (T : Table) (T' : Table) (ms : Modules) : Type 0 where
  pub gone : (k : DefinitionKey) → is_among same_key k T.definitions ≡ true → is_among same_key k T'.definitions
      ≡ false → list_any (mentions_key k) ms ≡ false
  pub undeclared : (c : Constructor)
      → is_among same_constructor c T.constructors ≡ true → is_among same_constructor c T'.constructors ≡ false
      → list_any (mentions_constructor c) ms ≡ false
  pub come : (k : DefinitionKey) → is_among same_key k T'.definitions ≡ true → is_among same_key k T.definitions
      ≡ false → list_any (mentions_key k) ms ≡ false

-- nothing comes or goes
unchanged : (T : Table) (ms : Modules) → Unnoticed T T ms
unchanged T ms = record {
  gone = λ k t e. absurd (false≢true (sym e ∙ t));
  undeclared = λ c t e. absurd (false≢true (sym e ∙ t));
  come = λ k t e. absurd (false≢true (sym e ∙ t));
}

module _ (T T' : Table) (m : List ℕ × Module) (ms : Modules) (h : Unnoticed T T' (m ∷ ms)) where
  by_others : Unnoticed T T' ms
  by_others = record {
    gone = λ k t e. (or_parts (mentions_key k m) (list_any (mentions_key k) ms) (h.gone k t e)).1;
    undeclared =
        λ c t e. (or_parts (mentions_constructor c m) (list_any (mentions_constructor c) ms) (h.undeclared c t e)).1;
    come = λ k t e. (or_parts (mentions_key k m) (list_any (mentions_key k) ms) (h.come k t e)).1;
  }

  keeps-mentioned : Keeps (mentioned m.1) T T'
  keeps-mentioned = record {
    definitions = λ f n i there before.
        let k : DefinitionKey = record { name = f; strategies = n; terms = i } in
        position-among (same_key k) T'.definitions
        ∙ otherwise (is_among same_key k T'.definitions) (mentions_key k m)
        (λ e. (or_parts (mentions_key k m) (list_any (mentions_key k) ms)
        (h.gone k (sym (position-among (same_key k) T.definitions) ∙ before) e)).0)
        (sym (position-among (same_key k) (mentioned m.1).definitions) ∙ there);
    constructors = λ f n there before.
        let c : Constructor = record { name = f; arity = n } in
        otherwise (is_among same_constructor c T'.constructors) (mentions_constructor c m)
        (λ e. (or_parts (mentions_constructor c m) (list_any (mentions_constructor c) ms) (h.undeclared c before e)).0)
        there;
  }

  renumbers-mentioned : Renumbers (mentioned m.1) (numbers_in T T') T T'
  renumbers-mentioned f n i there = by (definition_number T f n i) (definition_number T' f n i) refl refl where
    k : DefinitionKey
    k = record { name = f; strategies = n; terms = i }

    by : (o o' : Option ℕ) → definition_number T f n i ≡ o → definition_number T' f n i ≡ o'
        → definition_number T' f n i ≡ option_map (new_number (numbers_in T T')) (definition_number T f n i)
    by None None e e' = e' ∙ sym (ap (option_map (new_number (numbers_in T T'))) e)
    by None (Some b) e e' =
        let new = h.come k (sym (position-among (same_key k) T'.definitions) ∙ ap is_some e')
        (sym (position-among (same_key k) T.definitions) ∙ ap is_some e) in
        absurd (false≢true (sym (or_parts (mentions_key k m) (list_any (mentions_key k) ms) new).0
        ∙ (sym (position-among (same_key k) (mentioned m.1).definitions) ∙ there)))
    by (Some a) None e e' =
        absurd (false≢true (sym (ap is_some e') ∙ keeps-mentioned.definitions f n i there (ap is_some e)))
    by (Some a) (Some b) e e' =
        let at = position-Some (same_key k) T.definitions a k e in
        e' ∙ ap Some (sym (
        ap (λ o. unwrap_or o a) (slice_get-map (number_in T') T.definitions a
        ∙ ap (option_map (number_in T')) (slice_get-get_or T.definitions a k at.0))
        ∙ ap (number_in T') (sym (same_key-true k (get_or T.definitions a k) at.1)) ∙ ap (λ o. unwrap_or o 0) e'
        )) ∙ sym (ap (option_map (new_number (numbers_in T T'))) e)

all-renumbered : (T T' : Table) (ms : Modules) → Unnoticed T T' ms → AllRenumbered (numbers_in T T') T T' ms
all-renumbered T T' [] h = tt
all-renumbered T T' (m ∷ ms) h = (
  (
    mentioned m.1,
    bodies_covered (record { definitions = []; constructors = [] }) m.1.definitions,
    renumbers-mentioned T T' m ms h,
  ),
  all-renumbered T T' ms (by_others T T' m ms h),
)

-- ---- the faults of modules that don't notice

-- T' declares no constructor that T doesn't declare, and that has the name of a definition of T'
-- without term parameters.
abbrev NoClash : Table → Table → Type 0
NoClash T T' =
    (f : Symbol) (n : ℕ) → is_among same_key (record { name = f; strategies = n; terms = 0 }) T'.definitions ≡ true
    → is_declared T f n ≡ false → is_declared T' f n ≡ false

-- a key that is new, and in the table
abbrev IsPlaced : Table → List DefinitionKey → DefinitionKey → Type 0
IsPlaced T earlier k = (is_among same_key k earlier ≡ false) × (is_among same_key k T.definitions ≡ true)

module _ (T T' : Table) (P : Primitives) (apart : NoClash T T') where
  clash-stays : (d : Definition) → is_among same_key (key_of d) T'.definitions ≡ true
      → fault_if ((length d.term_parameters == 0) && is_declared T d.name (length d.strategy_parameters)) Clash d.name
      (length d.strategy_parameters) 0 ≡ []
      → fault_if ((length d.term_parameters == 0) && is_declared T' d.name (length d.strategy_parameters)) Clash d.name
      (length d.strategy_parameters) 0 ≡ []
  clash-stays d there none = ap (λ b. fault_if b Clash d.name n 0) (by (m == 0) refl) where
    n : ℕ
    n = length d.strategy_parameters

    m : ℕ
    m = length d.term_parameters

    by : (b : Bool) → (m == 0) ≡ b → ((m == 0) && is_declared T' d.name n) ≡ false
    by true e =
        and_right (m == 0) (is_declared T' d.name n)
        (apart d.name n
        (subst (λ i. is_among same_key (record { name = d.name; strategies = n; terms = i }) T'.definitions ≡ true)
        ((Decides-eqb m 0).0 e) there)
        (sym (ap (λ b. b && is_declared T d.name n) e)
        ∙ no_fault T P ((m == 0) && is_declared T d.name n) Clash d n 0 none))
    by false e = and_left (m == 0) (is_declared T' d.name n) e

  header-stays : (earlier earlier' : List DefinitionKey) (d : Definition) → IsPlaced T' earlier' (key_of d)
      → header_faults T earlier d ≡ [] → header_faults T' earlier' d ≡ []
  header-stays earlier earlier' d placed =
      let n = length d.strategy_parameters in
      let m = length d.term_parameters in
      let names = repeated_names (d.strategy_parameters ++ d.term_parameters) in
      let twice = fault_if (is_among same_key (key_of d) earlier) Twice d.name n m in
      let twice' = fault_if (is_among same_key (key_of d) earlier') Twice d.name n m in
      let clash = fault_if ((m == 0) && is_declared T d.name n) Clash d.name n 0 in
      let clash' = fault_if ((m == 0) && is_declared T' d.name n) Clash d.name n 0 in
      both_none names (twice ++ clash) names (twice' ++ clash') (λ e. e)
      (both_none twice clash twice' clash' (λ e. ap (λ b. fault_if b Twice d.name n m) placed.0)
      (clash-stays d placed.1))

  definitions-stay : (M : Table) → Keeps M T T' → (earlier earlier' : List DefinitionKey) (ds : List Definition)
      → BodiesCovered M ds
      → ((k : DefinitionKey) → is_among same_key k (keys_of ds) ≡ true → IsPlaced T' earlier' k)
      → flat_map (definition_faults T P earlier) ds ≡ [] → flat_map (definition_faults T' P earlier') ds ≡ []
  definitions-stay M keeps earlier earlier' [] covered placed e = refl
  definitions-stay M keeps earlier earlier' (d ∷ ds) covered placed e =
      let names = parameter_names d in
      both_none (definition_faults T P earlier d) (flat_map (definition_faults T P earlier) ds)
      (definition_faults T' P earlier' d) (flat_map (definition_faults T' P earlier') ds)
      (both_none (header_faults T earlier d) (strategy_faults T P names d.body) (header_faults T' earlier' d)
      (strategy_faults T' P names d.body)
      (header-stays earlier earlier' d (placed (key_of d) (among_self same_key same_key-self (key_of d) (keys_of ds))))
      (kept-strategy M T T' keeps P names d.body covered.0))
      (definitions-stay M keeps earlier earlier' ds covered.1
      (λ k t. placed k (or_right (same_key k (key_of d)) (is_among same_key k (keys_of ds)) t)))
      e

  modules-stay : (earlier earlier' : List DefinitionKey) (ms : Modules) → Unnoticed T T' ms
      → ((k : DefinitionKey) → has_key k ms ≡ true → IsPlaced T' earlier' k)
      → faults_from T P earlier ms ≡ [] → faults_from T' P earlier' ms ≡ []
  modules-stay earlier earlier' [] h placed e = refl
  modules-stay earlier earlier' (m ∷ ms) h placed e =
      let keys = keys_of m.1.definitions in
      let later = with_new same_key earlier keys in
      let later' = with_new same_key earlier' keys in
      both_none (module_faults T P earlier m.1) (faults_from T P later ms) (module_faults T' P earlier' m.1)
      (faults_from T' P later' ms)
      (definitions-stay (mentioned m.1) (keeps-mentioned T T' m ms h) earlier earlier' m.1.definitions
      (bodies_covered (record { definitions = []; constructors = [] }) m.1.definitions)
      (λ k t. placed k (key-module k m ms ∙ or_left (is_among same_key k keys) (has_key k ms) t)))
      (λ none. modules-stay later later' ms (by_others T T' m ms h)
      (λ k t.
      let there = placed k (key-module k m ms ∙ or_right (is_among same_key k keys) (has_key k ms) t) in
      let new = or_parts (is_among same_key k earlier) (is_among same_key k keys)
      (sym (key-new earlier keys k) ∙ module_keys T P later ms none k t) in (
        key-new earlier' keys k ∙ or_from (is_among same_key k earlier') (is_among same_key k keys) there.0 new.1,
        there.1,
      ))
      none) e

-- ---- modules one after another

module _ (T : Table) (P : Primitives) where
  both_faultless : (earlier : List DefinitionKey) (xs ys : Modules) → faults_from T P earlier xs ≡ []
      → faults_from T P (with_new same_key earlier (keys_of (definitions_of xs))) ys
      ≡ [] → faults_from T P earlier (xs ++ ys) ≡ []
  both_faultless earlier [] ys left right =
      sym (ap (λ l. faults_from T P l ys) (with_new-none same_key earlier)) ∙ right
  both_faultless earlier (m ∷ xs) ys left right =
      let keys = keys_of m.1.definitions in
      let later = with_new same_key earlier keys in
      let after = sym (ap (λ l. faults_from T P l ys)
      (ap (with_new same_key earlier) (map-append key_of m.1.definitions (definitions_of xs))
      ∙ with_new-append same_key earlier keys (keys_of (definitions_of xs)))) ∙ right in
      λ i. left-none (module_faults T P earlier m.1) (faults_from T P later xs) left i
      ++ both_faultless later xs ys (right-none (module_faults T P earlier m.1) (faults_from T P later xs) left) after i

  own_counted : (earlier : List DefinitionKey) (ms : Modules)
      → faults_from T P earlier ms ≡ [] → own_count ms ≡ definition_count ms
  own_counted earlier [] none = refl
  own_counted earlier (m ∷ ms) none =
      let later = with_new same_key earlier (keys_of m.1.definitions) in
      ap (λ n. length (own_table m).definitions + n)
      (own_counted later ms (right-none (module_faults T P earlier m.1) (faults_from T P later ms) none))
      ∙ sym (count-parts (m ∷ []) ms (apart_from T P earlier (m ∷ []) ms none))

-- Without faults, the modules have as many definitions together as one by one.
pub own-counts : (first old last : Modules) (P : Primitives) → faults (first ++ (old ++ last)) P ≡ []
    → (own_count first ≡ definition_count first) × (own_count old ≡ definition_count old)
own-counts first old last P none =
    let T = table_of (first ++ (old ++ last)) in
    let later = with_new same_key [] (keys_of (definitions_of first)) in (
      own_counted T P [] first (first_faultless T P [] first (old ++ last) none),
      own_counted T P later old (first_faultless T P later old last (other_faultless T P [] first (old ++ last) none)),
    )

-- ---- modules in place of others

module _ (first old new last : Modules) (P : Primitives) (none : faults (first ++ (old ++ last)) P ≡ [])
    (stays : StaysFaultless P (table_of (first ++ (old ++ last))) (table_of (first ++ (new ++ last))) first old new
    last) where
  abbrev T : Table
  T = table_of (first ++ (old ++ last))

  abbrev T' : Table
  T' = table_of (first ++ (new ++ last))

  unnoticed : (ms : Modules) → is_noticed T T' ms old new ≡ false → Unnoticed T T' ms
  unnoticed ms e =
      let h = or_parts (misses_definition T' ms old) (misses_constructor T' ms old || misses_definition T ms new) e in
      let c = or_parts (misses_constructor T' ms old) (misses_definition T ms new) h.1 in
      record {
        gone = λ k t e.
            let there = in_middle (has_key k first) (has_key k old) (has_key k new) (has_key k last)
            (sym (key-middle first old last k) ∙ t) (sym (key-middle first new last k) ∙ e) in
            unless (is_among same_key k T'.definitions) (list_any (mentions_key k) ms)
            (no-key (is_missed T' ms) old k h.0 there) e;
        undeclared = λ d t e.
            let there =
            in_middle (has_constructor d first) (has_constructor d old) (has_constructor d new) (has_constructor d last)
            (sym (constructor-middle first old last d) ∙ t) (sym (constructor-middle first new last d) ∙ e) in
            unless (is_among same_constructor d T'.constructors) (list_any (mentions_constructor d) ms)
            (no-constructor (is_missed_constructor T' ms) old d c.0 there) e;
        come = λ k t e.
            let there = in_middle (has_key k first) (has_key k new) (has_key k old) (has_key k last)
            (sym (key-middle first new last k) ∙ t) (sym (key-middle first old last k) ∙ e) in
            unless (is_among same_key k T.definitions) (list_any (mentions_key k) ms)
            (no-key (is_missed T ms) new k c.1 there) e;
      }

  no-clash : NoClash T T'
  no-clash f n defined e = never (is_declared T' f n) (λ t.
      let c : Constructor = record { name = f; arity = n } in
      let there =
      in_middle (has_constructor c first) (has_constructor c new) (has_constructor c old) (has_constructor c last)
      (sym (constructor-middle first new last c) ∙ t) (sym (constructor-middle first old last c) ∙ e) in
      let k : DefinitionKey = record { name = f; strategies = n; terms = 0 } in
      absurd (false≢true (sym (no-declaration (is_clash T') new c stays.clash there)
      ∙ position-among (same_key k) T'.definitions ∙ defined)))

  -- a key of the new modules that was there was one of the old ones
  of_old : (k : DefinitionKey) → has_key k new ≡ true → is_among same_key k T.definitions ≡ true → has_key k old ≡ true
  of_old k t there =
      sym (some-key old k)
      ∙ otherwise (list_any (defines_key k) old) (is_among same_key k T.definitions)
      (λ e. sym (and_true (is_among same_key k T.definitions) (list_any (defines_key k) old) e)
      ∙ no-key (is_again T old) new k stays.again t) there
    where
      and_true : (a b : Bool) → b ≡ false → (a && not b) ≡ a
      and_true true b e = ap not e
      and_true false b e = refl

  not_first : (k : DefinitionKey) → has_key k new ≡ true → has_key k first ≡ false
  not_first k t = never (has_key k first) (λ there.
      let before =
      of_old k t (key-middle first old last k ∙ or_left (has_key k first) (has_key k old || has_key k last) there) in
      let apart = or_parts (has_key k old) (has_key k last)
      (sym (key-parts old last k) ∙ apart-first first old last P none k there) in
      absurd (false≢true (sym apart.0 ∙ before)))

  not_last : (k : DefinitionKey) → has_key k new ≡ true → has_key k last ≡ false
  not_last k t = never (has_key k last) (λ there.
      apart-middle first old last P none k (of_old k t (key-middle first old last k
      ∙ or_right (has_key k first) (has_key k old || has_key k last)
      (or_right (has_key k old) (has_key k last) there))))

  abbrev start : List DefinitionKey
  start = with_new same_key [] (keys_of (definitions_of first))

  first-stays : faults_from T' P [] first ≡ []
  first-stays =
      modules-stay T T' P no-clash [] [] first (unnoticed first stays.by_first)
      (λ k t. (refl, key-middle first new last k ∙ or_left (has_key k first) (has_key k new || has_key k last) t))
      (first_faultless T P [] first (old ++ last) none)

  new-stays : faults_from T' P start new ≡ []
  new-stays =
      modules-stay T' T' P (λ f n t e. e) [] start new (unchanged T' new)
      (λ k t. (
        key-new [] (keys_of (definitions_of first)) k ∙ not_first k t,
        key-middle first new last k
            ∙ or_right (has_key k first) (has_key k new || has_key k last) (or_left (has_key k new) (has_key k last) t),
      )) stays.alone

  last-stays : faults_from T' P (with_new same_key start (keys_of (definitions_of new))) last ≡ []
  last-stays =
      modules-stay T T' P no-clash (with_new same_key start (keys_of (definitions_of old)))
      (with_new same_key start (keys_of (definitions_of new))) last
      (unnoticed last stays.by_last)
      (λ k t. (
        key-new start (keys_of (definitions_of new)) k
            ∙ or_from (is_among same_key k start) (has_key k new)
            (key-new [] (keys_of (definitions_of first)) k ∙ first_apart k t)
            (never (has_key k new) (λ there. absurd (false≢true (sym (not_last k there) ∙ t)))),
        key-middle first new last k ∙ or_right (has_key k first) (has_key k new || has_key k last)
            (or_right (has_key k new) (has_key k last) t),
      ))
      (other_faultless T P start old last (other_faultless T P [] first (old ++ last) none))
    where
      first_apart : (k : DefinitionKey) → has_key k last ≡ true → has_key k first ≡ false
      first_apart k t = never (has_key k first) (λ there.
          let apart = or_parts (has_key k old) (has_key k last)
          (sym (key-parts old last k) ∙ apart-first first old last P none k there) in
          absurd (false≢true (sym apart.1 ∙ t)))

  -- No module has a fault.
  pub stays-faultless : faults (first ++ (new ++ last)) P ≡ []
  stays-faultless =
      both_faultless T' P [] first (new ++ last) first-stays (both_faultless T' P start new last new-stays last-stays)

  -- All that stays is renumbered.
  pub stays-renumbered : AllRenumbered (numbers_in T T') T T' first × AllRenumbered (numbers_in T T') T T' last
  stays-renumbered = (
    all-renumbered T T' first (unnoticed first stays.by_first),
    all-renumbered T T' last (unnoticed last stays.by_last),
  )
