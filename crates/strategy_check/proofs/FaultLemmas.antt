-- Faults that are added to a list with room for so many.
use Rattle.std.proofs.Common.{◌≡◌, ℕ, zero, suc, ◌+◌, ◌-◌, ◌<◌, ◌≤◌, Bool, true, false, List, [], ◌∷◌, ◌++◌, length, map, get_or, take, drop, drop-cons, add-one, refl, sym, ap, ◌∙◌, append_assoc, append-nil, length-append, arith, Option, Result, Ok, Err, subst}
use Rattle.std.proofs.lemmas.List.{drop_all, map-append}
use Rattle.std.specs.Prelude.{if◌then◌else◌, OnOk}
use Rattle.std.specs.Result.{IsErr, IsErrAnd, IfErr}
use Rattle.indexmap.specs.IndexSet.{insert_key}
use Rattle.term_core.specs.Tree.{Symbol, same_name}
use Rattle.strategy_syntax.specs.Syntax.{Pattern, pattern_list, patterns_of, Strategy, strategy_list, strategies_of}
use Rattle.strategy_syntax.specs.Modules.{Module}
use Rattle.strategy_syntax.specs.Lists.{is_among, with_new, repeated}
use Rattle.strategy_syntax.proofs.PatternLemmas.{pattern_list-patterns_of, patterns_depth-item}
use Rattle.strategy_syntax.proofs.StrategyLemmas.{strategy_list-strategies_of, depths-item}
use Rattle.strategy_check.specs.declared.fault.FaultKind.TheVariants.{Parameter}
use Rattle.strategy_check.specs.declared.fault.CheckFault.{CheckFault}
use Rattle.strategy_check.specs.Tables.{DefinitionKey, Modules, Table, definitions_of, key_of, keys_of, same_key}
use Rattle.strategy_check.specs.Faults.{Fault, IsTold, Primitives, fault_if, faults_from, first, module_faults}
use Rattle.strategy_check.specs.inside.FaultLists.{FaultList, with_faults, repeated_faults}
use Rattle.strategy_check.proofs.ListLemmas.{with_new-next, with_new-none, with_new-append}

-- ---- what fits

take_none : (n : ℕ) → take {A = Fault} n [] ≡ []
take_none zero = refl
take_none (suc n) = refl

take_both : (n : ℕ) (fs gs : List Fault) → take n fs ++ take (n - length fs) gs ≡ take n (fs ++ gs)
take_both n [] gs = let e : n - 0 ≡ n = omega arith in rw (take_none n, e) refl
take_both zero (f ∷ fs) gs = let e : zero - suc (length fs) ≡ zero = omega arith in rw e refl
take_both (suc n) (f ∷ fs) gs =
    let e : suc n - suc (length fs) ≡ n - length fs = omega arith in
    rw e (ap (λ l. f ∷ l) (take_both n fs gs))

pub with_none : (l : FaultList) → with_faults l [] ≡ l
unfolding with_faults
with_none l =
    let room : l.room - 0 ≡ l.room = omega arith in
    λ i. record { items = (ap (λ fs. l.items ++ fs) (take_none l.room) ∙ append-nil l.items) i; room = room i }

pub with_both : (l : FaultList) (fs gs : List Fault) → with_faults (with_faults l fs) gs ≡ with_faults l (fs ++ gs)
unfolding with_faults
with_both l fs gs =
    let room : (l.room - length fs) - length gs ≡ l.room - length (fs ++ gs) = omega (arith, length-append fs gs) in
    λ i. record {
      items =
          (append_assoc l.items (take l.room fs) (take (l.room - length fs) gs)
          ∙ ap (λ hs. l.items ++ hs) (take_both l.room fs gs)) i;
      room = room i;
    }

-- a full list takes nothing
pub with_full : (l : FaultList) (fs : List Fault) → l.room ≡ 0 → l ≡ with_faults l fs
unfolding with_faults
with_full l fs e =
    let room : l.room ≡ l.room - length fs = omega (arith, e) in
    λ i. record { items = (sym (append-nil l.items) ∙ ap (λ n. l.items ++ take n fs) (sym e)) i; room = room i }

-- one fault, if there is room
pub with_one : (items more : List Fault) (n : ℕ) (f : Fault) → (n ≡ 0 → ⊥) → more ≡ items ++ f ∷ []
    → record { items = more; room = n - 1 } ≡ with_faults (record { items = items; room = n }) (f ∷ [])
unfolding with_faults
with_one items more zero f some e = absurd (some refl)
with_one items more (suc n) f some e =
    λ i. record { items = (e ∙ ap (λ fs. items ++ f ∷ fs) (sym (take_none n))) i; room = suc n - 1 }

-- what a last call adds after others
pub then_added : {X E : Type 0} (r : Result X E) (l m n : FaultList) (fs gs : List Fault) → m ≡ with_faults l fs
    → OnOk r (n ≡ with_faults m gs) → OnOk r (n ≡ with_faults l (fs ++ gs))
then_added (Ok x) l m n fs gs e h = h ∙ ap (λ m. with_faults m gs) e ∙ with_both l fs gs
then_added (Err x) l m n fs gs e h = tt

-- the number of patterns
pub pattern_count : (ps : List Pattern) → length (pattern_list (patterns_of ps)) ≡ length ps
pattern_count ps = ap length (pattern_list-patterns_of ps)

pub strategy_count : (ss : List Strategy) → length (strategy_list (strategies_of ss)) ≡ length ss
strategy_count ss = ap length (strategy_list-strategies_of ss)

pub ruleset added = (with_none, with_both, pattern_count, strategy_count, patterns_depth-item, depths-item)

-- ---- over a list: where F gives the faults of a list, and f those of an item, given what came before

module _ {S X : Type 0} (f : S → X → List Fault) (one : S → X → S) (F : S → List X → List Fault)
    (cons : (s : S) (x : X) (xs : List X) → F s (x ∷ xs) ≡ f s x ++ F (one s x) xs) where
  pub next_added : (xs : List X) (i : ℕ) (l whole : FaultList) (s next : S) (x : X) (more : FaultList) → i < length xs
      → x ≡ get_or xs i x → with_faults l (F s (drop i xs)) ≡ whole
      → more ≡ with_faults l (f s x) → next ≡ one s x → with_faults more (F next (drop (i + 1) xs)) ≡ whole
  next_added xs i l whole s next x more lt at same e step =
      rw add-one
      ((λ j. with_faults (e j) (F (step j) (drop (suc i) xs))) ∙ with_both l (f s x) (F (one s x) (drop (suc i) xs))
      ∙ ap (with_faults l)
      (sym (ap (F s) (drop-cons xs i x lt) ∙ ap (λ y. F s (y ∷ drop (suc i) xs)) (sym at) ∙ cons s x (drop (suc i) xs)))
      ∙ same)

module _ {X : Type 0} (F : List X → List Fault) where
  pub item_added : (f : X → List Fault) → ((x : X) (xs : List X) → F (x ∷ xs) ≡ f x ++ F xs)
      → (xs : List X) (i : ℕ) (l whole : FaultList) (x : X) (more : FaultList)
      → i < length xs → x ≡ get_or xs i x → with_faults l (F (drop i xs)) ≡ whole → more ≡ with_faults l (f x)
      → with_faults more (F (drop (i + 1) xs)) ≡ whole
  item_added f cons xs i l whole x more lt at same e =
      next_added (λ (s : ℕ) x. f x) (λ s x. s) (λ s xs. F xs) (λ s x xs. cons x xs) xs i l whole zero zero x more lt at
      same e refl

  pub all_added : F [] ≡ [] → (xs : List X) (i : ℕ) (l whole : FaultList)
      → length xs ≤ i → with_faults l (F (drop i xs)) ≡ whole → l ≡ whole
  all_added nil xs i l whole end same = sym (ap (with_faults l) (ap F (drop_all i xs end) ∙ nil) ∙ with_none l) ∙ same

-- ---- repeated names

pub repeated-next : (seen : List Symbol) (x : Symbol) (xs : List Symbol)
    → repeated_faults seen (x ∷ xs) ≡ fault_if (is_among same_name x seen) Parameter x 0 0
    ++ repeated_faults (insert_key same_name seen x) xs
repeated-next seen x xs = by (is_among same_name x seen) where
  by : (b : Bool) → map (λ x. record { kind = Parameter; name = x; first = 0; second = 0 })
      (if b then x ∷ repeated same_name seen xs else repeated same_name (seen ++ x ∷ []) xs)
      ≡ fault_if b Parameter x 0 0 ++ repeated_faults (if b then seen else seen ++ x ∷ []) xs
  by true = refl
  by false = refl

pub repeated-append : (seen xs ys : List Symbol)
    → repeated_faults seen (xs ++ ys) ≡ repeated_faults seen xs ++ repeated_faults (with_new same_name seen xs) ys
repeated-append seen [] ys = ap (λ l. repeated_faults l ys) (sym (append-nil seen))
repeated-append seen (x ∷ xs) ys =
    let one = fault_if (is_among same_name x seen) Parameter x 0 0 in
    let next = insert_key same_name seen x in
    repeated-next seen x (xs ++ ys) ∙ ap (λ fs. one ++ fs) (repeated-append next xs ys)
    ∙ sym (append_assoc one (repeated_faults next xs) (repeated_faults (with_new same_name next xs) ys))
    ∙ (λ i. sym (repeated-next seen x xs) i ++ repeated_faults (sym (with_new-next same_name seen x xs) i) ys)

-- ---- modules one after another

pub later_keys : (earlier : List DefinitionKey) (m : List ℕ × Module) (ms : Modules)
    → with_new same_key earlier (keys_of (definitions_of (m ∷ ms))) ≡ with_new same_key
    (with_new same_key earlier (keys_of m.1.definitions)) (keys_of (definitions_of ms))
later_keys earlier m ms =
    ap (with_new same_key earlier) (map-append key_of m.1.definitions (definitions_of ms))
    ∙ with_new-append same_key earlier (keys_of m.1.definitions) (keys_of (definitions_of ms))

pub faults_from-append : (T : Table) (P : Primitives) (earlier : List DefinitionKey) (xs ys : Modules)
    → faults_from T P earlier (xs ++ ys) ≡ faults_from T P earlier xs
    ++ faults_from T P (with_new same_key earlier (keys_of (definitions_of xs))) ys
faults_from-append T P earlier [] ys = ap (λ l. faults_from T P l ys) (sym (with_new-none same_key earlier))
faults_from-append T P earlier (m ∷ xs) ys =
    let own = module_faults T P earlier m.1 in
    let later = with_new same_key earlier (keys_of m.1.definitions) in
    ap (λ fs. own ++ fs) (faults_from-append T P later xs ys) ∙ sym (append_assoc own (faults_from T P later xs)
    (faults_from T P (with_new same_key later (keys_of (definitions_of xs))) ys))
    ∙ ap (λ l. faults_from T P earlier (m ∷ xs) ++ faults_from T P l ys) (sym (later_keys earlier m xs))

pub modules_added : (T : Table) (P : Primitives) (earlier later : List DefinitionKey) (l m n : FaultList)
    (xs ys : Modules)
    → m ≡ with_faults l (faults_from T P earlier xs) → later ≡ with_new same_key earlier (keys_of (definitions_of xs))
    → n ≡ with_faults m (faults_from T P later ys)
    → n ≡ with_faults l (faults_from T P earlier (xs ++ ys))
modules_added T P earlier later l m n xs ys first keys second =
    let others = with_new same_key earlier (keys_of (definitions_of xs)) in
    second ∙ (λ i. with_faults (first i) (faults_from T P (keys i) ys))
    ∙ with_both l (faults_from T P earlier xs) (faults_from T P others ys)
    ∙ ap (with_faults l) (sym (faults_from-append T P earlier xs ys))

-- ---- what was found

pub items_taken : (l : FaultList) (n : ℕ) (fs : List Fault) → l ≡ with_faults (record { items = []; room = n }) fs
    → l.items ≡ take n fs
unfolding with_faults
items_taken l n fs e = ap (λ (l : FaultList). l.items) e

pub none_taken : (fs : List Fault) → take 1 fs ≡ [] → fs ≡ []
none_taken [] e = refl
none_taken (f ∷ fs) e = absurd (cc)

first_taken : (fs : List Fault) → first (take 1 fs) ≡ first fs
first_taken [] = refl
first_taken (f ∷ fs) = refl

pub refused_none : {X : Type 0} (r : Result X CheckFault) (items fs : List Fault) → items ≡ take 1 fs
    → OnOk r (items ≡ []) → OnOk r (fs ≡ [])
refused_none (Ok x) items fs e none = none_taken fs (sym e ∙ none)
refused_none (Err x) items fs e none = tt

pub refused_first : {X : Type 0} (r : Result X CheckFault) (items fs : List Fault) → items ≡ take 1 fs
    → IfErr r (λ told. IsTold told (first items)) → IfErr r (λ told. IsTold told (first fs))
refused_first r items fs e told = subst (λ o. IfErr r (λ told. IsTold told o)) (ap first e ∙ first_taken fs) told

-- an error that is passed on by `?`
pub told_err : {X : Type 0} (r : Result X CheckFault) (e : CheckFault) (o : Option Fault)
    → IsErr r × IsErrAnd r (λ x. x ≡ e) → IsTold e o → IfErr r (λ x. IsTold x o)
told_err (Ok x) e o h told = tt
told_err (Err x) e o h told = subst (λ x. IsTold x o) (sym h.1) told
