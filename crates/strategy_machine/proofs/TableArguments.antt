-- Adding strategy arguments one by one.
use Rattle.std.proofs.Common.{◌≡◌, ℕ, Bool, true, false, ◌+◌, ◌≤◌, ◌<◌, List, [], ◌∷◌, ◌++◌, length, take, get_or, suc, refl, sym, ap, subst, ◌∙◌, arith, Some, None}
use Rattle.std.specs.Prelude.{unwrap_or}
use Rattle.std.specs.Bool.{OnTrue}
use Rattle.std.specs.declared.option.Option.{Option}
use Rattle.std.proofs.lemmas.List.{length-append, length-take, length-take-le, nil_from_length, get_or-take, take-append-le, get_or-append-add}
use Rattle.std.proofs.Math.Seq.{take-length, take-suc}
use Rattle.strategy_syntax.specs.Resolved.{ResolvedStrategy, param, resolveds_of}
use Rattle.strategy_meaning.specs.Scopes.{Scope, Closure, Closures, inside, no_closures, and_closure, closure_at, cells_in, stands_for, with_closure, with_name, argument, arguments}
use Rattle.strategy_machine.specs.Table.{nowhere, scope_at, scope_from, IsThere, Starts, closure_of}
use Rattle.strategy_machine.specs.declared.scopes.Closure.{Closure as TableClosure}
use Rattle.strategy_machine.specs.inside.Entries.{AreNames, names_in, closure_count}

pub starts-length : (old new : List Scope) → Starts old new → length old ≤ length new
starts-length old new s = omega (arith, ap (λ (l : List Scope). length l) s, length-take (length old) new)

pub starts-at : (old new : List Scope) (n : ℕ) → Starts old new → n < length old → scope_at new n ≡ scope_at old n
starts-at old new n s h = sym (get_or-take (length old) new n nowhere h) ∙ ap (λ l. scope_at l n) s

pub starts-more : (old new : List Scope) (E : Scope) → Starts old new → Starts old (new ++ E ∷ [])
starts-more old new E s = take-append-le (length old) new (E ∷ []) (starts-length old new s) ∙ s

pub starts-itself : (old : List Scope) → Starts old old
starts-itself old = take-length old

arguments-more : (E : Scope) (ss : List ResolvedStrategy) (s : ResolvedStrategy)
    → arguments E (resolveds_of (ss ++ s ∷ [])) ≡ with_closure (arguments E (resolveds_of ss)) (argument E s).strategy
    (argument E s).written_in
arguments-more E [] s = refl
arguments-more E (r ∷ ss) s = ap (and_closure (argument E r).strategy (argument E r).written_in) (arguments-more E ss s)

-- the first i strategies have been added
pub record Added (old now : List Scope) (scope : ℕ) (ss : List ResolvedStrategy) (i : ℕ)
    (names : Option ℕ) : Type 0 where
  pub stay : Starts old now
  pub there : IsThere (length now) names
  pub given : scope_from now names ≡ inside [] (arguments (scope_at old scope) (resolveds_of (take i ss)))

pub added_none : (old : List Scope) (scope : ℕ) (ss : List ResolvedStrategy) → Added old old scope ss 0 None
added_none old scope ss = record { stay = starts-itself old; there = tt; given = refl }

own_scope : (now : List Scope) (E : Scope) (n : ℕ) → n ≡ length now → scope_at (now ++ E ∷ []) n ≡ E
own_scope now E n i =
    let m : n ≡ length now + 0 = omega (arith, i) in
    ap (λ k. get_or (now ++ E ∷ []) k nowhere) m ∙ get_or-append-add now (E ∷ []) 0 nowhere

pub added_one : (old now new : List Scope) (scope : ℕ) (ss : List ResolvedStrategy) (i n : ℕ) (names : Option ℕ)
    (s : ResolvedStrategy) (k : TableClosure)
    → Added old now scope ss i names → scope < length old → i < length ss → s ≡ get_or ss i s
    → argument (scope_at now scope) s ≡ closure_of now k → n ≡ length now
    → new ≡ now ++ with_name (scope_from now names) k.strategy.now (scope_at now k.written_in) ∷ []
    → Added old new scope ss (i + 1) (Some n)
added_one old now new scope ss i n names s k a lt il is arg ni ne =
    let E : Scope = scope_at old scope in
    let same : scope_at now scope ≡ E = starts-at old now scope a.stay lt in
    let m : i + 1 ≡ suc i = omega arith in
    let l : length new ≡ length now + 1 = ap length ne ∙ length-append now _ in
    record {
      stay = rw ne (starts-more old now _ a.stay);
      there = omega (arith, ni, l);
      given = ap (λ x. scope_at x n) ne ∙ own_scope now _ n ni
          ∙ ap (λ F. with_name F k.strategy.now (scope_at now k.written_in)) a.given
          ∙ ap
          (λ (c : Closure). inside [] (with_closure (arguments E (resolveds_of (take i ss))) c.strategy c.written_in))
          (sym arg ∙ ap (λ F. argument F s) same)
          ∙ ap (inside []) (sym (arguments-more E (take i ss) s))
          ∙ ap (λ l. inside [] (arguments E (resolveds_of l)))
          (ap (λ x. take i ss ++ x ∷ []) is ∙ sym (take-suc ss i s il) ∙ ap (λ j. take j ss) (sym m));
    }

pub added_all : (old now : List Scope) (scope : ℕ) (ss : List ResolvedStrategy) (i : ℕ) (names : Option ℕ)
    → Added old now scope ss i names
    → length ss ≤ i → i ≤ length ss
    → scope_from now names ≡ inside [] (arguments (scope_at old scope) (resolveds_of ss))
added_all old now scope ss i names a h k =
    let e : i ≡ length ss = omega (arith, h, k) in
    a.given
    ∙ ap (λ l. inside [] (arguments (scope_at old scope) (resolveds_of l))) (ap (λ j. take j ss) e ∙ take-length ss)

-- ---- all names passed on

-- From name i on, the strategies are the names of the scope.
names_stay : (E : Scope) (cs : Closures) (i : ℕ) (ss : List ResolvedStrategy)
    → ((x : ℕ) → stands_for E (i + x) ≡ closure_at cs x)
    → AreNames i ss → length ss ≡ closure_count cs → arguments E (resolveds_of ss) ≡ cs
names_stay E no_closures i [] h a l = refl
names_stay E (and_closure r F more) i [] h a l = absurd (omega (arith, l))
names_stay E no_closures i (s ∷ ss) h a l = absurd (omega (arith, l))
names_stay E (and_closure r F more) i (s ∷ ss) h a l =
    let here : stands_for E i ≡ Some (record { strategy = r; written_in = F }) =
    ap (stands_for E) (omega arith) ∙ h 0 in
    let own : Closure = record { strategy = param i; written_in = E } in
    let is : argument E s ≡ record { strategy = r; written_in = F } = ap (argument E) a.0
    ∙ ap (λ o. unwrap_or o own) here in
    let rest = names_stay E more (suc i) ss (λ x. ap (stands_for E) (omega arith) ∙ h (suc x)) a.1 (omega (arith, l)) in
    ap (λ (c : Closure). and_closure c.strategy c.written_in (arguments E (resolveds_of ss))) is
    ∙ ap (and_closure r F) rest

all_handed_on : (E : Scope) (ss : List ResolvedStrategy)
    → length (cells_in E) ≡ 0 → closure_count (names_in E) ≡ length ss → AreNames 0 ss
    → E ≡ inside [] (arguments E (resolveds_of ss))
all_handed_on (inside cells names) ss v n a =
    let same = names_stay (inside cells names) names 0 ss (λ x. ap (closure_at names) (omega arith)) a (sym n) in
    ap (λ c. inside c names) (nil_from_length cells v) ∙ ap (inside []) (sym same)

one_more : (i : ℕ) (ss : List ResolvedStrategy) (s : ResolvedStrategy) → AreNames i ss → s ≡ param (i + length ss)
    → AreNames i (ss ++ s ∷ [])
one_more i [] s a h = (h ∙ ap param (omega arith), tt)
one_more i (r ∷ ss) s a h = (a.0, one_more (suc i) ss s a.1 (h ∙ ap param (omega arith)))

-- one more name after the first ones
pub names_more : (ss : List ResolvedStrategy) (i : ℕ) (s : ResolvedStrategy) → i < length ss → s ≡ get_or ss i s
    → AreNames 0 (take i ss) → s ≡ param i
    → AreNames 0 (take (i + 1) ss)
names_more ss i s lt e a is =
    let n : suc i ≡ i + 1 = omega arith in
    let whole : take i ss ++ s ∷ [] ≡ take (i + 1) ss = ap (λ x. take i ss ++ x ∷ []) e ∙ sym (take-suc ss i s lt)
    ∙ ap (λ j. take j ss) n in
    subst (AreNames 0) whole (one_more 0 (take i ss) s a
    (is ∙ ap param (let l : length (take i ss) ≡ i = length-take-le i ss (omega (arith, lt)) in omega (arith, l))))

pub all_handed_on_where : (b : Bool) (E : Scope) (ss : List ResolvedStrategy)
    → length (cells_in E) ≡ 0 → closure_count (names_in E) ≡ length ss
    → OnTrue b (AreNames 0 ss) → OnTrue b (E ≡ inside [] (arguments E (resolveds_of ss)))
all_handed_on_where true E ss v n a = all_handed_on E ss v n a
all_handed_on_where false E ss v n a = tt
