-- Looking up variables and names in a scope that extends another.
use Rattle.std.proofs.Common.{◌≡◌, ℕ, ◌+◌, ◌-◌, ◌≤◌, ◌<◌, List, [], ◌∷◌, ◌++◌, length, zero, suc, refl, sym, ap, ◌∙◌, arith, Some, None}
use Rattle.std.specs.Prelude.{MatchOption}
use Rattle.std.specs.declared.option.Option.{Option}
use Rattle.std.specs.List.{slice_get}
use Rattle.std.proofs.lemmas.List.{append-nil, length-append}
use Rattle.strategy_syntax.specs.Resolved.{ResolvedStrategy}
use Rattle.strategy_meaning.specs.Scopes.{Scope, inside, Closures, no_closures, and_closure, Closure, cells_in, closure_at, stands_for, with_closure, with_variables, with_name, numbers_from}
use Rattle.strategy_machine.specs.Table.{Addition, variables, name, scope_at, scope_from, with_addition, NameStands}
use Rattle.strategy_machine.specs.declared.scopes.Closure.{Closure as TableClosure}
use Rattle.strategy_machine.specs.declared.scopes.Adds.{Adds}
use Rattle.strategy_machine.specs.declared.scopes.Adds.TheVariants.{Variables, Name}
use Rattle.strategy_machine.specs.declared.scopes.ScopeEntry.{ScopeEntry}
use Rattle.strategy_machine.specs.inside.Entries.{names_in, closure_count, addition_of, AddsFit, AddsRoom, added_cells, added_names}
use Rattle.strategy_machine.proofs.TableLemmas.{IsAt}

-- ---- variables

pub get-outer : {A : Type 0} (xs ys : List A) (i : ℕ) → i < length xs → slice_get (xs ++ ys) i ≡ slice_get xs i
get-outer [] ys i h = absurd (omega (arith, h))
get-outer (x ∷ xs) ys zero h = refl
get-outer (x ∷ xs) ys (suc i) h = get-outer xs ys i (omega (arith, h))

pub get-own : {A : Type 0} (xs ys : List A) (i : ℕ)
    → length xs ≤ i → slice_get (xs ++ ys) i ≡ slice_get ys (i - length xs)
get-own [] ys i h = ap (slice_get ys) (omega arith)
get-own (x ∷ xs) ys zero h = absurd (omega (arith, h))
get-own (x ∷ xs) ys (suc i) h =
    let n : i - length xs ≡ suc i - suc (length xs) = omega arith in
    get-own xs ys i (omega (arith, h)) ∙ ap (slice_get ys) n

pub numbers_from-get : (first n i : ℕ) → i < n → slice_get (numbers_from first n) i ≡ Some (first + i)
numbers_from-get first zero i h = absurd (omega (arith, h))
numbers_from-get first (suc n) zero h = ap Some (omega arith)
numbers_from-get first (suc n) (suc i) h = numbers_from-get (first + 1) n i (omega (arith, h)) ∙ ap Some (omega arith)

pub length-numbers_from : (first n : ℕ) → length (numbers_from first n) ≡ n
length-numbers_from first zero = refl
length-numbers_from first (suc n) = ap suc (length-numbers_from (first + 1) n)

cells-added : (known : List Scope) (a : Addition) (E : Scope)
    → cells_in (with_addition known a E) ≡ cells_in E ++ added_cells a
cells-added known (variables first n) (inside cells names) = refl
cells-added known (name s k) (inside cells names) = sym (append-nil cells)

module _ (all : List Scope) (b : ℕ) (E : Scope) (e : ScopeEntry) (h : IsAt all b E e) (x : ℕ) where
  the_cells : cells_in E ≡ cells_in (scope_from all e.outer) ++ added_cells (addition_of e.adds)
  the_cells = ap cells_in h.scope ∙ cells-added all (addition_of e.adds) (scope_from all e.outer)

  pub cell-own : e.variables ≤ x → slice_get (cells_in E) x
      ≡ slice_get (added_cells (addition_of e.adds)) (x - e.variables)
  cell-own le =
      ap (λ cs. slice_get cs x) the_cells
      ∙ get-own (cells_in (scope_from all e.outer)) (added_cells (addition_of e.adds)) x
      (omega (arith, le, h.sound.variables))
      ∙ ap (λ n. slice_get (added_cells (addition_of e.adds)) (x - n)) (sym h.sound.variables)

  pub cell-outer : x < e.variables → slice_get (cells_in E) x ≡ slice_get (cells_in (scope_from all e.outer)) x
  cell-outer lt =
      ap (λ cs. slice_get cs x) the_cells
      ∙ get-outer (cells_in (scope_from all e.outer)) (added_cells (addition_of e.adds)) x
      (omega (arith, lt, h.sound.variables))

pub length-cells : (all : List Scope) (b : ℕ) (E : Scope) (e : ScopeEntry) → IsAt all b E e
    → length (cells_in E) ≡ e.variables + length (added_cells (addition_of e.adds))
length-cells all b E e h =
    ap (λ E'. length (cells_in E')) h.scope ∙ ap length (cells-added all (addition_of e.adds) (scope_from all e.outer))
    ∙ length-append (cells_in (scope_from all e.outer)) (added_cells (addition_of e.adds))
    ∙ ap (λ n. n + length (added_cells (addition_of e.adds))) (sym h.sound.variables)

-- ---- names

closure-outer : (cs : Closures) (s : ResolvedStrategy) (E : Scope) (x : ℕ) → x < closure_count cs
    → closure_at (with_closure cs s E) x ≡ closure_at cs x
closure-outer no_closures s E x h = absurd (omega (arith, h))
closure-outer (and_closure r F more) s E zero h = refl
closure-outer (and_closure r F more) s E (suc x) h = closure-outer more s E x (omega (arith, h))

-- the one name of the addition
abbrev added_one : ResolvedStrategy → Scope → ℕ → Option Closure
added_one s E zero = Some (record { strategy = s; written_in = E })
added_one s E (suc x) = None

closure-own : (cs : Closures) (s : ResolvedStrategy) (E : Scope) (x y : ℕ)
    → y ≡ closure_count cs + x → closure_at (with_closure cs s E) y ≡ added_one s E x
closure-own no_closures s E zero zero h = refl
closure-own no_closures s E zero (suc y) h = absurd (omega (arith, h))
closure-own no_closures s E (suc x) zero h = absurd (omega (arith, h))
closure-own no_closures s E (suc x) (suc y) h = refl
closure-own (and_closure r F more) s E x zero h = absurd (omega (arith, h))
closure-own (and_closure r F more) s E x (suc y) h = closure-own more s E x y (omega (arith, h))

closure-past : (cs : Closures) (y : ℕ) → closure_count cs ≤ y → closure_at cs y ≡ None
closure-past no_closures y h = refl
closure-past (and_closure r F more) zero h = absurd (omega (arith, h))
closure-past (and_closure r F more) (suc y) h = closure-past more y (omega (arith, h))

pub count-with : (cs : Closures) (s : ResolvedStrategy) (E : Scope)
    → closure_count (with_closure cs s E) ≡ closure_count cs + 1
count-with no_closures s E = refl
count-with (and_closure r F more) s E =
    let h : closure_count (with_closure more s E) ≡ closure_count more + 1 = count-with more s E in
    let n : suc (closure_count (with_closure more s E)) ≡ suc (closure_count more) + 1 = omega (arith, h) in n

pub names-variables : (E : Scope) (first n : ℕ) → names_in (with_variables E first n) ≡ names_in E
names-variables (inside cells names) first n = refl

pub names-name : (E : Scope) (s : ResolvedStrategy) (F : Scope)
    → names_in (with_name E s F) ≡ with_closure (names_in E) s F
names-name (inside cells names) s F = refl

stands-closure : (E : Scope) (x : ℕ) → stands_for E x ≡ closure_at (names_in E) x
stands-closure (inside cells names) x = refl

-- what the scope's own name is, if it is x
abbrev own_closure : List Scope → Adds → ℕ → Option Closure
own_closure all (Variables first n) i = None
own_closure all (Name k) i = added_one k.strategy.now (scope_at all k.written_in) i

own-is : (all : List Scope) (a : Adds) (E : Scope) (i y : ℕ) → y ≡ closure_count (names_in E) + i
    → closure_at (names_in (with_addition all (addition_of a) E)) y ≡ own_closure all a i
own-is all (Variables first n) E i y h =
    ap (λ cs. closure_at cs y) (names-variables E first n) ∙ closure-past (names_in E) y (omega (arith, h))
own-is all (Name k) E i y h =
    ap (λ cs. closure_at cs y) (names-name E k.strategy.now (scope_at all k.written_in))
    ∙ closure-own (names_in E) k.strategy.now (scope_at all k.written_in) i y h

outer-is : (all : List Scope) (a : Adds) (E : Scope) (x : ℕ) → x < closure_count (names_in E)
    → closure_at (names_in (with_addition all (addition_of a) E)) x ≡ closure_at (names_in E) x
outer-is all (Variables first n) E x h = ap (λ cs. closure_at cs x) (names-variables E first n)
outer-is all (Name k) E x h =
    ap (λ cs. closure_at cs x) (names-name E k.strategy.now (scope_at all k.written_in))
    ∙ closure-outer (names_in E) k.strategy.now (scope_at all k.written_in) x h

module _ (all : List Scope) (b : ℕ) (E : Scope) (e : ScopeEntry) (h : IsAt all b E e) (x : ℕ) where
  pub name-outer : x < e.names → stands_for E x ≡ stands_for (scope_from all e.outer) x
  name-outer lt =
      stands-closure E x ∙ ap (λ F. closure_at (names_in F) x) h.scope
      ∙ outer-is all e.adds (scope_from all e.outer) x (omega (arith, lt, h.sound.names))
      ∙ sym (stands-closure (scope_from all e.outer) x)

  name-own : e.names ≤ x → stands_for E x ≡ own_closure all e.adds (x - e.names)
  name-own le =
      stands-closure E x ∙ ap (λ F. closure_at (names_in F) x) h.scope
      ∙ own-is all e.adds (scope_from all e.outer) (x - e.names) x (omega (arith, le, h.sound.names))

  pub count-names : closure_count (names_in E) ≡ e.names + length (added_names e.adds)
  count-names =
      ap (λ F. closure_count (names_in F)) h.scope ∙ counted e.adds (scope_from all e.outer)
      ∙ ap (λ n. n + length (added_names e.adds)) (sym h.sound.names)
    where
      counted : (a : Adds) (F : Scope) → closure_count (names_in (with_addition all (addition_of a) F))
          ≡ closure_count (names_in F) + length (added_names a)
      counted (Variables first n) F = ap closure_count (names-variables F first n) ∙ omega arith
      counted (Name k) F = ap closure_count (names-name F k.strategy.now (scope_at all k.written_in))
          ∙ count-with (names_in F) k.strategy.now (scope_at all k.written_in)

-- what is found is what the name stands for
found : (all : List Scope) (a : Adds) (b i n x : ℕ) (o : Option TableClosure) → o ≡ slice_get (added_names a) i
    → AddsFit b a → b ≤ length all
    → stands_for (scope_at all n) x ≡ own_closure all a i
    → MatchOption o (stands_for (scope_at all n) x ≡ None) (λ k. NameStands all n x k)
found all (Variables first m) b i n x o e f le h = rw e h
found all (Name k) b zero n x o e f le h = rw e (omega (arith, f, le), h)
found all (Name k) b (suc i) n x o e f le h = rw e h

pub name-found : (all : List Scope) (b : ℕ) (e : ScopeEntry) (n x at : ℕ) (o : Option TableClosure)
    → IsAt all b (scope_at all at) e → b ≤ length all
    → stands_for (scope_at all n) x ≡ stands_for (scope_at all at) x
    → e.names ≤ x → o ≡ slice_get (added_names e.adds) (x - e.names)
    → MatchOption o (stands_for (scope_at all n) x ≡ None) (λ k. NameStands all n x k)
name-found all b e n x at o h le same past is =
    found all e.adds b (x - e.names) n x o is h.sound.adds le (same ∙ name-own all b (scope_at all at) e h x past)

-- ---- the empty scope has none

pub no_variable : (all : List Scope) (b : ℕ) (E : Scope) (e : ScopeEntry) → IsAt all b E e → (x : ℕ)
    → e.outer ≡ None → x < e.variables → ⊥
no_variable all b E e h x i lt =
    let n : e.variables ≡ 0 = h.sound.variables ∙ ap (λ o. length (cells_in (scope_from all o))) i in
    omega (arith, n, lt)

pub no_name : (all : List Scope) (b : ℕ) (E : Scope) (e : ScopeEntry) → IsAt all b E e → (x : ℕ)
    → e.outer ≡ None → x < e.names → ⊥
no_name all b E e h x i lt =
    let n : e.names ≡ 0 = h.sound.names ∙ ap (λ o. closure_count (names_in (scope_from all o))) i in
    omega (arith, n, lt)

pub fits-room : (b : ℕ) (a : Adds) → AddsFit b a → AddsRoom a
fits-room b (Variables first n) h = h
fits-room b (Name k) h = tt

-- ---- the sizes of a scope

module _ (all : List Scope) (b n : ℕ) (e : ScopeEntry) (o : Option ℕ) (h : IsAt all b (scope_at all n) e)
    (is : o ≡ Some n) where
  cells-from : length (cells_in (scope_from all o)) ≡ e.variables + length (added_cells (addition_of e.adds))
  cells-from = ap (λ p. length (cells_in (scope_from all p))) is ∙ length-cells all b (scope_at all n) e h

  names-from : closure_count (names_in (scope_from all o)) ≡ e.names + length (added_names e.adds)
  names-from = ap (λ p. closure_count (names_in (scope_from all p))) is ∙ count-names all b (scope_at all n) e h 0

  pub cells-variables : (first m : ℕ) → e.adds ≡ Variables first m
      → length (cells_in (scope_from all o)) ≡ e.variables + m
  cells-variables first m a =
      cells-from ∙ ap (λ (x : Adds). e.variables + length (added_cells (addition_of x))) a
      ∙ ap (λ k. e.variables + k) (length-numbers_from first m)

  pub cells-name : (k : TableClosure) → e.adds ≡ Name k → length (cells_in (scope_from all o)) ≡ e.variables
  cells-name k a = cells-from ∙ ap (λ (x : Adds). e.variables + length (added_cells (addition_of x))) a ∙ omega arith

  pub names-variables-from : (first m : ℕ) → e.adds ≡ Variables first m
      → closure_count (names_in (scope_from all o)) ≡ e.names
  names-variables-from first m a = names-from ∙ ap (λ (x : Adds). e.names + length (added_names x)) a ∙ omega arith

  pub names-name-from : (k : TableClosure) → e.adds ≡ Name k → closure_count (names_in (scope_from all o)) ≡ e.names + 1
  names-name-from k a = names-from ∙ ap (λ (x : Adds). e.names + length (added_names x)) a
