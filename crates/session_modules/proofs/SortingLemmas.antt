-- Declarations that are added one after another, up to the first that doesn't agree.
use Rattle.std.proofs.Common.{◌≡◌, ◌<◌, ◌≤◌, ℕ, suc, ◌+◌, List, [], ◌∷◌, ◌++◌, length, take, drop, get_or, append-nil, refl, sym, ap, subst, ◌∙◌, inl, inr, arith}
use Rattle.std.proofs.lemmas.List.{append_assoc, take-append-drop, take_all}
use Rattle.std.proofs.lemmas.Grind.{flat_map-append}
use Rattle.std.proofs.Math.Seq.{take-suc}
use Rattle.std.specs.Prelude.{◌⊎◌, flat_map, IfNone, IfErr, IsErrAnd, None, Ok, Err}
use Rattle.std.specs.declared.option.Option.{Option}
use Rattle.std.specs.declared.result.Result.{Result}
use Rattle.term_core.specs.Tree.{Symbol}
use Rattle.term_sorts.specs.Sorts.{Sort, Declaration, Injection, Declared, AreDeclaredOnce, TakeNoneAlike, AreAgreed, name_of, arguments_of}
use Rattle.term_sorts.specs.Signatures.{Signature, and_constructor, and_injection}
use Rattle.strategy_syntax.specs.Modules.{Module}
use Rattle.strategy_check.specs.Tables.{Modules}
use Rattle.session_modules.specs.Sorting.{FirstAgainst, IsClash, declared_in}
use Rattle.session_modules.specs.inside.Declaring.{AgainstAfter, ConstructorClash, InjectionClash, declared_by, and_constructors, and_injections}
use Rattle.session_modules.specs.declared.sorting.SortFault.{SortFault}
use Rattle.session_modules.specs.declared.sorting.SortFault.TheVariants.{Memory, Clash}
use Rattle.session_modules.proofs.CacheLemmas.{next_one}

-- ---- the first that doesn't agree

module _ {X : Type 0} (Agree : List X → Type 0) where
  -- It is the same one among more.
  against_within : (old first middle last : List X) (x : X) → AgainstAfter Agree (old ++ first) middle x
      → AgainstAfter Agree old (first ++ (middle ++ last)) x
  against_within old first middle last x a =
      let order = append_assoc old first a.before in
      record {
        before = first ++ a.before;
        after = a.after ++ last;
        is =
            ap (λ l. first ++ (l ++ last)) a.is ∙ ap (λ l. first ++ l) (append_assoc a.before (x ∷ a.after) last)
            ∙ sym (append_assoc first a.before (x ∷ (a.after ++ last)));
        agree = subst Agree order a.agree;
        disagree = λ h. a.disagree (subst (λ l. Agree (l ++ x ∷ [])) (sym order) h);
      }

  pub against_first : (xs : List X) (x : X) → AgainstAfter Agree [] xs x → FirstAgainst Agree xs x
  against_first xs x a =
      record { before = a.before; after = a.after; is = a.is; agree = a.agree; disagree = a.disagree }

  -- Those before the element of this index were added.
  pub against_at : (old now xs : List X) (i : ℕ) (y x : X) → now ≡ old ++ take i xs → i < length xs → y ≡ get_or xs i y
      → AgainstAfter Agree now (y ∷ []) x → AgainstAfter Agree old xs x
  against_at old now xs i y x so_far lt at a =
      let all : take i xs ++ (y ∷ [] ++ drop (i + 1) xs) ≡ xs = ap (λ l. take i xs ++ l) (sym (next_one xs i y lt at))
      ∙ take-append-drop i xs in
      subst (λ l. AgainstAfter Agree old l x) all
      (against_within old (take i xs) (y ∷ []) (drop (i + 1) xs) x
      (subst (λ l. AgainstAfter Agree l (y ∷ []) x) so_far a))

  -- Those of the parts before this one were added.
  pub against_in : {Y : Type 0} (f : Y → List X) (now : List X) (ys : List Y) (i : ℕ) (y : Y) (x : X)
      → now ≡ flat_map f (take i ys) → i < length ys → y ≡ get_or ys i y → AgainstAfter Agree now (f y) x
      → FirstAgainst Agree (flat_map f ys) x
  against_in f now ys i y x so_far lt at a =
      let all : flat_map f (take i ys) ++ (f y ++ flat_map f (drop (i + 1) ys)) ≡ flat_map f ys =
      sym (flat_map-append f (take i ys) (y ∷ drop (i + 1) ys))
      ∙ ap (λ l. flat_map f (take i ys ++ l)) (sym (next_one ys i y lt at)) ∙ ap (flat_map f) (take-append-drop i ys) in
      against_first (flat_map f ys) x
      (subst (λ l. AgainstAfter Agree [] l x) all
      (against_within [] (flat_map f (take i ys)) (f y) (flat_map f (drop (i + 1) ys)) x
      (subst (λ l. AgainstAfter Agree l (f y) x) so_far a)))

-- ---- one declaration

-- an error that is passed on by `?`
pub passed_on : {X : Type 0} (r : Result X SortFault) (fault : SortFault) (P : SortFault → Type 0)
    → IsErrAnd r (λ e. e ≡ fault) → P fault → IfErr r P
passed_on (Ok x) fault P is p = tt
passed_on (Err e) fault P is p = subst P (sym is) p

-- want of memory stays what it is
or_clash : (P Q : SortFault → Type 0) (fault : SortFault) → (P fault → Q fault) → (fault ≡ Memory) ⊎ P fault
    → (fault ≡ Memory) ⊎ Q fault
or_clash P Q fault f (inl memory) = inl memory
or_clash P Q fault f (inr clash) = inr (f clash)

-- It wasn't added: the name and the arguments are those that the code reads of it.
module _ (D : Declared) (made : Option Signature) (none : made ≡ None) (agreed : AreAgreed D) (fault : SortFault) where
  pub clash_of_constructor : (d : Declaration) (f : Symbol) (ss : List Sort)
      → f ≡ d.name → ss ≡ d.arguments → IfNone made (AreAgreed (and_constructor D d) → ⊥)
      → (fault ≡ Memory) ⊎ (fault ≡ Clash f (length ss)) → (fault ≡ Memory) ⊎ ConstructorClash D (d ∷ []) fault
  clash_of_constructor d f ss name arguments clashes =
      let clash : AreAgreed (and_constructor D d) → ⊥ = subst
      (λ (o : Option Signature). IfNone o (AreAgreed (and_constructor D d) → ⊥)) none clashes in
      let against : AgainstAfter AreDeclaredOnce D.constructors (d ∷ []) d = record {
        before = [];
        after = [];
        is = refl;
        agree = subst AreDeclaredOnce (sym (append-nil D.constructors)) agreed.0;
        disagree =
            λ once. clash (subst (λ l. AreDeclaredOnce (l ++ d ∷ [])) (append-nil D.constructors) once, agreed.1);
      } in
      or_clash (λ r. r ≡ Clash f (length ss)) (ConstructorClash D (d ∷ [])) fault
      (λ is. (d, against, is ∙ ap (λ n. Clash n (length ss)) name ∙ ap (λ l. Clash d.name (length l)) arguments))

  pub clash_of_injection : (i : Injection) (f : Symbol) (ss : List Sort) → f ≡ name_of i.to → ss ≡ arguments_of i.to
      → IfNone made (AreAgreed (and_injection D i) → ⊥)
      → (fault ≡ Memory) ⊎ (fault ≡ Clash f (length ss)) → (fault ≡ Memory) ⊎ InjectionClash D (i ∷ []) fault
  clash_of_injection i f ss name arguments clashes =
      let clash : AreAgreed (and_injection D i) → ⊥ = subst
      (λ (o : Option Signature). IfNone o (AreAgreed (and_injection D i) → ⊥)) none clashes in
      let against : AgainstAfter TakeNoneAlike D.injections (i ∷ []) i = record {
        before = [];
        after = [];
        is = refl;
        agree = subst TakeNoneAlike (sym (append-nil D.injections)) agreed.1;
        disagree = λ alone. clash (agreed.0, subst (λ l. TakeNoneAlike (l ++ i ∷ [])) (append-nil D.injections) alone);
      } in
      or_clash (λ r. r ≡ Clash f (length ss)) (InjectionClash D (i ∷ [])) fault
      (λ is. (
        agreed.0,
        (i, against, is ∙ ap (λ n. Clash n (length ss)) name ∙ ap (λ l. Clash (name_of i.to) (length l)) arguments),
      ))

-- ---- one more

-- one element more was added
pub one_added : {X : Type 0} (old now next xs : List X) (i : ℕ) (x : X) → now ≡ old ++ take i xs
    → next ≡ now ++ x ∷ [] → i < length xs → x ≡ get_or xs i x → next ≡ old ++ take (i + 1) xs
one_added old now next xs i x so_far more lt at =
    let step : suc i ≡ i + 1 = omega arith in
    more ∙ ap (λ l. l ++ x ∷ []) so_far ∙ append_assoc old (take i xs) (x ∷ [])
    ∙ ap (λ l. old ++ l) (ap (λ y. take i xs ++ y ∷ []) at ∙ sym (take-suc xs i x lt) ∙ ap (λ n. take n xs) step)

-- one part more was added
pub part_added : {X Y : Type 0} (f : Y → List X) (now next : List X) (ys : List Y) (i : ℕ) (y : Y) → now ≡ flat_map f
    (take i ys) → next ≡ now ++ f y → i < length ys → y ≡ get_or ys i y → next ≡ flat_map f (take (i + 1) ys)
part_added f now next ys i y so_far more lt at =
    let step : suc i ≡ i + 1 = omega arith in
    more ∙ ap (λ l. l ++ f y) so_far ∙ ap (λ l. flat_map f (take i ys) ++ l) (sym (append-nil (f y)))
    ∙ sym (flat_map-append f (take i ys) (y ∷ []))
    ∙ ap (flat_map f) (ap (λ z. take i ys ++ z ∷ []) at ∙ sym (take-suc ys i y lt) ∙ ap (λ n. take n ys) step)

module _ (old now next : Declared) where
  pub constructors_step : (ds : List Declaration) (i : ℕ) (d : Declaration) → now ≡ and_constructors old (take i ds)
      → next ≡ and_constructor now d → i < length ds → d ≡ get_or ds i d
      → next ≡ and_constructors old (take (i + 1) ds)
  constructors_step ds i d so_far more lt at = λ j. record {
    constructors = one_added old.constructors now.constructors next.constructors ds i d
        (ap (λ D. D.constructors) so_far) (ap (λ D. D.constructors) more) lt at j;
    injections = (ap (λ D. D.injections) more ∙ ap (λ D. D.injections) so_far) j;
  }

  pub injections_step : (is : List Injection) (i : ℕ) (d : Injection) → now ≡ and_injections old (take i is)
      → next ≡ and_injection now d → i < length is → d ≡ get_or is i d
      → next ≡ and_injections old (take (i + 1) is)
  injections_step is i d so_far more lt at = λ j. record {
    constructors = (ap (λ D. D.constructors) more ∙ ap (λ D. D.constructors) so_far) j;
    injections = one_added old.injections now.injections next.injections is i d (ap (λ D. D.injections) so_far)
        (ap (λ D. D.injections) more) lt at j;
  }

pub no_constructors : (D : Declared) → D ≡ and_constructors D []
no_constructors D = λ i. record { constructors = sym (append-nil D.constructors) i; injections = D.injections }

pub no_injections : (D : Declared) → D ≡ and_injections D []
no_injections D = λ i. record { constructors = D.constructors; injections = sym (append-nil D.injections) i }

-- all were added
pub constructors_done : (old now : Declared) (ds : List Declaration) (i : ℕ) → now ≡ and_constructors old (take i ds)
    → length ds ≤ i → now ≡ and_constructors old ds
constructors_done old now ds i so_far ge = so_far ∙ ap (and_constructors old) (take_all i ds ge)

pub injections_done : (old now : Declared) (is : List Injection) (i : ℕ) → now ≡ and_injections old (take i is)
    → length is ≤ i → now ≡ and_injections old is
injections_done old now is i so_far ge = so_far ∙ ap (and_injections old) (take_all i is ge)

-- the next one doesn't agree
pub later_constructor : (old now : Declared) (ds : List Declaration) (i : ℕ) (d : Declaration) (fault : SortFault)
    → now ≡ and_constructors old (take i ds) → i < length ds → d ≡ get_or ds i d
    → (fault ≡ Memory) ⊎ ConstructorClash now (d ∷ []) fault → (fault ≡ Memory) ⊎ ConstructorClash old ds fault
later_constructor old now ds i d fault so_far lt at =
    or_clash (ConstructorClash now (d ∷ [])) (ConstructorClash old ds) fault
    (λ r. (
      r.0,
      against_at AreDeclaredOnce old.constructors now.constructors ds i d r.0 (ap (λ D. D.constructors) so_far)
          lt at r.1,
      r.2,
    ))

pub later_injection : (old now : Declared) (is : List Injection) (i : ℕ) (d : Injection) (fault : SortFault)
    → now ≡ and_injections old (take i is) → i < length is → d ≡ get_or is i d
    → (fault ≡ Memory) ⊎ InjectionClash now (d ∷ []) fault → (fault ≡ Memory) ⊎ InjectionClash old is fault
later_injection old now is i d fault so_far lt at =
    or_clash (InjectionClash now (d ∷ [])) (InjectionClash old is) fault
    (λ r. (
      subst AreDeclaredOnce (ap (λ D. D.constructors) so_far) r.0,
      (
        r.1.0,
        against_at TakeNoneAlike old.injections now.injections is i d r.1.0 (ap (λ D. D.injections) so_far) lt at r.1.1,
        r.1.2,
      ),
    ))

-- ---- of all modules

module _ (now next : Declared) (ms : Modules) (i : ℕ) (m : List ℕ × Module) where
  pub constructors_of_one : now ≡ declared_by (take i ms) [] → next ≡ and_constructors now m.1.declarations
      → i < length ms → m ≡ get_or ms i m → next ≡ declared_by (take (i + 1) ms) []
  constructors_of_one so_far more lt at = λ j. record {
    constructors = part_added (λ (m : List ℕ × Module). m.1.declarations) now.constructors next.constructors ms i m
        (ap (λ D. D.constructors) so_far) (ap (λ D. D.constructors) more) lt at j;
    injections = (ap (λ D. D.injections) more ∙ ap (λ D. D.injections) so_far) j;
  }

  pub injections_of_one : now ≡ declared_by ms (take i ms) → next ≡ and_injections now m.1.injections → i < length ms
      → m ≡ get_or ms i m → next ≡ declared_by ms (take (i + 1) ms)
  injections_of_one so_far more lt at = λ j. record {
    constructors = (ap (λ D. D.constructors) more ∙ ap (λ D. D.constructors) so_far) j;
    injections = part_added (λ (m : List ℕ × Module). m.1.injections) now.injections next.injections ms i m
        (ap (λ D. D.injections) so_far) (ap (λ D. D.injections) more) lt at j;
  }

pub constructors_all : (now : Declared) (ms : Modules) (i : ℕ) → now ≡ declared_by (take i ms) []
    → length ms ≤ i → now ≡ declared_by ms []
constructors_all now ms i so_far ge = so_far ∙ ap (λ l. declared_by l []) (take_all i ms ge)

pub all_declared : (now : Declared) (ms : Modules) (i : ℕ) → now ≡ declared_by ms (take i ms)
    → length ms ≤ i → now ≡ declared_in ms
all_declared now ms i so_far ge = so_far ∙ ap (declared_by ms) (take_all i ms ge)

-- ---- the clash

module _ (D : Declared) (ms : Modules) (i : ℕ) (m : List ℕ × Module) (fault : SortFault) (lt : i < length ms)
    (at : m ≡ get_or ms i m) where
  pub clash_in_constructors : D ≡ declared_by (take i ms) []
      → (fault ≡ Memory) ⊎ ConstructorClash D m.1.declarations fault → (fault ≡ Memory) ⊎ IsClash (declared_in ms) fault
  clash_in_constructors so_far =
      or_clash (ConstructorClash D m.1.declarations) (IsClash (declared_in ms)) fault
      (λ r. inl (
        r.0,
        against_in AreDeclaredOnce (λ (m : List ℕ × Module). m.1.declarations) D.constructors ms i m r.0
            (ap (λ D. D.constructors) so_far) lt at r.1,
        r.2,
      ))

  pub clash_in_injections : D ≡ declared_by ms (take i ms) → (fault ≡ Memory) ⊎ InjectionClash D m.1.injections fault
      → (fault ≡ Memory) ⊎ IsClash (declared_in ms) fault
  clash_in_injections so_far =
      or_clash (InjectionClash D m.1.injections) (IsClash (declared_in ms)) fault
      (λ r. inr (
        subst AreDeclaredOnce (ap (λ D. D.constructors) so_far) r.0,
        (
          r.1.0,
          against_in TakeNoneAlike (λ (m : List ℕ × Module). m.1.injections) D.injections ms i m r.1.0
              (ap (λ D. D.injections) so_far) lt at r.1.1,
          r.1.2,
        ),
      ))

pub ruleset declaring = (
  constructors_step,
  injections_step,
  no_constructors,
  no_injections,
  constructors_done,
  injections_done,
  later_constructor,
  later_injection,
  constructors_of_one,
  injections_of_one,
  constructors_all,
  all_declared,
  clash_in_constructors,
  clash_in_injections,
)
