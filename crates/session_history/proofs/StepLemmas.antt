-- The tests of an act: what an accepted one passed, and the outcome if the results of the tests are
-- known.
use Rattle.std.proofs.Common.{◌≡◌, ◌⊎◌, ℕ, Bool, true, false, List, Option, Some, None, IsSome, Result, Ok, Err, is_none, ok_or, option_map, inl, refl, sym, ap, subst, ◌∙◌, arith}
use Rattle.std.specs.Bool.{OnFalse}
use Rattle.std.specs.Result.{IsErrAnd}
use Rattle.std.specs.FinMap as finmap
use Rattle.term_core.specs.Tree.{Tree}
use Rattle.term_paths.specs.Paths.{at}
use Rattle.term_changes.specs.Contents.{Contents}
use Rattle.session_history.specs.History.{HistoryGroup, History}
use Rattle.session_history.specs.Acts.{Act, ActResult, Passing, Holding, Given, Located, ComesTo, Performs, place_in, place_of}
use Rattle.session_modules.specs.declared.refusal.Refusal.{Refusal}
use Rattle.session_modules.specs.declared.refusal.Refusal.TheVariants.{Memory, NoTree, Path}

-- ---- what was accepted

pub same_Ok : (g h : History) → ◌≡◌ {A = ActResult} (Ok h) (Ok g) → h ≡ g
same_Ok g h e = cc

pub passing_Ok : {X : Type 0} (test : Result X Refusal) (next : X → ActResult → Type 0) (g : History)
    → Passing test next (Ok g) → (x : X) × (test ≡ Ok x) × next x (Ok g)
passing_Ok (Ok x) next g p = (x, refl, p)
passing_Ok (Err refusal) next g p = absurd (cc)

pub holding_Ok : (test : Bool) (refusal : Refusal) (Next : ActResult → Type 0) (g : History)
    → Holding test refusal Next (Ok g) → (test ≡ true) × Next (Ok g)
holding_Ok true refusal Next g p = (refl, p)
holding_Ok false refusal Next g p = absurd (cc)

pub given_Ok : {X : Type 0} (Gives : Result X Refusal → Type 0) (next : X → ActResult → Type 0) (g : History)
    → Given Gives next (Ok g) → (x : X) × Gives (Ok x) × next x (Ok g)
given_Ok Gives next g (Ok x, gives, p) = (x, gives, p)
given_Ok Gives next g (Err refusal, gives, p) = absurd (cc)

-- ---- the outcome of an act

module _ {X Y : Type 0} (test : Result X Refusal) (next : X → Result Y Refusal → Type 0) where
  pub passed : (x : X) (outcome : Result Y Refusal) → test ≡ Ok x → next x outcome → Passing test next outcome
  passed x outcome is p = subst (λ (r : Result X Refusal). Passing r next outcome) (sym is) p

  pub stopped : (refusal : Refusal) → test ≡ Err refusal → Passing test next (Err refusal)
  stopped refusal is = subst (λ (r : Result X Refusal). Passing r next (Err refusal)) (sym is) refl

  -- the rest after a test whose result is known
  pub after : (x : X) (outcome : Result Y Refusal) → test ≡ Ok x → Passing test next outcome → next x outcome
  after x outcome is p = subst (λ (r : Result X Refusal). Passing r next outcome) is p

module _ (test : Bool) (refusal : Refusal) (Next : ActResult → Type 0) where
  pub held : (outcome : ActResult) → test ≡ true → Next outcome → Holding test refusal Next outcome
  held outcome is p = subst (λ (b : Bool). Holding b refusal Next outcome) (sym is) p

-- ---- the answer to an act

module _ {X : Type 0} (act : Act) (h g : History) where
  pub accepts : (x : X) → ComesTo act h (Ok g) → Performs act h g (Ok x)
  accepts x done = record { ok = done; refused = tt; err = tt }

  pub refuses : (refusal : Refusal) → (refusal ≡ Memory) ⊎ ComesTo act h (Err refusal)
      → g ≡ h → Performs {X = X} act h g (Err refusal)
  refuses refusal why same = record { ok = tt; refused = why; err = same }

  -- the answer at a `?`
  pub refuses_by : (r : Result X Refusal) (refusal : Refusal)
      → IsErrAnd r (λ e. e ≡ refusal) → (refusal ≡ Memory) ⊎ ComesTo act h (Err refusal) → g ≡ h → Performs act h g r
  refuses_by (Ok x) refusal is why same = absurd is
  refuses_by (Err e) refusal is why same =
      refuses e (subst (λ (e : Refusal). (e ≡ Memory) ⊎ ComesTo act h (Err e)) (sym is) why) same

  pub wants : (r : Result X Refusal) → IsErrAnd r (λ e. e ≡ Memory) → g ≡ h → Performs act h g r
  wants r is same = refuses_by r Memory is (inl refl) same

-- ---- what the tests find

pub some_there : {X : Type 0} (o : Option X) → IsSome o → (x : X) × (o ≡ Some x)
some_there None h = absurd (cc)
some_there (Some x) h = (x, refl)

pub ok_or-Ok : {X : Type 0} (o : Option X) (r : Refusal) (x : X) → ◌≡◌ {A = Result X Refusal} (ok_or o r) (Ok x)
    → o ≡ Some x
ok_or-Ok o r x e = grind arith

pub none_of : (o : Option HistoryGroup) → is_none o ≡ true → o ≡ None
none_of o e = grind arith

module _ (path : List ℕ) (t : Tree) where
  abbrev here : Option Tree → Result Located Refusal
  here o = ok_or (option_map (λ part. record { tree = t; part = part }) o) Path

  at_tree : (o : Option Tree) (place : Located) → here o ≡ Ok place → t ≡ place.tree
  at_tree o place e = grind arith

-- the tree of a place is that of the label
pub place_tree : (c : Contents) (name path : List ℕ) (place : Located) → place_of c name path ≡ Ok place
    → finmap.get c.trees name ≡ Some place.tree
place_tree c name path place = by (finmap.get c.trees name)
  where
    by : (o : Option Tree) → place_in path (ok_or o NoTree) ≡ Ok place → o ≡ Some place.tree
    by None e = absurd (cc)
    by (Some t) e = ap (λ (t : Tree). Some t) (at_tree path t (at t path) place e)

module _ (c : Contents) (name path : List ℕ) where
  -- a label with a tree, and a path in it
  pub place_there : (t part : Tree) → finmap.get c.trees name ≡ Some t → at t path ≡ Some part
      → place_of c name path ≡ Ok (record { tree = t; part = part })
  place_there t part is leads_to = ap (λ (o : Option Tree). place_in path (ok_or o NoTree)) is
      ∙ ap (here path t) leads_to

-- ---- what holds where a condition doesn't

pub on_false : {P : Type 0} (b : Bool) → (b ≡ false → P) → OnFalse b P
on_false true h = tt
on_false false h = h refl
