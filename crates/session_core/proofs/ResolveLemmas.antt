-- Resolving a strategy for a place: the tests, one after the other.
use Rattle.std.proofs.Common.{◌≡◌, ◌≤◌, ◌+◌, ◌⊎◌, ℕ, List, length, Option, Some, None, IsSome, IfSome, option_and_then, Result, Ok, Err, inl, inr, refl, sym, ap, subst, arith}
use Rattle.std.specs.Prelude.{IsSomeAnd, option_map}
use Rattle.prim_core.specs.Signature.{Signature}
use Rattle.term_core.specs.Tree.{Tree}
use Rattle.term_core.specs.Size.{height}
use Rattle.term_core.specs.declared.TheConstants.{MAX_HEIGHT}
use Rattle.term_paths.specs.Paths.{at}
use Rattle.strategy_syntax.specs.Syntax.{Strategy}
use Rattle.strategy_syntax.specs.declared.resolved.Resolved.{Resolved}
use Rattle.strategy_check.specs.Faults.{Fault, IsTold}
use Rattle.strategy_check.specs.Programs.{Program}
use Rattle.strategy_check.specs.declared.fault.CheckFault.{CheckFault}
use Rattle.strategy_check.specs.declared.fault.CheckFault.TheVariants.{Memory as NoCheckMemory, Fault as Told}
use Rattle.term_changes.specs.Slots.{Store, contents}
use Rattle.term_changes.specs.Entries.{subterm_in}
use Rattle.session_modules.specs.declared.checked.CheckedTexts.{CheckedTexts}
use Rattle.session_modules.specs.declared.cache.ModuleCache.{ModuleCache}
use Rattle.session_history.proofs.CheckLemmas.{given_by, none_unread}
use Rattle.session_modules.specs.Modules.{Texts, AreReadable, GivesProgram, Checks, AreRefused}
use Rattle.session_modules.specs.Kept.{AreCurrent, IsCurrent, program_in}
use Rattle.session_history.specs.Applying.{ReadsAsStrategy, resolved_in, unless_faulty}
use Rattle.session_history.specs.History.{History, AreFormed}
use Rattle.session_history.specs.Acts.{Passing, Given, Located, Resolving, place_of}
use Rattle.session_history.specs.Unfolded.{Logged, unfolded, IsPlaceOf}
use Rattle.session_modules.specs.Refusal.{check_refusal}
use Rattle.session_modules.specs.declared.refusal.Refusal.{Refusal}
use Rattle.session_modules.specs.declared.refusal.Refusal.TheVariants.{Memory}
use Rattle.strategy_run.proofs.ApplyLemmas.{low_at}
use Rattle.session_history.proofs.StepLemmas.{passed, stopped}
use Rattle.session_history.proofs.ActLemmas.{place_held, seen_place, the_place}
use Rattle.session_core.specs.inside.Resolved.{ResolvesTo, Never, IsUnresolved}

-- the cached program, if one is passed
pub lent_program : (ps : List Signature) (texts : Texts) (cache : ModuleCache) (lent : Program)
    → Some lent ≡ program_in cache → IsCurrent ps texts cache → GivesProgram ps texts lent
lent_program ps texts cache lent is there = by cache.kept is there
  where
    by : (o : Option CheckedTexts) → Some lent ≡ option_map (λ c. c.checked.program) o
        → IsSomeAnd o (AreCurrent ps texts) → GivesProgram ps texts lent
    by None e current = absurd current
    by (Some c) e current = let same : lent ≡ c.checked.program = cc in
        subst (GivesProgram ps texts) (sym same) (given_by ps texts c current)

-- modules that are current are there, and so is a program that is cached
pub current_there : (ps : List Signature) (texts : Texts) (cache : ModuleCache) → IsCurrent ps texts cache
    → IsSome cache.kept
current_there ps texts cache current = by cache.kept current
  where
    by : (o : Option CheckedTexts) → IsSomeAnd o (AreCurrent ps texts) → IsSome o
    by None current = absurd current
    by (Some c) current = refl

pub program_there : (cache : ModuleCache) (p : Program) → program_in cache ≡ Some p → IsSome cache.kept
program_there cache p = by cache.kept
  where
    by : (o : Option CheckedTexts) → option_map (λ c. c.checked.program) o ≡ Some p → IsSome o
    by None e = absurd (cc)
    by (Some c) e = refl

-- what the checker told of a strategy
pub told_resolved : (told : CheckFault) (found : Option Fault) (whole : Resolved) → IsTold told found
    → (check_refusal told ≡ Memory)
    ⊎ (◌≡◌ {A = Result Resolved Refusal} (unless_faulty found whole) (Err (check_refusal told)))
told_resolved NoCheckMemory found whole is = inl refl
told_resolved (Told kind name n m) found whole is = inr (ap (λ o. unless_faulty o whole) is)

-- ---- a place in a tree that is low enough

module _ (t : Logged) (name path : List ℕ) (i : ℕ) (there : IsPlaceOf t.store name path i)
    (formed : AreFormed t.limits.max_tokens (contents t.store)) where
  within : height there.tree ≤ MAX_HEIGHT
  within = subst (λ (o : Option Tree). IfSome o (λ t. height t ≤ MAX_HEIGHT)) (place_held t name path i there)
      (formed.0 name)

  abbrev IsLow : Option Tree → Type 0
  IsLow o = IfSome o (λ u. length path + height u ≤ MAX_HEIGHT)

  below : (o : Option Tree) → at there.tree path ≡ o → IsLow o
  below None e = tt
  below (Some u) e = omega (arith, low_at path there.tree u e, within)

  -- the subterm there is low enough at its level, in a store equal to this one
  pub is_low : (s : Store) → s ≡ t.store → IsLow (subterm_in s.trees i path)
  is_low s same = subst (λ (x : Store). IsLow (subterm_in x.trees i path)) (sym same)
      (subst (λ (o : Option Tree). IsLow (option_and_then (λ t. at t path) o)) (sym there.is.held)
      (below (at there.tree path) refl))

-- ---- the tests, one after the other

module _ (ps : List Signature) (t : Logged) (name path text : List ℕ) where
  abbrev now : History
  now = unfolded ps t

  abbrev Outcome : Type 0
  Outcome = Result (Unit {0}) Refusal

  abbrev Resolves : Located → Strategy → Program → Outcome → Type 0
  Resolves place s program = Passing (resolved_in program ps s) (Never place program)

  abbrev Checked : Located → Strategy → Outcome → Type 0
  Checked place s = Given (Checks ps (contents t.store).modules) (Resolves place s)

  abbrev Read : Located → Outcome → Type 0
  Read place = Given (ReadsAsStrategy text) (Checked place)

  abbrev Unresolved : Refusal → Type 0
  Unresolved refusal = IsUnresolved name path text now refusal

  pub unresolved_nowhere : (refusal : Refusal) → place_of (contents t.store) name path ≡ Err refusal
      → (refusal ≡ Memory) ⊎ Unresolved refusal
  unresolved_nowhere refusal none = inr (stopped (place_of (contents t.store) name path) Read refusal none)

  module _ (i : ℕ) (there : IsPlaceOf t.store name path i) where
    abbrev here : Located
    here = the_place t name path i there

    placed : (refusal : Refusal) → Read here (Err refusal) → Unresolved refusal
    placed refusal p =
        passed (place_of (contents t.store) name path) Read here (Err refusal) (seen_place t name path i there).1 p

    pub unresolved_unread : (refusal : Refusal) → (refusal ≡ Memory) ⊎ ReadsAsStrategy text (Err refusal)
        → (refusal ≡ Memory) ⊎ Unresolved refusal
    unresolved_unread refusal (inl memory) = inl memory
    unresolved_unread refusal (inr none) = inr (placed refusal (Err refusal, none, refl))

    module _ (s : Strategy) (reads : ReadsAsStrategy text (Ok s)) where
      checked : (refusal : Refusal) → Checked here s (Err refusal) → Unresolved refusal
      checked refusal p = placed refusal (Ok s, reads, p)

      pub unresolved_unchecked : (refusal : Refusal) → AreReadable t.limits.max_tokens (contents t.store).modules
          → AreRefused ps (contents t.store).modules refusal → (refusal ≡ Memory) ⊎ Unresolved refusal
      unresolved_unchecked refusal readable (inl (inl memory)) = inl memory
      unresolved_unchecked refusal readable (inl (inr none)) =
          absurd (none_unread t.limits.max_tokens (contents t.store).modules refusal readable none)
      unresolved_unchecked refusal readable (inr fault) = inr (checked refusal (Err refusal, fault, refl))

      pub unresolved_faulty : (program : Program) → GivesProgram ps (contents t.store).modules program
          → (refusal : Refusal)
          → (refusal ≡ Memory) ⊎ (resolved_in program ps s ≡ Err refusal) → (refusal ≡ Memory) ⊎ Unresolved refusal
      unresolved_faulty program gives refusal (inl memory) = inl memory
      unresolved_faulty program gives refusal (inr fault) =
          inr
          (checked refusal (Ok program, gives, stopped (resolved_in program ps s) (Never here program) refusal fault))

  -- ---- what comes after them

  module _ {Y : Type 0} (next : Located → Program → Resolved → Result Y Refusal → Type 0) where
    refused_by : {X : Type 0} (test : Result X Refusal) (n : X → Outcome → Type 0) (m : X → Result Y Refusal → Type 0)
        (refusal : Refusal)
        → ((x : X) → n x (Err refusal) → m x (Err refusal)) → Passing test n (Err refusal)
        → Passing test m (Err refusal)
    refused_by (Ok x) n m refusal f p = f x p
    refused_by {X} (Err other) n m refusal f p =
        let same : refusal ≡ other = cc in ap Err same

    pub unresolved_before : (refusal : Refusal) → Unresolved refusal → Resolving name path text now next (Err refusal)
    unresolved_before refusal p =
        refused_by (place_of (contents t.store) name path) _ _ refusal (λ place q. (
          q.0,
          q.1,
          refused_by q.0 _ _ refusal (λ s r. (
            r.0,
            r.1,
            refused_by r.0 _ _ refusal (λ program u.
                refused_by (resolved_in program ps s) _ _ refusal (λ whole never. absurd never) u) r.2,
          )) q.2,
        )) p

    pub resolved_then : (cached : Option Program) (i : ℕ) (whole : Resolved)
        (r : ResolvesTo ps t name path text cached i whole) (outcome : Result Y Refusal)
        → next (the_place t name path i r.there) r.program whole outcome → Resolving name path text now next outcome
    resolved_then cached i whole r outcome p =
        let place = the_place t name path i r.there in
        passed (place_of (contents t.store) name path) _ place outcome (seen_place t name path i r.there).1 (
          Ok r.strategy,
          r.reads,
          (
            Ok r.program,
            r.gives,
            passed (resolved_in r.program ps r.strategy) (next place r.program) whole outcome r.is p,
          ),
        )
