use Rattle.std.proofs.Common.{◌≡◌, ◌⊎◌, ◌≤◌, ◌+◌, ◌-◌, ℕ, List, length, take, drop, IsSome, Result, Ok, Err, OnOk, IfErr, inl, inr, sym, ap, subst, subst₂, ◌∙◌}
use Rattle.std.specs.List.{AllByRecursion}
use Rattle.std.specs.FinMap as finmap
use Rattle.strategy_check.specs.Checking.{with_modules}
use Rattle.strategy_check.specs.Faults.{faults, first}
use Rattle.strategy_check.specs.Tables.{Modules}
use Rattle.term_changes.specs.Slots.{contents}
use Rattle.session_modules.specs.Modules.{Texts, AreRead, AreModules, AreRefused, Reports}
use Rattle.session_modules.specs.declared.refusal.Refusal.{Refusal}
use Rattle.session_modules.specs.declared.refusal.Refusal.TheVariants.{Memory}
use Rattle.session_modules.proofs.MapLemmas.{keys_there}
use Rattle.session_modules.proofs.CacheLemmas.{all_between, read_around, checks_by}
use Rattle.session_modules.proofs.checked.CheckedTexts.renew.Goals as goal
use Rattle.session_modules.proofs.checked.CheckedTexts.renew.Goals.{After-drop-names-2}
use Rattle.session_modules.proofs.checked.CheckedTexts.renew.Given.{Over}

pub read_all-requires : goal.read_all-requires
read_all-requires g c =
    let texts = (contents c.args.store.now).modules in
    let There : List ℕ → Type 0 = λ name. IsSome (finmap.get texts name) in
    let names = c.deref-5.ensures.value ∙ c.in_ok-names.ensures in
    subst (AllByRecursion There) (sym c.between-changed.ensures)
    (all_between There c.deref-5.result.now c.same_front-front.result _
    (subst (AllByRecursion There) (sym names) (keys_there texts)))

module _ (g : Over) (c : After-drop-names-2 g) where
  abbrev texts : Texts
  texts = (contents c.args.store.now).modules

  abbrev before : Modules
  before = c.args.self.now.checked.modules

  abbrev front : ℕ
  front = c.same_front-front.result

  abbrev back : ℕ
  back = c.same_back-back.result

  abbrev gone : ℕ
  gone = length c.modules-modules.result.now - back - front

  abbrev after : Modules
  after = with_modules front gone c.in_ok-new.new.modules.items before

  are : AreModules texts after
  are =
      let names = c.in_ok-names.names.items in
      let new = c.in_ok-new.new.modules.items in
      let first : AreRead texts (take front names) (take front before) =
      subst₂ (λ (l : List (List ℕ)) (m : Modules). AreRead texts (take front l) (take front m)) c.deref.ensures.value
      c.modules-modules.ensures c.same_front-front.ensures.read in
      let last : AreRead texts (drop (length names - back) names) (drop (length before - back) before) =
      subst₂ (λ (l : List (List ℕ)) (m : Modules). AreRead texts (drop (length l - back) l) (drop (length m - back) m))
      c.deref-3.ensures.value c.modules-modules.ensures c.same_back-back.ensures.read in
      let between : AreRead texts (take (length names - back - front) (drop front names)) new =
      subst (λ (l : List (List ℕ)). AreRead texts l new)
      (c.between-changed.ensures ∙ ap (λ n. take (n - back - front) (drop front c.deref-5.result.now))
      (c.len.ensures ∙ sym c.deref-5.ensures.len)
      ∙ ap (λ (l : List (List ℕ)). take (length l - back - front) (drop front l)) c.deref-5.ensures.value)
      c.in_ok-new.ensures.ok in
      subst (λ (l : List (List ℕ)). AreRead texts l after) c.in_ok-names.ensures
      (read_around texts names before new front back gone
      (subst (λ (l : List (List ℕ)). front + back ≤ length l) c.deref-3.ensures.value c.same_back-back.ensures.names)
      (subst (λ (m : Modules). front + back ≤ length m) c.modules-modules.ensures c.same_back-back.ensures.modules)
      (ap (λ (m : Modules). length m - back - front) c.modules-modules.ensures) first between last)

pub returns-clause-are : goal.returns-clause-are
returns-clause-are g c = by c.put.result c.put.ensures.modules
  where
    by : (r : Result (Unit {0}) Refusal) → OnOk r (c.put.new.self.checked.modules ≡ after g c)
        → OnOk r (AreModules (texts g c) c.put.new.self.checked.modules)
    by (Ok _) is = subst (AreModules (texts g c)) (sym is) (are g c)
    by (Err refusal) is = tt

pub returns-clause-refused : goal.returns-clause-refused
returns-clause-refused g c = by c.put.result c.put.ensures.refused
  where
    by : (r : Result (Unit {0}) Refusal)
        → IfErr r (λ refusal. (refusal ≡ Memory) ⊎ Reports (first (faults (after g c) c.args.primitives.now)) refusal)
        → IfErr r (AreRefused c.args.primitives.now (texts g c))
    by (Ok _) told = tt
    by (Err refusal) (inl memory) = inl (inl memory)
    by (Err refusal) (inr reports) =
        inr (checks_by c.args.primitives.now (texts g c) (after g c) refusal (are g c) reports)
