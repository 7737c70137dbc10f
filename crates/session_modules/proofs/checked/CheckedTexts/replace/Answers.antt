use Rattle.std.proofs.Common.{◌≡◌, ◌⊎◌, List, ℕ, Option, Result, Ok, Err, OnOk, IfErr, option_map, inl, inr, sym, ap, subst, ◌∙◌}
use Rattle.strategy_check.specs.Checking.{with_modules}
use Rattle.strategy_check.specs.Faults.{faults, first}
use Rattle.strategy_check.specs.Tables.{Modules}
use Rattle.session_modules.specs.Modules.{Texts, AreModules, Checks, Reports, changed_text}
use Rattle.session_modules.specs.inside.Replaced.{with_module}
use Rattle.session_modules.specs.declared.reading.ReadModule.{ReadModule}
use Rattle.session_modules.specs.declared.refusal.Refusal.{Refusal}
use Rattle.session_modules.specs.declared.refusal.Refusal.TheVariants.{Memory}
use Rattle.session_modules.proofs.ReplacedLemmas.{are_given}
use Rattle.session_modules.proofs.CacheLemmas.{checks_by}
use Rattle.session_modules.proofs.checked.CheckedTexts.replace.Goals as goal
use Rattle.session_modules.proofs.checked.CheckedTexts.replace.Goals.{After-put}
use Rattle.session_modules.proofs.checked.CheckedTexts.replace.Given.{Over}

module _ (g : Over) (c : After-put g) where
  abbrev text : Option (List ℕ)
  text = option_map {T = ReadModule} {U = List ℕ} (λ r. r.0) c.args.read

  abbrev before : Modules
  before = c.args.self.now.checked.modules

  abbrev after : Modules
  after = with_modules c.place_among-at.result.0 c.place_among-at.result.1 c.in_ok-new.new.modules.items before

  -- the modules with the new one in its place
  placed : after ≡ with_module c.args.name.now c.in_ok-new.new.modules.items before
  placed =
      ap (with_modules c.place_among-at.result.0 c.place_among-at.result.1 c.in_ok-new.new.modules.items)
      (sym c.modules.ensures)
      ∙ c.place_among-at.ensures.place c.in_ok-new.new.modules.items
      ∙ ap (with_module c.args.name.now c.in_ok-new.new.modules.items) c.modules.ensures

  are : (texts : Texts) → AreModules texts before → AreModules (changed_text texts c.args.name.now text) after
  are texts h = subst (AreModules (changed_text texts c.args.name.now text)) (sym placed)
      (are_given texts c.args.name.now text before c.in_ok-new.new.modules.items h c.in_ok-new.ensures.given)

pub returns-clause-are : goal.returns-clause-are
returns-clause-are g c = by c.put.result c.put.ensures.modules
  where
    by : (r : Result (Unit {0}) Refusal) → OnOk r (c.put.new.self.checked.modules ≡ after g c)
        → OnOk r ((texts : Texts) → AreModules texts (before g c)
        → AreModules (changed_text texts c.args.name.now (text g c)) c.put.new.self.checked.modules)
    by (Ok _) is =
        λ texts h. subst (AreModules (changed_text texts c.args.name.now (text g c))) (sym is) (are g c texts h)
    by (Err refusal) is = tt

pub returns-clause-refused : goal.returns-clause-refused
returns-clause-refused g c = by c.put.result c.put.ensures.refused
  where
    by : (r : Result (Unit {0}) Refusal)
        → IfErr r (λ refusal. (refusal ≡ Memory) ⊎ Reports (first (faults (after g c) c.args.primitives.now)) refusal)
        → IfErr r (λ refusal. (refusal ≡ Memory) ⊎ ((texts : Texts) → AreModules texts (before g c)
        → Checks c.args.primitives.now (changed_text texts c.args.name.now (text g c)) (Err refusal)))
    by (Ok _) told = tt
    by (Err refusal) (inl memory) = inl memory
    by (Err refusal) (inr reports) = inr (λ texts h. checks_by c.args.primitives.now
        (changed_text texts c.args.name.now (text g c)) (after g c) refusal (are g c texts h) reports)
