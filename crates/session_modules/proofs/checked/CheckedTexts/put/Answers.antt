use Rattle.std.proofs.Common.{◌≡◌, ◌⊎◌, ◌≤◌, ◌+◌, sym, subst}
use Rattle.strategy_check.specs.Checking.{with_modules}
use Rattle.strategy_check.specs.Faults.{faults, first}
use Rattle.session_modules.specs.Kept.{AreReadFrom}
use Rattle.session_modules.specs.Modules.{Reports}
use Rattle.session_modules.specs.declared.refusal.Refusal.{Refusal}
use Rattle.session_modules.specs.declared.refusal.Refusal.TheVariants.{Memory}
use Rattle.session_modules.proofs.CacheLemmas.{read_from-length, read_from-put, told_as}
use Rattle.session_modules.proofs.checked.CheckedTexts.put.Goals as goal

pub exchange-requires : goal.exchange-requires
exchange-requires g c = subst (λ n. c.args.at + c.args.gone ≤ n)
    (sym (read_from-length c.args.self.now.texts.items c.args.self.now.checked.modules c.requires.belong.read))
    c.requires.within

pub returns-in_ok-exchange-in-Ok-clause-belong : goal.returns-in_ok-exchange-in-Ok-clause-belong
returns-in_ok-exchange-in-Ok-clause-belong g c = record {
  checked = c.in-Ok.ensures.checked;
  read =
      let ts = c.args.self.now.texts.items in
      let ms = c.args.self.now.checked.modules in
      subst (AreReadFrom c.exchange.new.texts.items) (sym c.in-Ok.ensures.modules)
      (subst (λ ts. AreReadFrom ts (with_modules c.args.at c.args.gone c.args.new.modules.items ms))
      (sym c.in_ok-exchange-in-Ok.ensures)
      (read_from-put c.args.at c.args.gone ts c.args.new.texts.items ms c.args.new.modules.items c.requires.belong.read
      c.requires.read));
}

pub returns-in-Err-clause-refused : goal.returns-in-Err-clause-refused
returns-in-Err-clause-refused g c =
    let found = first
    (faults (with_modules c.args.at c.args.gone c.args.new.modules.items c.args.self.now.checked.modules)
    c.args.primitives.now) in
    subst (λ (refusal : Refusal). (refusal ≡ Memory) ⊎ Reports found refusal) (sym c.from.ensures)
    (told_as c.in-Err.fault found c.in-Err.ensures.fault)
