use Rattle.std.proofs.Common.{◌≡◌, ◌++◌, IfErr, ap, sym, ◌∙◌, subst}
use Rattle.std.proofs.lemmas.Result.{on_ok_weaker}
use Rattle.strategy_check.specs.Faults.{faults, first, IsTold}
use Rattle.strategy_check.specs.Checking.{Checked, IsChecked, with_modules}
use Rattle.strategy_check.proofs.CheckedLemmas.{parts-joined, parts-replaced, as_before}
use Rattle.strategy_check.proofs.checked.Checked.replace.Given.{Over}
use Rattle.strategy_check.proofs.checked.Checked.replace.Goals as goal
use Rattle.strategy_check.proofs.checked.Checked.replace.Goals.{In_ok-old}

-- the parts are the modules before
joined : (g : Over) (c : In_ok-old g) → record {
  modules = c.split_off-2.new.modules.items ++ (c.in_ok-old.old.items ++ c.in_ok-after.after.items);
  program = c.self.inside.program;
} ≡ c.args.self.now
joined g c =
    (λ i. record {
      modules = parts-joined c.args.at c.args.gone c.self.inside.modules.items c.split_off.new.modules.items
          c.split_off-2.new.modules.items c.in_ok-old.old.items c.in_ok-after.after.items
          c.in_ok-after.ensures.kept c.in_ok-after.ensures.rest c.in_ok-old.ensures.kept c.in_ok-old.ensures.rest i;
      program = c.self.inside.program;
    }) ∙ c.self.view_is

-- with the new ones between the others, those that are asked for
replaced : (g : Over) (c : In_ok-old g)
    → c.split_off-2.new.modules.items ++ (c.args.new.items ++ c.in_ok-after.after.items) ≡ with_modules c.args.at
    c.args.gone c.args.new.items c.args.self.now.modules
replaced g c =
    parts-replaced c.args.at c.args.gone c.self.inside.modules.items c.split_off.new.modules.items
    c.split_off-2.new.modules.items c.in_ok-old.old.items c.in_ok-after.after.items
    c.in_ok-after.ensures.kept c.in_ok-after.ensures.rest c.in_ok-old.ensures.kept c.in_ok-old.ensures.rest
    c.args.new.items
    ∙ ap (λ (k : Checked). with_modules c.args.at c.args.gone c.args.new.items k.modules) c.self.view_is

pub exchange-requires-clause-checked : goal.exchange-requires-clause-checked
exchange-requires-clause-checked g c =
    subst (IsChecked c.args.primitives.now) (sym (joined g (goal.at.exchange-requires-clause-checked g c).In_ok-old))
    c.requires.checked

pub returns-then-branch-clause-modules : goal.returns-then-branch-clause-modules
returns-then-branch-clause-modules g c =
    c.in_ok-exchange.ensures.modules ∙ replaced g (goal.at.returns-then-branch-clause-modules g c).In_ok-old

pub returns-clause-modules : goal.returns-clause-modules
returns-clause-modules g c =
    on_ok_weaker c.check_again.result (λ same. same ∙ replaced g (goal.at.returns-clause-modules g c).In_ok-old)
    c.check_again.ensures.modules

pub returns-clause-fault : goal.returns-clause-fault
returns-clause-fault g c =
    subst (λ ms. IfErr c.check_again.result (λ told. IsTold told (first (faults ms c.args.primitives.now))))
    (replaced g (goal.at.returns-clause-fault g c).In_ok-old) c.check_again.ensures.fault

pub returns-clause-err : goal.returns-clause-err
returns-clause-err g c =
    as_before c.check_again.result c.check_again.new.self c.args.self.now
    (c.split_off-2.new.modules.items ++ (c.in_ok-old.old.items ++ c.in_ok-after.after.items)) c.self.inside.program
    (joined g (goal.at.returns-clause-err g c).In_ok-old) c.check_again.ensures.err
