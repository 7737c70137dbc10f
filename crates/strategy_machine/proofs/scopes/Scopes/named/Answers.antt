use Rattle.std.proofs.Common.{refl, ap, ◌∙◌, arith}
use Rattle.strategy_meaning.specs.Scopes.{stands_for}
use Rattle.strategy_machine.specs.Table.{scopes, scope_from}
use Rattle.strategy_machine.proofs.TableLemmas.{length-table, at_vector, past_vector, outer_below}
use Rattle.strategy_machine.proofs.LookupLemmas.{name-outer, name-found, no_name}
use Rattle.strategy_machine.proofs.scopes.Scopes.named.Goals as goal

pub outwards-init : goal.outwards-init
outwards-init c = refl

pub returns-then-x-entry : goal.returns-then-x-entry
returns-then-x-entry c =
    name-found _ _ _ c.args.scope c.args.x c.outwards.at _
    (at_vector c.self.inside.entries.items c.args.self.now c.outwards.at _ c.self.view_is c.self.invariant
    (omega (arith, c.outwards-test.true, c.len.ensures, c.self.inside.entries.ok.0)) c.index-entry.ensures)
    (omega (
      arith,
      c.outwards-test.true,
      c.len.ensures,
      c.self.inside.entries.ok.0,
      length-table c.self.inside.entries.items c.args.self.now c.self.view_is,
    ))
    c.outwards.invariant c.if-x-entry.true c.own_name.ensures

pub returns-in_default : goal.returns-in_default
returns-in_default c =
    absurd (no_name _ _ _ _ (at_vector c.self.inside.entries.items c.args.self.now c.outwards.at _ c.self.view_is
    c.self.invariant (omega (arith, c.outwards-test.true, c.len.ensures, c.self.inside.entries.ok.0))
    c.index-entry.ensures) c.args.x c.in_default.is c.if-x-entry.false)

pub outwards-smaller : goal.outwards-smaller
outwards-smaller c =
    outer_below _ _ _ _ c.in-Some.outer
    (at_vector c.self.inside.entries.items c.args.self.now c.outwards.at _ c.self.view_is c.self.invariant
    (omega (arith, c.outwards-test.true, c.len.ensures, c.self.inside.entries.ok.0)) c.index-entry.ensures) c.in-Some.is

pub outwards-preserved : goal.outwards-preserved
outwards-preserved c =
    c.outwards.invariant
    ∙ name-outer _ _ _ _
    (at_vector c.self.inside.entries.items c.args.self.now c.outwards.at _ c.self.view_is c.self.invariant
    (omega (arith, c.outwards-test.true, c.len.ensures, c.self.inside.entries.ok.0)) c.index-entry.ensures) c.args.x
    c.if-x-entry.false
    ∙ ap (λ o. stands_for (scope_from (scopes c.args.self.now) o) c.args.x) c.in-Some.is

pub returns : goal.returns
returns c =
    c.outwards.invariant ∙ ap (λ E. stands_for E c.args.x)
    (past_vector c.self.inside.entries.items c.args.self.now c.outwards.at c.self.view_is
    (omega (arith, c.outwards-test.false, c.len.ensures, c.self.inside.entries.ok.0)))
