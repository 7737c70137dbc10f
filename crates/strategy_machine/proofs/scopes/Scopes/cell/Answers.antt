use Rattle.std.proofs.Common.{refl, sym, ap, ◌∙◌, slice_get, arith}
use Rattle.strategy_meaning.specs.Scopes.{cells_in}
use Rattle.strategy_machine.specs.Table.{scopes, scope_from}
use Rattle.strategy_machine.proofs.TableLemmas.{at_vector, past_vector, outer_below}
use Rattle.strategy_machine.proofs.LookupLemmas.{cell-own, cell-outer, no_variable, fits-room}
use Rattle.strategy_machine.proofs.scopes.Scopes.cell.Goals as goal

pub outwards-init : goal.outwards-init
outwards-init c = refl

pub own_cell-requires : goal.own_cell-requires
own_cell-requires c =
    fits-room _ c.index-entry.result.now.adds
    (at_vector c.self.inside.entries.items c.args.self.now c.outwards.at _ c.self.view_is c.self.invariant
    (omega (arith, c.outwards-test.true, c.len.ensures, c.self.inside.entries.ok.0)) c.index-entry.ensures).sound.adds

pub returns-then-variable-entry : goal.returns-then-variable-entry
returns-then-variable-entry c =
    c.own_cell.ensures ∙ sym (c.outwards.invariant
    ∙ cell-own _ _ _ _ (at_vector c.self.inside.entries.items c.args.self.now c.outwards.at _ c.self.view_is
    c.self.invariant (omega (arith, c.outwards-test.true, c.len.ensures, c.self.inside.entries.ok.0))
    c.index-entry.ensures) c.args.variable c.if-variable-entry.true)

pub returns-in_default : goal.returns-in_default
returns-in_default c =
    absurd (no_variable _ _ _ _ (at_vector c.self.inside.entries.items c.args.self.now c.outwards.at _ c.self.view_is
    c.self.invariant (omega (arith, c.outwards-test.true, c.len.ensures, c.self.inside.entries.ok.0))
    c.index-entry.ensures) c.args.variable c.in_default.is c.if-variable-entry.false)

pub outwards-smaller : goal.outwards-smaller
outwards-smaller c =
    outer_below _ _ _ _ c.in-Some.outer
    (at_vector c.self.inside.entries.items c.args.self.now c.outwards.at _ c.self.view_is c.self.invariant
    (omega (arith, c.outwards-test.true, c.len.ensures, c.self.inside.entries.ok.0)) c.index-entry.ensures) c.in-Some.is

pub outwards-preserved : goal.outwards-preserved
outwards-preserved c =
    c.outwards.invariant
    ∙ cell-outer _ _ _ _
    (at_vector c.self.inside.entries.items c.args.self.now c.outwards.at _ c.self.view_is c.self.invariant
    (omega (arith, c.outwards-test.true, c.len.ensures, c.self.inside.entries.ok.0)) c.index-entry.ensures)
    c.args.variable c.if-variable-entry.false
    ∙ ap (λ o. slice_get (cells_in (scope_from (scopes c.args.self.now) o)) c.args.variable) c.in-Some.is

pub returns : goal.returns
returns c =
    sym (c.outwards.invariant ∙ ap (λ E. slice_get (cells_in E) c.args.variable)
    (past_vector c.self.inside.entries.items c.args.self.now c.outwards.at c.self.view_is
    (omega (arith, c.outwards-test.false, c.len.ensures, c.self.inside.entries.ok.0))))
