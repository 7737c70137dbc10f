use Rattle.std.proofs.Common.{sym, ◌∙◌, subst, ◌+◌}
use Rattle.strategy_machine.proofs.ArgumentLemmas.{BuiltSoFar, built_none, built_more, built_nothing, built_big, built_over}
use Rattle.term_match.specs.Building.{Builds}
use Rattle.term_match.specs.declared.building.Built.{Built}
use Rattle.strategy_meaning.specs.Matching.{build_pattern}
use Rattle.strategy_meaning.specs.Scopes.{cells_in}
use Rattle.strategy_machine.specs.Table.{scopes, scope_at}
use Rattle.strategy_machine.proofs.arguments.build_all.Goals as goal

pub each-init : goal.each-init
each-init c = built_none _ _ _ _ _ _ c.clear.ensures.items

pub each-preserved : goal.each-preserved
each-preserved c = let k =
    (subst (λ (o : Built). Builds
    (build_pattern c.index-patterns-i.result (cells_in (scope_at (scopes c.args.scopes.now) c.args.scope))
    c.each.cells.bindings) c.args.room c.args.level o) c.in-Value.is c.in_ok-value.ensures.ok) in
    subst (λ C. BuiltSoFar c.args.room c.args.cells.now C c.args.patterns.now
    (cells_in (scope_at (scopes c.args.scopes.now) c.args.scope)) c.args.level (c.each.i + 1) c.push.new.self.items)
    (sym c.build.ensures.same)
    (built_more c.args.room c.args.cells.now c.each.cells c.args.patterns.now _ c.args.level c.each.i
    c.each.arguments.items c.push.new.self.items c.index-patterns-i.result c.in-Value.value c.each-test.true
    c.index-patterns-i.is k.0 k.1 c.in_ok-push-in-Value.ensures.items c.each.invariant)

pub returns-in_err-value-clause-cells : goal.returns-in_err-value-clause-cells
returns-in_err-value-clause-cells c = c.build.ensures.same ∙ c.each.invariant.cells

pub returns-in_err-push-in-Value-clause-cells : goal.returns-in_err-push-in-Value-clause-cells
returns-in_err-push-in-Value-clause-cells c = c.build.ensures.same ∙ c.each.invariant.cells

pub returns-in-Nothing-clause-cells : goal.returns-in-Nothing-clause-cells
returns-in-Nothing-clause-cells c = c.build.ensures.same ∙ c.each.invariant.cells

pub returns-in-Nothing-clause-ok : goal.returns-in-Nothing-clause-ok
returns-in-Nothing-clause-ok c = built_nothing c.args.room c.args.cells.now c.each.cells c.args.patterns.now _
    c.args.level c.each.i c.each.arguments.items c.index-patterns-i.result c.each-test.true c.index-patterns-i.is
    (subst (λ (o : Built). Builds
    (build_pattern c.index-patterns-i.result (cells_in (scope_at (scopes c.args.scopes.now) c.args.scope))
    c.each.cells.bindings) c.args.room c.args.level o) c.in-Nothing.is c.in_ok-value.ensures.ok) c.each.invariant

pub returns-in-Big-clause-cells : goal.returns-in-Big-clause-cells
returns-in-Big-clause-cells c = c.build.ensures.same ∙ c.each.invariant.cells

pub returns-in-Big-clause-ok : goal.returns-in-Big-clause-ok
returns-in-Big-clause-ok c = let k =
    (subst (λ (o : Built). Builds
    (build_pattern c.index-patterns-i.result (cells_in (scope_at (scopes c.args.scopes.now) c.args.scope))
    c.each.cells.bindings) c.args.room c.args.level o) c.in-Big.is c.in_ok-value.ensures.ok) in
    built_big c.args.room c.args.cells.now c.each.cells c.args.patterns.now _ c.args.level c.each.i
    c.each.arguments.items c.index-patterns-i.result k.0 c.each-test.true c.index-patterns-i.is k.1 k.2 c.each.invariant

pub returns-clause-cells : goal.returns-clause-cells
returns-clause-cells c = c.each.invariant.cells

pub returns-clause-ok : goal.returns-clause-ok
returns-clause-ok c = built_over c.args.room c.args.cells.now c.each.cells c.args.patterns.now _ c.args.level c.each.i
    c.each.arguments.items c.each-test.false c.each.invariant
