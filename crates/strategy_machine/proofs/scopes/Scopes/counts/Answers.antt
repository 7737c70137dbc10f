use Rattle.std.proofs.Common.{sym, ◌∙◌, arith}
use Rattle.strategy_machine.proofs.TableLemmas.{length-table, at_vector, there_below}
use Rattle.strategy_machine.proofs.LookupLemmas.{cells-variables, cells-name, names-variables-from, names-name-from}
use Rattle.strategy_machine.proofs.scopes.Scopes.counts.Goals as goal

pub index-entry-requires : goal.index-entry-requires
index-entry-requires c =
    there_below c.args.scope c.in-Some.n c.requires c.in-Some.is c.self.inside.entries.ok.0
    (length-table c.self.inside.entries.items c.args.self.now c.self.view_is)

pub returns-in_ok-checked_add-in-Variables-clause-variables :
    goal.returns-in_ok-checked_add-in-Variables-clause-variables
returns-in_ok-checked_add-in-Variables-clause-variables c =
    let n = there_below c.args.scope c.in-Some.n c.requires c.in-Some.is c.self.inside.entries.ok.0
    (length-table c.self.inside.entries.items c.args.self.now c.self.view_is) in
    c.in_ok-checked_add-in-Variables.ensures.1
    ∙ sym (cells-variables _ _ c.in-Some.n _ c.args.scope (at_vector c.self.inside.entries.items c.args.self.now
    c.in-Some.n _ c.self.view_is c.self.invariant (omega (arith, n, c.self.inside.entries.ok.0)) c.index-entry.ensures)
    c.in-Some.is _ c.in-Variables.count c.in-Variables.is)

pub returns-in_ok-checked_add-in-Variables-clause-names : goal.returns-in_ok-checked_add-in-Variables-clause-names
returns-in_ok-checked_add-in-Variables-clause-names c =
    let n = there_below c.args.scope c.in-Some.n c.requires c.in-Some.is c.self.inside.entries.ok.0
    (length-table c.self.inside.entries.items c.args.self.now c.self.view_is) in
    sym (names-variables-from _ _ c.in-Some.n _ c.args.scope (at_vector c.self.inside.entries.items c.args.self.now
    c.in-Some.n _ c.self.view_is c.self.invariant (omega (arith, n, c.self.inside.entries.ok.0)) c.index-entry.ensures)
    c.in-Some.is _ c.in-Variables.count c.in-Variables.is)

pub returns-in_ok-checked_add-in-Name-clause-variables : goal.returns-in_ok-checked_add-in-Name-clause-variables
returns-in_ok-checked_add-in-Name-clause-variables c =
    let n = there_below c.args.scope c.in-Some.n c.requires c.in-Some.is c.self.inside.entries.ok.0
    (length-table c.self.inside.entries.items c.args.self.now c.self.view_is) in
    sym (cells-name _ _ c.in-Some.n _ c.args.scope
    (at_vector c.self.inside.entries.items c.args.self.now c.in-Some.n _ c.self.view_is c.self.invariant
    (omega (arith, n, c.self.inside.entries.ok.0)) c.index-entry.ensures) c.in-Some.is c.in-Name.field-0 c.in-Name.is)

pub returns-in_ok-checked_add-in-Name-clause-names : goal.returns-in_ok-checked_add-in-Name-clause-names
returns-in_ok-checked_add-in-Name-clause-names c =
    let n = there_below c.args.scope c.in-Some.n c.requires c.in-Some.is c.self.inside.entries.ok.0
    (length-table c.self.inside.entries.items c.args.self.now c.self.view_is) in
    c.in_ok-checked_add-in-Name.ensures.1
    ∙ sym (names-name-from _ _ c.in-Some.n _ c.args.scope
    (at_vector c.self.inside.entries.items c.args.self.now c.in-Some.n _ c.self.view_is c.self.invariant
    (omega (arith, n, c.self.inside.entries.ok.0)) c.index-entry.ensures) c.in-Some.is c.in-Name.field-0 c.in-Name.is)
