use Rattle.std.proofs.Common.{ℕ, List, [], ◌∷◌, ◌++◌, sym, ap, ◌∙◌, subst}
use Rattle.term_sorts.specs.Sorts.{arguments_of}
use Rattle.term_sorts.specs.inside.Tables.{Table, AreNumbers, HasNumber, IsNumber, Extends}
use Rattle.term_sorts.specs.inside.TableView.{IsTable, sorts_in}
use Rattle.term_sorts.specs.declared.table.Row.{Row}
use Rattle.term_sorts.proofs.TableLemmas.{table_push, extends_push, number_pushed}
use Rattle.term_sorts.proofs.table.SortTable.add.Goals as goal

pub invariant_of-self-2 : goal.invariant_of-self-2
invariant_of-self-2 c =
    let rows = c.self.inside.rows.items in
    let is = c.self.inside.injections.items in
    let x : Row = record { sort = c.args.sort; arguments = c.args.arguments; taken = c.push.new.self } in
    subst (λ (l : List Row). IsTable l is) (sym c.in_ok-push-2.ensures.items)
    (table_push rows is x c.self.invariant
    (subst (λ (t : Table). HasNumber t.sorts c.args.sort → ⊥) (sym c.self.view_is) c.requires.new)
    (subst (λ (t : Table). AreNumbers t.sorts c.args.arguments.items (arguments_of c.args.sort)) (sym c.self.view_is)
    c.requires.arguments)
    (c.in_ok-push.ensures.items ∙ (λ i. c.new-taken.ensures.items i ++ c.len-number.ensures i ∷ [])
    ∙ ap (λ (n : ℕ). n ∷ []) c.self.inside.rows.ok.0))

pub returns-clause-kept : goal.returns-clause-kept
returns-clause-kept c =
    let rows = c.self.inside.rows.items in
    let is = c.self.inside.injections.items in
    let x : Row = record { sort = c.args.sort; arguments = c.args.arguments; taken = c.push.new.self } in
    subst (λ (t : Table). Extends t (record { sorts = sorts_in c.push-2.new.self.items; injections = is }))
    c.self.view_is
    (subst (λ (l : List Row). Extends (record { sorts = sorts_in rows; injections = is })
    (record { sorts = sorts_in l; injections = is })) (sym c.in_ok-push-2.ensures.items)
    (extends_push rows is x))

pub returns-clause-number : goal.returns-clause-number
returns-clause-number c =
    let rows = c.self.inside.rows.items in
    let x : Row = record { sort = c.args.sort; arguments = c.args.arguments; taken = c.push.new.self } in
    subst (λ (l : List Row). IsNumber (sorts_in l) c.len-number.result c.args.sort) (sym c.in_ok-push-2.ensures.items)
    (subst (λ (n : ℕ). IsNumber (sorts_in (rows ++ x ∷ [])) n c.args.sort)
    (sym (c.len-number.ensures ∙ c.self.inside.rows.ok.0)) (number_pushed rows x))
