use Rattle.std.proofs.Common.{sym, ap, ◌∙◌, slice_get, arith}
use Rattle.std.proofs.lemmas.Option.{slice_get_past}
use Rattle.strategy_meaning.specs.Scopes.{numbers_from}
use Rattle.strategy_machine.specs.inside.Entries.{added_cells, addition_of}
use Rattle.strategy_machine.proofs.LookupLemmas.{numbers_from-get, length-numbers_from}
use Rattle.strategy_machine.proofs.scopes.own_cell.Goals as goal

pub returns-in-Variables : goal.returns-in-Variables
returns-in-Variables c =
    sym (ap (λ a. slice_get (added_cells (addition_of a)) c.args.i) c.in-Variables.is
    ∙ numbers_from-get c.in-Variables.first c.in-Variables.count c.args.i c.if-i-count.true)

pub returns-in_default : goal.returns-in_default
returns-in_default c =
    sym (ap (λ a. slice_get (added_cells (addition_of a)) c.args.i) c.in-Variables.is
    ∙ slice_get_past (numbers_from c.in-Variables.first c.in-Variables.count) c.args.i
    (omega (arith, c.if-i-count.false, length-numbers_from c.in-Variables.first c.in-Variables.count)))
