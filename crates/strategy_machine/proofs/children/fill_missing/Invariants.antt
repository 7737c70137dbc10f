use Rattle.std.proofs.Common.{◌-◌, vec_len}
use Rattle.term_changes.specs.Standing.{standing_children}
use Rattle.strategy_machine.proofs.PartsLemmas.{Filling}
use Rattle.strategy_machine.proofs.children.fill_missing.Given as goal

-- the parts that were held, and more of the children
abbrev pub invariant-fill : goal.invariant-fill
invariant-fill l = Filling (standing_children l.node) l.fn.parts.items l.count l.parts.items

abbrev pub decreases-fill : goal.decreases-fill
decreases-fill l = l.count - vec_len l.parts
