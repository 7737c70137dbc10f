use Rattle.term_changes.specs.Standing.{standing_tree}
use Rattle.strategy_machine.proofs.ApartLemmas.{skips_none}
use Rattle.strategy_machine.proofs.alternatives.skipped.Goals as goal

pub returns-then-not-is_indexed : goal.returns-then-not-is_indexed
returns-then-not-is_indexed c = skips_none c.args.strategy.now (standing_tree c.args.part.now)
