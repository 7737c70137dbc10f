use Rattle.strategy_parse.proofs.modules.stuck.first_stuck_item.Goals as goal

pub returns-clause-some : goal.returns-clause-some
returns-clause-some c = c.in_ok-is_module.ensures.no c.if-branch.false
