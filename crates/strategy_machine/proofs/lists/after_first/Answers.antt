use Rattle.std.proofs.Common.{sym, ◌∙◌, ◌++◌}
use Rattle.strategy_machine.proofs.FirstLemmas.{first_in_front}
use Rattle.strategy_machine.proofs.ResultLemmas.{ok_map}
use Rattle.term_changes.specs.Standing.{standing_tree}
use Rattle.term_core.specs.Tree.{children, with_children}
use Rattle.strategy_machine.proofs.lists.after_first.Goals as goal

pub returns-in-Some : goal.returns-in-Some
returns-in-Some c = ok_map c.in_front.result (λ whole k. k ∙ (λ i. with_children (standing_tree c.args.list.now)
    (sym (first_in_front c.args.list.now c.args.first c.in-Some.first (sym c.in-Ok.ensures ∙ c.in-Some.is)) i
    ++ children (standing_tree c.args.rest)))) c.in_front.ensures
