use Rattle.std.proofs.Common.{◌≡◌, subst, Some, IfSome}
use Rattle.term_core.specs.Tree.{Tree}
use Rattle.term_core.specs.Terms.{IsTerm}
use Rattle.term_core.specs.Word.{label_of}
use Rattle.std.proofs.lemmas.Result.{on_ok_weaker}
use Rattle.session_history.proofs.timeline.Timeline.dump_tree.Goals as goal

pub returns-in-None-clause-term : goal.returns-in-None-clause-term
returns-in-None-clause-term c =
    subst (λ o. IfSome o (λ (tree : Tree). (label_of c.args.name.now ≡ Some c.args.name.now) × IsTerm tree))
    c.in-None.ensures tt

pub returns-in-Some-clause-term : goal.returns-in-Some-clause-term
returns-in-Some-clause-term c = on_ok_weaker c.print_line.result
    (subst (λ o. IfSome o (λ (tree : Tree). (label_of c.args.name.now ≡ Some c.args.name.now) × IsTerm tree))
    c.in-Some.ensures) c.print_line.ensures.term
