use Rattle.std.proofs.Common.{◌≡◌, IfOk, subst}
use Rattle.term_core.specs.Tree.{Tree, children}
use Rattle.term_values.proofs.ListLemmas.{one_in_front}
use Rattle.term_values.proofs.list.join_one.Goals as goal

pub returns : goal.returns
returns c =
    subst (λ (x : Tree). IfOk c.cons.result (λ value. value ≡ x))
    (one_in_front c.args.front.items c.pop.new.self.items (children c.args.after.now) c.in-Some.first
    c.in-Some.ensures.items c.requires.one)
    c.cons.ensures
