use Rattle.std.proofs.Common.{arith}
use Rattle.term_paths.proofs.StepLemmas.{child_read}
use Rattle.term_changes.proofs.PathLemmas.{below_tree, below_patch}
use Rattle.term_changes.proofs.patch.Patch.+exchange_at.Goals as goal

pub returns-clause-tree : goal.returns-clause-tree
returns-clause-tree t c = below_tree c.args.self.now c.args.tree.now _ c.in-Some.first.now c.in-Some.rest.now
    (child_read c.args.tree.now c.index-children_mut-first.result c.children_mut.result.now c.in-Some.first.now
    c.children_mut.ensures.value (omega (arith, c.child_count.ensures, c.if-first-child_count.false)))
    c.exchange_at.new.tree c.children_mut.result.now c.args.path.now c.in-Some.ensures.cases.0
    c.children_mut.ensures.value c.exchange_at.ensures.tree

pub returns-clause-patch : goal.returns-clause-patch
returns-clause-patch t c = below_patch c.args.self.now c.args.tree.now _ c.in-Some.first.now c.in-Some.rest.now
    (child_read c.args.tree.now c.index-children_mut-first.result c.children_mut.result.now c.in-Some.first.now
    c.children_mut.ensures.value (omega (arith, c.child_count.ensures, c.if-first-child_count.false)))
    c.exchange_at.new.self c.args.path.now c.in-Some.ensures.cases.0 c.exchange_at.ensures.patch
