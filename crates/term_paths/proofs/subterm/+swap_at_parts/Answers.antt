use Rattle.std.proofs.Common.{arith}
use Rattle.term_paths.proofs.StepLemmas.{child_read, leads_below, old_below, set_below, outside_below}
use Rattle.term_paths.proofs.subterm.+swap_at_parts.Goals as goal

pub returns-clause-there : goal.returns-clause-there
returns-clause-there t c = leads_below c.args.term.now _ c.in-Some.first.now c.args.parts.now c.in-Some.rest.now
    c.swap_at_parts.result c.in-Some.ensures.cases.0
    (child_read c.args.term.now c.index-children_mut-first.result c.children_mut.result.now c.in-Some.first.now
    c.children_mut.ensures.value (omega (arith, c.child_count.ensures, c.if-first-child_count.false)))
    c.swap_at_parts.ensures.there

pub returns-clause-term : goal.returns-clause-term
returns-clause-term t c =
    set_below c.args.term.now _ c.swap_at_parts.new.term c.args.other.now c.children_mut.result.now c.in-Some.first.now
    c.args.parts.now c.in-Some.rest.now c.swap_at_parts.result c.in-Some.ensures.cases.0 c.children_mut.ensures.value
    (child_read c.args.term.now c.index-children_mut-first.result c.children_mut.result.now c.in-Some.first.now
    c.children_mut.ensures.value (omega (arith, c.child_count.ensures, c.if-first-child_count.false)))
    c.swap_at_parts.ensures.term

pub returns-clause-old : goal.returns-clause-old
returns-clause-old t c = old_below c.args.term.now _ c.swap_at_parts.new.other c.in-Some.first.now c.args.parts.now
    c.in-Some.rest.now c.swap_at_parts.result c.in-Some.ensures.cases.0
    (child_read c.args.term.now c.index-children_mut-first.result c.children_mut.result.now c.in-Some.first.now
    c.children_mut.ensures.value (omega (arith, c.child_count.ensures, c.if-first-child_count.false)))
    c.swap_at_parts.ensures.old

pub returns-clause-outside : goal.returns-clause-outside
returns-clause-outside t c = outside_below c.args.term.now _ c.swap_at_parts.new.term c.swap_at_parts.new.other
    c.args.other.now c.children_mut.result.now c.in-Some.first.now c.swap_at_parts.result c.children_mut.ensures.value
    (child_read c.args.term.now c.index-children_mut-first.result c.children_mut.result.now c.in-Some.first.now
    c.children_mut.ensures.value (omega (arith, c.child_count.ensures, c.if-first-child_count.false)))
    c.swap_at_parts.ensures.outside
