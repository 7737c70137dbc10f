use Rattle.std.proofs.Common.{◌≡◌, [], ap, sym, arith, rules}
use Rattle.std.proofs.lemmas.List.{nil_from_length}
use Rattle.std.specs.Fn.{FnOnceReturnsAtMut}
use Rattle.term_paths.specs.Paths.{at, set_at}
use Rattle.term_paths.proofs.StepLemmas.{child_read, leads_below, leads_past, changed_below, same_below}
use Rattle.term_paths.proofs.subterm.+change_at_parts.Goals as goal

pub returns-in_default-clause-changed : goal.returns-in_default-clause-changed
returns-in_default-clause-changed g t c =
    let root : c.args.parts.now ≡ [] = grind (arith, nil_from_length) in (
      c.args.term.now,
      c.change.new.arg2,
      ap (at c.args.term.now) root,
      search rules,
      sym (ap (λ p. set_at c.args.term.now p c.change.new.arg2) root),
    )

pub returns-then-first-child_count-clause-there : goal.returns-then-first-child_count-clause-there
returns-then-first-child_count-clause-there g t c = leads_past c.args.term.now c.in-Some.first.now c.args.parts.now
    c.in-Some.rest.now c.in-Some.ensures.cases.0 (omega (arith, c.child_count.ensures, c.if-first-child_count.true))

pub returns-clause-there : goal.returns-clause-there
returns-clause-there g t c = leads_below c.args.term.now _ c.in-Some.first.now c.args.parts.now c.in-Some.rest.now
    c.change_at_parts.result c.in-Some.ensures.cases.0
    (child_read c.args.term.now c.index-children_mut-first.result c.children_mut.result.now c.in-Some.first.now
    c.children_mut.ensures.value (omega (arith, c.child_count.ensures, c.if-first-child_count.false)))
    c.change_at_parts.ensures.there

pub returns-clause-changed : goal.returns-clause-changed
returns-clause-changed g t c = changed_below (λ old new. FnOnceReturnsAtMut g.F.FnOnce c.args.change old tt new)
    c.args.term.now _ c.change_at_parts.new.term c.children_mut.result.now c.in-Some.first.now c.args.parts.now
    c.in-Some.rest.now c.change_at_parts.result c.in-Some.ensures.cases.0 c.children_mut.ensures.value
    (child_read c.args.term.now c.index-children_mut-first.result c.children_mut.result.now c.in-Some.first.now
    c.children_mut.ensures.value (omega (arith, c.child_count.ensures, c.if-first-child_count.false)))
    c.change_at_parts.ensures.changed

pub returns-clause-outside : goal.returns-clause-outside
returns-clause-outside g t c = same_below c.args.term.now _ c.change_at_parts.new.term c.children_mut.result.now
    c.in-Some.first.now c.change_at_parts.result c.children_mut.ensures.value
    (child_read c.args.term.now c.index-children_mut-first.result c.children_mut.result.now c.in-Some.first.now
    c.children_mut.ensures.value (omega (arith, c.child_count.ensures, c.if-first-child_count.false)))
    c.change_at_parts.ensures.outside
