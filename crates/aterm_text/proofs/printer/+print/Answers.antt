use Rattle.std.proofs.Common.{sym, ◌∙◌, arith}
use Rattle.std.proofs.lemmas.Grind.{common_steps}
use Rattle.aterm_text.proofs.PrintLemmas.{extends-append, extends-trans, bracketed-printed, annotated-printed, annotated-term}
use Rattle.aterm_text.proofs.printer.+print.Goals as goal

pub print_bracketed-returns-clause-ok : goal.print_bracketed-returns-clause-ok
print_bracketed-returns-clause-ok t c =
    bracketed-printed c.print_between.result c.args.out.now.items c.print_between.new.out.items c.args.opening
    c.args.closing c.args.terms.now
    (sym c.is_empty.ensures ∙ c.if-is_empty.false) c.print_between.ensures.ok

pub print_term-returns-clause-ok : goal.print_term-returns-clause-ok
print_term-returns-clause-ok t c =
    annotated-printed c.print_bracketed.result c.args.out.now.items c.print_bare.new.out.items
    c.print_bracketed.new.out.items c.args.term.now c.annotations.result.now
    c.annotations.ensures c.in_ok-print_bare.ensures.ok c.print_bracketed.ensures.ok

pub print_term-returns-clause-term : goal.print_term-returns-clause-term
print_term-returns-clause-term t c = annotated-term c.print_bracketed.result c.args.term.now c.annotations.result.now
    c.annotations.ensures c.in_ok-print_bare.ensures.term c.print_bracketed.ensures.terms

pub print_all-loop-term-preserved : goal.print_all-loop-term-preserved
print_all-loop-term-preserved t c = record {
  text = grind (arith, common_steps);
  terms = grind (arith, common_steps);
  grows = extends-trans _ _ _ c.loop-term.invariant.grows (extends-trans _ _ _
      (extends-append _ _ _ c.in_ok-push.ensures.items) (extends-append _ _ _ c.in_ok-print_term-2.ensures.ok));
  room = omega (arith, c.loop-term.invariant.room, c.in_ok-push.ensures.capacity, c.in_ok-print_term-2.ensures.room);
}
