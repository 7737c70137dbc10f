use Rattle.std.proofs.Common.{◌≡◌, ◌+◌, ◌++◌, ◌∷◌, [], sym, ap, ◌∙◌, arith}
use Rattle.std.proofs.lemmas.Grind.{common_steps}
use Rattle.aterm_text.specs.Printed.{print}
use Rattle.aterm_text.specs.Layout.{new_line, pretty}
use Rattle.aterm_text.proofs.PrintLemmas.{extends-append, extends-trans, annotated-term}
use Rattle.aterm_text.proofs.LayoutLemmas.{spread, appended-as, bracketed-lines, annotated-lines, pretty-fits, pretty-spread, lines-step}
use Rattle.aterm_text.proofs.layout.+pretty.Goals as goal

pub spread_bracketed-returns-clause-ok : goal.spread_bracketed-returns-clause-ok
spread_bracketed-returns-clause-ok t c =
    bracketed-lines c.spread_between.result c.args.out.now.items c.spread_between.new.out.items c.args.opening
    c.args.closing c.args.terms.now _
    (sym c.is_empty.ensures ∙ c.if-is_empty.false) c.spread_between.ensures.ok

pub pretty_term-returns-then-fits-clause-ok : goal.pretty_term-returns-then-fits-clause-ok
pretty_term-returns-then-fits-clause-ok t c =
    appended-as c.print_term.result c.args.out.now.items c.print_term.new.out.items (print c.args.term.now)
    (pretty c.args.column c.args.term.now)
    (sym (pretty-fits c.args.column c.args.term.now (sym c.fits.ensures ∙ c.if-fits.true))) c.print_term.ensures.ok

pub pretty_term-returns-clause-ok : goal.pretty_term-returns-clause-ok
pretty_term-returns-clause-ok t c =
    let inner : c.in-Some.inner ≡ c.args.column + 2 = omega (arith, c.in-Some.ensures) in
    let text : spread c.in-Some.inner c.args.term.now ≡ pretty c.args.column c.args.term.now =
    ap (λ n. spread n c.args.term.now) inner
    ∙ sym (pretty-spread c.args.column c.args.term.now (sym c.fits.ensures ∙ c.if-fits.false)) in
    appended-as c.spread_bracketed.result c.args.out.now.items c.spread_bracketed.new.out.items
    (spread c.in-Some.inner c.args.term.now) (pretty c.args.column c.args.term.now) text
    (annotated-lines c.spread_bracketed.result c.args.out.now.items c.spread_bare.new.out.items
    c.spread_bracketed.new.out.items c.in-Some.inner c.args.term.now c.annotations.result.now
    c.annotations.ensures c.in_ok-spread_bare.ensures.ok c.spread_bracketed.ensures.ok)

pub pretty_term-returns-clause-term : goal.pretty_term-returns-clause-term
pretty_term-returns-clause-term t c = annotated-term c.spread_bracketed.result c.args.term.now c.annotations.result.now
    c.annotations.ensures c.in_ok-spread_bare.ensures.term c.spread_bracketed.ensures.terms

pub pretty_all-loop-term-preserved : goal.pretty_all-loop-term-preserved
pretty_all-loop-term-preserved t c =
    let begun : c.new_line-in-loop-term.new.out.items ≡ (c.loop-term.out.items ++ 44 ∷ []) ++ new_line c.args.column =
    c.in_ok-new_line-2.ensures.ok ∙ ap (λ l. l ++ new_line c.args.column) c.in_ok-push.ensures.items in
    let printed : c.pretty_term-in-loop-term.new.out.items
    ≡ ((c.loop-term.out.items ++ 44 ∷ []) ++ new_line c.args.column) ++ pretty c.args.column c.term-item.result =
    c.in_ok-pretty_term-2.ensures.ok ∙ ap (λ l. l ++ pretty c.args.column c.term-item.result) begun in
    record {
      text = grind (
        arith,
        common_steps,
        printed,
        c.loop-term.invariant.text,
        lines-step c.args.column c.loop-term.out.items c.in-Some.rest.now c.loop-term.term-index c.term-item.result,
      );
      terms = grind (arith, common_steps);
      grows = extends-trans _ _ _ c.loop-term.invariant.grows (extends-trans _ _ _ (extends-trans _ _ _
          (extends-append _ _ _ c.in_ok-push.ensures.items) (extends-append _ _ _ c.in_ok-new_line-2.ensures.ok))
          (extends-append _ _ _ c.in_ok-pretty_term-2.ensures.ok));
      room = omega (
        arith,
        c.loop-term.invariant.room,
        c.in_ok-push.ensures.capacity,
        c.in_ok-new_line-2.ensures.room,
        c.in_ok-pretty_term-2.ensures.room,
      );
    }
