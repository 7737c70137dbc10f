use Rattle.std.proofs.Common.{[], ap, sym, ◌∙◌, subst, arith, Err}
use Rattle.term_core.specs.Tree.{list_term}
use Rattle.aterm_text.specs.Grammar.{SpellsAnnotations}
use Rattle.aterm_text.specs.inside.Unread.{base}
use Rattle.aterm_text.proofs.ReadLemmas.{unread-spells_annotations, spells_annotations-unread, only_annotations, stands-bearer}
use Rattle.aterm_text.proofs.DepthLemmas.{after_trim, too-deep-after}
use Rattle.aterm_text.proofs.reader.read_alone.Goals as goal

pub read_from-requires-clause-stands : goal.read_from-requires-clause-stands
read_from-requires-clause-stands c = (
  base (list_term []),
  stands-bearer _ _ c.list.result c.new.result.items c.new-stack.ensures c.list.ensures c.new.ensures.items
      c.in_ok-push.ensures.ok,
)

pub returns-clause-spelled : goal.returns-clause-spelled
returns-clause-spelled c = subst (SpellsAnnotations c.args.text.now) (sym c.swap_annotations.ensures.old)
    (unread-spells_annotations c.args.text.now _ c.after_blanks-text.ensures.value _ c.in-Some.ensures.some
    c.in_ok-term.term
    (c.in_ok-term.ensures.found (base (list_term [])) (stands-bearer _ _ c.list.result c.new.result.items
    c.new-stack.ensures c.list.ensures c.new.ensures.items c.in_ok-push.ensures.ok)))

pub returns-clause-only : goal.returns-clause-only
returns-clause-only c = λ us h.
    only_annotations c.args.text.now _ c.after_blanks-text.ensures.value c.in_ok-term.term
    (c.in_ok-term.ensures.only (base (list_term [])) (stands-bearer _ _ c.list.result c.new.result.items
    c.new-stack.ensures c.list.ensures c.new.ensures.items c.in_ok-push.ensures.ok))
    us h ∙ sym c.swap_annotations.ensures.old

pub returns-in_err-term-clause-no_term : goal.returns-in_err-term-clause-no_term
returns-in_err-term-clause-no_term c = λ e us h.
    let same = rw e at c.from_residual-in_err-term.ensures in
    c.in_err-term.ensures.none (ap Err (sym same.1)) (base (list_term [])) (stands-bearer _ _ c.list.result
    c.new.result.items c.new-stack.ensures c.list.ensures c.new.ensures.items c.in_ok-push.ensures.ok)
    _ (spells_annotations-unread c.args.text.now _ c.after_blanks-text.ensures.value us h)

pub returns-clause-shallow : goal.returns-clause-shallow
returns-clause-shallow c =
    omega (arith, after_trim 0 c.args.text.now _ c.after_blanks-text.ensures.value, c.in_ok-term.ensures.shallow)

pub returns-in_err-term-clause-deep : goal.returns-in_err-term-clause-deep
returns-in_err-term-clause-deep c = λ e.
    let h = rw e at c.from_residual-in_err-term.ensures in
    too-deep-after 0 c.args.text.now c.after_blanks-text.result.now
    (after_trim 0 c.args.text.now _ c.after_blanks-text.ensures.value) (c.in_err-term.ensures.deep (ap Err (sym h.1)))
