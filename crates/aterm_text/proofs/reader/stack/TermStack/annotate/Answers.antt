use Rattle.std.proofs.Common.{◌∙◌, sym, ap, arith}
use Rattle.std.proofs.Math.ListN.{length-set}
use Rattle.term_core.specs.Tree.{with_annotations}
use Rattle.aterm_text.specs.inside.Depth.{depth}
use Rattle.aterm_text.proofs.StackLemmas.{is_cut-same_length, cut-change, no_top, depth-cut}
use Rattle.aterm_text.proofs.reader.stack.TermStack.annotate.Goals as goal

pub returns-in_default-clause-top : goal.returns-in_default-clause-top
returns-in_default-clause-top c = λ t below e.
    let none = c.in_default.ensures in
    absurd (no_top _ c.self.inside.terms.items t below c.self.invariant
    (c.self.view_is ∙ e) (omega (arith, none, c.len.ensures, c.self.inside.terms.ok.0)))

pub invariant_of-self : goal.invariant_of-self
invariant_of-self c =
    is_cut-same_length _ c.self.inside.terms.items _ (sym (length-set c.self.inside.terms.items _ _)) c.self.invariant

pub returns-clause-top : goal.returns-clause-top
returns-clause-top c = λ t below e.
    cut-change (λ u. with_annotations u c.args.annotations.items) _ c.self.inside.terms.items c.in-Some.top _ _ t below
    c.self.invariant (omega (arith, c.in-Some.ensures, c.len.ensures, c.self.inside.terms.ok.0))
    c.index_mut.ensures.value c.swap_annotations.ensures.term (c.self.view_is ∙ e)

pub returns-clause-depth : goal.returns-clause-depth
returns-clause-depth c =
    depth-cut c.self.inside.brackets _ ∙ sym (depth-cut c.self.inside.brackets c.self.inside.terms.items)
    ∙ ap depth c.self.view_is
