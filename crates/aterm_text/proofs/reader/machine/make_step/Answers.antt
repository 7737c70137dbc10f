use Rattle.std.proofs.Common.{◌≡◌, ℕ, List, sym, ◌∙◌, ap}
use Rattle.aterm_text.specs.Tokens.{without_blanks}
use Rattle.aterm_text.proofs.TrimLemmas.{trimmed}
use Rattle.aterm_text.proofs.GoesLemmas.{step-leads, step-lost, on_ok}
use Rattle.aterm_text.specs.inside.Depth.{depth}
use Rattle.aterm_text.proofs.DepthLemmas.{after_trim, keeps-after, too-deep-after}
use Rattle.aterm_text.proofs.reader.machine.make_step.Goals as goal

is_trimmed : (x text : List ℕ) → text ≡ without_blanks x → without_blanks text ≡ text
is_trimmed x text e = ap without_blanks e ∙ trimmed x ∙ sym e

pub expect_term-requires : goal.expect_term-requires
expect_term-requires c = is_trimmed c.args.text.now _ c.after_blanks-text.ensures.value

pub returns-in-Expected-clause-leads : goal.returns-in-Expected-clause-leads
returns-in-Expected-clause-leads c = step-leads _ _ _ _ c.args.text.now _ c.in-Expected.is
    c.after_blanks-text.ensures.value c.expect_term.result c.after_blanks-text.ensures.bound c.expect_term.ensures.leads

pub returns-in-Expected-clause-none : goal.returns-in-Expected-clause-none
returns-in-Expected-clause-none c = λ e. step-lost _ _ c.args.stack.now c.args.stack.now c.args.text.now _
    c.in-Expected.is c.after_blanks-text.ensures.value (c.expect_term.ensures.none e)

pub after_opening-requires : goal.after_opening-requires
after_opening-requires c = is_trimmed c.args.text.now _ c.after_blanks-text.ensures.value

pub returns-in-Entered-clause-leads : goal.returns-in-Entered-clause-leads
returns-in-Entered-clause-leads c =
    step-leads _ _ _ _ c.args.text.now _ c.in-Entered.is c.after_blanks-text.ensures.value c.after_opening.result
    c.after_blanks-text.ensures.bound c.after_opening.ensures.leads

pub returns-in-Entered-clause-none : goal.returns-in-Entered-clause-none
returns-in-Entered-clause-none c = λ e. step-lost _ _ c.args.stack.now c.args.stack.now c.args.text.now _
    c.in-Entered.is c.after_blanks-text.ensures.value (c.after_opening.ensures.none e)

pub after_base-requires : goal.after_base-requires
after_base-requires c = is_trimmed c.args.text.now _ c.after_blanks-text.ensures.value

pub returns-in-Base-clause-leads : goal.returns-in-Base-clause-leads
returns-in-Base-clause-leads c = step-leads _ _ _ _ c.args.text.now _ c.in-Base.is c.after_blanks-text.ensures.value
    c.after_base.result c.after_blanks-text.ensures.bound c.after_base.ensures.leads

pub returns-in-Base-clause-none : goal.returns-in-Base-clause-none
returns-in-Base-clause-none c = λ e. step-lost _ _ c.args.stack.now c.args.stack.now c.args.text.now _ c.in-Base.is
    c.after_blanks-text.ensures.value (c.after_base.ensures.none e)

pub after_whole-requires : goal.after_whole-requires
after_whole-requires c = is_trimmed c.args.text.now _ c.after_blanks-text.ensures.value

pub returns-in-Whole-clause-leads : goal.returns-in-Whole-clause-leads
returns-in-Whole-clause-leads c = step-leads _ _ _ _ c.args.text.now _ c.in-Whole.is c.after_blanks-text.ensures.value
    c.after_whole.result c.after_blanks-text.ensures.bound c.after_whole.ensures.leads

pub returns-in-Whole-clause-none : goal.returns-in-Whole-clause-none
returns-in-Whole-clause-none c = λ e. step-lost _ _ c.args.stack.now c.args.stack.now c.args.text.now _ c.in-Whole.is
    c.after_blanks-text.ensures.value (c.after_whole.ensures.none e)

pub returns-in-Expected-clause-nesting : goal.returns-in-Expected-clause-nesting
returns-in-Expected-clause-nesting c =
    on_ok c.expect_term.result _ _ (λ step keeps. keeps-after c.args.stack.now _ c.args.text.now _ step
    (after_trim (depth c.args.stack.now) c.args.text.now _ c.after_blanks-text.ensures.value) keeps)
    c.expect_term.ensures.nesting

pub returns-in-Expected-clause-deep : goal.returns-in-Expected-clause-deep
returns-in-Expected-clause-deep c =
    λ e. too-deep-after (depth c.args.stack.now) c.args.text.now c.after_blanks-text.result.now
    (after_trim (depth c.args.stack.now) c.args.text.now _ c.after_blanks-text.ensures.value)
    (c.expect_term.ensures.deep e)

pub returns-in-Entered-clause-nesting : goal.returns-in-Entered-clause-nesting
returns-in-Entered-clause-nesting c =
    on_ok c.after_opening.result _ _ (λ step keeps. keeps-after c.args.stack.now _ c.args.text.now _ step
    (after_trim (depth c.args.stack.now) c.args.text.now _ c.after_blanks-text.ensures.value) keeps)
    c.after_opening.ensures.nesting

pub returns-in-Entered-clause-deep : goal.returns-in-Entered-clause-deep
returns-in-Entered-clause-deep c =
    λ e. too-deep-after (depth c.args.stack.now) c.args.text.now c.after_blanks-text.result.now
    (after_trim (depth c.args.stack.now) c.args.text.now _ c.after_blanks-text.ensures.value)
    (c.after_opening.ensures.deep e)

pub returns-in-Base-clause-nesting : goal.returns-in-Base-clause-nesting
returns-in-Base-clause-nesting c =
    on_ok c.after_base.result _ _ (λ step keeps. keeps-after c.args.stack.now _ c.args.text.now _ step
    (after_trim (depth c.args.stack.now) c.args.text.now _ c.after_blanks-text.ensures.value) keeps)
    c.after_base.ensures.nesting

pub returns-in-Base-clause-deep : goal.returns-in-Base-clause-deep
returns-in-Base-clause-deep c =
    λ e. too-deep-after (depth c.args.stack.now) c.args.text.now c.after_blanks-text.result.now
    (after_trim (depth c.args.stack.now) c.args.text.now _ c.after_blanks-text.ensures.value)
    (c.after_base.ensures.deep e)

pub returns-in-Whole-clause-nesting : goal.returns-in-Whole-clause-nesting
returns-in-Whole-clause-nesting c =
    on_ok c.after_whole.result _ _ (λ step keeps. keeps-after c.args.stack.now _ c.args.text.now _ step
    (after_trim (depth c.args.stack.now) c.args.text.now _ c.after_blanks-text.ensures.value) keeps)
    c.after_whole.ensures.nesting

pub returns-in-Whole-clause-deep : goal.returns-in-Whole-clause-deep
returns-in-Whole-clause-deep c =
    λ e. too-deep-after (depth c.args.stack.now) c.args.text.now c.after_blanks-text.result.now
    (after_trim (depth c.args.stack.now) c.args.text.now _ c.after_blanks-text.ensures.value)
    (c.after_whole.ensures.deep e)
