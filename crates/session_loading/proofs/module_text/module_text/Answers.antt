use Rattle.std.proofs.Common.{◌≡◌, ◌++◌, ◌+◌, ◌∙◌, List, rules, tests, sym, ap, subst, length, drop, map, cond, true, false}
use Rattle.std.proofs.lemmas.List.{length_push}
use Rattle.std.proofs.lemmas.Iterator.Consumers.{YieldsList-turn, YieldsList-end}
use Rattle.std.proofs.lemmas.Iterator.Splits.{YieldsList-from_slice_split}
use Rattle.aterm_text.specs.Tokens.{is_blank}
use Rattle.script_text.specs.Script.{is_line_feed, without_end}
use Rattle.script_text.specs.declared.framing.Framing.TheVariants.{Continued}
use Rattle.script_text.specs.Laws.{IsCommandText}
use Rattle.session_loading.specs.Loading.{next_line, trimmed}
use Rattle.session_loading.proofs.TextLemmas.{all_lines, kept, lines_in, one_more_line, rest_of, text_is_given}
use Rattle.session_loading.proofs.module_text.module_text.Goals as goal

pub loop-line-init : goal.loop-line-init
loop-line-init c =
    sym (ap (λ (l : List _). l ++ rest_of false (map kept (lines_in c.args.text.now))) c.in_ok-made.ensures.items)

pub loop-line-preserved : goal.loop-line-preserved
loop-line-preserved c =
    let text_is : c.without_last_blanks-text.result.now ≡ trimmed c.args.text.now = c.without_last_blanks-text.ensures
    ∙ ap (without_end is_blank) c.after_blanks.ensures.value in
    let turn = YieldsList-turn (YieldsList-from_slice_split _ is_line_feed (trimmed c.args.text.now)
    (cc) (cc) (cc) (λ x b q k. search (rules, tests))) c.loop-line.yielded _ c.loop-line.yielded_by _ _ c.in-Some.line
    c.in-Some.is c.next.ensures.steps in
    let lines = lines_in c.args.text.now in
    c.loop-line.invariant
    ∙ one_more_line lines (length c.loop-line.yielded) c.in-Some.line.now c.loop-line.made.items
    c.loop-line.started turn
    ∙ ap (λ (made : List _). made ++ rest_of true (map kept (drop (length c.loop-line.yielded + 1) lines)))
    (ap (λ (l : List _). c.loop-line.made.items ++ cond c.loop-line.started (next_line l) l)
    (sym c.without_returns.ensures) ∙ sym c.in_ok-add_line.ensures)
    ∙ ap (λ n. c.add_line.new.made.items ++ rest_of true (map kept (drop n lines)))
    (sym (length_push c.loop-line.yielded c.in-Some.line))

pub returns-clause-made : goal.returns-clause-made
returns-clause-made c =
    let text_is : c.without_last_blanks-text.result.now ≡ trimmed c.args.text.now = c.without_last_blanks-text.ensures
    ∙ ap (without_end is_blank) c.after_blanks.ensures.value in
    let last = YieldsList-end (YieldsList-from_slice_split _ is_line_feed (trimmed c.args.text.now)
    (cc) (cc) (cc) (λ x b q k. search (rules, tests))) c.loop-line.yielded _ c.loop-line.yielded_by _ _ c.in-None.is
    c.next.ensures.steps in
    sym (c.loop-line.invariant ∙ all_lines (lines_in c.args.text.now) (length c.loop-line.yielded)
    c.loop-line.made.items c.loop-line.started last.1)

pub returns-clause-given : goal.returns-clause-given
returns-clause-given c =
    let text_is : c.without_last_blanks-text.result.now ≡ trimmed c.args.text.now = c.without_last_blanks-text.ensures
    ∙ ap (without_end is_blank) c.after_blanks.ensures.value in
    let last = YieldsList-end (YieldsList-from_slice_split _ is_line_feed (trimmed c.args.text.now)
    (cc) (cc) (cc) (λ x b q k. search (rules, tests))) c.loop-line.yielded _ c.loop-line.yielded_by _ _ c.in-None.is
    c.next.ensures.steps in
    subst (IsCommandText Continued) (c.loop-line.invariant ∙ all_lines (lines_in c.args.text.now)
    (length c.loop-line.yielded) c.loop-line.made.items c.loop-line.started last.1) (text_is_given c.args.text.now)
