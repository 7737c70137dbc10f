use Rattle.std.proofs.Common.{◌≡◌, length, cond, List, true, sym, ap, ◌∙◌, subst, arith, Some, None}
use Rattle.std.specs.Prelude.{IfOk}
use Rattle.std.specs.declared.option.Option.{Option}
use Rattle.std.proofs.lemmas.List.{take_all}
use Rattle.term_core.specs.Tree.{Tree, children}
use Rattle.term_changes.specs.Standing.{standing_tree}
use Rattle.strategy_syntax.specs.Resolved.{ResolvedPattern, compound, resolved_patterns_of}
use Rattle.strategy_syntax.specs.Heads.{head_of}
use Rattle.strategy_syntax.specs.ResolvedPatternView.{resolved_pattern_of}
use Rattle.strategy_meaning.specs.Matching.{Bindings, is_headed, match_pattern, match_patterns}
use Rattle.term_match.specs.Heads.{SharesHead}
use Rattle.term_match.proofs.MatchLemmas.{counts_differ, compound_matched}
use Rattle.term_match.proofs.cells.Cells.match_below.Goals as goal

pub returns-then-child_count-len-clause-ok : goal.returns-then-child_count-len-clause-ok
returns-then-child_count-len-clause-ok g c =
    let E = g.P.VariableCells.cells c.args.variables.now in
    let B = c.args.self.now.bindings in
    let v = standing_tree c.args.part.now in
    let ps = c.in-Compound.parts.items in
    let is = c.form.ensures ∙ ap resolved_pattern_of c.in-Compound.is in
    let headed : is_headed (head_of c.in-Compound._head) v ≡ true =
    subst (λ (q : ResolvedPattern). SharesHead q v) is c.requires in
    ap (λ (q : ResolvedPattern). match_pattern q v E B) is
    ∙ compound_matched (head_of c.in-Compound._head) ps v E B headed
    ∙ counts_differ ps (children v) E B
    (λ e. omega (arith, e, c.child_count.ensures, c.len.ensures, c.if-child_count-len.true))

pub returns-in-Compound-clause-ok : goal.returns-in-Compound-clause-ok
returns-in-Compound-clause-ok g c =
    let E = g.P.VariableCells.cells c.args.variables.now in
    let B = c.args.self.now.bindings in
    let v = standing_tree c.args.part.now in
    let h = head_of c.in-Compound._head in
    let ps = c.deref.result.now in
    let is = c.form.ensures ∙ ap resolved_pattern_of c.in-Compound.is in
    let headed : is_headed h v ≡ true = subst (λ (q : ResolvedPattern). SharesHead q v) is c.requires in
    let whole = ap (λ (q : ResolvedPattern). match_pattern q v E B)
    (is ∙ ap (λ (l : List ResolvedPattern). compound h (resolved_patterns_of l)) (sym c.deref.ensures.value))
    ∙ compound_matched h ps v E B headed
    ∙ ap (λ (us : List Tree). match_patterns (resolved_patterns_of ps) us E B)
    (sym (take_all (length ps) (children v)
    (omega (arith, c.child_count.ensures, c.len.ensures, c.if-child_count-len.false, c.deref.ensures.len)))) in
    subst
    (λ (o : Option Bindings). IfOk c.match_parts.result (λ r. o ≡ cond r (Some c.match_parts.new.self.bindings) None))
    (sym whole)
    c.match_parts.ensures.ok
