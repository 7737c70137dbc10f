use Rattle.std.proofs.Common.{◌≡◌, ◌<◌, take, drop, length, cond, List, sym, ap, ◌∙◌, subst, arith, rules, Some, None}
use Rattle.std.specs.Prelude.{IfOk, slice_get}
use Rattle.std.specs.declared.option.Option.{Option}
use Rattle.std.proofs.lemmas.List.{length-take, take_all}
use Rattle.std.proofs.lemmas.Option.{slice_get-get_or}
use Rattle.term_core.specs.Tree.{Tree, children, annotations, list_term}
use Rattle.strategy_syntax.specs.Resolved.{ResolvedPattern, wildcard, compound, with_tail, resolved_patterns_of}
use Rattle.strategy_syntax.specs.Heads.{head_of}
use Rattle.strategy_syntax.specs.ResolvedPatternView.{resolved_pattern_of}
use Rattle.strategy_meaning.specs.Matching.{Bindings, match_pattern, match_patterns}
use Rattle.term_match.proofs.MarkLemmas.{grows_then}
use Rattle.term_match.proofs.MatchLemmas.{depth_read, yes_then, no_then, is_of_head, counts_differ, matched_next, matched_no, matched_missing, matched_all, slice_get_front, compound_matched, tail_listed, tail_short}
use Rattle.term_match.proofs.cells.Cells.+match_part.Goals as goal

pub match_children-returns-in_default-clause-ok : goal.match_children-returns-in_default-clause-ok
match_children-returns-in_default-clause-ok g t c =
    let ps = c.args.patterns.now in
    let us = children c.args.value.now in
    let within : c.loop-i.i < length ps = omega arith in
    matched_missing ps (take (length ps) us) (g.P.VariableCells.cells c.args.variables.now) _ c.loop-i.i
    c.loop-i.self.bindings wildcard within
    (slice_get_front us (length ps) c.loop-i.i within ∙ sym c.in_ok-child.ensures ∙ c.in_default.is)
    c.loop-i.invariant.matched

pub match_children-match_child-requires : goal.match_children-match_child-requires
match_children-match_child-requires g t c =
    let within : c.loop-i.i < length c.args.patterns.now = omega arith in
    let d = depth_read c.args.patterns.now c.loop-i.i c.index-patterns-i.result within c.index-patterns-i.is in
    search rules

pub match_children-returns-then-not-branch-clause-ok : goal.match_children-returns-then-not-branch-clause-ok
match_children-returns-then-not-branch-clause-ok g t c =
    let ps = c.args.patterns.now in
    let us = children c.args.value.now in
    let within : c.loop-i.i < length ps = omega arith in
    matched_no ps (take (length ps) us) (g.P.VariableCells.cells c.args.variables.now) _ c.loop-i.i
    c.loop-i.self.bindings _
    c.index-patterns-i.result c.in-Some.child c.in_ok-match_child.field-0 within c.index-patterns-i.is
    (slice_get_front us (length ps) c.loop-i.i within ∙ sym c.in_ok-child.ensures ∙ c.in-Some.is)
    c.loop-i.invariant.matched c.in_ok-match_child.ensures.ok c.if-not-branch.true

pub match_children-loop-i-preserved : goal.match_children-loop-i-preserved
match_children-loop-i-preserved g t c =
    let ps = c.args.patterns.now in
    let us = children c.args.value.now in
    let within : c.loop-i.i < length ps = omega arith in
    record {
      matched = matched_next ps (take (length ps) us) (g.P.VariableCells.cells c.args.variables.now) _ c.loop-i.i
          c.loop-i.self.bindings _
          c.index-patterns-i.result c.in-Some.child c.in_ok-match_child.field-0 within c.index-patterns-i.is
          (slice_get_front us (length ps) c.loop-i.i within ∙ sym c.in_ok-child.ensures ∙ c.in-Some.is)
          c.loop-i.invariant.matched c.in_ok-match_child.ensures.ok c.if-not-branch.false;
      grows = grows_then c.args.self.now c.loop-i.self c.match_child.new.self c.loop-i.invariant.grows
          c.in_ok-match_child.ensures.grows;
    }

pub match_annotations-returns-then-annotation_count-patterns-clause-ok :
    goal.match_annotations-returns-then-annotation_count-patterns-clause-ok
match_annotations-returns-then-annotation_count-patterns-clause-ok g t c =
    counts_differ c.args.patterns.now (annotations c.args.value.now) (g.P.VariableCells.cells c.args.variables.now)
    c.args.self.now.bindings
    (λ e. omega (arith, e, c.annotation_count.ensures, c.if-annotation_count-patterns.true))

pub match_annotations-match_part-requires : goal.match_annotations-match_part-requires
match_annotations-match_part-requires g t c =
    let within : c.loop-i.i < length c.args.patterns.now = omega arith in
    let d = depth_read c.args.patterns.now c.loop-i.i c.index-patterns-i.result within c.index-patterns-i.is in
    search rules

pub match_part-returns-then-child_count-len-clause-ok : goal.match_part-returns-then-child_count-len-clause-ok
match_part-returns-then-child_count-len-clause-ok g t c =
    let E = g.P.VariableCells.cells c.args.variables.now in
    let B = c.args.self.now.bindings in
    let v = c.args.value.now in
    let h = head_of c.in-Compound.head in
    let ps = c.in-Compound.parts.items in
    ap (λ (q : ResolvedPattern). match_pattern q v E B) (c.form.ensures ∙ ap resolved_pattern_of c.in-Compound.is)
    ∙ compound_matched h ps v E B
    (is_of_head c.kind.result h v _ _ c.is_head_of.result c.kind.ensures c.is_head_of.ensures
    ∙ c.if-not-is_head_of.false)
    ∙ counts_differ ps (children v) E B
    (λ e. omega (arith, e, c.child_count.ensures, c.len.ensures, c.if-child_count-len.true))

pub match_part-returns-then-child_count-len-2-clause-ok : goal.match_part-returns-then-child_count-len-2-clause-ok
match_part-returns-then-child_count-len-2-clause-ok g t c =
    let E = g.P.VariableCells.cells c.args.variables.now in
    let B = c.args.self.now.bindings in
    let v = c.args.value.now in
    let p = c.in-WithTail.tail.value in
    let ps = c.in-WithTail.parts.items in
    ap (λ (q : ResolvedPattern). match_pattern q v E B) (c.form.ensures ∙ ap resolved_pattern_of c.in-WithTail.is)
    ∙ tail_listed ps p v E B c.is_list.result c.is_list.ensures c.if-not-is_list.false
    ∙ tail_short ps p (children v) E B
    (omega (arith, c.child_count-in-WithTail.ensures, c.len-in-WithTail.ensures, c.if-child_count-len-2.true))

pub match_part-returns-then-not-branch-2-clause-ok : goal.match_part-returns-then-not-branch-2-clause-ok
match_part-returns-then-not-branch-2-clause-ok g t c =
    let E = g.P.VariableCells.cells c.args.variables.now in
    let B = c.args.self.now.bindings in
    let v = c.args.value.now in
    let p = c.in-WithTail.tail.value in
    let ps = c.deref-in-WithTail.result.now in
    let whole = ap (λ (q : ResolvedPattern). match_pattern q v E B)
    (c.form.ensures ∙ ap resolved_pattern_of c.in-WithTail.is
    ∙ ap (λ (l : List ResolvedPattern). with_tail (resolved_patterns_of l) p) (sym c.deref-in-WithTail.ensures.value))
    ∙ tail_listed ps p v E B c.is_list.result c.is_list.ensures c.if-not-is_list.false in
    whole ∙ no_then (match_patterns (resolved_patterns_of ps) (take (length ps) (children v)) E B) _ _
    c.in_ok-match_children-in-WithTail.field-0
    c.in_ok-match_children-in-WithTail.ensures.ok c.if-not-branch-2.true

pub match_part-returns-else-child_count-len-clause-ok : goal.match_part-returns-else-child_count-len-clause-ok
match_part-returns-else-child_count-len-clause-ok g t c =
    let E = g.P.VariableCells.cells c.args.variables.now in
    let B = c.args.self.now.bindings in
    let v = c.args.value.now in
    let h = head_of c.in-Compound.head in
    let ps = c.deref-in-Compound.result.now in
    let whole = ap (λ (q : ResolvedPattern). match_pattern q v E B)
    (c.form.ensures ∙ ap resolved_pattern_of c.in-Compound.is
    ∙ ap (λ (l : List ResolvedPattern). compound h (resolved_patterns_of l)) (sym c.deref-in-Compound.ensures.value))
    ∙ compound_matched h ps v E B
    (is_of_head c.kind.result h v _ _ c.is_head_of.result c.kind.ensures c.is_head_of.ensures
    ∙ c.if-not-is_head_of.false)
    ∙ ap (λ (us : List Tree). match_patterns (resolved_patterns_of ps) us E B)
    (sym (take_all (length ps) (children v) (omega
    (arith, c.child_count.ensures, c.len.ensures, c.if-child_count-len.false, c.deref-in-Compound.ensures.len)))) in
    subst (λ (o : Option Bindings).
    IfOk c.match_children.result (λ r. o ≡ cond r (Some c.match_children.new.self.bindings) None)) (sym whole)
    c.match_children.ensures.ok

pub match_part-returns-else-not-branch-2-clause-ok : goal.match_part-returns-else-not-branch-2-clause-ok
match_part-returns-else-not-branch-2-clause-ok g t c =
    let E = g.P.VariableCells.cells c.args.variables.now in
    let B = c.args.self.now.bindings in
    let v = c.args.value.now in
    let p = c.in-WithTail.tail.value in
    let ps = c.deref-in-WithTail.result.now in
    let whole = ap (λ (q : ResolvedPattern). match_pattern q v E B)
    (c.form.ensures ∙ ap resolved_pattern_of c.in-WithTail.is
    ∙ ap (λ (l : List ResolvedPattern). with_tail (resolved_patterns_of l) p) (sym c.deref-in-WithTail.ensures.value))
    ∙ tail_listed ps p v E B c.is_list.result c.is_list.ensures c.if-not-is_list.false in
    let count : c.len-in-WithTail-2.result ≡ length ps =
    omega (arith, c.len-in-WithTail-2.ensures, c.deref-in-WithTail.ensures.len) in
    let B1 = c.match_children-in-WithTail.new.self.bindings in
    subst
    (λ (o : Option Bindings). IfOk c.match_rest.result (λ r. o ≡ cond r (Some c.match_rest.new.self.bindings) None))
    ((λ i. match_pattern (c.deref-in-WithTail-2.ensures i) (list_term (drop (count i) (children v))) E B1)
    ∙ sym (whole ∙ yes_then (match_patterns (resolved_patterns_of ps) (take (length ps) (children v)) E B) _ B1
    c.in_ok-match_children-in-WithTail.field-0
    c.in_ok-match_children-in-WithTail.ensures.ok c.if-not-branch-2.false))
    c.match_rest.ensures.ok

pub match_part-returns-else-not-branch-clause-grows : goal.match_part-returns-else-not-branch-clause-grows
match_part-returns-else-not-branch-clause-grows g t c =
    grows_then c.args.self.now c.bind-in-At.new.self c.match_part.new.self c.in_ok-bind-in-At.ensures.grows
    c.match_part.ensures.grows

pub match_part-returns-else-not-branch-2-clause-grows : goal.match_part-returns-else-not-branch-2-clause-grows
match_part-returns-else-not-branch-2-clause-grows g t c =
    grows_then c.args.self.now c.match_children-in-WithTail.new.self c.match_rest.new.self
    c.in_ok-match_children-in-WithTail.ensures.grows c.match_rest.ensures.grows

pub match_part-returns-else-not-branch-3-clause-grows : goal.match_part-returns-else-not-branch-3-clause-grows
match_part-returns-else-not-branch-3-clause-grows g t c =
    grows_then c.args.self.now c.match_bare.new.self c.match_annotations.new.self
    c.in_ok-match_bare-in-Annotated.ensures.grows c.match_annotations.ensures.grows

pub match_children-returns-in_err-match_child-clause-grows : goal.match_children-returns-in_err-match_child-clause-grows
match_children-returns-in_err-match_child-clause-grows g t c =
    grows_then c.args.self.now c.loop-i.self c.match_child.new.self c.loop-i.invariant.grows
    c.in_err-match_child.ensures.grows

pub match_children-returns-then-not-branch-clause-grows : goal.match_children-returns-then-not-branch-clause-grows
match_children-returns-then-not-branch-clause-grows g t c =
    grows_then c.args.self.now c.loop-i.self c.match_child.new.self c.loop-i.invariant.grows
    c.in_ok-match_child.ensures.grows

pub match_annotations-returns-in_err-match_part-clause-grows :
    goal.match_annotations-returns-in_err-match_part-clause-grows
match_annotations-returns-in_err-match_part-clause-grows g t c =
    grows_then c.args.self.now c.loop-i.self c.match_part.new.self c.loop-i.invariant.grows
    c.in_err-match_part.ensures.grows

pub match_annotations-returns-then-not-branch-clause-grows : goal.match_annotations-returns-then-not-branch-clause-grows
match_annotations-returns-then-not-branch-clause-grows g t c =
    grows_then c.args.self.now c.loop-i.self c.match_part.new.self c.loop-i.invariant.grows
    c.in_ok-match_part.ensures.grows

pub match_children-returns-clause-ok : goal.match_children-returns-clause-ok
match_children-returns-clause-ok g t c =
    let ps = c.args.patterns.now in
    let us = children c.args.value.now in
    matched_all ps (take (length ps) us) (g.P.VariableCells.cells c.args.variables.now) _ c.loop-i.i
    c.loop-i.self.bindings c.loop-i-test.false
    (omega (arith, c.loop-i-test.false, length-take (length ps) us)) c.loop-i.invariant.matched

pub match_annotations-returns-then-not-branch-clause-ok : goal.match_annotations-returns-then-not-branch-clause-ok
match_annotations-returns-then-not-branch-clause-ok g t c =
    let ps = c.args.patterns.now in
    let E = g.P.VariableCells.cells c.args.variables.now in
    let inside : c.loop-i.i < length c.in_ok-annotations.annotations.items =
    omega (
      arith,
      ap length c.in_ok-annotations.ensures,
      c.annotation_count.ensures,
      c.if-annotation_count-patterns.false,
      c.loop-i-test.true,
    ) in
    let there : slice_get c.in_ok-annotations.annotations.items c.loop-i.i ≡ Some c.index.result.now =
    slice_get-get_or c.in_ok-annotations.annotations.items c.loop-i.i c.index.result.now inside
    ∙ ap Some (sym c.index.ensures) in
    matched_no ps c.in_ok-annotations.annotations.items E _ c.loop-i.i c.loop-i.self.bindings _
    c.index-patterns-i.result c.index.result.now c.in_ok-match_part.field-0 c.loop-i-test.true
    c.index-patterns-i.is there
    (c.loop-i.invariant.matched ∙ ap (λ (ts : List Tree).
    match_patterns (resolved_patterns_of ps) ts E c.args.self.now.bindings) c.in_ok-annotations.ensures)
    c.in_ok-match_part.ensures.ok c.if-not-branch.true

pub match_annotations-loop-i-preserved : goal.match_annotations-loop-i-preserved
match_annotations-loop-i-preserved g t c =
    let inside : c.loop-i.i < length c.in_ok-annotations.annotations.items =
    omega (
      arith,
      ap length c.in_ok-annotations.ensures,
      c.annotation_count.ensures,
      c.if-annotation_count-patterns.false,
      c.loop-i-test.true,
    ) in
    let there : slice_get c.in_ok-annotations.annotations.items c.loop-i.i ≡ Some c.index.result.now =
    slice_get-get_or c.in_ok-annotations.annotations.items c.loop-i.i c.index.result.now inside
    ∙ ap Some (sym c.index.ensures) in
    record {
      matched = matched_next c.args.patterns.now c.in_ok-annotations.annotations.items
          (g.P.VariableCells.cells c.args.variables.now) _ c.loop-i.i
          c.loop-i.self.bindings _ c.index-patterns-i.result c.index.result.now c.in_ok-match_part.field-0
          c.loop-i-test.true
          c.index-patterns-i.is there c.loop-i.invariant.matched c.in_ok-match_part.ensures.ok c.if-not-branch.false;
      grows = grows_then c.args.self.now c.loop-i.self c.match_part.new.self c.loop-i.invariant.grows
          c.in_ok-match_part.ensures.grows;
    }

pub match_annotations-returns-clause-ok : goal.match_annotations-returns-clause-ok
match_annotations-returns-clause-ok g t c =
    let ps = c.args.patterns.now in
    let E = g.P.VariableCells.cells c.args.variables.now in
    matched_all ps c.in_ok-annotations.annotations.items E _ c.loop-i.i c.loop-i.self.bindings c.loop-i-test.false
    (omega (
      arith,
      ap length c.in_ok-annotations.ensures,
      c.annotation_count.ensures,
      c.if-annotation_count-patterns.false,
      c.loop-i-test.false,
    ))
    (c.loop-i.invariant.matched ∙ ap (λ (ts : List Tree).
    match_patterns (resolved_patterns_of ps) ts E c.args.self.now.bindings) c.in_ok-annotations.ensures)
