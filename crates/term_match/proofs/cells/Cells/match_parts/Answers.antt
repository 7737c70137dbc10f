use Rattle.std.proofs.Common.{◌<◌, take, length, sym, ◌∙◌, arith}
use Rattle.std.proofs.lemmas.List.{length-take}
use Rattle.term_core.specs.Tree.{children}
use Rattle.term_changes.specs.Standing.{standing_tree}
use Rattle.strategy_syntax.specs.Resolved.{wildcard}
use Rattle.term_match.proofs.MarkLemmas.{grows_then}
use Rattle.term_match.proofs.MatchLemmas.{matched_next, matched_no, matched_missing, matched_all, slice_get_front}
use Rattle.term_match.proofs.cells.Cells.match_parts.Goals as goal

pub returns-in_default-clause-ok : goal.returns-in_default-clause-ok
returns-in_default-clause-ok g c =
    let ps = c.args.patterns.now in
    let us = children (standing_tree c.args.part.now) in
    let within : c.loop-i.i < length ps = omega arith in
    matched_missing ps (take (length ps) us) (g.P.VariableCells.cells c.args.variables.now) _ c.loop-i.i
    c.loop-i.self.bindings wildcard within
    (slice_get_front us (length ps) c.loop-i.i within ∙ sym c.in_ok-child.ensures ∙ c.in_default.is)
    c.loop-i.invariant.matched

pub returns-then-not-branch-clause-ok : goal.returns-then-not-branch-clause-ok
returns-then-not-branch-clause-ok g c =
    let ps = c.args.patterns.now in
    let us = children (standing_tree c.args.part.now) in
    let within : c.loop-i.i < length ps = omega arith in
    matched_no ps (take (length ps) us) (g.P.VariableCells.cells c.args.variables.now) _ c.loop-i.i
    c.loop-i.self.bindings _
    c.index-patterns-i.result c.in-Some.child c.in_ok-match_child.field-0 within c.index-patterns-i.is
    (slice_get_front us (length ps) c.loop-i.i within ∙ sym c.in_ok-child.ensures ∙ c.in-Some.is)
    c.loop-i.invariant.matched c.in_ok-match_child.ensures.ok c.if-not-branch.true

pub loop-i-preserved : goal.loop-i-preserved
loop-i-preserved g c =
    let ps = c.args.patterns.now in
    let us = children (standing_tree c.args.part.now) in
    let within : c.loop-i.i < length ps = omega arith in
    record {
      matched = matched_next ps (take (length ps) us) (g.P.VariableCells.cells c.args.variables.now) _ c.loop-i.i
          c.loop-i.self.bindings _
          c.index-patterns-i.result c.in-Some.child c.in_ok-match_child.field-0 within c.index-patterns-i.is
          (slice_get_front us (length ps) c.loop-i.i within ∙ sym c.in_ok-child.ensures ∙ c.in-Some.is)
          c.loop-i.invariant.matched c.in_ok-match_child.ensures.ok c.if-not-branch.false;
      grows = grows_then c.args.self.now c.loop-i.self c.match_child.new.self c.loop-i.invariant.grows
          c.in_ok-match_child.ensures.grows;
    }

pub returns-in_err-match_child-clause-grows : goal.returns-in_err-match_child-clause-grows
returns-in_err-match_child-clause-grows g c =
    grows_then c.args.self.now c.loop-i.self c.match_child.new.self c.loop-i.invariant.grows
    c.in_err-match_child.ensures.grows

pub returns-then-not-branch-clause-grows : goal.returns-then-not-branch-clause-grows
returns-then-not-branch-clause-grows g c =
    grows_then c.args.self.now c.loop-i.self c.match_child.new.self c.loop-i.invariant.grows
    c.in_ok-match_child.ensures.grows

pub returns-clause-ok : goal.returns-clause-ok
returns-clause-ok g c =
    let ps = c.args.patterns.now in
    let us = children (standing_tree c.args.part.now) in
    matched_all ps (take (length ps) us) (g.P.VariableCells.cells c.args.variables.now) _ c.loop-i.i
    c.loop-i.self.bindings c.loop-i-test.false
    (omega (arith, c.loop-i-test.false, length-take (length ps) us)) c.loop-i.invariant.matched
