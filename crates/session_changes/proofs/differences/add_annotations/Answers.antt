use Rattle.std.proofs.Common.{refl, ap, map}
use Rattle.std.proofs.lemmas.Bool.{false≢true}
use Rattle.term_core.specs.Tree.{of_list}
use Rattle.session_history.specs.Differences.{annotations_differ, difference_line}
use Rattle.session_changes.proofs.DifferenceLemmas.{annotated_equal, annotated_apart}
use Rattle.session_changes.proofs.AddedLemmas.{line_added, adds_equal}
use Rattle.session_changes.proofs.differences.add_annotations.Goals as goal

pub returns-then-all_equal : goal.returns-then-all_equal
returns-then-all_equal c =
    adds_equal _ _ (ap (map (difference_line c.args.name.now))
    (annotated_equal c.args.path.now c.args.old.now c.args.new.now (c.if-all_equal.ensures.0 refl)))

pub returns : goal.returns
returns c =
    let line = difference_line c.args.name.now in
    let ns = c.args.old.now in
    let ms = c.args.new.now in
    line_added c.add_change.result (line (annotations_differ c.args.path.now (of_list ns) (of_list ms))) _
    c.args.lines.now c.add_change.new.self
    (ap (map line) (annotated_apart c.args.path.now ns ms (λ e. false≢true (c.if-all_equal.ensures.1 e))))
    c.add_change.ensures.text c.add_change.ensures.count
