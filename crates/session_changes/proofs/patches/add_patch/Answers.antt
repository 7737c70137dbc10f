use Rattle.std.proofs.Common.{ap, sym, ◌∙◌, map}
use Rattle.term_changes.specs.Change.{changed}
use Rattle.session_history.specs.Differences.{differences, difference_line}
use Rattle.session_changes.proofs.PatchDifferences.{nothing_read}
use Rattle.session_changes.proofs.AddedLemmas.{adds_equal}
use Rattle.session_changes.proofs.patches.add_patch.Goals as goal

pub returns-in_default : goal.returns-in_default
returns-in_default c =
    let path = c.args.path.now.items in
    let u = c.args.tree.now in
    adds_equal _ _ (ap (map (difference_line c.args.name.now)) (ap (λ it. differences path (changed it u) u)
    (sym c.reader-reader.ensures) ∙ nothing_read path c.reader-reader.result u c.in_default.ensures))
