use Rattle.std.proofs.Common.{◌∙◌, ap, refl, ◌++◌, [], ◌∷◌}
use Rattle.term_changes.specs.inside.LogView.{entries, depths}
use Rattle.term_changes.proofs.LogLemmas.{pushed_depths, pushed_entries}
use Rattle.term_changes.proofs.plan.Plan.add.Goals as goal

pub invariant_of-self-2 : goal.invariant_of-self-2
invariant_of-self-2 c =
    pushed_depths c.reserve.new.self.items c.push_reserved.new.self.items _ c.self.inside.paths.items
    c.change.inside.path.now c.extend_from_slice.new.self.items
    (ap depths c.in_ok-reserve.ensures.items ∙ c.self.invariant) refl c.push_reserved.ensures.items
    c.in_ok-extend_from_slice.ensures.items

pub returns-clause-ok : goal.returns-clause-ok
returns-clause-ok c =
    pushed_entries c.reserve.new.self.items c.push_reserved.new.self.items _ c.self.inside.paths.items
    c.change.inside.path.now c.extend_from_slice.new.self.items
    (ap depths c.in_ok-reserve.ensures.items ∙ c.self.invariant) refl c.push_reserved.ensures.items
    c.in_ok-extend_from_slice.ensures.items
    ∙ (λ i. (ap (λ rs. entries rs c.self.inside.paths.items) c.in_ok-reserve.ensures.items ∙ c.self.view_is) i
    ++ c.change.view_is i ∷ [])
