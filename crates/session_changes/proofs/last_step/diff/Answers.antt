use Rattle.std.proofs.Common.{refl, option_copied, inl, inr}
use Rattle.session_changes.proofs.BaseLemmas.{told_changes, same_refusal}
use Rattle.session_changes.proofs.last_step.diff.Goals as goal

pub returns-in-Ok-clause-ok : goal.returns-in-Ok-clause-ok
returns-in-Ok-clause-ok c =
    told_changes (option_copied c.args.name) c.args.timeline.now c.compact_group.new.self c.compact_group.ensures.same _
    c.add_changes.new.lines c.args.out.now.items c.append_counted.new.out.items
    c.new-text.ensures.items refl c.in-Ok.ensures.ok c.in_ok-append_counted-in-Ok.ensures.ok

pub returns-clause-refused : goal.returns-clause-refused
returns-clause-refused c =
    elim c.in-Err.ensures.refused [
      | inl memory ↦ inl memory
      | inr base ↦ inr (same_refusal (option_copied c.args.name) c.args.timeline.now c.compact_group.new.self
          c.compact_group.ensures.same c.in-Err.refusal base)
    ]
