use Rattle.std.proofs.Common.{◌≡◌, ◌≤◌, List, None}
use Rattle.prim_core.specs.Signature.{Signature}
use Rattle.std.specs.Bool.{OnFalse}
use Rattle.session_history.specs.History.{undone}
use Rattle.session_history.specs.Unfolded.{unfolded}
use Rattle.session_history.proofs.timeline.Timeline.back_by.Given as goal

-- the remaining steps lead where all of them led
abbrev pub invariant-loop-left : goal.invariant-loop-left
invariant-loop-left l = record {
  outside : l.self.group ≡ None;
  enough : l.left ≤ l.self.position;
  value : (ps : List Signature) → undone l.steps (unfolded ps l.initial.self) ≡ undone l.left (unfolded ps l.self);
  texts : OnFalse l.touched (l.self.store.modules ≡ l.initial.self.store.modules);
}

abbrev pub decreases-loop-left : goal.decreases-loop-left
decreases-loop-left l = l.left
