use Rattle.std.proofs.Common.{◌≡◌, ◌≤◌, ◌+◌, List, None, length}
use Rattle.prim_core.specs.Signature.{Signature}
use Rattle.std.specs.Bool.{OnFalse}
use Rattle.session_history.specs.History.{redone}
use Rattle.session_history.specs.Unfolded.{unfolded}
use Rattle.session_history.proofs.timeline.Timeline.forward_by.Given as goal

-- the remaining steps lead where all of them led
abbrev pub invariant-loop-left : goal.invariant-loop-left
invariant-loop-left l = record {
  outside : l.self.group ≡ None;
  enough : l.self.position + l.left ≤ length l.self.logs;
  value : (ps : List Signature) → redone l.steps (unfolded ps l.initial.self) ≡ redone l.left (unfolded ps l.self);
  texts : OnFalse l.touched (l.self.store.modules ≡ l.initial.self.store.modules);
}

abbrev pub decreases-loop-left : goal.decreases-loop-left
decreases-loop-left l = l.left
