use Rattle.std.proofs.Common.{◌≡◌, List, [], length, slice_get, ◌-◌, sym, ap, ◌∙◌, subst, Some, None, MatchOption}
use Rattle.std.specs.declared.option.Option.{Option}
use Rattle.strategy_machine.specs.declared.frames.Walk.{Walk}
use Rattle.strategy_machine.specs.declared.stack.Slot.{Slot}
use Rattle.strategy_machine.specs.declared.stack.Start.{Start}
use Rattle.strategy_machine.specs.declared.stack.Front.{Front}
use Rattle.strategy_machine.specs.declared.stack.First.{First}
use Rattle.strategy_machine.specs.inside.Slots.{frames_of, Fits, EndsWith}
use Rattle.strategy_machine.proofs.SlotLemmas.{IsLastOf, last_of, slot_ends}
use Rattle.strategy_machine.proofs.stack.Frames.last.Goals as goal

ends : (zs : List Slot) (o : Option Slot) (ws : List Walk) (ss : List Start) (fs : List Front) (ks : List First)
    → IsLastOf zs o → Fits zs ws ss fs ks
    → MatchOption o (frames_of zs ws ss fs ks ≡ []) (λ x. EndsWith x (frames_of zs ws ss fs ks))
ends zs None ws ss fs ks l h = (λ i. frames_of (l i) ws ss fs ks)
ends zs (Some x) ws ss fs ks l h =
    subst (λ ys. EndsWith x (frames_of ys ws ss fs ks)) (sym l.1)
    (slot_ends l.0 x ws ss fs ks (subst (λ ys. Fits ys ws ss fs ks) l.1 h))

pub returns : goal.returns
returns c =
    let i = c.self.inside in
    subst (λ gs. MatchOption c.copied.result (gs ≡ []) (λ x. EndsWith x gs)) c.self.view_is
    (ends i.slots.items c.copied.result i.walks.items i.starts.items i.fronts.items i.firsts.items
    (last_of i.slots.items c.copied.result
    (c.copied.ensures ∙ c.last.ensures.value ∙ ap (λ xs. slice_get xs (length xs - 1)) c.deref.ensures.value))
    c.self.invariant)
