use Rattle.std.proofs.Common.{List, ◌≡◌, ◌+◌, ◌-◌, ◌++◌, length, true, sym, ap, ◌∙◌, arith}
use Rattle.strategy_machine.specs.declared.frames.Frame.{Frame}
use Rattle.strategy_machine.specs.inside.Slots.{frames_of, has_walk, with_walk}
use Rattle.strategy_machine.proofs.ResultLemmas.{ok_map}
use Rattle.strategy_machine.proofs.SlotLemmas.{last_walk, walk_length, walk_there, walk_written, longer_fits, longer_frames, longer_length, get_last, same_slot}
use Rattle.strategy_machine.proofs.stack.Frames.pass_child.Goals as goal

pub overflow_sub-walk : goal.overflow_sub-walk
overflow_sub-walk c =
    let k = c.requires in
    let l = walk_length (last_walk _ _ _ _ _ c.args.self.now k.0 k.2 c.self.invariant c.self.view_is k.1) in
    omega (arith, c.self.inside.walks.ok.0, l.1)

pub index_mut-requires : goal.index_mut-requires
index_mut-requires c =
    let k = c.requires in
    let l = walk_length (last_walk _ _ _ _ _ c.args.self.now k.0 k.2 c.self.invariant c.self.view_is k.1) in
    omega (arith, c.self.inside.walks.ok.0, l.1)

pub invariant_of-self : goal.invariant_of-self
invariant_of-self c =
    let k = c.requires in
    let i = c.self.inside in
    let r = last_walk _ _ _ _ _ c.args.self.now k.0 k.2 c.self.invariant c.self.view_is k.1 in
    let low : (c.len-walk.result - 1) + 1 ≡ length i.walks.items = omega (arith, i.walks.ok.0, (walk_length r).1) in
    longer_fits (walk_written r i.slots.items k.0 c.pass.new.walk (c.len-walk.result - 1) k.2 r.slots low) r.fits

pub returns-clause-items : goal.returns-clause-items
returns-clause-items c = ok_map c.pass.result (λ found p x ends.
    let k = c.requires in
    let i = c.self.inside in
    let has : has_walk x ≡ true = ap has_walk (same_slot c.args.self.now x k.0 ends k.1) ∙ k.2 in
    let r = last_walk _ _ _ _ _ c.args.self.now x has c.self.invariant c.self.view_is ends in
    let low : (c.len-walk.result - 1) + 1 ≡ length i.walks.items = omega (arith, i.walks.ok.0, (walk_length r).1) in
    let w = c.index_mut.result.now in
    let was : r.walk ≡ w =
    sym (c.index_mut.ensures.value ∙ get_last r.outer i.walks.items r.walk w (c.len-walk.result - 1) r.walks low) in
    let front = frames_of r.front r.outer i.starts.items i.fronts.items i.firsts.items in (
      front,
      w,
      c.pass.new.walk,
      sym c.self.view_is ∙ longer_frames (walk_there r has) r.fits ∙ ap (λ y. front ++ with_walk x y) was,
      longer_frames (walk_written r i.slots.items x c.pass.new.walk (c.len-walk.result - 1) has r.slots low) r.fits,
      p,
    )) c.pass.ensures

pub returns-clause-len : goal.returns-clause-len
returns-clause-len c =
    let k = c.requires in
    let i = c.self.inside in
    let r = last_walk _ _ _ _ _ c.args.self.now k.0 k.2 c.self.invariant c.self.view_is k.1 in
    let low : (c.len-walk.result - 1) + 1 ≡ length i.walks.items = omega (arith, i.walks.ok.0, (walk_length r).1) in
    ok_map c.pass.result (λ found p.
    longer_length (walk_written r i.slots.items k.0 c.pass.new.walk (c.len-walk.result - 1) k.2 r.slots low) r.fits
    ∙ sym (longer_length (walk_there r k.2) r.fits) ∙ ap (λ (l : List Frame). length l) c.self.view_is) c.pass.ensures
