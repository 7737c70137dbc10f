use Rattle.std.proofs.Common.{◌≡◌, ◌+◌, ◌-◌, ◌∷◌, ◌++◌, [], Bool, cond, length, refl, sym, ◌∙◌, subst, arith}
use Rattle.strategy_machine.specs.declared.frames.Frame.TheVariants.{Each}
use Rattle.strategy_machine.specs.declared.stack.Slot.TheVariants as Slots
use Rattle.strategy_machine.specs.inside.Slots.{frames_of, EndsWith}
use Rattle.strategy_machine.specs.inside.Walks.{StepsOn}
use Rattle.strategy_machine.proofs.SlotLemmas.{last_each, each_length, each_there, walk_written, longer_fits, longer_frames, get_last}
use Rattle.strategy_machine.proofs.stack.Frames.walk_on.Goals as goal

pub overflow_sub-walk : goal.overflow_sub-walk
overflow_sub-walk c =
    let l = each_length (last_each _ _ _ _ _ c.args.self.now c.in-Some-Each.acts c.in-Some-Each.scope c.self.invariant
    c.self.view_is (subst (λ x. EndsWith x c.args.self.now) c.in-Some-Each.field-0-is c.in-Some-Each.ensures)) in
    omega (arith, c.self.inside.walks.ok.0, l.1)

pub index_mut-requires : goal.index_mut-requires
index_mut-requires c =
    let l = each_length (last_each _ _ _ _ _ c.args.self.now c.in-Some-Each.acts c.in-Some-Each.scope c.self.invariant
    c.self.view_is (subst (λ x. EndsWith x c.args.self.now) c.in-Some-Each.field-0-is c.in-Some-Each.ensures)) in
    omega (arith, c.self.inside.walks.ok.0, l.1)

pub invariant_of-self-2 : goal.invariant_of-self-2
invariant_of-self-2 c =
    let r =
    (last_each _ _ _ _ _ c.args.self.now c.in-Some-Each.acts c.in-Some-Each.scope c.self.invariant c.self.view_is
    (subst (λ x. EndsWith x c.args.self.now) c.in-Some-Each.field-0-is c.in-Some-Each.ensures)) in
    let l = each_length r in
    let low : (c.len-walk.result - 1) + 1 ≡ length c.self.inside.walks.items =
    omega (arith, c.self.inside.walks.ok.0, l.1) in
    longer_fits
    (walk_written r _ (Slots.Each c.in-Some.others c.in-Some-Each.scope) c.to_next.new.walk (c.len-walk.result - 1) refl
    (c.put_others.ensures r.front c.in-Some-Each.acts r.slots c.in-Some.ensures.same) low) r.fits

pub returns : goal.returns
returns c =
    let i = c.self.inside in
    let r =
    (last_each _ _ _ _ _ c.args.self.now c.in-Some-Each.acts c.in-Some-Each.scope c.self.invariant c.self.view_is
    (subst (λ x. EndsWith x c.args.self.now) c.in-Some-Each.field-0-is c.in-Some-Each.ensures)) in
    let l = each_length r in
    let low : (c.len-walk.result - 1) + 1 ≡ length i.walks.items = omega (arith, i.walks.ok.0, l.1) in
    let w = c.index_mut.result.now in
    let was : r.walk ≡ w =
    sym (c.index_mut.ensures.value ∙ get_last r.outer i.walks.items r.walk w (c.len-walk.result - 1) r.walks low) in
    let on = subst (λ (b : Bool). cond b (StepsOn w c.args.part.now c.args.edits c.to_next.new.walk c.to_next.new.part)
    ((c.to_next.new.walk ≡ w) × (c.to_next.new.part ≡ c.args.part.now))) c.if-not-branch.false
    c.in_ok-to_next.ensures in (
      frames_of r.front r.outer i.starts.items i.fronts.items i.firsts.items,
      Each c.in-Some-Each.acts c.in-Some-Each.scope w,
      Each c.in-Some.others c.in-Some-Each.scope c.to_next.new.walk,
      sym c.self.view_is ∙ longer_frames (each_there r) r.fits ∙ (λ j. frames_of r.front r.outer i.starts.items
          i.fronts.items i.firsts.items ++ Each c.in-Some-Each.acts c.in-Some-Each.scope (was j) ∷ []),
      longer_frames (walk_written r _ (Slots.Each c.in-Some.others c.in-Some-Each.scope) c.to_next.new.walk
          (c.len-walk.result - 1) refl (c.put_others.ensures r.front c.in-Some-Each.acts r.slots c.in-Some.ensures.same)
          low) r.fits,
      (
        c.in-Some.others,
        Each c.in-Some-Each.acts c.in-Some-Each.scope c.to_next.new.walk,
        (refl, c.in-Some.ensures.first),
        (c.to_next.new.walk, refl, on),
        refl,
      ),
    )

pub put_others-requires : goal.put_others-requires
put_others-requires c =
    let r =
    (last_each _ _ _ _ _ c.args.self.now c.in-Some-Each.acts c.in-Some-Each.scope c.self.invariant c.self.view_is
    (subst (λ x. EndsWith x c.args.self.now) c.in-Some-Each.field-0-is c.in-Some-Each.ensures)) in
    omega (arith, c.self.inside.slots.ok.0, (each_length r).0)
