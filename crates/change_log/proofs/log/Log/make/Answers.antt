use Rattle.std.proofs.Common.{◌≡◌, ◌∙◌, ◌++◌, ◌+◌, length, sym, ap, arith, length-append}
use Rattle.std.proofs.lemmas.List.{take_at}
use Rattle.term_changes.specs.Entries.{texts, flipped_forward}
use Rattle.term_changes.specs.inside.LogView.{entries, depths}
use Rattle.change_log.proofs.FlipLemmas.{few_texts, texts-append, texts_forward}
use Rattle.term_changes.proofs.LogLemmas.{length-entries, made_depths, made_entries}
use Rattle.change_log.proofs.log.Log.make.Goals as goal

pub overflow_add-self : goal.overflow_add-self
overflow_add-self c =
    let rs = c.self.inside.replaced.items in
    let ps = c.self.inside.paths.items in
    let qs = c.deref-2.result.now in
    omega (
      arith,
      few_texts (entries rs ps),
      length-entries rs ps,
      c.self.invariant.2,
      few_texts (entries qs ps),
      length-entries qs ps,
      c.count_texts.ensures ps,
      ap length c.deref-2.ensures.value,
      ap length c.in_ok-reserve.ensures.items,
      c.in_ok-reserve.ensures.ok,
      c.len.ensures,
      c.reserve.new.self.ok.0,
      c.plan.inside.changes.ok.0,
      c.reserve.new.self.small,
    )

pub invariant_of-self-2 : goal.invariant_of-self-2
invariant_of-self-2 c =
    let rs = c.self.inside.replaced.items in
    let ps = c.self.inside.paths.items in
    let qs = c.plan.inside.changes.items in
    let ts = c.plan.inside.paths.items in
    let now = c.flip_forward.new.replaced in
    let back = take_at now _ c.plan.inside.changes.len (c.flip_forward.auto.replaced ∙ c.deref_mut.ensures.len) in
    let all : c.add_all.new.to.items ≡ rs ++ now = c.add_all.ensures
    ∙ (λ i. c.in_ok-reserve.ensures.items i ++ back i) in
    let paths : c.extend_from_slice.new.self.items ≡ ps ++ ts = c.in_ok-extend_from_slice.ensures.items
    ∙ ap (λ l. ps ++ l) c.deref.ensures.value in
    let depth : depths now ≡ depths qs = c.flip_forward.ensures.depths ∙ ap depths c.deref_mut.ensures.value in
    let made : entries now ts ≡ flipped_forward (entries qs ts) c.args.store.now =
    ap (entries now) (sym c.deref-3.ensures.value) ∙ c.flip_forward.ensures.log
    ∙ (λ i. flipped_forward (entries (c.deref_mut.ensures.value i) (c.deref-3.ensures.value i)) c.args.store.now) in
    let counts : length c.add_all.new.to.items ≡ c.len-2.result + c.len-3.result =
    omega (
      arith,
      ap length all,
      length-append rs now,
      c.flip_forward.auto.replaced,
      ap length c.deref_mut.ensures.value,
      c.len-2.ensures,
      c.len-3.ensures,
      ap length c.in_ok-reserve.ensures.items,
      c.reserve.new.self.ok.0,
      c.plan.inside.changes.ok.0,
    ) in
    let texts_are = ap texts (made_entries rs qs now c.add_all.new.to.items ps ts c.extend_from_slice.new.self.items
    c.self.invariant.0 c.plan.invariant depth all paths _ made) in (
      made_depths rs qs now c.add_all.new.to.items ps ts c.extend_from_slice.new.self.items c.self.invariant.0
          c.plan.invariant depth all paths,
      λ more. omega (
        arith,
        counts,
        more,
        c.in_ok-make_space.ensures.room (omega (arith, counts, more)),
        c.make_space.new.space.ok.0,
      ),
      omega (
        arith,
        texts_are,
        texts-append (entries rs ps) (flipped_forward (entries qs ts) c.args.store.now),
        texts_forward (entries qs ts) c.args.store.now,
        c.self.invariant.2,
        c.count_texts.ensures ts,
        ap (λ l. texts (entries l ts)) c.deref-2.ensures.value,
      ),
    )

pub returns-clause-log : goal.returns-clause-log
returns-clause-log c =
    let rs = c.self.inside.replaced.items in
    let ps = c.self.inside.paths.items in
    let qs = c.plan.inside.changes.items in
    let ts = c.plan.inside.paths.items in
    let now = c.flip_forward.new.replaced in
    let back = take_at now _ c.plan.inside.changes.len (c.flip_forward.auto.replaced ∙ c.deref_mut.ensures.len) in
    let all : c.add_all.new.to.items ≡ rs ++ now = c.add_all.ensures
    ∙ (λ i. c.in_ok-reserve.ensures.items i ++ back i) in
    let paths : c.extend_from_slice.new.self.items ≡ ps ++ ts = c.in_ok-extend_from_slice.ensures.items
    ∙ ap (λ l. ps ++ l) c.deref.ensures.value in
    let depth : depths now ≡ depths qs = c.flip_forward.ensures.depths ∙ ap depths c.deref_mut.ensures.value in
    let made : entries now ts ≡ flipped_forward (entries qs ts) c.args.store.now =
    ap (entries now) (sym c.deref-3.ensures.value) ∙ c.flip_forward.ensures.log
    ∙ (λ i. flipped_forward (entries (c.deref_mut.ensures.value i) (c.deref-3.ensures.value i)) c.args.store.now) in
    made_entries rs qs now c.add_all.new.to.items ps ts c.extend_from_slice.new.self.items c.self.invariant.0
    c.plan.invariant depth all paths _ made
    ∙ (λ i. c.self.view_is i ++ flipped_forward (c.plan.view_is i) c.args.store.now)
