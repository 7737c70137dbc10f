use Rattle.std.proofs.Common.{◌≡◌, ◌∙◌, length, sym, ap, arith}
use Rattle.std.proofs.lemmas.List.{take_at}
use Rattle.term_changes.specs.Entries.{texts}
use Rattle.term_changes.specs.inside.LogView.{entries, depths}
use Rattle.change_log.proofs.FlipLemmas.{texts_back}
use Rattle.change_log.proofs.log.Log.flip_back.Goals as goal

pub invariant_of-self : goal.invariant_of-self
invariant_of-self c =
    let back = take_at c.flip_back.new.replaced _ c.self.inside.replaced.len
    (c.flip_back.auto.replaced ∙ c.deref_mut.ensures.len) in
    let count = ap length back in
    let same : length c.flip_back.new.replaced ≡ length c.self.inside.replaced.items = c.flip_back.auto.replaced
    ∙ ap length c.deref_mut.ensures.value in (
      ap depths back ∙ c.flip_back.ensures.depths ∙ ap depths c.deref_mut.ensures.value ∙ c.self.invariant.0,
      λ more. omega (arith, count, same, more, c.self.invariant.1 (omega (arith, count, same, more))),
      c.self.invariant.2 ∙ sym
          (ap (λ rs. texts (entries rs c.self.inside.paths.items)) back
          ∙ ap (λ ps. texts (entries c.flip_back.new.replaced ps)) (sym c.deref.ensures.value)
          ∙ ap texts c.flip_back.ensures.log
          ∙ texts_back (entries c.deref_mut.result.now c.deref.result.now) c.args.store.now
          ∙ (λ k. texts (entries (c.deref_mut.ensures.value k) (c.deref.ensures.value k)))),
    )
