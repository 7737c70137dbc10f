use Rattle.std.proofs.Common.{refl, sym, ap, ◌∙◌, ◌++◌, ◌∷◌, [], length, arith}
use Rattle.std.proofs.lemmas.List.{length_push}
use Rattle.term_changes.specs.Entries.{found, text_count, texts}
use Rattle.term_changes.specs.LogView.{entry_of}
use Rattle.term_changes.specs.inside.LogView.{entries, depths}
use Rattle.term_changes.proofs.LogLemmas.{length-entries, pushed_depths, pushed_entries}
use Rattle.change_log.proofs.FlipLemmas.{few_texts, text_found, text_pushed}
use Rattle.change_log.proofs.log.Log.push.Goals as goal

pub overflow_add-self : goal.overflow_add-self
overflow_add-self c =
    omega (
      arith,
      few_texts (entries c.self.inside.replaced.items c.self.inside.paths.items),
      length-entries c.self.inside.replaced.items c.self.inside.paths.items,
      c.self.invariant.2,
      c.texts.ensures.one,
      c.in_ok-reserve_one.ensures.room,
      ap length c.in_ok-reserve_one.ensures.items,
      c.reserve_one.new.replaced.ok.0,
      c.reserve_one.new.replaced.small,
    )

pub invariant_of-self-2 : goal.invariant_of-self-2
invariant_of-self-2 c = (
  pushed_depths c.reserve_one.new.replaced.items c.push_reserved.new.self.items _ c.self.inside.paths.items
      c.change.inside.path.now c.extend_from_slice.new.self.items
      (ap depths c.in_ok-reserve_one.ensures.items ∙ c.self.invariant.0) refl c.push_reserved.ensures.items
      c.in_ok-extend_from_slice.ensures.items,
  λ more.
      let before = ap length c.in_ok-reserve_one.ensures.items in
      let count = ap length c.push_reserved.ensures.items ∙ length_push c.reserve_one.new.replaced.items _ in
      let one_more =
      c.in_ok-make_space.ensures.room (omega (arith, more, count, c.len.ensures, c.reserve_one.new.replaced.ok.0)) in
      omega (arith, one_more, count, c.len.ensures, c.reserve_one.new.replaced.ok.0, c.make_space.new.space.ok.0),
  text_pushed (entries c.self.inside.replaced.items c.self.inside.paths.items) _
      (entry_of c.change.inside.slot c.change.inside.path.now c.change.inside.kept) c.args.store.now _ _
      c.self.invariant.2
      (pushed_entries c.reserve_one.new.replaced.items c.push_reserved.new.self.items _ c.self.inside.paths.items
      c.change.inside.path.now c.extend_from_slice.new.self.items
      (ap depths c.in_ok-reserve_one.ensures.items ∙ c.self.invariant.0) refl c.push_reserved.ensures.items
      c.in_ok-extend_from_slice.ensures.items
      ∙ (λ i. ap (λ rs. entries rs c.self.inside.paths.items) c.in_ok-reserve_one.ensures.items i
      ++ c.exchange.ensures.kept i ∷ []))
      (c.texts.ensures.value c.change.inside.slot c.change.inside.path.now ∙ ap text_count c.exchange.ensures.kept
      ∙ text_found (entry_of c.change.inside.slot c.change.inside.path.now c.change.inside.kept) c.args.store.now),
)

pub invariant_of-self-in_err-make_space : goal.invariant_of-self-in_err-make_space
invariant_of-self-in_err-make_space c = (
  ap depths c.in_ok-reserve_one.ensures.items ∙ c.self.invariant.0,
  λ more.
      let same = ap length c.in_ok-reserve_one.ensures.items in
      omega (
        arith,
        same,
        c.self.invariant.1 (omega (arith, more, same)),
        c.in_err-make_space.ensures.kept,
        c.self.inside.space.ok.0,
        c.make_space.new.space.ok.0,
      ),
  c.self.invariant.2 ∙ ap (λ rs. texts (entries rs c.self.inside.paths.items)) (sym c.in_ok-reserve_one.ensures.items),
)

pub returns-clause-log : goal.returns-clause-log
returns-clause-log c =
    pushed_entries c.reserve_one.new.replaced.items c.push_reserved.new.self.items _ c.self.inside.paths.items
    c.change.inside.path.now c.extend_from_slice.new.self.items
    (ap depths c.in_ok-reserve_one.ensures.items ∙ c.self.invariant.0) refl c.push_reserved.ensures.items
    c.in_ok-extend_from_slice.ensures.items
    ∙ (λ i. (ap (λ rs. entries rs c.self.inside.paths.items) c.in_ok-reserve_one.ensures.items ∙ c.self.view_is) i
    ++ (c.exchange.ensures.kept ∙ ap (λ e. found e c.args.store.now) c.change.view_is) i ∷ [])
