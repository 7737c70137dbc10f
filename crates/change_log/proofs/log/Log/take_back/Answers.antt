use Rattle.std.proofs.Common.{◌≡◌, sym, ap, ◌∙◌, ◌-◌, length, take, drop, arith}
use Rattle.std.proofs.lemmas.List.{take_all, length-drop, length_push}
use Rattle.term_changes.specs.Entries.{put, texts}
use Rattle.term_changes.specs.LogView.{entry_of}
use Rattle.term_changes.specs.inside.LogView.{entries}
use Rattle.change_log.proofs.FlipLemmas.{text_popped}
use Rattle.term_changes.proofs.LogLemmas.{popped_depth, popped_depths, popped_entries, all_but_newest, before_newest}
use Rattle.change_log.proofs.log.Log.take_back.Goals as goal

pub overflow_sub-begin : goal.overflow_sub-begin
overflow_sub-begin c =
    let inside = popped_depth c.pop.new.self.items c.self.inside.replaced.items c.in-Some.newest
    c.self.inside.paths.items c.in-Some.ensures.items c.self.invariant.0 in
    omega (arith, inside, c.len.ensures, c.self.inside.paths.ok.0)

pub invariant_of-self : goal.invariant_of-self
invariant_of-self c = (
  popped_depths c.pop.new.self.items c.self.inside.replaced.items c.in-Some.newest c.self.inside.paths.items
      c.in-Some.ensures.items c.self.invariant.0
      ∙ ap (λ n. length (take (n - c.in-Some.newest.depth) c.self.inside.paths.items))
      (omega (arith, c.len.ensures, c.self.inside.paths.ok.0))
      ∙ sym (ap length c.truncate.ensures.items),
  λ more.
      let count = ap length c.in-Some.ensures.items ∙ length_push c.pop.new.self.items c.in-Some.newest in
      omega (arith, count, more, c.self.invariant.1 (omega (arith, count, more))),
  (text_popped (entries c.self.inside.replaced.items c.self.inside.paths.items) _ (entry_of c.in-Some.newest.slot _
      c.in-Some.newest.kept) c.self.inside.text_count c.texts.result c.self.invariant.2
      (popped_entries c.pop.new.self.items c.self.inside.replaced.items c.in-Some.newest c.self.inside.paths.items
      c.in-Some.ensures.items c.self.invariant.0) (c.texts.ensures.value c.in-Some.newest.slot _)).1
      ∙ sym (ap (λ ps. texts (entries c.pop.new.self.items ps)) (c.truncate.ensures.items
      ∙ ap (λ n. take (n - c.in-Some.newest.depth) c.self.inside.paths.items)
      (omega (arith, c.len.ensures, c.self.inside.paths.ok.0)))),
)

pub overflow_sub-self : goal.overflow_sub-self
overflow_sub-self c =
    (text_popped (entries c.self.inside.replaced.items c.self.inside.paths.items) _
    (entry_of c.in-Some.newest.slot _ c.in-Some.newest.kept) c.self.inside.text_count c.texts.result c.self.invariant.2
    (popped_entries c.pop.new.self.items c.self.inside.replaced.items c.in-Some.newest c.self.inside.paths.items
    c.in-Some.ensures.items c.self.invariant.0) (c.texts.ensures.value c.in-Some.newest.slot _)).0

pub returns-in-Some-clause-log : goal.returns-in-Some-clause-log
returns-in-Some-clause-log c =
    ap (entries c.pop.new.self.items) c.truncate.ensures.items
    ∙ ap (λ n. entries c.pop.new.self.items (take (n - c.in-Some.newest.depth) c.self.inside.paths.items))
    (omega (arith, c.len.ensures, c.self.inside.paths.ok.0))
    ∙ all_but_newest c.args.self.now _ _
    (sym c.self.view_is ∙ popped_entries c.pop.new.self.items c.self.inside.replaced.items c.in-Some.newest
    c.self.inside.paths.items c.in-Some.ensures.items c.self.invariant.0)

pub returns-in-Some-clause-store : goal.returns-in-Some-clause-store
returns-in-Some-clause-store c =
    let begin = c.len.result - c.in-Some.newest.depth in
    let count : c.len.result ≡ length c.self.inside.paths.items =
    omega (arith, c.len.ensures, c.self.inside.paths.ok.0) in
    let rest : take (length c.deref.result.now - begin) (drop begin c.deref.result.now)
    ≡ drop (length c.self.inside.paths.items - c.in-Some.newest.depth) c.self.inside.paths.items =
    take_all (length c.deref.result.now - begin) (drop begin c.deref.result.now)
    (omega (arith, length-drop begin c.deref.result.now))
    ∙ (λ i. drop (count i - c.in-Some.newest.depth) (c.deref.ensures.value i)) in
    c.put_back.ensures
    ∙ ap (λ q. put (entry_of c.in-Some.newest.slot q c.in-Some.newest.kept) c.args.store.now) rest
    ∙ before_newest c.args.self.now _ _ c.args.store.now
    (sym c.self.view_is ∙ popped_entries c.pop.new.self.items c.self.inside.replaced.items c.in-Some.newest
    c.self.inside.paths.items c.in-Some.ensures.items c.self.invariant.0)
