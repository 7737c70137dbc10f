use Rattle.std.proofs.Common.{◌≡◌, ℕ, ◌+◌, ◌-◌, ◌<◌, Some, List, [], ◌∷◌, ◌++◌, length, get_or, map, take, drop, sym, ap, ◌∙◌, subst, arith}
use Rattle.std.proofs.lemmas.List.{map-append}
use Rattle.std.proofs.lemmas.Result.{on_ok_weaker}
use Rattle.term_core.specs.Tree.{Tree}
use Rattle.term_changes.specs.Change.{changed}
use Rattle.term_changes.specs.Items.{Item}
use Rattle.term_changes.specs.Reading.{IsNextItem}
use Rattle.session_history.specs.Differences.{differences, difference_line}
use Rattle.session_changes.specs.inside.Lined.{AddsLines}
use Rattle.session_changes.specs.inside.ReadPatches.{change_of, differences_of, items_weight}
use Rattle.session_changes.specs.declared.lines.CountedLines.{CountedLines}
use Rattle.session_changes.proofs.AddedLemmas.{adds_equal, adds_then, path_back}
use Rattle.session_changes.proofs.PatchDifferences.{next_there, item_read, less_to_read, weight-left, items_left, place_missing, place_there, all_read, node_read}
use Rattle.session_changes.proofs.patches.+patches.Goals as goal

-- one place more
place_lines : (name path : List ℕ) (at : ℕ) (x : Item) (items rest : List Item) (us : List Tree) (u : Tree)
    (a b c : CountedLines) → items ≡ x ∷ rest → at + x.0 < length us → u ≡ get_or us (at + x.0) u
    → AddsLines (map (difference_line name) (differences (path ++ (at + x.0) ∷ []) (changed x.1 u) u)) a b
    → AddsLines (map (difference_line name) (differences_of path (at + x.0 + 1) rest (drop (at + x.0 + 1) us))) b c
    → AddsLines (map (difference_line name) (differences_of path at items (drop at us))) a c
place_lines name path at x items rest us u a b c e h is one others =
    let line = difference_line name in
    let here = differences (path ++ (at + x.0) ∷ []) (changed x.1 u) u in
    let after = differences_of path (at + x.0 + 1) rest (drop (at + x.0 + 1) us) in
    adds_then _ _ _ a b c (ap (map line) (place_there path at x items rest us u e h is) ∙ map-append line here after)
    one others

pub add_kids-unreachable-requires : goal.add_kids-unreachable-requires
add_kids-unreachable-requires t c =
    next_there c.args.reader.now c.loop-k._k c.args.kids c.loop-k-test.true c.requires
    (sym c.loop-k.invariant.reader ∙ c.in_default.ensures)

pub add_kids-loop-k-preserved-then-skipped-children :
    goal.add_kids-loop-k-preserved-then-skipped-children
add_kids-loop-k-preserved-then-skipped-children t c =
    let line = difference_line c.args.name.now in
    let path = c.args.path.now.items in
    let items = c.args.reader.now in
    let us = c.args.children.now in
    let k = c.loop-k._k in
    let read : IsNextItem c.loop-k.reader (Some (c.in-Some.skipped, c.in-Some.next)) c.next.new.self =
    subst (λ r. IsNextItem c.loop-k.reader r c.next.new.self) c.in-Some.is c.next.ensures in
    let left = items_left items c.loop-k.reader c.next.new.self k c.args.kids c.in-Some.skipped c.in-Some.next
    c.loop-k-test.true (sym c.loop-k.invariant.reader) read in
    record {
      within = omega arith;
      path = c.loop-k.invariant.path;
      reader = c.pass.ensures ∙ sym left.1;
      lines = λ after h. c.loop-k.invariant.lines after (subst (λ ds. AddsLines (map line ds) c.loop-k.lines after)
          (sym (place_missing path c.loop-k.at (length us) (c.in-Some.skipped, change_of c.in-Some.next c.next.new.self)
          (drop k (take c.args.kids items)) (drop (k + 1) (take c.args.kids items)) us left.0 c.if-skipped-children.true
          (omega arith))) h);
    }

pub add_kids-add_next-requires : goal.add_kids-add_next-requires
add_kids-add_next-requires t c =
    let read : IsNextItem c.loop-k.reader (Some (c.in-Some.skipped, c.in-Some.next)) c.next.new.self =
    subst (λ r. IsNextItem c.loop-k.reader r c.next.new.self) c.in-Some.is c.next.ensures in (
      omega (
        arith,
        less_to_read c.loop-k.reader c.next.new.self c.in-Some.skipped c.in-Some.next read,
        ap items_weight c.loop-k.invariant.reader,
        weight-left c.loop-k._k c.args.reader.now,
        c.decreases,
      ),
      (item_read c.loop-k.reader c.next.new.self c.in-Some.skipped c.in-Some.next read).0,
    )

pub add_kids-loop-k-preserved : goal.add_kids-loop-k-preserved
add_kids-loop-k-preserved t c =
    let line = difference_line c.args.name.now in
    let items = c.args.reader.now in
    let us = c.args.children.now in
    let k = c.loop-k._k in
    let place = c.loop-k.at + c.in-Some.skipped in
    let u = c.index-children-at.result in
    let change = change_of c.in-Some.next c.next.new.self in
    let path : c.loop-k.path.items ≡ c.args.path.now.items = c.loop-k.invariant.path in
    let read : IsNextItem c.loop-k.reader (Some (c.in-Some.skipped, c.in-Some.next)) c.next.new.self =
    subst (λ r. IsNextItem c.loop-k.reader r c.next.new.self) c.in-Some.is c.next.ensures in
    let left = items_left items c.loop-k.reader c.next.new.self k c.args.kids c.in-Some.skipped c.in-Some.next
    c.loop-k-test.true (sym c.loop-k.invariant.reader) read in
    let below : c.add_next.new.path.items ≡ c.loop-k.path.items ++ (c.loop-k.at + c.in-Some.skipped) ∷ [] =
    c.in_ok-add_next.ensures.path ∙ c.in_ok-push.ensures.items in
    record {
      within = omega (arith, c.if-skipped-children.false);
      path = path_back c.loop-k.path.items c.add_next.new.path.items c.pop-child.new.self.items place
          c.add_next.new.path.len below (omega (arith, c.add_next.new.path.ok.0)) c.pop-child.ensures.rest ∙ path;
      reader = c.in_ok-add_next.ensures.reader ∙ sym left.1;
      lines = λ after h. c.loop-k.invariant.lines after
          (place_lines c.args.name.now c.args.path.now.items c.loop-k.at (c.in-Some.skipped, change)
          (drop k (take c.args.kids items)) (drop (k + 1) (take c.args.kids items)) us u c.loop-k.lines
          c.add_next.new.lines after left.0 (omega (arith, c.if-skipped-children.false)) c.index-children-at.is
          (subst (λ p. AddsLines (map line (differences p (changed change u) u)) c.loop-k.lines c.add_next.new.lines)
          (c.in_ok-push.ensures.items ∙ ap (λ p. p ++ place ∷ []) path) c.in_ok-add_next.ensures.ok) h);
    }

pub add_kids-returns-clause-ok : goal.add_kids-returns-clause-ok
add_kids-returns-clause-ok t c =
    c.loop-k.invariant.lines c.loop-k.lines (adds_equal _ _ (ap (map (difference_line c.args.name.now))
    (all_read c.args.path.now.items c.loop-k.at c.loop-k._k c.args.kids c.args.reader.now
    (drop c.loop-k.at c.args.children.now) c.loop-k-test.false)))

pub add_next-returns-in-Node-clause-ok : goal.add_next-returns-in-Node-clause-ok
add_next-returns-in-Node-clause-ok t c =
    on_ok_weaker c.add_kids.result
    (subst (λ ds. AddsLines (map (difference_line c.args.name.now) ds) c.args.lines.now c.add_kids.new.lines)
    (node_read c.args.path.now.items c.args.next c.in-Node.kids c.args.reader.now c.children.result.now c.args.tree.now
    c.in-Node.is c.children.ensures))
    c.add_kids.ensures.ok
