use Rattle.std.proofs.Common.{◌≡◌, ℕ, ◌+◌, ◌-◌, ◌<◌, true, List, [], ◌∷◌, ◌++◌, length, get_or, map, drop, sym, ap, ◌∙◌, subst, arith, OnOk}
use Rattle.std.specs.declared.result.Result.{Result}
use Rattle.std.proofs.lemmas.List.{map-append, get_or_read}
use Rattle.std.proofs.lemmas.Result.{on_ok_weaker}
use Rattle.term_core.specs.Tree.{Tree, integer, branch, of_list, children, annotations}
use Rattle.term_core.specs.Size.{height, heights}
use Rattle.term_core.proofs.TreeLemmas.{of_list-to_list, heights-take_more, heights-take}
use Rattle.session_history.specs.Differences.{annotated, differences, differences_from, difference_line}
use Rattle.session_changes.specs.inside.Lined.{AddsLines}
use Rattle.session_changes.specs.DifferenceLaws.{same_root}
use Rattle.session_changes.specs.declared.lines.CountedLines.{CountedLines}
use Rattle.session_changes.proofs.DifferenceLemmas.{differ_below, root_count, next_child, past_children}
use Rattle.session_changes.proofs.AddedLemmas.{adds_equal, adds_then, path_back}
use Rattle.session_changes.proofs.differences.+differences.Goals as goal

-- first the annotations, and then the children
below_lines : {T E : Type 0} (r : Result T E) (name path at : List ℕ) (t u : Tree) (ns ms ts us : List Tree)
    (a b c : CountedLines) → same_root t u ≡ true → at ≡ path
    → ns ≡ annotations t → ms ≡ annotations u → ts ≡ children t → us ≡ children u
    → AddsLines (map (difference_line name) (annotated at (of_list ns) (of_list ms))) a b
    → OnOk r (AddsLines (map (difference_line name) (differences_from path 0 (of_list ts) (of_list us))) b c)
    → OnOk r (AddsLines (map (difference_line name) (differences path t u)) a c)
below_lines r name path at t u ns ms ts us a b c same here e f g h notes kids =
    let line = difference_line name in
    let all : differences path t u
    ≡ annotated at (of_list ns) (of_list ms) ++ differences_from path 0 (of_list ts) (of_list us) =
    differ_below path t u same
    ∙ (λ k. annotated (sym here k) (of_list (sym e k)) (of_list (sym f k))
    ++ differences_from path 0 (of_list (sym g k)) (of_list (sym h k))) in
    on_ok_weaker r (λ more. adds_then _ _ (map line (differences path t u)) a b c (ap (map line) all ∙ map-append line
    (annotated at (of_list ns) (of_list ms)) (differences_from path 0 (of_list ts) (of_list us))) notes more) kids

-- one child more
child_lines : (name path : List ℕ) (i : ℕ) (ts us : List Tree) (t u : Tree) (a b c : CountedLines) → i < length ts
    → i < length us → t ≡ get_or ts i t → u ≡ get_or us i u
    → AddsLines (map (difference_line name) (differences (path ++ i ∷ []) t u)) a b
    → AddsLines (map (difference_line name)
    (differences_from path (i + 1) (of_list (drop (i + 1) ts)) (of_list (drop (i + 1) us)))) b c
    → AddsLines (map (difference_line name) (differences_from path i (of_list (drop i ts)) (of_list (drop i us)))) a c
child_lines name path i ts us t u a b c h g e f one rest =
    let line = difference_line name in
    let after = differences_from path (i + 1) (of_list (drop (i + 1) ts)) (of_list (drop (i + 1) us)) in
    let all : differences_from path i (of_list (drop i ts)) (of_list (drop i us))
    ≡ differences (path ++ i ∷ []) t u ++ after =
    next_child path i ts us t h g
    ∙ (λ k. differences (path ++ i ∷ []) (sym e k) (sym (get_or_read us i u g f t) k) ++ after) in
    adds_then _ _ _ a b c (ap (map line) all ∙ map-append line (differences (path ++ i ∷ []) t u) after) one rest

child_height : (t : Tree) → heights (of_list (children t)) < height t
child_height (integer z ns) = omega arith
child_height (branch h us ns) = omega (arith, ap heights (of_list-to_list us))

pub add_differences-add_children-requires : goal.add_differences-add_children-requires
add_differences-add_children-requires t c = (
  omega (arith, child_height c.args.old.now, ap (λ l. heights (of_list l)) c.children.ensures, c.decreases),
  ap length c.children.ensures ∙ root_count c.args.old.now c.args.new.now
      (sym c.same_root.ensures ∙ c.if-not-same_root.false) ∙ sym (ap length c.children-2.ensures),
)

pub add_differences-returns-clause-ok : goal.add_differences-returns-clause-ok
add_differences-returns-clause-ok t c =
    below_lines c.add_children.result c.args.name.now c.args.path.now.items c.deref-2.result.now c.args.old.now
    c.args.new.now c.annotations.result.now c.annotations-2.result.now c.children.result.now c.children-2.result.now
    c.args.lines.now c.add_annotations.new.lines c.add_children.new.lines
    (sym c.same_root.ensures ∙ c.if-not-same_root.false) c.deref-2.ensures.value
    c.annotations.ensures c.annotations-2.ensures c.children.ensures c.children-2.ensures
    c.in_ok-add_annotations.ensures c.add_children.ensures.ok

pub add_children-add_differences-requires : goal.add_children-add_differences-requires
add_children-add_differences-requires t c =
    let all = c.args.old.now in
    let i = c.loop-i.i in (
      omega (
        arith,
        heights-take_more all i c.index-old-i.result c.loop-i-test.true c.index-old-i.is,
        heights-take all (i + 1),
        c.decreases,
      ),
      tt,
    )

pub add_children-loop-i-preserved : goal.add_children-loop-i-preserved
add_children-loop-i-preserved t c =
    let i = c.loop-i.i in
    let path : c.loop-i.path.items ≡ c.args.path.now.items = c.loop-i.invariant.path in
    let below : c.add_differences.new.path.items ≡ c.loop-i.path.items ++ c.loop-i.i ∷ [] =
    c.in_ok-add_differences.ensures.path ∙ c.in_ok-push.ensures.items in
    record {
      path = path_back c.loop-i.path.items c.add_differences.new.path.items c.pop-child.new.self.items i
          c.add_differences.new.path.len below (omega (arith, c.add_differences.new.path.ok.0)) c.pop-child.ensures.rest
          ∙ path;
      lines = λ after h. c.loop-i.invariant.lines after (child_lines c.args.name.now c.args.path.now.items i
          c.args.old.now c.args.new.now c.index-old-i.result c.index-new-i.result
          c.loop-i.lines c.add_differences.new.lines after c.loop-i-test.true
          (omega (arith, c.loop-i-test.true, c.requires)) c.index-old-i.is c.index-new-i.is
          (subst (λ p. AddsLines (map (difference_line c.args.name.now)
          (differences p c.index-old-i.result c.index-new-i.result)) c.loop-i.lines c.add_differences.new.lines)
          (c.in_ok-push.ensures.items ∙ ap (λ p. p ++ i ∷ []) path) c.in_ok-add_differences.ensures.ok) h);
    }

pub add_children-returns-clause-ok : goal.add_children-returns-clause-ok
add_children-returns-clause-ok t c =
    let line = difference_line c.args.name.now in
    c.loop-i.invariant.lines c.loop-i.lines (adds_equal _ _
    (ap (map line) (past_children c.args.path.now.items c.loop-i.i c.args.old.now c.args.new.now c.loop-i-test.false)))
