-- How the answer of the focus passes through the frames.
use Rattle.std.specs.Prelude.{◌≡◌, ◌<◌, ◌≤◌, ℕ, ◌+◌, ◌-◌, Bool, true, List, [], ◌∷◌, ◌++◌, length, replicate, take, slice_get, Some, None}
use Rattle.std.specs.declared.option.Option.{Option}
use Rattle.term_core.specs.Tree.{Tree, children, with_child}
use Rattle.term_paths.specs.Edits.{Edits, prefixed}
use Rattle.term_changes.specs.Standing.{Standing, fresh, standing_tree}
use Rattle.strategy_syntax.specs.Resolved.{ResolvedStrategy}
use Rattle.strategy_meaning.specs.Scopes.{Scope}
use Rattle.strategy_meaning.specs.Matching.{elements}
use Rattle.strategy_meaning.specs.Answer.{Answer, done, either, if_done, with_edits, and_then, at_root}
use Rattle.strategy_meaning.specs.Meaning.{World, run, with_some, each, leftmost, those_done, rest_of, with_rest, on_rest, cut}
use Rattle.strategy_machine.specs.Table.{scope_at}
use Rattle.term_match.specs.CellContents.{CellContents}
use Rattle.term_match.specs.Marks.{kept, Before}
use Rattle.term_match.specs.declared.cells.Mark.{Mark}
use Rattle.strategy_machine.specs.Leading.{Leads, Has, parts_now, all_parts, node_with, PartsStand}
use Rattle.strategy_machine.specs.Trails.{path_of}
use Rattle.strategy_machine.specs.declared.frames.Acts.{Acts}
use Rattle.strategy_machine.specs.declared.frames.Acts.TheVariants.{Same, List as Listed}
use Rattle.strategy_machine.specs.declared.frames.Walk.{Walk}
use Rattle.strategy_machine.specs.declared.frames.Frame.{Frame}
use Rattle.strategy_machine.specs.declared.frames.Frame.TheVariants.{Then, Choose, Restore, Each, Leftmost, Those, Tail, Rest, Head, After, Leave, Cut}

-- the strategies for k children
abbrev pub acts_list : Acts → ℕ → List ResolvedStrategy
acts_list (Same s) k = replicate k s.now
acts_list (Listed ss) k = ss.now

-- The parent continues with child i after the child's answer.
abbrev pub put_back : ℕ → Tree → Answer → Answer
put_back i t a = if_done a (λ v B b e. done (with_child t i v) B b (prefixed (i ∷ []) e))

-- How the answer of a part, given its start and the earlier edits of the run, determines that of
-- the whole.
abbrev pub Becomes : Type 1
Becomes = Standing → Edits → Answer → Type 0

-- A part that was opened and is now p: T are the edits of the run so far, and `a` is the answer
-- from here.
pub record Opens (R : Becomes) (path : List ℕ) (p : Standing) (T : Edits) (a : Answer) : Type 0 where
  pub start : Standing
  pub base : Edits
  pub before : Edits
  pub leads : Leads start before p
  pub trail : T ≡ base ++ prefixed path before
  pub is : R start base (with_edits before a)

-- the parts in the places of the children so far
abbrev pub walk_parts : Walk → List Standing
walk_parts w = all_parts w.node w.parts.items

-- The focus is a child that was `start` when there were these edits.
pub record Inside (l : ℕ) (w : Walk) (start : Standing) (base : Edits) : Type 0 where
  pub level : l ≡ w.level + 1
  pub has : Has w.node
  pub stand : PartsStand w.node (walk_parts w)
  pub is : slice_get (parts_now w.node (walk_parts w)) w.index ≡ Some start
  pub edits : w.edits ≡ length base

-- the node of a walk so far
abbrev pub walked : Walk → Standing
walked w = node_with w.node w.parts.items

-- how many children come after the current one
abbrev pub left_behind : Walk → ℕ
left_behind w = length (children (standing_tree w.node)) - (w.index + 1)

-- how the run continues after a child's success or failure, and how it does if the strategies are
-- tried by choice
abbrev pub after_each : World → Scope → Acts → Walk → Answer → Answer
after_each W E acts w a =
    and_then (put_back w.index (standing_tree (walked w)) a)
    (each (run W E (w.level + 1)) (acts_list acts (left_behind w)) (w.index + 1))

abbrev pub after_leftmost : World → Scope → ResolvedStrategy → Walk → CellContents → Mark → Answer → Answer
after_leftmost W E s w C m a =
    either (put_back w.index (standing_tree (walked w)) a) done
    (λ b. leftmost (run W E (w.level + 1) s) (left_behind w) (w.index + 1) b (kept C m) (standing_tree (walked w)))

abbrev pub after_those : World → Scope → ResolvedStrategy → Walk → CellContents → Mark → Bool → Answer → Answer
after_those W E s w C m any a =
    either (put_back w.index (standing_tree (walked w)) a)
    (λ t B b e. with_edits e (those_done (run W E (w.level + 1) s) (left_behind w) true (w.index + 1) b B t))
    (λ b.
    those_done (run W E (w.level + 1) s) (left_behind w) any (w.index + 1) b (kept C m) (standing_tree (walked w)))

abbrev pub after_choice : World
    → Scope → ℕ → ResolvedStrategy → ResolvedStrategy → Standing → CellContents → Mark → Answer → Answer
after_choice W E l s2 s3 p C m a =
    either a (λ t B b e. with_edits e (run W E l s2 b B t)) (λ b. run W E l s3 b (kept C m) (standing_tree p))

abbrev pub after_test : Standing → Answer → Answer
after_test p a = if_done a (λ t B b e. done (standing_tree p) B b [])

abbrev pub after_rest : ℕ → Tree → Answer → Answer
after_rest n t a =
    if_done a (λ u B b e. with_some (elements u) b
    (λ us. done (with_rest n t us) B b (at_root (with_rest n t us))))

-- the part in the place of the first child, if that has changed
abbrev pub first_part : Option Standing → List Standing
first_part None = []
first_part (Some p) = p ∷ []

-- The focus is the first element of a list.
pub record IsFirst (w : Walk) : Type 0 where
  pub none : w.parts.items ≡ []
  pub first : w.index ≡ 0
  pub list : elements (standing_tree w.node) ≡ Some (children (standing_tree w.node))

abbrev pub after_head : World → Scope → ResolvedStrategy → Walk → Answer → Answer
after_head W E s w a = and_then (put_back w.index (standing_tree (walked w)) a) (on_rest (run W E w.level s) 1)

-- Through the frames, the innermost first, the answer of the innermost part, which was `start` when
-- the edits were `base`, becomes the whole answer of the run on `sub`. C is the content of the
-- cells, of which marks up to `top` may be asked for; es are the scopes; l is the level of the
-- focus.
abbrev pub Meets : World → Standing → Answer → CellContents → Mark → List Scope → ℕ → List Frame → Becomes
Meets W sub whole C top es l [] start base a = (start ≡ sub) × (base ≡ []) × (a ≡ whole)
Meets W sub whole C top es l (Then s n ∷ fs) start base a =
    (n < length es) × Meets W sub whole C top es l fs start base (and_then a (run W (scope_at es n) l s.now))
Meets W sub whole C top es l (Choose s2 s3 n saved k m ∷ fs) start base a =
    (n < length es) × (start ≡ saved) × (k ≡ length base) × Before m top
    × Opens (Meets W sub whole C m es l fs) (path_of fs) saved base
    (after_choice W (scope_at es n) l s2.now s3.now saved C m a)
Meets W sub whole C top es l (Restore saved k ∷ fs) start base a =
    (start ≡ saved) × (k ≡ length base)
    × Opens (Meets W sub whole C top es l fs) (path_of fs) saved base (after_test saved a)
Meets W sub whole C top es l (Each acts n w ∷ fs) start base a =
    (n < length es) × Inside l w start base
    × Opens (Meets W sub whole C top es w.level fs) (path_of fs) (walked w) base
    (after_each W (scope_at es n) acts w a)
Meets W sub whole C top es l (Leftmost s n w m ∷ fs) start base a =
    (n < length es) × Inside l w start base × Before m top × (w.parts.items ≡ [])
    × Opens (Meets W sub whole C m es w.level fs) (path_of fs) (walked w) base
    (after_leftmost W (scope_at es n) s.now w C m a)
Meets W sub whole C top es l (Those s n w m any ∷ fs) start base a =
    (n < length es) × Inside l w start base × Before m top
    × Opens (Meets W sub whole C m es w.level fs) (path_of fs) (walked w) base
    (after_those W (scope_at es n) s.now w C m any a)
Meets W sub whole C top es l (Tail s n k ∷ fs) start base a =
    (n < length es)
    × Meets W sub whole C top es l fs start base (and_then a (on_rest (run W (scope_at es n) l s.now) k))
Meets W sub whole C top es l (Rest node ps n k ∷ fs) start base a =
    PartsStand node (all_parts node ps.items) × (start ≡ fresh (rest_of n (standing_tree (node_with node ps.items))))
    × (k ≡ length base)
    × Opens (Meets W sub whole C top es l fs) (path_of fs) (node_with node ps.items) base
    (after_rest n (standing_tree (node_with node ps.items)) a)
Meets W sub whole C top es l (Head s n w ∷ fs) start base a =
    (n < length es) × Inside l w start base × IsFirst w
    × Opens (Meets W sub whole C top es w.level fs) (path_of fs) (walked w) base
    (after_head W (scope_at es n) s.now w a)
Meets W sub whole C top es l (After node first k ∷ fs) start base a =
    (elements (standing_tree node) ≡ Some (children (standing_tree node)))
    × PartsStand node (all_parts node (first_part first))
    × (start ≡ fresh (rest_of 1 (standing_tree (node_with node (first_part first))))) × (k ≡ length base)
    × Opens (Meets W sub whole C top es l fs) (path_of fs) (node_with node (first_part first)) base
    (after_rest 1 (standing_tree (node_with node (first_part first))) a)
Meets W sub whole C top es l (Leave n ∷ fs) start base a =
    (n ≤ length es) × Meets W sub whole C top (take n es) l fs start base a
Meets W sub whole C top es l (Cut n k ∷ fs) start base a =
    (k ≤ length es) × (n ≤ top.count)
    × Meets W sub whole C (record { count = n; filled = top.filled }) (take k es) l fs start base (cut n a)
