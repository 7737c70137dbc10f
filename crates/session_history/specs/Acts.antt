-- What each act does to a session: the history after it, or the one refusal, which leaves the
-- history unchanged.
use Rattle.std.specs.Prelude.{◌≡◌, ◌⊎◌, ℕ, ◌+◌, Bool, true, false, List, length, Some, None, Ok, Err, OnOk, OnErr, IfErr, is_none, ok_or, option_map, if◌then◌else◌}
use Rattle.std.specs.declared.option.Option.{Option}
use Rattle.std.specs.declared.result.Result.{Result}
use Rattle.std.specs.List.{list_all}
use Rattle.std.specs.FinMap as finmap
use Rattle.term_core.specs.Tree.{Tree}
use Rattle.term_core.specs.Size.{fits}
use Rattle.term_paths.specs.Paths.{at, set_at, set_annotations_at}
use Rattle.term_changes.specs.Contents.{Contents, with_tree, without_tree, with_module, without_module}
use Rattle.strategy_syntax.specs.declared.resolved.Resolved.{Resolved}
use Rattle.strategy_check.specs.Programs.{Program}
use Rattle.strategy_meaning.specs.Applied.{applied}
use Rattle.session_modules.specs.Modules.{ReadsAsModuleOf, Checks}
use Rattle.session_history.specs.Applying.{Meaning, ReadsAsStrategy, resolved_in, world_in, given_by}
use Rattle.session_history.specs.History.{HistoryGroup, History, stepped, changed, undone, redone}
use Rattle.session_modules.specs.declared.refusal.Refusal.{Refusal}
use Rattle.session_modules.specs.declared.refusal.Refusal.TheVariants.{Memory, NoTree, NoModule, Path, Big, NoUndo, NoRedo, Group, NoGroup}

pub data Act : Type 0 where
  set_tree : List ℕ → Tree → Act  -- sets the tree of a label
  copy_tree : List ℕ → List ℕ → Act  -- sets the tree of the second label to that of the first
  drop_tree : List ℕ → Act  -- removes the tree of the label
  put : List ℕ → List ℕ → Tree → Act  -- puts this tree at a path of the label's tree
  annotate : List ℕ → List ℕ → List Tree → Act  -- sets the annotations of the subterm at a path
  set_module : List ℕ → List ℕ → Act  -- sets the text of the label's module
  unload : List ℕ → Act  -- removes the label's module
  -- given the meaning of primitives: applies, at a path, within this many steps, this strategy
  apply : Meaning → List ℕ → List ℕ → ℕ → List ℕ → Act
  undo : ℕ → Act  -- goes this many steps back
  redo : ℕ → Act  -- goes this many steps forward
  begin : Act  -- begins a group
  commit : Act  -- makes the changes of the group one step
  abandon : Act  -- undoes the changes of the group

-- the outcome of an act: the history after it, or the refusal
abbrev pub ActResult : Type 0
ActResult = Result History Refusal

-- ---- the order of refusals: each test refuses, or the rest decides

-- A test passes on what it found, or refuses.
abbrev pub Passing : {X Y : Type 0} → Result X Refusal → (X → Result Y Refusal → Type 0) → Result Y Refusal → Type 0
Passing (Ok x) next outcome = next x outcome
Passing (Err refusal) next outcome = outcome ≡ Err refusal

-- A test has to hold, else this is the refusal.
abbrev pub Holding : Bool → Refusal → (ActResult → Type 0) → ActResult → Type 0
Holding true refusal next outcome = next outcome
Holding false refusal next outcome = outcome ≡ Err refusal

-- A value continues with the rest; a refusal is the outcome.
abbrev pub Given : {X Y : Type 0} → (Result X Refusal → Type 0) → (X → Result Y Refusal → Type 0) → Result Y Refusal
    → Type 0
Given {X} {Y} Gives next outcome = (given : Result X Refusal) × Gives given × Passing given next outcome

abbrev pub Leaves : History → ActResult → Type 0
Leaves g outcome = outcome ≡ Ok g

-- These are the contents afterwards, by a change.
abbrev pub ChangesTo : Contents → History → ActResult → Type 0
ChangesTo c h = Leaves (changed c h)

-- ---- what the tests find

abbrev pub tree_of : Contents → List ℕ → Result Tree Refusal
tree_of c name = ok_or (finmap.get c.trees name) NoTree

abbrev pub module_text_of : Contents → List ℕ → Result (List ℕ) Refusal
module_text_of c name = ok_or (finmap.get c.modules name) NoModule

-- A place in a tree: the tree, and the subterm there.
pub record Located : Type 0 where
  pub tree : Tree
  pub part : Tree

abbrev pub place_in : List ℕ → Result Tree Refusal → Result Located Refusal
place_in path (Ok tree) =
    ok_or (option_map (λ part. record { tree = tree; part = part }) (at tree path)) Path
place_in path (Err refusal) = Err refusal

-- the place at a path in the tree of a label
abbrev pub place_of : Contents → List ℕ → List ℕ → Result Located Refusal
place_of c name path = place_in path (tree_of c name)

-- ---- acts

-- The modules become those of these contents, by a change. Outside a group the checker has to find
-- no fault in them.
abbrev pub ChangesModules : Option HistoryGroup → Contents → History → ActResult → Type 0
ChangesModules None c h = Given (Checks h.primitives c.modules) (λ program. ChangesTo c h)
ChangesModules (Some g) c h = ChangesTo c h

-- A tree put at a place has to fit at its level, the length of the path, in the session's room;
-- annotations have to fit one level below.
abbrev pub PutsAt : List ℕ → List ℕ → Tree → History → Located → ActResult → Type 0
PutsAt name path part h place =
    Holding (fits h.limits.max_terms (length path) part) Big
    (ChangesTo (with_tree h.now name (set_at place.tree path part)) h)

abbrev pub AnnotatesAt : List ℕ → List ℕ → List Tree → History → Located → ActResult → Type 0
AnnotatesAt name path annotations h place =
    Holding (list_all (fits h.limits.max_terms (length path + 1)) annotations) Big
    (ChangesTo (with_tree h.now name (set_annotations_at place.tree path annotations)) h)

-- A strategy, given as text, for a place: the place has to be there, the text has to be one, and the
-- checker has to find no fault in the current modules, nor in the strategy, given their program.
abbrev pub Resolving : {Y : Type 0} → List ℕ → List ℕ → List ℕ → History
    → (Located → Program → Resolved → Result Y Refusal → Type 0) → Result Y Refusal → Type 0
Resolving name path text h next =
    Passing (place_of h.now name path) (λ place. Given (ReadsAsStrategy text) (λ s.
    Given (Checks h.primitives h.now.modules) (λ program.
    Passing (resolved_in program h.primitives s) (next place program))))

-- The result of the strategy there becomes the label's tree, by a change.
abbrev pub AppliesAt : Meaning → List ℕ → List ℕ → ℕ → History → Located → Program → Resolved → ActResult → Type 0
AppliesAt meaning name path steps h place program strategy =
    Passing
    (given_by (applied (world_in meaning program h.primitives h.limits.max_terms) path strategy steps place.tree))
    (λ tree. ChangesTo (with_tree h.now name tree) h)

-- The changes of an open group become one step, if there are any.
abbrev pub committed : HistoryGroup → History → History
committed g h =
    if g.changed then record (stepped g.begun h) { group = None } else record h { group = None }

-- The outcome of each act at a history. A copy needs no test of its size. Going back or forward needs
-- that many steps, and no open group; a group is committed if the checker finds no fault in the
-- modules.
abbrev pub ComesTo : Act → History → ActResult → Type 0
ComesTo (set_tree name tree) h = Holding (fits h.limits.max_terms 0 tree) Big (ChangesTo (with_tree h.now name tree) h)
ComesTo (copy_tree name copy) h =
    Passing (tree_of h.now name) (λ tree. ChangesTo (with_tree h.now copy tree) h)
ComesTo (drop_tree name) h = Passing (tree_of h.now name) (λ tree. ChangesTo (without_tree h.now name) h)
ComesTo (put name path part) h = Passing (place_of h.now name path) (PutsAt name path part h)
ComesTo (annotate name path annotations) h =
    Passing (place_of h.now name path) (AnnotatesAt name path annotations h)
ComesTo (set_module name text) h =
    Given (ReadsAsModuleOf h.limits.max_tokens text) (λ m. ChangesModules h.group (with_module h.now name text) h)
ComesTo (unload name) h =
    Passing (module_text_of h.now name) (λ text. ChangesModules h.group (without_module h.now name) h)
ComesTo (apply meaning name path steps text) h =
    Resolving name path text h (AppliesAt meaning name path steps h)
ComesTo (undo k) h =
    Holding (is_none h.group) Group (Passing (ok_or (undone k h) NoUndo) Leaves)
ComesTo (redo k) h =
    Holding (is_none h.group) Group (Passing (ok_or (redone k h) NoRedo) Leaves)
ComesTo begin h =
    Holding (is_none h.group) Group
    (Leaves (record h { group = Some (record { begun = h.now; changed = false }) }))
ComesTo commit h =
    Passing (ok_or h.group NoGroup)
    (λ g. Given (Checks h.primitives h.now.modules) (λ program. Leaves (committed g h)))
ComesTo abandon h =
    Passing (ok_or h.group NoGroup) (λ g. Leaves (record h { now = g.begun; group = None }))

-- What the answer to an act says, from the old history to the new one: an accepted act leads to the
-- new history; a refusal is that of the act, or want of memory, and changes nothing.
pub record Performs {X : Type 0} (act : Act) (old new : History) (result : Result X Refusal) : Type 0 where
  pub ok : OnOk result (ComesTo act old (Ok new))
  pub refused : IfErr result (λ refusal. (refusal ≡ Memory) ⊎ ComesTo act old (Err refusal))
  pub err : OnErr result (new ≡ old)

-- The same for an act that takes no memory.
pub record PerformsSurely {X : Type 0} (act : Act) (old new : History) (result : Result X Refusal) : Type 0 where
  pub ok : OnOk result (ComesTo act old (Ok new))
  pub refused : IfErr result (λ refusal. ComesTo act old (Err refusal))
  pub err : OnErr result (new ≡ old)

-- which acts change the contents, if they are accepted
abbrev pub IsChange : Act → Type 0
IsChange (undo k) = ⊥
IsChange (redo k) = ⊥
IsChange begin = ⊥
IsChange commit = ⊥
IsChange abandon = ⊥
IsChange (set_tree name tree) = Unit {0}
IsChange (copy_tree name copy) = Unit {0}
IsChange (drop_tree name) = Unit {0}
IsChange (put name path part) = Unit {0}
IsChange (annotate name path annotations) = Unit {0}
IsChange (set_module name text) = Unit {0}
IsChange (unload name) = Unit {0}
IsChange (apply meaning name path steps text) = Unit {0}
