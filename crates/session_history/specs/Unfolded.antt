-- What the logs of a session represent: the whole contents before and after each step.
use Rattle.std.specs.Prelude.{◌≡◌, ◌≤◌, ℕ, List, [], ◌∷◌, ◌++◌, length, take, drop, true, Some, None, option_map}
use Rattle.std.specs.declared.option.Option.{Option}
use Rattle.std.specs.Bool.{OnFalse}
use Rattle.std.specs.List.{AllByRecursion}
use Rattle.term_core.specs.Tree.{Tree}
use Rattle.term_core.specs.declared.TheConstants.{MAX_ROOM}
use Rattle.term_paths.specs.Paths.{leads}
use Rattle.prim_core.specs.Signature.{Signature}
use Rattle.term_changes.specs.Contents.{Contents}
use Rattle.term_changes.specs.Slots.{Store, HaveDistinctLabels, contents, content, slot_of}
use Rattle.term_changes.specs.Entries.{Entry, before, after, Fits, FitsForward}
use Rattle.term_changes.specs.Compact.{IsCompact}
use Rattle.session_history.specs.History.{History}
use Rattle.session_history.specs.declared.limits.Limits.{Limits}
use Rattle.session_history.specs.declared.timeline.OpenGroup.{OpenGroup}

-- The steps that a session keeps: the store, the log of each step, the oldest first, the number of
-- those that lead back, the open group, and the changes since it began. And the session's limits.
pub record Logged : Type 0 where
  pub store : Store
  pub logs : List (List Entry)
  pub position : ℕ
  pub group : Option OpenGroup
  pub current : List Entry
  pub limits : Limits

-- the store before the steps of these logs, the newest last
abbrev pub rewound : List (List Entry) → Store → Store
rewound [] s = s
rewound (log ∷ logs) s = before log (rewound logs s)

-- the contents before each of the steps, the newest first
abbrev pub past_of : List (List Entry) → Store → List Contents
past_of [] s = []
past_of (log ∷ logs) s = past_of logs s ++ contents (before log (rewound logs s)) ∷ []

-- the contents after each of the steps that these logs redo, the nearest first
abbrev pub later_of : List (List Entry) → Store → List Contents
later_of [] s = []
later_of (log ∷ logs) s = contents (after log s) ∷ later_of logs (after log s)

-- each log fits where undo reaches it
abbrev pub FitBack : List (List Entry) → Store → Type 0
FitBack [] s = Unit {0}
FitBack (log ∷ logs) s = Fits log (rewound logs s) × FitBack logs s

-- each log fits forward where redo reaches it
abbrev pub FitForward : List (List Entry) → Store → Type 0
FitForward [] s = Unit {0}
FitForward (log ∷ logs) s = FitsForward log s × FitForward logs (after log s)

-- the contents before each step that leads back, and those after each that leads forward
abbrev pub past_contents : Logged → List Contents
past_contents t = past_of (take t.position t.logs) (before t.current t.store)

abbrev pub later_contents : Logged → List Contents
later_contents t = later_of (drop t.position t.logs) (before t.current t.store)

-- The history that these steps represent, in a session with these primitives. The current log holds
-- the changes since the open group began, and is empty outside a group.
abbrev pub unfolded : List Signature → Logged → History
unfolded primitives t =
    record {
      primitives = primitives;
      limits = t.limits;
      past = past_contents t;
      now = contents t.store;
      later = later_contents t;
      group = option_map (λ g. record { begun = contents (before t.current t.store); changed = g.changed }) t.group;
    }

-- if nothing has changed in a group, or no group is open, the current log is empty
abbrev pub IsCurrent : Option OpenGroup → List Entry → Type 0
IsCurrent None log = log ≡ []
IsCurrent (Some g) log = OnFalse g.changed (log ≡ [])

-- in each log the entries are at disjoint places
abbrev pub AllCompact : List (List Entry) → Type 0
AllCompact = AllByRecursion IsCompact

-- The position is that of a log or the end; the logs before it lead back, the others forward. All
-- are compact. The changes of an open group lead back too. The limits are within their range.
pub record IsPlaced (t : Logged) : Type 0 where
  pub within : t.position ≤ length t.logs
  pub back : FitBack (take t.position t.logs) (before t.current t.store)
  pub forward : FitForward (drop t.position t.logs) (before t.current t.store)
  pub compact : AllCompact t.logs
  pub fits : Fits t.current t.store
  pub current : IsCurrent t.group t.current
  pub room : t.limits.max_terms ≤ MAX_ROOM

-- The slot has this name, which no other has, and this tree.
pub record HasTree (s : Store) (name : List ℕ) (slot : ℕ) (tree : Tree) : Type 0 where
  pub named : slot_of s.trees name ≡ Some slot
  pub apart : HaveDistinctLabels s.trees
  pub held : content s.trees slot ≡ Some tree

-- The same for a module text.
pub record HasText (s : Store) (name : List ℕ) (slot : ℕ) (text : List ℕ) : Type 0 where
  pub named : slot_of s.modules name ≡ Some slot
  pub apart : HaveDistinctLabels s.modules
  pub held : content s.modules slot ≡ Some text

-- It is the slot of a name's tree, which has a subterm at the path.
pub record IsPlaceOf (s : Store) (name path : List ℕ) (slot : ℕ) : Type 0 where
  pub tree : Tree
  pub is : HasTree s name slot tree
  pub there : leads tree path ≡ true
