-- What a walk over the last marks and terms has read and changed.
use Rattle.std.specs.Prelude.{◌≡◌, ℕ, ◌+◌, ◌≤◌, List, ◌++◌, take, drop, length, reverse}
use Rattle.term_core.specs.Tree.{Tree}
use Rattle.term_changes.specs.Items.{Item}
use Rattle.term_changes.specs.inside.Marks.{read, count, AreWhole}
use Rattle.term_changes.specs.declared.draft.PlaceMark.{PlaceMark}

-- These marks and terms say these items, whatever comes after them.
abbrev pub Reads : List PlaceMark → List Tree → List Item → Type 0
Reads seg us xs = (ms : List PlaceMark) (ts : List Tree) → read (seg ++ ms) (us ++ ts) ≡ xs ++ read ms ts

-- Of these marks and terms m and t are left. What was read said the items `was`, and says `found` with
-- the terms that are there now.
pub record Walked (marks : List PlaceMark) (terms now : List Tree) (m t : ℕ) (was found : List Item) : Type 0 where
  pub marks_left : m ≤ length marks
  pub terms_left : t ≤ length terms
  pub reads : Reads (reverse (drop m marks)) (reverse (drop t terms)) was
  pub reads_now : Reads (reverse (drop m marks)) (reverse (drop t now)) found
  pub stay : take t now ≡ take t terms
  pub as_many : length now ≡ length terms
  pub whole : AreWhole (reverse (take m marks)) t
  pub counted : count (reverse marks) ≡ length was + count (reverse (take m marks))

-- A walk that takes the terms that it has read out of their vector, in which these are left.
pub record Listed (marks : List PlaceMark) (terms left : List Tree) (m : ℕ) (was : List Item) : Type 0 where
  pub walked : Walked marks terms terms m (length left) was was
  pub rest : left ≡ take (length left) terms
