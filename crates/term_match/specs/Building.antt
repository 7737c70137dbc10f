-- The result of building a pattern's instance.
use Rattle.std.specs.Prelude.{◌≡◌, ℕ, true, false, Some, None}
use Rattle.std.specs.declared.option.Option.{Option}
use Rattle.term_core.specs.Tree.{Tree}
use Rattle.term_core.specs.Size.{fits}
use Rattle.term_match.specs.declared.building.Built.{Built}
use Rattle.term_match.specs.declared.building.Built.TheVariants.{Value, Nothing, Big}
use Rattle.term_match.specs.declared.terms.BuiltTerm.{BuiltTerm}
use Rattle.term_match.specs.declared.terms.BuiltTerm.TheVariants as terms

-- The instance, which fits at the level in this room; nothing if there is none; or that it doesn't
-- fit.
abbrev pub Builds : Option Tree → ℕ → ℕ → Built → Type 0
Builds o room level (Value v) = (o ≡ Some v) × (fits room level v ≡ true)
Builds o room level Nothing = o ≡ None
Builds o room level Big = (u : Tree) × (o ≡ Some u) × (fits room level u ≡ false)

-- the same with an owned term
abbrev pub BuildsTerm : Option Tree → ℕ → ℕ → BuiltTerm → Type 0
BuildsTerm o room level (terms.Term t) = (o ≡ Some t) × (fits room level t ≡ true)
BuildsTerm o room level terms.Nothing = o ≡ None
BuildsTerm o room level terms.Big = (u : Tree) × (o ≡ Some u) × (fits room level u ≡ false)
