-- How a splitter answers the bytes that it is fed.
use Rattle.std.specs.Prelude.{◌≡◌, ◌<◌, ◌≤◌, ℕ, List, [], ◌∷◌, ◌++◌, length, take, Some}
use Rattle.script_text.specs.declared.framing.Framing.{Framing}
use Rattle.script_text.specs.declared.splitter.Fed.{Fed}
use Rattle.script_text.specs.declared.splitter.Fed.TheVariants.{Need, Command}
use Rattle.script_text.specs.declared.splitter.Piece.{Piece}
use Rattle.script_text.specs.declared.splitter.Piece.TheVariants.{Text, Long}
use Rattle.script_text.specs.Handed.{Handed, text, long}
use Rattle.script_text.specs.Splitting.{StandsAfter}
use Rattle.script_text.specs.Split.{Split}

-- a borrowed piece, as the command that the splitter gives
abbrev pub handed_out : Piece → Handed
handed_out (Text bytes) = text bytes.now
handed_out Long = long

-- A splitter that had consumed a text has consumed it and these bytes; and these commands were
-- given in addition to the earlier ones.
abbrev pub GoesAfter : Split → Split → List ℕ → List Handed → Type 0
GoesAfter old new bytes more =
    (framing : Framing) (x : List ℕ) (out : List Handed) → StandsAfter framing x out old.left
    → StandsAfter framing (x ++ bytes) (out ++ more) new.left

-- All bytes are consumed and no command is given; or those up to and including the one that
-- completes a command, which is given.
abbrev pub FedRight : Fed → Split → Split → List ℕ → Type 0
FedRight Need old new bytes = GoesAfter old new bytes []
FedRight (Command taken) old new bytes =
    (0 < taken) × (taken ≤ length bytes) × (command : Handed) × (new.to_hand_out ≡ Some command)
    × GoesAfter old new (take taken bytes) (command ∷ [])
