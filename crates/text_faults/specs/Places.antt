-- What stands at the places of faults.
use Rattle.std.specs.Prelude.{◌≡◌, ◌<◌, ℕ, List, length, Some}
use Rattle.std.specs.List.{slice_get}
use Rattle.text_faults.specs.declared.terms.TermFault.{TermFault}
use Rattle.text_faults.specs.declared.terms.TermFault.TheVariants.{End, Byte, After, Real, Placeholder, OpenString, Escape, Range}

-- this byte is there
abbrev pub HasByte : List ℕ → ℕ → ℕ → Type 0
HasByte text at byte = slice_get text at ≡ Some byte

-- The place of the fault is right: all bytes come before it if the text ends too early, and else
-- the byte that the fault speaks of is there.
abbrev pub IsPlaceOf : TermFault → List ℕ → ℕ → Type 0
IsPlaceOf End text at = at ≡ length text
IsPlaceOf Byte text at = at < length text
IsPlaceOf After text at = at < length text
IsPlaceOf Real text at = HasByte text at 46
IsPlaceOf Placeholder text at = HasByte text at 60
IsPlaceOf OpenString text at = HasByte text at 34
IsPlaceOf Escape text at = HasByte text at 92
IsPlaceOf Range text at = at < length text
