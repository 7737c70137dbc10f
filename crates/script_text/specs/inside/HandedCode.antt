-- How the logic stores commands: as their bytes, if there are any.
use Rattle.std.specs.Prelude.{◌≡◌, ℕ, List, Some, None, refl}
use Rattle.std.specs.declared.option.Option.{Option}
use Rattle.std.specs.Coded.{Coded, code_by, coded_option, coded_list, coded_ℕ}
use Rattle.script_text.specs.Handed.{Handed, text, long}

abbrev to_bytes : Handed → Option (List ℕ)
to_bytes (text bytes) = Some bytes
to_bytes long = None

abbrev from_bytes : Option (List ℕ) → Handed
from_bytes (Some bytes) = text bytes
from_bytes None = long

pub from_to_bytes : (h : Handed) → from_bytes (to_bytes h) ≡ h
from_to_bytes (text bytes) = refl
from_to_bytes long = refl

abbrev pub handed_code : Coded Handed
handed_code = code_by (Option (List ℕ)) (coded_option (coded_list coded_ℕ)) to_bytes from_bytes from_to_bytes
