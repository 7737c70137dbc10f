-- What the fields of a splitter represent, and how the logic stores them.
use Rattle.std.specs.Prelude.{◌≡◌, ℕ, Bool, true, false, Some, None, IfNone, IfSome, is_some, refl}
use Rattle.std.specs.declared.option.Option.{Option}
use Rattle.std.specs.Coded.{Coded, code_by, coded×, coded_option, coded_bool, coded_ℕ}
use Rattle.script_text.specs.declared.framing.Framing.{Framing}
use Rattle.script_text.specs.declared.framing.Framing.TheVariants.{Continued, Lines}
use Rattle.script_text.specs.declared.splitter.LineState.{LineState}
use Rattle.script_text.specs.declared.splitter.LineState.TheVariants.{Start, Kept, Comment, Skipped}
use Rattle.script_text.specs.declared.splitter.Unfinished.{Unfinished}
use Rattle.script_text.specs.declared.splitter.Following.{Following}
use Rattle.script_text.specs.declared.splitter.Following.TheVariants.{Begun, Nothing}
use Rattle.script_text.specs.Handed.{Handed}
use Rattle.script_text.specs.inside.HandedCode.{handed_code}
use Rattle.script_text.specs.Splitting.{Taken, going, begun, nothing}
use Rattle.script_text.specs.Split.{Split}

-- What is pending after a command was completed, if one was.
abbrev pub begins_with : Framing → Following → Unfinished
begins_with framing (Begun returns byte) = begun framing returns byte
begins_with framing Nothing = nothing framing

abbrev pub left_behind : Unfinished → Option Following → Unfinished
left_behind s None = s
left_behind s (Some next) = begins_with s.framing next

-- What a byte does: it completes no command, and this is pending after it; or it completes the pending
-- command, which stays, and this is what comes after it.
pub record Takes (taken : Taken) (result : Option Following) (after : Unfinished) : Type 0 where
  pub goes : IfNone result (taken ≡ going after)
  pub completes : IfSome result (λ next. taken ≡ record { out = after.command; left = begins_with after.framing next })
  pub there : IfSome result (λ next. is_some after.command ≡ true)

abbrev pub split_of : Unfinished → Option Following → Split
split_of s next = record { to_hand_out = s.command; left = left_behind s next }

abbrev to_bits : LineState → Bool × Bool
to_bits Start = (false, false)
to_bits Kept = (false, true)
to_bits Comment = (true, false)
to_bits Skipped = (true, true)

abbrev from_bits : Bool × Bool → LineState
from_bits (false, false) = Start
from_bits (false, true) = Kept
from_bits (true, false) = Comment
from_bits (true, true) = Skipped

pub from_to_bits : (p : LineState) → from_bits (to_bits p) ≡ p
from_to_bits Start = refl
from_to_bits Kept = refl
from_to_bits Comment = refl
from_to_bits Skipped = refl

abbrev place_code : Coded LineState
place_code = code_by (Bool × Bool) (coded× coded_bool coded_bool) to_bits from_bits from_to_bits

abbrev is_lines : Framing → Bool
is_lines Continued = false
is_lines Lines = true

abbrev from_is_lines : Bool → Framing
from_is_lines false = Continued
from_is_lines true = Lines

pub from_to_lines : (f : Framing) → from_is_lines (is_lines f) ≡ f
from_to_lines Continued = refl
from_to_lines Lines = refl

abbrev framing_code : Coded Framing
framing_code = code_by Bool coded_bool is_lines from_is_lines from_to_lines

abbrev unfinished_code : Coded Unfinished
unfinished_code =
    code_by ((Option Handed × LineState) × (ℕ × Framing))
    (coded× (coded× (coded_option handed_code) place_code) (coded× coded_ℕ framing_code))
    (λ s. ((s.command, s.place), (s.returns, s.framing)))
    (λ p. record { command = p.0.0; place = p.0.1; returns = p.1.0; framing = p.1.1 }) (λ _. refl)

abbrev pub split_code : Coded Split
split_code =
    code_by (Option Handed × Unfinished) (coded× (coded_option handed_code) unfinished_code)
    (λ s. (s.to_hand_out, s.left)) (λ p. record { to_hand_out = p.0; left = p.1 }) (λ _. refl)
