-- The bytes of the signs of the ATerm format.
use Rattle.std.specs.Prelude.{ℕ}

abbrev pub quote : ℕ
quote = 34

abbrev pub backslash : ℕ
backslash = 92

abbrev pub minus : ℕ
minus = 45

abbrev pub comma : ℕ
comma = 44

abbrev pub open_round : ℕ
open_round = 40

abbrev pub close_round : ℕ
close_round = 41

abbrev pub open_square : ℕ
open_square = 91

abbrev pub close_square : ℕ
close_square = 93

abbrev pub open_curly : ℕ
open_curly = 123

abbrev pub close_curly : ℕ
close_curly = 125
