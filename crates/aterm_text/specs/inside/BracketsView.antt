-- What the fields of open brackets represent.
use Rattle.std.specs.Prelude.{◌≡◌, List, [], ◌∷◌, Some, None, reverse}
use Rattle.std.specs.declared.option.Option.{Option}
use Rattle.aterm_text.specs.declared.reader.open_brackets.Bracket.{Bracket}

-- the brackets, the innermost first
abbrev pub brackets_of : Option Bracket → List Bracket → List Bracket
brackets_of None others = []
brackets_of (Some b) others = b ∷ reverse others

-- if there is no innermost one, there are no others
abbrev pub AreBrackets : Option Bracket → List Bracket → Type 0
AreBrackets None others = others ≡ []
AreBrackets (Some b) others = Unit {0}

abbrev pub innermost_of : List Bracket → Option Bracket
innermost_of [] = None
innermost_of (b ∷ bs) = Some b
