-- Open brackets: the innermost, stored apart from those around it.
use Rattle.std.proofs.Common.{◌≡◌, List, [], ◌∷◌, ◌++◌}
use Rattle.std.specs.Prelude.{reverse}
use Rattle.std.proofs.lemmas.List.{reverse-append, length-reverse}
use Rattle.aterm_text.specs.declared.reader.open_brackets.Bracket.{Bracket}

pub reverse-last : (bs : List Bracket) (b : Bracket) → reverse (bs ++ b ∷ []) ≡ b ∷ reverse bs
reverse-last bs b = reverse-append bs (b ∷ [])

pub ruleset bracket_parts = (reverse-last, length-reverse)
