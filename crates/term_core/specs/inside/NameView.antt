-- What the fields of a `Name` represent.
use Rattle.std.specs.Prelude.{◌≤◌, ◌||◌, Bool, IsTrue, false, take, true}
use Rattle.term_core.specs.Word.{is_word}
use Rattle.term_core.specs.Tree.{Symbol}
use Rattle.term_core.specs.declared.name.TheConstants.{SHORT}
use Rattle.term_core.specs.declared.name.NameKind.{NameKind}
use Rattle.term_core.specs.declared.name.NameKind.TheVariants.{Word, Quoted}
use Rattle.term_core.specs.declared.name.Text.{Text}
use Rattle.term_core.specs.declared.name.Text.TheVariants.{Short, Long}
use Rattle.term_core.specs.declared.name.Name.TheInside.{Inside}

abbrev pub stands_in_quotes : NameKind → Bool
stands_in_quotes Word = false
stands_in_quotes Quoted = true

abbrev pub spelling_of : Text → Symbol
spelling_of (Short kind n bytes) = record { text = take n bytes; is_quoted = stands_in_quotes kind }
spelling_of (Long kind bytes) = record { text = bytes.value.items; is_quoted = stands_in_quotes kind }

-- a short name fits in its array
abbrev pub IsText : Text → Type 0
IsText (Short kind n bytes) = n ≤ SHORT
IsText (Long kind bytes) = Unit {0}

abbrev pub name_of : Inside → Symbol
name_of a = spelling_of a.text

-- a name that isn't quoted is a word
abbrev pub IsName : Inside → Type 0
IsName a = IsText a.text × IsTrue ((name_of a).is_quoted || is_word (name_of a).text)
