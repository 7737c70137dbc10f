-- Which trees are terms: integers are in the range of `i64`, the bytes of names are bytes, and a
-- name that isn't quoted is a word.
use Rattle.std.specs.Prelude.{◌<◌, ◌||◌, IsTrue, FitsSigned}
use Rattle.std.specs.Int.{w64}
use Rattle.std.specs.List.{AllByRecursion}
use Rattle.term_core.specs.Word.{is_word}
use Rattle.term_core.specs.Tree.{Symbol, Head, application, list, tuple, Tree, Trees, integer, branch, none, more}

abbrev pub IsName : Symbol → Type 0
IsName name = AllByRecursion (λ b. b < 256) name.text × IsTrue (name.is_quoted || is_word name.text)

abbrev pub IsHead : Head → Type 0
IsHead (application name) = IsName name
IsHead list = Unit {0}
IsHead tuple = Unit {0}

abbrev mutual
  pub IsTerm : Tree → Type 0
  IsTerm (integer z notes) = FitsSigned w64 z × AreTerms notes
  IsTerm (branch head kids notes) = IsHead head × AreTerms kids × AreTerms notes

  pub AreTerms : Trees → Type 0
  AreTerms none = Unit {0}
  AreTerms (more t ts) = IsTerm t × AreTerms ts
