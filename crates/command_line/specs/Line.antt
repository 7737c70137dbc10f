-- The command line, in the terms of `clap`: flags, options with a number, options that name files and
-- can be given again, and the name of a file.
use Rattle.std.specs.Prelude.{◌&&◌, ◌==◌, ℕ, Bool, true, List, [], ◌∷◌, ◌++◌, Option, codes, fold, length, nat_lt, not, pos, None, Some, is_some, unwrap_or, if◌then◌else◌}
use Rattle.std.specs.List.{list_all, list_any, before_first}
use Rattle.std.specs.Char.{digit_value}
use Rattle.std.specs.Str.Parse.{digits_value, without_leading_plus}
use Rattle.term_core.specs.Word.{label_of}
use Rattle.clap.specs.Words.{App, Kinds, Row, Rule, Text, all_of, fault_of, matches_of, new_app, new_rule, with_rule}
use Rattle.clap.specs.Walk.{one_of}
use Rattle.clap.specs.Simple.{on_top}
use Rattle.clap.specs.Kinds.{or_else}
use Rattle.clap.specs.declared.builder.action.ArgAction.TheVariants.{Append, SetTrue}
use Rattle.clap.specs.declared.builder.value_parser.ValueParser.TheVariants.{Signed}
use Rattle.clap.specs.declared.error.kind.ErrorKind.TheVariants.{ValueValidation}
use Rattle.command_line.specs.declared.named.Named.{Named}
use Rattle.command_line.specs.declared.named.Load.{Load}
use Rattle.command_line.specs.declared.named.Load.TheVariants.{Module, Tree}

-- an option of this name for a number in this range, and the last text if none is given
abbrev pub number_option : Text → ℕ → ℕ → Text → Rule
number_option name least most usual = record (new_rule name) {
  long = Some name;
  value_names = 1;
  defaults = usual ∷ [];
  parser = Some (Signed (pos least) (pos most));
}

abbrev pub steps_option : Rule
steps_option = number_option (codes "steps") 1 4000000000 (codes "100000")

abbrev pub max_steps_option : Rule
max_steps_option = number_option (codes "max-steps") 1000000 4000000000 (codes "1000000")

abbrev pub max_terms_option : Rule
max_terms_option = number_option (codes "max-terms") 100000 1000000000 (codes "100000")

abbrev pub max_tokens_option : Rule
max_tokens_option = number_option (codes "max-tokens") 4000 65535 (codes "4000")

-- a flag of this name
abbrev pub flag_of : Text → Rule
flag_of name = record (new_rule name) { long = Some name; action = Some SetTrue }

-- `-i` and `--interactive`
abbrev pub interactive_flag : Rule
interactive_flag = record (flag_of (codes "interactive")) { short = Some 105 }

-- an option of this name that can be given again
abbrev pub files_option : Text → Rule
files_option name = record (new_rule name) { long = Some name; value_names = 1; action = Some Append }

abbrev pub file_name : Rule
file_name = record (new_rule (codes "file")) { value_names = 1 }

-- the command of this name, which has a version
abbrev pub named_app : App
named_app = on_top (λ s. record s { has_version = true }) (new_app (codes "stratbench"))

abbrev pub line : App
line = fold with_rule named_app
    (flag_of (codes "library") ∷ steps_option ∷ max_steps_option ∷ max_terms_option ∷ max_tokens_option
    ∷ flag_of (codes "stop") ∷ flag_of (codes "lines")
    ∷ flag_of (codes "explain") ∷ flag_of (codes "profile") ∷ interactive_flag ∷ files_option (codes "module")
    ∷ files_option (codes "tree") ∷ files_option (codes "write")
    ∷ flag_of (codes "pretty") ∷ flag_of (codes "explain-json") ∷ flag_of (codes "check") ∷ file_name
    ∷ [])

-- the values of the words for each of them, the program's name first
abbrev pub given : List Text → List Row
given words = matches_of line words

-- one digit or more, after a `+` or without, spell a number in this range
abbrev pub is_number_in : ℕ → ℕ → Text → Bool
is_number_in least most text =
    let digits = without_leading_plus text in
    (nat_lt 0 (length digits) && list_all (λ d. nat_lt (digit_value d) 10) digits)
    && (not (nat_lt (digits_value 10 digits) least) && not (nat_lt most (digits_value 10 digits)))

-- the number that a text spells, if there is one in this range, or else the usual one
abbrev pub number_in : ℕ → ℕ → ℕ → Option Text → ℕ
number_in least most usual None = usual
number_in least most usual (Some text) =
    if is_number_in least most text then digits_value 10 (without_leading_plus text) else usual

-- the numbers of the words for the options
abbrev pub budget_of : List Row → ℕ
budget_of rows = number_in 1 4000000000 100000 (one_of (codes "steps") rows)

abbrev pub most_steps_of : List Row → ℕ
most_steps_of rows = number_in 1000000 4000000000 1000000 (one_of (codes "max-steps") rows)

abbrev pub most_terms_of : List Row → ℕ
most_terms_of rows = number_in 100000 1000000000 100000 (one_of (codes "max-terms") rows)

abbrev pub most_tokens_of : List Row → ℕ
most_tokens_of rows = number_in 4000 65535 4000 (one_of (codes "max-tokens") rows)

-- ---- NAME=FILE

abbrev pub is_equals : ℕ → Bool
is_equals b = b == 61

-- the text that gives a name and a file
abbrev pub as_given : Named → Text
as_given named = named.name ++ 61 ∷ named.file.now

-- a label, `=` and any file
abbrev pub is_named : Text → Bool
is_named text = list_any is_equals text && is_some (label_of (before_first is_equals text))

-- the values of an option, none if it isn't given
abbrev pub values : Text → List Row → List Text
values option rows = unwrap_or (all_of option rows) []

-- the modules and the trees among the files that are loaded
abbrev pub modules_of : List Load → List Named
modules_of [] = []
modules_of (Module named ∷ loads) = named ∷ modules_of loads
modules_of (Tree named ∷ loads) = modules_of loads

abbrev pub trees_of : List Load → List Named
trees_of [] = []
trees_of (Module named ∷ loads) = trees_of loads
trees_of (Tree named ∷ loads) = named ∷ trees_of loads

-- the file of one that is loaded
abbrev pub file_of : Load → Text
file_of (Module named) = named.file.now
file_of (Tree named) = named.file.now

abbrev pub name_of : Load → Text
name_of (Module named) = named.name
name_of (Tree named) = named.name

abbrev pub are_named : Text → List Row → Bool
are_named option rows = list_all is_named (values option rows)

abbrev pub are_named_all : List Row → Bool
are_named_all rows = (are_named (codes "module") rows && are_named (codes "tree") rows)
    && are_named (codes "write") rows

-- no budget is greater than the greatest, and files have names
abbrev pub are_taken : List Row → Bool
are_taken rows = not (nat_lt (most_steps_of rows) (budget_of rows)) && are_named_all rows

-- Why words are refused: as `clap` finds it; or where it finds nothing, since the budget is greater
-- than the greatest, or the value of an option isn't NAME=FILE.
abbrev pub line_fault : List Text → Kinds
line_fault words =
    or_else (fault_of line words)
    (if are_taken (given words) then [] else ValueValidation ∷ [])
