-- The forms of commands, as their bytes spell them.
use Rattle.std.specs.Prelude.{ℕ, Bool, true, false, not, ◌||◌, ◌&&◌, nat_le, List, [], ◌∷◌, drop, codes, Some, None, Ok, Err, is_some, option_map, option_and_then, if◌then◌else◌}
use Rattle.std.specs.declared.option.Option.{Option}
use Rattle.std.specs.declared.result.Result.{Result}
use Rattle.std.specs.List.{before_first, position_or_len}
use Rattle.std.specs.Str.{bytes_eq}
use Rattle.term_core.specs.Word.{label_of}
use Rattle.term_paths.specs.PathText.{path_of, part_of}
use Rattle.aterm_text.specs.Tokens.{is_blank, without_blanks}
use Rattle.session_modules.specs.declared.refusal.Refusal.{Refusal}
use Rattle.session_modules.specs.declared.refusal.Refusal.TheVariants.{Line, Name}
use Rattle.script_text.specs.Script.{without_end}
use Rattle.session_history.specs.declared.TheConstants.{MAX_STEPS}
use Rattle.script_text.specs.declared.command.Budgets.{Budgets}

-- The operands are names, paths, budgets, numbers of steps and texts, in the order of the command.
pub data Form : Type 0 where
  tree : List ℕ → List ℕ → Form  -- sets the tree of the name to the term of the text
  copy : List ℕ → List ℕ → Form  -- sets the tree of the second name to a copy of that of the first
  drop_tree : List ℕ → Form  -- removes the tree of the name
  put : List ℕ → List ℕ → List ℕ → Form  -- replaces the subterm at the path by the term of the text
  annotate : List ℕ → List ℕ → List ℕ → Form  -- replaces the annotations there by those of the text
  set_module : List ℕ → List ℕ → Form  -- sets the module of the name to that of the text
  unload : List ℕ → Form  -- removes the module of the name
  apply : List ℕ → List ℕ → ℕ → List ℕ → Form  -- applies the strategy of the text at the path
  preview : List ℕ → List ℕ → ℕ → List ℕ → Form  -- shows what that would replace
  undo : ℕ → Form  -- goes this many steps back
  redo : ℕ → Form  -- goes this many steps forward
  begin : Form  -- begins a group
  commit : Form  -- makes the changes of the group one step
  abandon : Form  -- undoes the changes of the group
  show : List ℕ → List ℕ → Form  -- shows the subterm at the path of the name's tree
  pretty : List ℕ → List ℕ → Form  -- shows it over lines
  -- shows what the last step changed, or only what it changed of the name
  diff : Option (List ℕ) → Form
  trees : Form  -- lists the names of the trees
  modules : Form  -- lists the names of the modules
  module_text : List ℕ → Form  -- shows the text of the name's module
  history : Form  -- counts the steps
  dump : Form  -- writes a script that restores the contents

-- ---- words, separated by blanks: spaces, tabs, line feeds and carriage returns

-- the first word, empty if there is none
abbrev pub front_word : List ℕ → List ℕ
front_word text = before_first is_blank (without_blanks text)

-- the rest after the first word
abbrev pub after_word : List ℕ → List ℕ
after_word text = drop (position_or_len is_blank (without_blanks text)) (without_blanks text)

abbrev pub has_bytes : List ℕ → Bool
has_bytes [] = false
has_bytes (b ∷ bytes) = true

abbrev pub has_word : List ℕ → Bool
has_word text = has_bytes (front_word text)

-- ---- parts of forms

-- A form that continues with a word, given what that makes of the rest.
abbrev pub with_word : List ℕ → (List ℕ → List ℕ → Option Form) → Option Form
with_word rest next = if has_word rest then next (front_word rest) (after_word rest) else None

-- A form that ends here.
abbrev pub ended : Form → List ℕ → Option Form
ended form rest = if has_word rest then None else Some form

-- A form that ends with a text: everything from the first byte that isn't a blank. It may be empty.
abbrev pub last_text : List ℕ → List ℕ
last_text rest = without_blanks rest

-- A form that continues with a path and ends with a text.
abbrev pub with_path_and_text : (List ℕ → List ℕ → Form) → List ℕ → Option Form
with_path_and_text form rest =
    option_map (λ path. form path (last_text (after_word rest))) (path_of (front_word rest))

-- A form that ends with a name.
abbrev pub last_name : List ℕ → Option (List ℕ)
last_name rest =
    if has_word rest && not (has_word (after_word rest)) then Some (front_word rest) else None

-- a number from 1 to this one, written as a number in a path is
abbrev pub up_to : ℕ → List ℕ → Option ℕ
up_to most digits =
    option_and_then (λ n. if nat_le 1 n && nat_le n most then Some n else None) (part_of digits)

-- A form that ends with a name or without one.
abbrev pub optional_name : List ℕ → Option (Option (List ℕ))
optional_name rest = if has_word rest then option_map Some (last_name rest) else Some None

-- A form that ends with a number of steps, up to 1,000,000, which is 1 if it is missing.
abbrev pub last_steps : List ℕ → Option ℕ
last_steps rest =
    if has_word rest
    then (if has_word (after_word rest) then None else up_to MAX_STEPS (front_word rest))
    else Some 1

-- An optional keyword followed by a word: that word, if the keyword comes next, and the rest.
abbrev pub option_word : List ℕ → List ℕ → Option (List ℕ)
option_word keyword rest =
    if bytes_eq (front_word rest) keyword then Some (front_word (after_word rest)) else None

abbrev pub after_option : List ℕ → List ℕ → List ℕ
after_option keyword rest =
    if bytes_eq (front_word rest) keyword then after_word (after_word rest) else rest

-- the path of a word, or the root if there is none
abbrev pub path_or_root : Option (List ℕ) → Option (List ℕ)
path_or_root None = Some []
path_or_root (Some word) = path_of word

-- the budget of a word, up to the greatest, or the usual one if there is no word
abbrev pub budget_or : Budgets → Option (List ℕ) → Option ℕ
budget_or budgets None = Some budgets.usual
budget_or budgets (Some word) = up_to budgets.most word

-- A form that ends with `at` and a path, both optional.
abbrev pub last_place : List ℕ → Option (List ℕ)
last_place rest =
    if has_word (after_option (codes "at") rest) then None
    else path_or_root (option_word (codes "at") rest)

-- A form that ends with `do` and a text.
abbrev pub with_do : (List ℕ → Form) → List ℕ → Option Form
with_do form rest =
    if bytes_eq (front_word rest) (codes "do") then Some (form (last_text (after_word rest))) else None

-- A form that continues with `within` and a budget, both optional, and ends with `do` and a text.
abbrev pub with_budget : Budgets → (ℕ → List ℕ → Form) → List ℕ → Option Form
with_budget budgets form rest =
    option_and_then (λ n. with_do (form n) (after_option (codes "within") rest))
    (budget_or budgets (option_word (codes "within") rest))

-- ---- forms

-- Both `at` and `within`, in this order, are optional.
abbrev pub strategy_form : (List ℕ → List ℕ → ℕ → List ℕ → Form) → Budgets → List ℕ → Option Form
strategy_form form budgets rest =
    with_word rest (λ name after. option_and_then
    (λ path. with_budget budgets (form name path) (after_option (codes "at") after))
    (path_or_root (option_word (codes "at") after)))

-- the form that a keyword starts, given the budgets of commands
abbrev pub form_with : Budgets → List ℕ → List ℕ → Option Form
form_with budgets keyword rest =
    if bytes_eq keyword (codes "tree") then with_word rest (λ name after. Some (tree name (last_text after))) else
    if bytes_eq keyword (codes "copy")
    then with_word rest (λ name after. with_word after (λ other end. ended (copy name other) end)) else
    if bytes_eq keyword (codes "drop") then option_map drop_tree (last_name rest) else
    if bytes_eq keyword (codes "put") then with_word rest (λ name after. with_path_and_text (put name) after) else
    if bytes_eq keyword (codes "annotate")
    then with_word rest (λ name after. with_path_and_text (annotate name) after) else
    if bytes_eq keyword (codes "module")
    then with_word rest (λ name after. Some (set_module name (last_text after))) else
    if bytes_eq keyword (codes "unload") then option_map unload (last_name rest) else
    if bytes_eq keyword (codes "apply") then strategy_form apply budgets rest else
    if bytes_eq keyword (codes "preview") then strategy_form preview budgets rest else
    if bytes_eq keyword (codes "undo") then option_map undo (last_steps rest) else
    if bytes_eq keyword (codes "redo") then option_map redo (last_steps rest) else
    if bytes_eq keyword (codes "begin") then ended begin rest else
    if bytes_eq keyword (codes "commit") then ended commit rest else
    if bytes_eq keyword (codes "abandon") then ended abandon rest else
    if bytes_eq keyword (codes "show")
    then with_word rest (λ name after. option_map (show name) (last_place after)) else
    if bytes_eq keyword (codes "pretty")
    then with_word rest (λ name after. option_map (pretty name) (last_place after)) else
    if bytes_eq keyword (codes "diff") then option_map diff (optional_name rest) else
    if bytes_eq keyword (codes "trees") then ended trees rest else
    if bytes_eq keyword (codes "modules") then ended modules rest else
    if bytes_eq keyword (codes "text") then option_map module_text (last_name rest) else
    if bytes_eq keyword (codes "history") then ended history rest else
    if bytes_eq keyword (codes "dump") then ended dump rest else None

-- the form of a command, without the blanks at its end, given these budgets
abbrev pub form_of : Budgets → List ℕ → Option Form
form_of budgets command =
    let text = without_end is_blank command in form_with budgets (front_word text) (after_word text)

-- whether the names of a form are labels, if it has any
abbrev pub has_labels : Form → Bool
has_labels (tree name text) = is_some (label_of name)
has_labels (copy name other) = is_some (label_of name) && is_some (label_of other)
has_labels (drop_tree name) = is_some (label_of name)
has_labels (put name path text) = is_some (label_of name)
has_labels (annotate name path text) = is_some (label_of name)
has_labels (set_module name text) = is_some (label_of name)
has_labels (unload name) = is_some (label_of name)
has_labels (apply name path budget text) = is_some (label_of name)
has_labels (preview name path budget text) = is_some (label_of name)
has_labels (show name path) = is_some (label_of name)
has_labels (pretty name path) = is_some (label_of name)
has_labels (diff (Some name)) = is_some (label_of name)
has_labels (module_text name) = is_some (label_of name)
has_labels form = true

-- The form is tested before the names.
abbrev pub checked : Option Form → Result Form Refusal
checked None = Err Line
checked (Some form) = if has_labels form then Ok form else Err Name

-- The meaning of a command's bytes, given these budgets.
abbrev pub command_of : Budgets → List ℕ → Result Form Refusal
command_of budgets command = checked (form_of budgets command)

-- ---- commands that take no memory

-- whether a keyword is `undo`, `redo`, `begin` or `abandon`
abbrev pub takes_no_memory_with : List ℕ → Bool
takes_no_memory_with word =
    bytes_eq word (codes "undo") || bytes_eq word (codes "redo")
    || bytes_eq word (codes "begin") || bytes_eq word (codes "abandon")

abbrev pub takes_no_memory : List ℕ → Bool
takes_no_memory command = takes_no_memory_with (front_word (without_end is_blank command))

-- the same for a form
abbrev pub is_without_memory : Form → Bool
is_without_memory (undo n) = true
is_without_memory (redo n) = true
is_without_memory begin = true
is_without_memory abandon = true
is_without_memory form = false
