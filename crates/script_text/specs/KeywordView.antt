-- The forms that a command's first word starts.
use Rattle.std.specs.Prelude.{ℕ, Bool, true, false, List, Some, None, option_map, codes, if◌then◌else◌}
use Rattle.std.specs.declared.option.Option.{Option}
use Rattle.std.specs.Str.{bytes_eq}
use Rattle.script_text.specs.declared.command.Budgets.{Budgets}
use Rattle.script_text.specs.declared.keyword.Keyword.{Keyword}
use Rattle.script_text.specs.declared.keyword.Keyword.TheVariants.{Tree, Copy, Drop, Put, Annotate, Module, Unload, Apply, Preview, Undo, Redo, Begin, Commit, Abandon, Show, Pretty, Diff, Trees, Modules, Text, History, Dump, Other}
use Rattle.script_text.specs.Form.{Form, tree, copy, drop_tree, put, annotate, set_module, unload, apply, preview, undo, redo, begin, commit, abandon, show, pretty, diff, trees, modules, module_text, history, dump, with_word, ended, last_text, with_path_and_text, last_name, optional_name, last_steps, last_place, strategy_form}

-- the keyword that a word is
abbrev pub keyword_at : List ℕ → Keyword
keyword_at word =
    if bytes_eq word (codes "tree") then Tree else
    if bytes_eq word (codes "copy") then Copy else
    if bytes_eq word (codes "drop") then Drop else
    if bytes_eq word (codes "put") then Put else
    if bytes_eq word (codes "annotate") then Annotate else
    if bytes_eq word (codes "module") then Module else
    if bytes_eq word (codes "unload") then Unload else
    if bytes_eq word (codes "apply") then Apply else
    if bytes_eq word (codes "preview") then Preview else
    if bytes_eq word (codes "undo") then Undo else
    if bytes_eq word (codes "redo") then Redo else
    if bytes_eq word (codes "begin") then Begin else
    if bytes_eq word (codes "commit") then Commit else
    if bytes_eq word (codes "abandon") then Abandon else
    if bytes_eq word (codes "show") then Show else
    if bytes_eq word (codes "pretty") then Pretty else
    if bytes_eq word (codes "diff") then Diff else
    if bytes_eq word (codes "trees") then Trees else
    if bytes_eq word (codes "modules") then Modules else
    if bytes_eq word (codes "text") then Text else
    if bytes_eq word (codes "history") then History else
    if bytes_eq word (codes "dump") then Dump else Other

-- ---- the forms of some keywords, as `form_with` has them

abbrev pub tree_form : List ℕ → Option Form
tree_form rest = with_word rest (λ name after. Some (tree name (last_text after)))

abbrev pub copy_form : List ℕ → Option Form
copy_form rest =
    with_word rest (λ name after. with_word after (λ other end. ended (copy name other) end))

abbrev pub put_form : List ℕ → Option Form
put_form rest = with_word rest (λ name after. with_path_and_text (put name) after)

abbrev pub annotate_form : List ℕ → Option Form
annotate_form rest = with_word rest (λ name after. with_path_and_text (annotate name) after)

abbrev pub module_form : List ℕ → Option Form
module_form rest = with_word rest (λ name after. Some (set_module name (last_text after)))

abbrev pub show_form : List ℕ → Option Form
show_form rest = with_word rest (λ name after. option_map (show name) (last_place after))

abbrev pub pretty_form : List ℕ → Option Form
pretty_form rest = with_word rest (λ name after. option_map (pretty name) (last_place after))

-- the form, given the budgets of commands and the rest after the word
abbrev pub form_after : Keyword → Budgets → List ℕ → Option Form
form_after Tree budgets rest = tree_form rest
form_after Copy budgets rest = copy_form rest
form_after Drop budgets rest = option_map drop_tree (last_name rest)
form_after Put budgets rest = put_form rest
form_after Annotate budgets rest = annotate_form rest
form_after Module budgets rest = module_form rest
form_after Unload budgets rest = option_map unload (last_name rest)
form_after Apply budgets rest = strategy_form apply budgets rest
form_after Preview budgets rest = strategy_form preview budgets rest
form_after Undo budgets rest = option_map undo (last_steps rest)
form_after Redo budgets rest = option_map redo (last_steps rest)
form_after Begin budgets rest = ended begin rest
form_after Commit budgets rest = ended commit rest
form_after Abandon budgets rest = ended abandon rest
form_after Show budgets rest = show_form rest
form_after Pretty budgets rest = pretty_form rest
form_after Diff budgets rest = option_map diff (optional_name rest)
form_after Trees budgets rest = ended trees rest
form_after Modules budgets rest = ended modules rest
form_after Text budgets rest = option_map module_text (last_name rest)
form_after History budgets rest = ended history rest
form_after Dump budgets rest = ended dump rest
form_after Other budgets rest = None

-- whether it is `undo`, `redo`, `begin` or `abandon`
abbrev pub is_without_memory_after : Keyword → Bool
is_without_memory_after Undo = true
is_without_memory_after Redo = true
is_without_memory_after Begin = true
is_without_memory_after Abandon = true
is_without_memory_after keyword = false
