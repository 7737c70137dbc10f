-- The text that restores contents.
use Rattle.std.specs.Prelude.{◌≡◌, ℕ, List, [], ◌∷◌, ◌++◌, codes, Some, IfSome}
use Rattle.std.specs.Option.{option_map_or}
use Rattle.std.specs.List.{flat_map, AllByRecursion}
use Rattle.std.specs.FinMap as finmap
use Rattle.term_core.specs.Tree.{Tree}
use Rattle.term_core.specs.Terms.{IsTerm}
use Rattle.term_core.specs.Word.{label_of}
use Rattle.aterm_text.specs.Printed.{print}
use Rattle.term_changes.specs.Contents.{Contents}

-- a line for the tree of a name
abbrev pub tree_line : List ℕ → Tree → List ℕ
tree_line name tree = codes "tree " ++ name ++ 32 ∷ print tree ++ 10 ∷ []

-- a line for each tree, in byte order of the names
abbrev pub dumped_trees : Contents → List ℕ
dumped_trees c = flat_map (λ name. option_map_or (tree_line name) (finmap.get c.trees name) []) (finmap.keys c.trees)

-- a text after a name: a space and the text, or nothing if it is empty
abbrev pub after_name : List ℕ → List ℕ
after_name [] = []
after_name (b ∷ text) = 32 ∷ b ∷ text

-- The command that restores the text of a module. The text may have line feeds.
abbrev pub module_line : List ℕ → List ℕ → List ℕ
module_line name text = codes "module " ++ name ++ after_name text ++ 10 ∷ []

-- a command for each of these modules
abbrev pub module_lines : Contents → List (List ℕ) → List ℕ
module_lines c names = flat_map (λ name. option_map_or (module_line name) (finmap.get c.modules name) []) names

-- Modules that depend on one another are loaded in a group. If there are none, there is no group.
abbrev pub grouped : Contents → List (List ℕ) → List ℕ
grouped c [] = []
grouped c (name ∷ names) =
    (codes "begin" ++ 10 ∷ []) ++ module_lines c (name ∷ names) ++ (codes "commit" ++ 10 ∷ [])

abbrev pub dumped_modules : Contents → List ℕ
dumped_modules c = grouped c (finmap.keys c.modules)

-- The dump: the trees, followed by the modules.
abbrev pub dumped : Contents → List ℕ
dumped c = dumped_trees c ++ dumped_modules c

-- a name that has a tree is a label, and the tree is a term
abbrev pub IsNamedTerm : Contents → List ℕ → Type 0
IsNamedTerm c name =
    IfSome (finmap.get c.trees name) (λ tree. (label_of name ≡ Some name) × IsTerm tree)

-- all names are labels, and all trees terms
abbrev pub AreNamedTerms : Contents → Type 0
AreNamedTerms c =
    AllByRecursion (IsNamedTerm c) (finmap.keys c.trees)
    × AllByRecursion (λ name. label_of name ≡ Some name) (finmap.keys c.modules)
