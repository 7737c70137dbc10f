-- What changed from one contents to another: the outermost places where trees differ, and modules.
use Rattle.std.specs.Prelude.{◌≡◌, ℕ, ◌+◌, Bool, true, false, ◌&&◌, List, [], ◌∷◌, ◌++◌, length, map, codes, decimal, Some, None, Ok, slice_get, ok_or, if◌then◌else◌}
use Rattle.std.specs.declared.option.Option.{Option}
use Rattle.std.specs.declared.result.Result.{Result}
use Rattle.std.specs.Option.{option_map_or}
use Rattle.std.specs.List.{flat_map}
use Rattle.std.specs.Ordering.{int_eq, nat_cmp}
use Rattle.std.specs.Cmp.Lexicographic.{slice_cmp}
use Rattle.std.specs.Str.{bytes_eq}
use Rattle.std.specs.FinMap as finmap
use Rattle.term_core.specs.Tree.{Tree, Trees, integer, branch, none, more}
use Rattle.aterm_text.specs.Signs.{open_curly, close_curly}
use Rattle.aterm_text.specs.Printed.{print, print_all}
use Rattle.strategy_meaning.specs.Same.{same_head, same_trees}
use Rattle.term_changes.specs.Contents.{Contents, Named}
use Rattle.session_history.specs.History.{History}
use Rattle.session_modules.specs.declared.refusal.Refusal.{Refusal}
use Rattle.session_modules.specs.declared.refusal.Refusal.TheVariants.{NoUndo}

-- ---- trees

-- A place where two trees differ: the subterms there, if these differ in head or in the number of
-- children; else their annotations.
pub data Difference : Type 0 where
  subterms_differ : List ℕ → Tree → Tree → Difference
  annotations_differ : List ℕ → Trees → Trees → Difference

-- whether two lists of trees are of one length
abbrev pub as_many : Trees → Trees → Bool
as_many none none = true
as_many (more t ts) (more u us) = as_many ts us
as_many ts us = false

-- the difference of the annotations of a place, if they differ
abbrev pub annotated : List ℕ → Trees → Trees → List Difference
annotated path ts us = if same_trees ts us then [] else annotations_differ path ts us ∷ []

abbrev mutual
  -- the places where a tree differs from another, in their order; both are at this path
  pub differences : List ℕ → Tree → Tree → List Difference
  differences path (integer y ns) (integer z ms) =
      if int_eq y z then annotated path ns ms else subterms_differ path (integer y ns) (integer z ms) ∷ []
  differences path (branch h us ns) (branch k vs ms) =
      if same_head h k && as_many us vs then annotated path ns ms ++ differences_from path 0 us vs
      else subterms_differ path (branch h us ns) (branch k vs ms) ∷ []
  differences path t u = subterms_differ path t u ∷ []

  -- the same for children of one parent, from number i on
  pub differences_from : List ℕ → ℕ → Trees → Trees → List Difference
  differences_from path i (more t ts) (more u us) =
      differences (path ++ i ∷ []) t u ++ differences_from path (i + 1) ts us
  differences_from path i ts us = []

-- ---- lines

-- a place in the tree of a name, what was there and what is there now
abbrev pub change_line : List ℕ → List ℕ → List ℕ → List ℕ → List ℕ
change_line name path old new =
    name ++ flat_map (λ i. 47 ∷ decimal i) path ++ 32 ∷ old ++ codes " => " ++ new ++ 10 ∷ []

-- annotations, in braces
abbrev pub in_braces : Trees → List ℕ
in_braces ts = open_curly ∷ print_all ts ++ close_curly ∷ []

-- the line of a difference in the tree of a name
abbrev pub difference_line : List ℕ → Difference → List ℕ
difference_line name (subterms_differ path t u) = change_line name path (print t) (print u)
difference_line name (annotations_differ path ts us) = change_line name path (in_braces ts) (in_braces us)

-- how the tree of a name changed
abbrev pub tree_lines : List ℕ → Option Tree → Option Tree → List (List ℕ)
tree_lines name None None = []
tree_lines name None (Some u) = change_line name [] (codes "(none)") (print u) ∷ []
tree_lines name (Some t) None = change_line name [] (print t) (codes "(none)") ∷ []
tree_lines name (Some t) (Some u) = map (difference_line name) (differences [] t u)

-- what became of the module of a name
abbrev pub text_line : List ℕ → List ℕ → List ℕ
text_line name what = codes "module " ++ name ++ 32 ∷ what ++ 10 ∷ []

-- how the module of a name changed
abbrev pub text_lines : List ℕ → Option (List ℕ) → Option (List ℕ) → List (List ℕ)
text_lines name None None = []
text_lines name None (Some y) = text_line name (codes "came") ∷ []
text_lines name (Some x) None = text_line name (codes "went") ∷ []
text_lines name (Some x) (Some y) = if bytes_eq x y then [] else text_line name (codes "changed") ∷ []

-- ---- contents

-- the names that either map has, in byte order
abbrev pub names_of : {X : Type 0} → Named X → Named X → List (List ℕ)
names_of a b = finmap.keys (finmap.from_entries {R = slice_cmp nat_cmp} (finmap.entries a ++ finmap.entries b))

-- the lines of these names, one name after the other
abbrev pub lines_of : {X : Type 0} → (List ℕ → Option X → Option X → List (List ℕ)) → Named X → Named X → List (List ℕ)
    → List (List ℕ)
lines_of lines a b names = flat_map (λ name. lines name (finmap.get a name) (finmap.get b name)) names

-- how trees changed, and then how modules did: for this name, or for all names in byte order
abbrev pub changes_of : Option (List ℕ) → Contents → Contents → List (List ℕ)
changes_of name a b =
    lines_of tree_lines a.trees b.trees (option_map_or (λ n. n ∷ []) name (names_of a.trees b.trees))
    ++ lines_of text_lines a.modules b.modules (option_map_or (λ n. n ∷ []) name (names_of a.modules b.modules))

-- how many lines there are, and the lines
abbrev pub diff_text : List (List ℕ) → List ℕ
diff_text lines = codes "changes " ++ decimal (length lines) ++ 10 ∷ flat_map (λ l. l) lines

-- the contents from before the last step; in a group, those where it began
abbrev pub base_of : History → Result Contents Refusal
base_of h = option_map_or (λ g. Ok g.begun) h.group (ok_or (slice_get h.past 0) NoUndo)

-- From one text to the other, what the last step changed was appended.
pub record TellsChanges (name : Option (List ℕ)) (h : History) (old new : List ℕ) : Type 0 where
  pub base : Contents
  pub is : base_of h ≡ Ok base
  pub text : new ≡ old ++ diff_text (changes_of name base h.now)
