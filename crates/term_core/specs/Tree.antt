-- Terms as contracts see them, as plain data. `IsTerm` says which of these are terms of the ATerm
-- format.
use Rattle.std.specs.Prelude.{ℕ, ℤ, Bool, ◌&&◌, List, [], ◌∷◌, slice_set}
use Rattle.std.specs.Bool.{beq}
use Rattle.std.specs.Str.{bytes_eq}

-- A name: its bytes, and whether it is quoted. The word `f` and the quoted name `"f"` are different
-- names.
pub record Symbol : Type 0 where
  pub text : List ℕ
  pub is_quoted : Bool

abbrev pub same_name : Symbol → Symbol → Bool
same_name f g = beq f.is_quoted g.is_quoted && bytes_eq f.text g.text

-- the root of a term that is no integer
pub data Head : Type 0 where
  application : Symbol → Head
  list : Head
  tuple : Head

-- A term is an integer, or a head over its children. It has a list of annotations, which are terms.
mutual
  pub data Tree : Type 0 where
    integer : ℤ → Trees → Tree
    branch : Head → Trees → Trees → Tree

  pub data Trees : Type 0 where
    none : Trees
    more : Tree → Trees → Trees

abbrev pub to_list : Trees → List Tree
to_list none = []
to_list (more t ts) = t ∷ to_list ts

abbrev pub of_list : List Tree → Trees
of_list [] = none
of_list (t ∷ ts) = more t (of_list ts)

-- the arguments of an application, or the elements of a list or a tuple; an integer has none
abbrev pub children : Tree → List Tree
children (integer z notes) = []
children (branch head kids notes) = to_list kids

abbrev pub annotations : Tree → List Tree
annotations (integer z notes) = to_list notes
annotations (branch head kids notes) = to_list notes

-- the term with other children, and all else unchanged
abbrev pub with_children : Tree → List Tree → Tree
with_children (integer z notes) us = integer z notes
with_children (branch head kids notes) us = branch head (of_list us) notes

-- the term with other annotations, and all else unchanged
abbrev pub with_annotations : Tree → List Tree → Tree
with_annotations (integer z notes) us = integer z (of_list us)
with_annotations (branch head kids notes) us = branch head kids (of_list us)

-- the term with u in place of child i, and all else unchanged
abbrev pub with_child : Tree → ℕ → Tree → Tree
with_child t i u = with_children t (slice_set (children t) i u)

-- the term without its annotations
abbrev pub bare : Tree → Tree
bare t = with_annotations t []

-- ---- terms without annotations

abbrev pub integer_term : ℤ → Tree
integer_term z = integer z none

-- `c` and `c()` are this term, with no arguments
abbrev pub application_term : Symbol → List Tree → Tree
application_term name us = branch (application name) (of_list us) none

abbrev pub list_term : List Tree → Tree
list_term us = branch list (of_list us) none

abbrev pub tuple_term : List Tree → Tree
tuple_term us = branch tuple (of_list us) none
