-- A total order on terms. Only equal terms tie in it, annotations included.
use Rattle.std.specs.Prelude.{ℕ}
use Rattle.std.specs.declared.cmp.Ordering.{Ordering}
use Rattle.std.specs.declared.cmp.Ordering.TheVariants.{Less, Equal, Greater}
use Rattle.std.specs.Ordering.{ordering_then, nat_cmp, int_cmp, bool_cmp}
use Rattle.std.specs.Cmp.Lexicographic.{slice_cmp}
use Rattle.term_core.specs.Tree.{Symbol, Head, application, list, tuple, Tree, Trees, integer, branch, none, more}

-- by their bytes; the word `f` comes before the quoted name `"f"`
abbrev pub compared_names : Symbol → Symbol → Ordering
compared_names f g = ordering_then (slice_cmp nat_cmp f.text g.text) (bool_cmp f.is_quoted g.is_quoted)

-- applications, then lists, then tuples
abbrev pub rank : Head → ℕ
rank (application f) = 0
rank list = 1
rank tuple = 2

abbrev pub compared_heads : Head → Head → Ordering
compared_heads (application f) (application g) = compared_names f g
compared_heads g h = nat_cmp (rank g) (rank h)

-- Integers come before all other terms, by their value. Of two others the heads decide, then the
-- children, from left to right; a list that ends first comes first. Annotations decide last.
abbrev mutual
  pub compared : Tree → Tree → Ordering
  compared (integer x ms) (integer y ns) = ordering_then (int_cmp x y) (compared_all ms ns)
  compared (integer x ms) (branch h us ns) = Less
  compared (branch g ts ms) (integer y ns) = Greater
  compared (branch g ts ms) (branch h us ns) =
      ordering_then (compared_heads g h) (ordering_then (compared_all ts us) (compared_all ms ns))

  pub compared_all : Trees → Trees → Ordering
  compared_all none none = Equal
  compared_all none (more u us) = Less
  compared_all (more t ts) none = Greater
  compared_all (more t ts) (more u us) = ordering_then (compared t u) (compared_all ts us)
