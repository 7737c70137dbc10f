-- Alternatives of a choice that a term can't match. Classes are small numbers of roots: equal roots
-- have one class, and others may share it.
use Rattle.std.specs.Prelude.{◌≡◌, ℕ, zero, suc, ◌+◌, ◌*◌, ◌%◌, Bool, true, false, not, ◌||◌, eqb, List, [], ◌∷◌, slice_get, unsigned_abs, option_and_then, Some, None, ⊤}
use Rattle.std.specs.declared.option.Option.{Option}
use Rattle.term_core.specs.Tree.{Head, application, list, tuple, Tree, integer, branch}
use Rattle.strategy_syntax.specs.Resolved.{ResolvedPattern, wildcard, variable, at, number, compound, with_tail, annotated, resolved_pattern_list, ResolvedStrategy, matches, seq, guard, scope}

-- ---- classes

abbrev pub text_class : ℕ → List ℕ → ℕ
text_class c [] = c
text_class c (b ∷ bs) = text_class ((c * 31 + b) % 64) bs

abbrev pub head_class : Head → ℕ
head_class (application f) = text_class 0 f.text
head_class list = 1
head_class tuple = 2

-- the class of the term's root
abbrev pub tree_class : Tree → ℕ
tree_class (integer z notes) = unsigned_abs z % 64
tree_class (branch h kids notes) = head_class h

-- the class of the roots that the pattern matches, if they have one
abbrev pub pattern_class : ResolvedPattern → Option ℕ
pattern_class wildcard = None
pattern_class (variable x) = None
pattern_class (at x p) = pattern_class p
pattern_class (number z) = Some (unsigned_abs z % 64)
pattern_class (compound h ps) = Some (head_class h)
pattern_class (with_tail ps p) = Some 1
pattern_class (annotated p ps) = pattern_class p

-- the same of child i
abbrev pub child_class : ResolvedPattern → ℕ → Option ℕ
child_class wildcard i = None
child_class (variable x) i = None
child_class (at x p) i = None
child_class (number z) i = None
child_class (compound h ps) i = option_and_then pattern_class (slice_get (resolved_pattern_list ps) i)
child_class (with_tail ps p) i = None
child_class (annotated p ps) i = None

-- ---- alternatives

-- whether there is a class, and it is another one
abbrev pub is_other : Option ℕ → ℕ → Bool
is_other None c = false
is_other (Some k) c = not (eqb k c)

-- Whether no term matches the pattern whose root has class r. Of the child at an index, the class may
-- be known, too.
abbrev pub is_apart : ResolvedPattern → ℕ → Option (ℕ × ℕ) → Bool
is_apart p r None = is_other (pattern_class p) r
is_apart p r (Some (i, c)) = is_other (pattern_class p) r || is_other (child_class p i) c

-- the first n alternatives are rules, or like them, that no such term matches
abbrev pub AreApart : ℕ → ResolvedStrategy → ℕ → Option (ℕ × ℕ) → Type 0
AreApart zero s r c = ⊤
AreApart (suc n) s r c = (k : ℕ) × (p : ResolvedPattern) × (then : ResolvedStrategy) × (second : ResolvedStrategy)
    × (rest : ResolvedStrategy)
    × (s ≡ guard (scope k (seq (matches p) then)) second rest) × (is_apart p r c ≡ true) × AreApart n rest r c
