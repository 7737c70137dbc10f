-- The terms and strategies of the rows.
use Rattle.std.specs.Prelude.{ℕ, pos, List, [], ◌∷◌, false}
use Rattle.term_core.specs.Tree.{Symbol, application, Tree, integer_term, application_term, list_term, with_annotations}
use Rattle.term_paths.specs.Edits.{Edit}
use Rattle.strategy_syntax.specs.Resolved.{ResolvedPattern, compound, resolved_patterns_of, ResolvedStrategy, id, builds, guard, call, congruence, resolveds_of}
use Rattle.strategy_syntax.specs.declared.resolved.Resolved.{Resolved}

abbrev pub edit : List ℕ → Tree → Edit
edit p u = record { path = p; new = u }

-- a word of one letter
abbrev pub word : ℕ → Symbol
word n = record { text = n ∷ []; is_quoted = false }

abbrev pub A : Tree
A = application_term (word 65) []

abbrev pub B : Tree
B = application_term (word 66) []

abbrev pub D : Tree → Tree → Tree
D t u = application_term (word 68) (t ∷ (u ∷ []))

abbrev pub F : Tree → Tree → Tree
F t u = application_term (word 70) (t ∷ (u ∷ []))

abbrev pub G : Tree → Tree
G t = application_term (word 71) (t ∷ [])

abbrev pub A1 : Tree
A1 = with_annotations A (integer_term (pos 1) ∷ [])

-- `[t,u]{1}`
abbrev pub both_with : Tree → Tree → Tree
both_with t u = with_annotations (list_term (t ∷ (u ∷ []))) (integer_term (pos 1) ∷ [])

abbrev pub both : Tree → Tree
both t = both_with t t

abbrev pub pattern : ℕ → List ResolvedPattern → ResolvedPattern
pattern n ps = compound (application (word n)) (resolved_patterns_of ps)

abbrev pub to_A : ResolvedStrategy
to_A = builds (pattern 65 [])

abbrev pub to_B : ResolvedStrategy
to_B = builds (pattern 66 [])

abbrev pub cong : ℕ → List ResolvedStrategy → ResolvedStrategy
cong n ss = congruence (application (word n)) (resolveds_of ss)

-- `s1 <+ s2`
abbrev pub or_else : ResolvedStrategy → ResolvedStrategy → ResolvedStrategy
or_else s1 s2 = guard s1 id s2

-- a call with one strategy, and one with neither strategies nor terms
abbrev pub call1 : ℕ → ResolvedStrategy → ResolvedStrategy
call1 f s = call f (resolveds_of (s ∷ [])) (resolved_patterns_of [])

abbrev pub call0 : ℕ → ResolvedStrategy
call0 f = call f (resolveds_of []) (resolved_patterns_of [])

-- with this many free variables
abbrev pub with_free : ℕ → ResolvedStrategy → Resolved
with_free n s = record { variables = n; strategy = s }

abbrev pub body : ResolvedStrategy → Resolved
body s = with_free 0 s
