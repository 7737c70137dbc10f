-- The meaning of strategies, computed on rows that take many steps.
use Rattle.std.specs.Prelude.{◌≡◌, refl, ℕ, pos, [], ◌∷◌, Some}
use Rattle.term_core.specs.Tree.{tuple, Tree, integer_term, application_term}
use Rattle.term_core.specs.declared.TheConstants.{MAX_SIZE}
use Rattle.prim_core.specs.StandardTable.{standard_signatures}
use Rattle.prim_core.specs.Standard.{standard}
use Rattle.strategy_syntax.specs.Resolved.{ResolvedPattern, variable, compound, resolved_patterns_of, ResolvedStrategy, id, matches, builds, seq, test, scope, param, all, prim}
use Rattle.strategy_meaning.specs.Answer.{done, stopped, big}
use Rattle.strategy_meaning.specs.Meaning.{World, run_whole}
use Rattle.strategy_meaning.proofs.RowTerms.{edit, word, pattern, or_else, call1, call0, with_free, body}

abbrev Plus : Tree → Tree → Tree
Plus t u = application_term (word 80) (t ∷ (u ∷ []))

abbrev pair : ResolvedPattern → ResolvedPattern → ResolvedPattern
pair p q = compound tuple (resolved_patterns_of (p ∷ (q ∷ [])))

-- 0 try, 1 repeat, 2 bottomup, 3 innermost, 4 add, 5 P
abbrev arith : World
arith = record {
  bodies = body (or_else (param 0) id)
      ∷ (body (call1 0 (seq (param 0) (call1 1 (param 0))))
      ∷ (body (seq (all (call1 2 (param 0))) (param 0))
      ∷ (body (call1 2 (call1 0 (seq (param 0) (call1 3 (param 0)))))
      ∷ (with_free 2
      (seq (matches (pair (variable 0) (variable 1))) (prim 0 (resolved_patterns_of (variable 0 ∷ (variable 1 ∷ [])))))
      ∷ (body (scope 3 (seq (matches (pattern 80 (variable 0 ∷ (variable 1 ∷ [])))) (seq
      (test (seq (seq (builds (pair (variable 0) (variable 1))) (call0 4)) (matches (variable 2))))
      (builds (variable 2))))) ∷ [])))));
  primitives = standard_signatures;
  meaning = standard;
  room = MAX_SIZE;
}

abbrev number_term : ℕ → Tree
number_term n = integer_term (pos n)

innermost_sums : run_whole arith 0 (body (call1 3 (call0 5))) 100000
    (Plus (number_term 1) (Plus (number_term 2) (number_term 3)))
    ≡ done (number_term 6) [] 99877 (edit (1 ∷ []) (number_term 5) ∷ (edit [] (number_term 6) ∷ []))
innermost_sums = refl

-- `\ x -> D(x,x) \`
abbrev doubled : ResolvedStrategy
doubled = scope 1 (seq (matches (variable 0)) (builds (pattern 68 (variable 0 ∷ (variable 0 ∷ [])))))

too_large : run_whole arith 0 (body (call1 1 doubled)) 100000 (number_term 0) ≡ stopped big
too_large = refl

-- `\ x -> S(x) \`
abbrev under : ResolvedStrategy
under = scope 1 (seq (matches (variable 0)) (builds (pattern 83 (variable 0 ∷ []))))

too_high : run_whole arith 0 (body (call1 1 under)) 100000 (number_term 0) ≡ stopped big
too_high = refl

-- `repeat(?x; !S(x))`: x stays bound, so the second round fails
abbrev Z : Tree
Z = application_term (word 90) []

abbrev S : Tree → Tree
S t = application_term (word 83) (t ∷ [])

repeat_binds_once : run_whole arith 0
    (with_free 1 (call1 1 (seq (matches (variable 0)) (builds (pattern 83 (variable 0 ∷ [])))))) 100000 Z
    ≡ done (S Z) (Some Z ∷ []) 99981 (edit [] (S Z) ∷ [])
repeat_binds_once = refl

-- `addi` has no answer if the sum isn't an integer
no_sum : run_whole arith 0 (body (call1 3 (call0 5))) 100000 (Plus (number_term 9223372036854775807) (number_term 1))
    ≡ done (Plus (number_term 9223372036854775807) (number_term 1)) [] 99948 []
no_sum = refl
