-- Calls, scopes and `rec`, computed on worked rows.
use Rattle.std.specs.Prelude.{◌≡◌, refl, ℕ, [], ◌∷◌, Some}
use Rattle.term_core.specs.Tree.{Tree}
use Rattle.term_core.specs.declared.TheConstants.{MAX_SIZE}
use Rattle.prim_core.specs.StandardTable.{standard_signatures}
use Rattle.prim_core.specs.Standard.{standard}
use Rattle.strategy_syntax.specs.Resolved.{variable, resolved_patterns_of, ResolvedStrategy, id, fail, matches, builds, seq, guard, scope, param, call, rec, prim, test, resolveds_of}
use Rattle.strategy_meaning.specs.Answer.{Answer, done, failed, stopped, spent, big}
use Rattle.strategy_meaning.specs.Meaning.{World, run_whole}
use Rattle.strategy_meaning.proofs.RowTerms.{edit, A, B, F, G, pattern, to_A, to_B, cong, or_else, call1, call0, with_free, body}

-- 0 `f = fail <+ id`, 1 `k(s) = {y: ?y; s; !F(y,y)}`, 2 `h(s|p) = s; !F(p,p)`, 3 `try(s) = s <+ id`
abbrev definitions : World
definitions = record {
  bodies = body (or_else fail id)
      ∷ (body
      (scope 1 (seq (matches (variable 0)) (seq (param 0) (builds (pattern 70 (variable 0 ∷ (variable 0 ∷ [])))))))
      ∷ (body (seq (param 0) (builds (pattern 70 (variable 0 ∷ (variable 0 ∷ [])))))
      ∷ (body (or_else (param 0) id) ∷ [])));
  primitives = standard_signatures;
  meaning = standard;
  room = MAX_SIZE;
}

abbrev answer : ℕ → ResolvedStrategy → ℕ → Tree → Answer
answer n s b t = run_whole definitions 0 (with_free n s) b t

call_spent : answer 0 (call0 0) 3 A ≡ stopped spent
call_spent = refl

call_in_four_steps : answer 0 (call0 0) 4 A ≡ done A [] 0 []
call_in_four_steps = refl

-- `k({z: !B(); ?z})`: a scope inside an argument has cells of its own
scope_in_an_argument : answer 0 (call1 1 (scope 1 (seq to_B (matches (variable 0))))) 100 A
    ≡ done (F A A) [] 89 (edit [] B ∷ (edit [] (F A A) ∷ []))
scope_in_an_argument = refl

-- `h(?x|B()); !G(x)`: an argument binds for its caller, who keeps the binding after the call
argument_and_term : answer 1
    (seq (call 2 (resolveds_of (matches (variable 0) ∷ [])) (resolved_patterns_of (pattern 66 [] ∷ [])))
    (builds (pattern 71 (variable 0 ∷ [])))) 100 A
    ≡ done (G A) (Some A ∷ []) 93 (edit [] (F B B) ∷ (edit [] (G A) ∷ []))
argument_and_term = refl

-- `rec x(G(try(x)) <+ !B())`: a name that is passed on alone
name_handed_on : answer 0 (rec (or_else (cong 71 (call1 3 (param 0) ∷ [])) to_B)) 100 (G A)
    ≡ done (G B) [] 88 (edit (0 ∷ []) B ∷ [])
name_handed_on = refl

-- arguments are built and tested one by one, the whole instance of a build before it is tested:
-- `prim("addi",A(),x)`, `prim("addi",x,A())` and `!F(A(),x)` at level 1000
first_too_big : run_whole definitions 1000
    (with_free 1 (prim 0 (resolved_patterns_of (pattern 65 [] ∷ (variable 0 ∷ []))))) 100 B ≡ stopped big
first_too_big = refl

first_not_built : run_whole definitions 1000
    (with_free 1 (prim 0 (resolved_patterns_of (variable 0 ∷ (pattern 65 [] ∷ []))))) 100 B ≡ failed 99
first_not_built = refl

instance_before_its_size : run_whole definitions 1000
    (with_free 1 (builds (pattern 70 (pattern 65 [] ∷ (variable 0 ∷ []))))) 100 B ≡ failed 99
instance_before_its_size = refl

-- `{: rec x(test(try(!A())) < !A() + fail)}` at level 999, where only a leaf fits: everything is at
-- the level of the whole
one_level : run_whole definitions 999 (body (scope 0 (rec (guard (test (call1 3 to_A)) to_A fail)))) 100 B
    ≡ done A [] 90 (edit [] A ∷ [])
one_level = refl

-- `rec` alone takes a step, and each use of its name takes another
rec_without_use : answer 0 (rec id) 2 A ≡ done A [] 0 []
rec_without_use = refl

rec_never_ends : answer 0 (rec (param 0)) 100 A ≡ stopped spent
rec_never_ends = refl
