-- The meaning of strategies, computed on worked rows.
use Rattle.std.specs.Prelude.{◌≡◌, refl, ℕ, pos, [], ◌∷◌, Some, None, true}
use Rattle.term_core.specs.Tree.{application, list, Tree, integer_term, list_term, with_annotations}
use Rattle.term_core.specs.declared.TheConstants.{MAX_SIZE}
use Rattle.prim_core.specs.StandardTable.{standard_signatures}
use Rattle.prim_core.specs.Standard.{standard}
use Rattle.strategy_syntax.specs.Resolved.{variable, number, compound, with_tail, annotated, resolved_patterns_of, ResolvedStrategy, id, fail, matches, builds, seq, guard, scope, param, call, congruence, tail_congruence, all, one, some, child, rec, prim, test, wildcard, at, resolveds_of}
use Rattle.strategy_meaning.specs.Answer.{Answer, done, failed, stopped, spent, big}
use Rattle.strategy_meaning.specs.Laws.{in_room}
use Rattle.strategy_meaning.specs.Meaning.{World, run_whole}
use Rattle.strategy_meaning.proofs.RowTerms.{edit, A, B, D, F, G, A1, both_with, both, pattern, to_A, to_B, cong, or_else, call1, call0, with_free, body}

-- try, topdown, map, and `wrap(|x) = !G(x)`
abbrev library : World
library = record {
  bodies = body (or_else (param 0) id)
      ∷ (body (seq (param 0) (all (call1 1 (param 0))))
      ∷ (body (or_else (congruence list (resolveds_of []))
      (tail_congruence (resolveds_of (param 0 ∷ [])) (call1 2 (param 0))))
      ∷ (body (builds (pattern 71 (variable 0 ∷ []))) ∷ [])));
  primitives = standard_signatures;
  meaning = standard;
  room = MAX_SIZE;
}

-- with this many steps at the root, and this many free variables
abbrev answer : ℕ → ResolvedStrategy → ℕ → Tree → Answer
answer n s b t = run_whole library 0 (with_free n s) b t

-- `(!b; fail) <+ id`: b has no binding
unbound_variable : answer 1 (or_else (seq (builds (variable 0)) fail) id) 100 (G A) ≡ done (G A) (None ∷ []) 96 []
unbound_variable = refl

-- `(F(!B(), id); !A(); fail) <+ F(id, !B())`
failed_branch_leaves_the_term : answer 0
    (or_else (seq (cong 70 (to_B ∷ (id ∷ []))) (seq to_A fail)) (cong 70 (id ∷ (to_B ∷ [])))) 100 (F A A)
    ≡ done (F A B) [] 89 (edit (1 ∷ []) B ∷ [])
failed_branch_leaves_the_term = refl

-- `(?x; fail) <+ !x`, `id < fail + id`
failed_branch_leaves_the_bindings : answer 1 (or_else (seq (matches (variable 0)) fail) (builds (variable 0))) 100 A
    ≡ failed 95
failed_branch_leaves_the_bindings = refl

guard_fails_with_its_second : answer 0 (guard id fail id) 100 A ≡ failed 97
guard_fails_with_its_second = refl

-- `all(fail)`, `oneid`, `someid` without children
all_without_children : answer 0 (all fail) 100 A ≡ done A [] 99 []
all_without_children = refl

one_without_children : answer 0 (one id) 100 A ≡ failed 99
one_without_children = refl

some_without_children : answer 0 (some id) 100 A ≡ failed 99
some_without_children = refl

-- `try(?x); !F(x,x)`
argument_binds_for_its_caller : answer 1
    (seq (call1 0 (matches (variable 0))) (builds (pattern 70 (variable 0 ∷ (variable 0 ∷ []))))) 100 A
    ≡ done (F A A) (Some A ∷ []) 93 (edit [] (F A A) ∷ [])
argument_binds_for_its_caller = refl

-- `topdownid` takes 5 steps for each node
spent_below_the_budget : answer 0 (call1 1 id) 9 (G A) ≡ stopped spent
spent_below_the_budget = refl

spent_exactly : answer 0 (call1 1 id) 10 (G A) ≡ done (G A) [] 0 []
spent_exactly = refl

one_step : answer 0 (seq fail id) 1 A ≡ stopped spent
one_step = refl

two_steps : answer 0 (seq fail id) 2 A ≡ failed 0
two_steps = refl

-- `{x,y: ?F(x,y); prim("addi",x,y)}`
sum : answer 0 (scope 2 (seq (matches (pattern 70 (variable 0 ∷ (variable 1 ∷ [])))) (prim 0
    (resolved_patterns_of (variable 0 ∷ (variable 1 ∷ [])))))) 100 (F (integer_term (pos 2)) (integer_term (pos 3)))
    ≡ done (integer_term (pos 5)) [] 96 (edit [] (integer_term (pos 5)) ∷ [])
sum = refl

-- at a level at which nothing fits
nothing_fits_there : run_whole library 1000 (body to_A) 100 B ≡ stopped big
nothing_fits_there = refl

more_annotations : answer 0 (matches (annotated (pattern 65 []) (resolved_patterns_of (number (pos 1) ∷ [])))) 100
    (with_annotations A (integer_term (pos 1) ∷ (integer_term (pos 2) ∷ []))) ≡ failed 99
more_annotations = refl

more_children : answer 0 (matches (pattern 70 (wildcard ∷ []))) 100 (F A A) ≡ failed 99
more_children = refl

annotations_not_looked_at : answer 0 (matches (pattern 65 [])) 100 A1 ≡ done A1 [] 99 []
annotations_not_looked_at = refl

annotations_differ : answer 0 (matches (annotated (pattern 65 []) (resolved_patterns_of (number (pos 2) ∷ [])))) 100 A1
    ≡ failed 99
annotations_differ = refl

variable_met_again_with_annotations : answer 1 (matches (pattern 70 (variable 0 ∷ (variable 0 ∷ [])))) 100 (F A1 A)
    ≡ failed 99
variable_met_again_with_annotations = refl

map_keeps_annotations : answer 0 (call1 2 to_B) 100 (both A)
    ≡ done (both B) [] 84 (edit (0 ∷ []) B ∷ (edit [] (both B) ∷ []))
map_keeps_annotations = refl

rest_is_no_list : answer 0 (tail_congruence (resolveds_of (id ∷ [])) to_A) 100 (both B) ≡ failed 97
rest_is_no_list = refl

-- `rec x(G(x) <+ !B())`
recursion : answer 0 (rec (or_else (cong 71 (param 0 ∷ [])) to_B)) 100 (G (G A))
    ≡ done (G (G B)) [] 86 (edit (0 ∷ (0 ∷ [])) B ∷ [])
recursion = refl

-- `0id`, `2(!B())`, `3id`
child_0 : answer 0 (child 0 id) 100 (F A A) ≡ failed 99
child_0 = refl

child_2 : answer 0 (child 2 to_B) 100 (F A A) ≡ done (F A B) [] 98 (edit (1 ∷ []) B ∷ [])
child_2 = refl

child_3 : answer 0 (child 3 id) 100 (F A A) ≡ failed 99
child_3 = refl

-- `?[x|y]; ![y,x|y]`
tails : answer 2 (seq (matches (with_tail (resolved_patterns_of (variable 0 ∷ [])) (variable 1)))
    (builds (with_tail (resolved_patterns_of (variable 1 ∷ (variable 0 ∷ []))) (variable 1)))) 100 (both A)
    ≡ done (list_term (list_term (A ∷ []) ∷ (A ∷ (A ∷ [])))) (Some A ∷ (Some (list_term (A ∷ [])) ∷ [])) 97
    (edit [] (list_term (list_term (A ∷ []) ∷ (A ∷ (A ∷ [])))) ∷ [])
tails = refl

-- `?[x|y]` binds y to a list without annotations, even if the list has some
noted_list : answer 2
    (seq (matches (with_tail (resolved_patterns_of (variable 0 ∷ [])) (variable 1))) (builds (variable 1))) 100 (both A)
    ≡ done (list_term (A ∷ [])) (Some A ∷ (Some (list_term (A ∷ [])) ∷ [])) 97 (edit [] (list_term (A ∷ [])) ∷ [])
noted_list = refl

-- a tail that is no list, and a pattern with more elements than the list
tail_is_no_list : answer 1 (seq (matches (variable 0)) (builds (with_tail (resolved_patterns_of []) (variable 0)))) 100
    A ≡ failed 97
tail_is_no_list = refl

list_too_short : answer 1
    (matches (with_tail (resolved_patterns_of (wildcard ∷ (wildcard ∷ (wildcard ∷ [])))) (variable 0))) 100 (both A)
    ≡ failed 99
list_too_short = refl

-- `?x@A()`, `?x{1}`: with its annotations, and without
named : answer 1 (matches (at 0 (pattern 65 []))) 100 A1 ≡ done A1 (Some A1 ∷ []) 99 []
named = refl

bare_binding : answer 1 (matches (annotated (variable 0) (resolved_patterns_of (number (pos 1) ∷ [])))) 100 A1
    ≡ done A1 (Some A ∷ []) 99 []
bare_binding = refl

-- `!A(){1}` on any term, `?x; !x{}`
built_with_annotations : answer 0 (builds (annotated (pattern 65 []) (resolved_patterns_of (number (pos 1) ∷ [])))) 100
    B ≡ done A1 [] 99 (edit [] A1 ∷ [])
built_with_annotations = refl

built_without_annotations : answer 1
    (seq (matches (variable 0)) (builds (annotated (variable 0) (resolved_patterns_of [])))) 100 A1
    ≡ done A (Some A1 ∷ []) 97 (edit [] A ∷ [])
built_without_annotations = refl

-- a variable keeps its annotations when it is built
binding_keeps_annotations : answer 1 (seq (matches (variable 0)) (builds (pattern 71 (variable 0 ∷ [])))) 100 A1
    ≡ done (G A1) (Some A1 ∷ []) 97 (edit [] (G A1) ∷ [])
binding_keeps_annotations = refl

-- `![x|x]` keeps the annotations of an element and drops those of a tail
tail_drops_annotations : answer 1
    (seq (matches (variable 0)) (builds (with_tail (resolved_patterns_of (variable 0 ∷ [])) (variable 0)))) 100 (both A)
    ≡ done (list_term (both A ∷ (A ∷ (A ∷ [])))) (Some (both A) ∷ []) 97
    (edit [] (list_term (both A ∷ (A ∷ (A ∷ [])))) ∷ [])
tail_drops_annotations = refl

-- `?x@A(){1}` binds x to the term with its annotations; `?A(){}` matches none
named_with_annotations : answer 1
    (matches (at 0 (annotated (pattern 65 []) (resolved_patterns_of (number (pos 1) ∷ []))))) 100 A1
    ≡ done A1 (Some A1 ∷ []) 99 []
named_with_annotations = refl

no_annotations : answer 0 (matches (annotated (pattern 65 []) (resolved_patterns_of []))) 100 A1 ≡ failed 99
no_annotations = refl

-- `!_` and `!x@A()` build nothing
wild_builds_nothing : answer 0 (builds wildcard) 100 A ≡ failed 99
wild_builds_nothing = refl

named_builds_nothing : answer 1 (seq (matches (variable 0)) (builds (at 0 (pattern 65 [])))) 100 A ≡ failed 97
named_builds_nothing = refl

-- `test(?x; !B())`: the bindings stay, the term is the original one
test_keeps_bindings : answer 1 (test (seq (matches (variable 0)) to_B)) 100 A ≡ done A (Some A ∷ []) 96 []
test_keeps_bindings = refl

-- `some(?A(); !B())` on F(B,A) and F(A,A), `one` on F(A,A) and F(B,A), `all` on F(A,B)
abbrev A_to_B : ResolvedStrategy
A_to_B = seq (matches (pattern 65 [])) to_B

some_leaves_others : answer 0 (some A_to_B) 100 (F B A) ≡ done (F B B) [] 94 (edit (1 ∷ []) B ∷ [])
some_leaves_others = refl

some_takes_all : answer 0 (some A_to_B) 100 (F A A) ≡ done (F B B) [] 93 (edit (0 ∷ []) B ∷ (edit (1 ∷ []) B ∷ []))
some_takes_all = refl

one_takes_the_first : answer 0 (one A_to_B) 100 (F A A) ≡ done (F B A) [] 96 (edit (0 ∷ []) B ∷ [])
one_takes_the_first = refl

one_goes_on : answer 0 (one A_to_B) 100 (F B A) ≡ done (F B B) [] 94 (edit (1 ∷ []) B ∷ [])
one_goes_on = refl

all_fails_with_one : answer 0 (all A_to_B) 100 (F A B) ≡ failed 94
all_fails_with_one = refl

-- bindings made at a child on which it failed are dropped: `one(?x; ?A())` and `some(?x; ?A())` on
-- F(B,A)
abbrev bound_A : ResolvedStrategy
bound_A = seq (matches (variable 0)) (matches (pattern 65 []))

one_forgets_failed_children : answer 1 (one bound_A) 100 (F B A) ≡ done (F B A) (Some A ∷ []) 93 []
one_forgets_failed_children = refl

some_forgets_failed_children : answer 1 (some bound_A) 100 (F B A) ≡ done (F B A) (Some A ∷ []) 93 []
some_forgets_failed_children = refl

-- `F(?x,?x)` passes the bindings from child to child
congruence_hands_bindings_on : answer 1 (cong 70 (matches (variable 0) ∷ (matches (variable 0) ∷ []))) 100 (F A A1)
    ≡ failed 97
congruence_hands_bindings_on = refl

-- `all(id)` has no edits, nor has `test(all(!B()))`
all_without_edits : answer 0 (all id) 100 (F A B) ≡ done (F A B) [] 97 []
all_without_edits = refl

test_without_edits : answer 0 (test (all to_B)) 100 (F A A) ≡ done (F A A) [] 96 []
test_without_edits = refl

-- `test(all(!B()); ?F(x,y)); !D(x,y)`: bindings made in a test are of the changed term
test_binds_changed_terms : answer 2 (seq (test (seq (all to_B) (matches (pattern 70 (variable 0 ∷ (variable 1 ∷ []))))))
    (builds (pattern 68 (variable 0 ∷ (variable 1 ∷ []))))) 100 (F A A)
    ≡ done (D B B) (Some B ∷ (Some B ∷ [])) 92 (edit [] (D B B) ∷ [])
test_binds_changed_terms = refl

-- steps of a failed side stay used
steps_stay_used : answer 0 (or_else (seq id (seq id fail)) id) 100 A ≡ done A [] 93 []
steps_stay_used = refl

-- children are one level deeper, a tail strategy isn't
at_level_998 : run_whole library 998 (body (all to_A)) 100 (G B) ≡ done (G A) [] 98 (edit (0 ∷ []) A ∷ [])
at_level_998 = refl

at_level_999 : run_whole library 999 (body (all to_A)) 100 (G B) ≡ stopped big
at_level_999 = refl

one_at_level_999 : run_whole library 999 (body (one to_A)) 100 (G B) ≡ stopped big
one_at_level_999 = refl

some_at_level_999 : run_whole library 999 (body (some to_A)) 100 (G B) ≡ stopped big
some_at_level_999 = refl

child_at_level_999 : run_whole library 999 (body (child 1 to_A)) 100 (G B) ≡ stopped big
child_at_level_999 = refl

congruence_at_level_999 : run_whole library 999 (body (cong 71 (to_A ∷ []))) 100 (G B) ≡ stopped big
congruence_at_level_999 = refl

elements_at_level_999 : run_whole library 999 (body (tail_congruence (resolveds_of (to_B ∷ [])) id)) 100 (both A)
    ≡ stopped big
elements_at_level_999 = refl

tail_at_its_level : run_whole library 998 (body (tail_congruence (resolveds_of (id ∷ [])) (all to_B))) 100 (both A)
    ≡ done (both_with A B) [] 96 (edit [] (both_with A B) ∷ [])
tail_at_its_level = refl

-- `wrap(|A())`, an argument that can't be built, one that doesn't fit, a definition there isn't
term_argument : answer 0 (call 3 (resolveds_of []) (resolved_patterns_of (pattern 65 [] ∷ []))) 100 B
    ≡ done (G A) [] 98 (edit [] (G A) ∷ [])
term_argument = refl

argument_not_built : answer 1 (call 3 (resolveds_of []) (resolved_patterns_of (variable 0 ∷ []))) 100 B ≡ failed 99
argument_not_built = refl

argument_too_big : run_whole library 1000
    (body (call 3 (resolveds_of []) (resolved_patterns_of (pattern 65 [] ∷ [])))) 100 B ≡ stopped big
argument_too_big = refl

no_such_definition : answer 0 (call0 9) 100 B ≡ failed 99
no_such_definition = refl

-- `prim("gti",2,1)` at level 999: the answer doesn't fit
answer_too_big : run_whole library 999
    (body (prim 4 (resolved_patterns_of (number (pos 2) ∷ (number (pos 1) ∷ []))))) 100 B ≡ stopped big
answer_too_big = refl

no_answer : answer 0 (prim 4 (resolved_patterns_of (number (pos 1) ∷ (number (pos 1) ∷ [])))) 100 B ≡ failed 99
no_answer = refl

-- a scope's variable is new inside and gone afterwards
scope_is_left : answer 1 (seq (scope 1 (matches (variable 1))) (matches (variable 0))) 100 A
    ≡ done A (Some A ∷ []) 96 []
scope_is_left = refl

-- `{y: ?y}; !B(); ?x`: the binding of y doesn't affect x
scope_is_new : answer 1 (seq (scope 1 (matches (variable 1))) (seq to_B (matches (variable 0)))) 100 A
    ≡ done B (Some B ∷ []) 94 (edit [] B ∷ [])
scope_is_new = refl

-- a congruence tests the head and the number of children; words and quoted names differ
other_number_of_children : answer 0 (cong 70 (id ∷ [])) 100 (F A A) ≡ failed 99
other_number_of_children = refl

other_head : answer 0 (congruence list (resolveds_of (id ∷ (id ∷ [])))) 100 (F A A) ≡ failed 99
other_head = refl

quoted_name : answer 0
    (matches (compound (application (record { text = 65 ∷ []; is_quoted = true })) (resolved_patterns_of []))) 100 A
    ≡ failed 99
quoted_name = refl

-- `[id|?x]` binds x to the list of the rest, which has no annotations
rest_has_no_annotations : answer 1 (tail_congruence (resolveds_of (id ∷ [])) (matches (variable 0))) 100 (both A)
    ≡ done (both A) (Some (list_term (A ∷ [])) ∷ []) 97 (edit [] (both A) ∷ [])
rest_has_no_annotations = refl

-- `[!B()|![B(),B()]{2}]`: the list's own annotations stay, those of the new rest are dropped
abbrev three : Tree
three = with_annotations (list_term (B ∷ (B ∷ (B ∷ [])))) (integer_term (pos 1) ∷ [])

rest_is_replaced : answer 0 (tail_congruence (resolveds_of (to_B ∷ []))
    (builds (annotated (compound list (resolved_patterns_of (pattern 66 [] ∷ (pattern 66 [] ∷ []))))
    (resolved_patterns_of (number (pos 2) ∷ []))))) 100 (both A)
    ≡ done three [] 97 (edit (0 ∷ []) B ∷ (edit [] three ∷ []))
rest_is_replaced = refl

-- `child` counts from 1 and keeps the root's annotations
child_1 : answer 0 (child 1 to_B) 100 (both A) ≡ done (both_with B A) [] 98 (edit (0 ∷ []) B ∷ [])
child_1 = refl

-- the term parameter of a definition is not its caller's variable
own_parameter : answer 1
    (seq (matches (variable 0)) (call 3 (resolveds_of []) (resolved_patterns_of (pattern 66 [] ∷ [])))) 100 A
    ≡ done (G B) (Some A ∷ []) 96 (edit [] (G B) ∷ [])
own_parameter = refl

-- `rec x((?A(); !B()) <+ rec y(G(x)))`: names count from the outermost
outer_name : answer 0 (rec (or_else A_to_B (rec (cong 71 (param 0 ∷ []))))) 100 (G A)
    ≡ done (G B) [] 87 (edit (0 ∷ []) B ∷ [])
outer_name = refl

-- a world in which a definition does nothing, and a primitive always has an answer
abbrev idle : World
idle = record {
  bodies = body id ∷ [];
  primitives = standard_signatures;
  meaning = λ name us. Some A;
  room = MAX_SIZE;
}

-- an argument is tested even if nothing is built from it
idle_argument_too_big : run_whole idle 1000
    (body (call 0 (resolveds_of []) (resolved_patterns_of (pattern 65 [] ∷ [])))) 100 B
    ≡ stopped big
idle_argument_too_big = refl

-- `!G(A())` where there is room for one term, and where there is for two
no_room : run_whole (in_room 1 library) 0 (body (builds (pattern 71 (pattern 65 [] ∷ [])))) 1 B ≡ stopped big
no_room = refl

room_enough : run_whole (in_room 2 library) 0 (body (builds (pattern 71 (pattern 65 [] ∷ [])))) 1 B
    ≡ done (G A) [] 0 (edit [] (G A) ∷ [])
room_enough = refl

-- a primitive takes exactly its number of terms
other_number_of_terms : run_whole idle 0 (body (prim 0 (resolved_patterns_of (number (pos 1) ∷ [])))) 100 B ≡ failed 99
other_number_of_terms = refl
