-- What one reasons with about strategies.
use Rattle.std.proofs.Common.{append-nil, ◌≡◌, ℕ, ◌+◌, zero, suc, Bool, true, false, List, [], ◌∷◌, length, replicate, refl, sym, ap, ◌∙◌, subst, slice_get, Some, None}
use Rattle.std.specs.declared.option.Option.{Option}
use Rattle.std.specs.Prelude.{cond}
use Rattle.term_core.specs.Tree.{Tree, integer, branch, children, annotations, with_children, with_child}
use Rattle.term_paths.specs.Edits.{Edits, prefixed}
use Rattle.strategy_syntax.specs.Resolved.{ResolvedStrategy, id, fail, seq, guard, test, congruence, tail_congruence, all, one, some, child, resolved_list}
use Rattle.strategy_meaning.specs.Matching.{Bindings, elements}
use Rattle.strategy_meaning.specs.Scopes.{Scope}
use Rattle.strategy_meaning.specs.Answer.{Answer, done, failed, stopped, IfDone, Act, either, if_done, with_edits, and_then, at_root}
use Rattle.strategy_meaning.specs.Meaning.{World, run, form, with_some, on_child, each, leftmost, those_done, on_child_number, rest_of, with_rest, on_rest}
use Rattle.strategy_meaning.specs.Laws.{IdFirst, IdLast, FailFirst, ChoiceGoesOn, WhereLeaves, TraversalsKeepAnnotations}
use Rattle.strategy_meaning.proofs.StepLemmas.{one_step_is_one_form}

-- ---- sequences and choices

no_edits_before : (a : Answer) → with_edits [] a ≡ a
no_edits_before (done t B b e) = refl
no_edits_before (failed b) = refl
no_edits_before (stopped why) = refl

pub id_first : IdFirst
id_first W E l s b B t =
    one_step_is_one_form W E l (seq id s) (suc b) B t
    ∙ ap (λ a. and_then a (run W E l s)) (one_step_is_one_form W E l id b B t)
    ∙ no_edits_before (run W E l s b B t)

pub id_last : IdLast
id_last W E l s b B t = (
  λ u B1 c e is.
      one_step_is_one_form W E l (seq s id) b B t
      ∙ ap (λ a. and_then a (run W E l id)) is
      ∙ ap (with_edits e) (one_step_is_one_form W E l id c B1 u)
      ∙ ap (done u B1 c) (append-nil e),
  λ c is. one_step_is_one_form W E l (seq s id) b B t ∙ ap (λ a. and_then a (run W E l id)) is,
)

pub fail_first : FailFirst
fail_first W E l s b B t =
    one_step_is_one_form W E l (seq fail s) (suc b) B t
    ∙ ap (λ a. and_then a (run W E l s)) (one_step_is_one_form W E l fail b B t)

pub choice_goes_on : ChoiceGoesOn
choice_goes_on W E l s1 s2 s3 b c B t is =
    one_step_is_one_form W E l (guard s1 s2 s3) b B t
    ∙ ap (λ a. either a (λ t1 B1 b1 e. with_edits e (run W E l s2 b1 B1 t1)) (λ b1. run W E l s3 b1 B t)) is

-- ---- what holds of an answer with one more step

-- if there is a step; without one it is spent
from_form : (P : Tree → Bindings → ℕ → Edits → Type 0) (W : World) (E : Scope) (l : ℕ) (s : ResolvedStrategy) (b : ℕ)
    (B : Bindings) (t : Tree)
    → ((c : ℕ) → IfDone (form W (run W) E l s c B t) P) → IfDone (run W E l s b B t) P
from_form P W E l s zero B t h = tt
from_form P W E l s (suc c) B t h = subst (λ a. IfDone a P) (sym (one_step_is_one_form W E l s c B t)) (h c)

test_leaves : (a : Answer) (t : Tree) → IfDone (if_done a (λ t1 B1 b e. done t B1 b [])) (λ u B b e. (u ≡ t) × (e ≡ []))
test_leaves (done u B b e) t = (refl, refl)
test_leaves (failed b) t = tt
test_leaves (stopped why) t = tt

pub where_leaves : WhereLeaves
where_leaves W E l s b B t = from_form _ W E l (test s) b B t (λ c. test_leaves (run W E l s c B t) t)

-- ---- annotations at the root

abbrev Kept : Tree → Answer → Type 0
Kept t a = IfDone a (λ u B b e. annotations u ≡ annotations t)

with_children-annotations : (t : Tree) (us : List Tree) → annotations (with_children t us) ≡ annotations t
with_children-annotations (integer z notes) us = refl
with_children-annotations (branch h kids notes) us = refl

either-kept : (t : Tree) (a : Answer) (go : Tree → Bindings → ℕ → Edits → Answer) (back : ℕ → Answer) → Kept t a
    → ((u : Tree) (B : Bindings) (b : ℕ) (e : Edits) → annotations u ≡ annotations t → Kept t (go u B b e))
    → ((b : ℕ) → Kept t (back b)) → Kept t (either a go back)
either-kept t (done u B b e) go back h g k = g u B b e h
either-kept t (failed b) go back h g k = k b
either-kept t (stopped why) go back h g k = tt

edits-kept : (t : Tree) (e : Edits) (a : Answer) → Kept t a → Kept t (with_edits e a)
edits-kept t e (done u B b f) h = h
edits-kept t e (failed b) h = tt
edits-kept t e (stopped why) h = tt

-- for a term with the same annotations
other-kept : (t u : Tree) (a : Answer) → annotations u ≡ annotations t → Kept u a → Kept t a
other-kept t u (done v B b e) is h = h ∙ is
other-kept t u (failed b) is h = tt
other-kept t u (stopped why) is h = tt

child-kept : (t : Tree) (i : ℕ) (a : Answer) (f : Edits → Edits) → Kept t
    (if_done a (λ v B b e. done (with_child t i v) B b (f e)))
child-kept t i (done v B b e) f = with_children-annotations t _
child-kept t i (failed b) f = tt
child-kept t i (stopped why) f = tt

one-kept : (act : Act) (i c : ℕ) (B : Bindings) (t : Tree) → Kept t (on_child act i c B t)
one-kept act i c B t =
    elim (slice_get (children t) i) as (λ o. Kept t
    (with_some o c (λ u. if_done (act c B u) (λ v B1 b e. done (with_child t i v) B1 b (prefixed (i ∷ []) e))))) [
      | None ↦ tt
      | Some u ↦ child-kept t i (act c B u) (prefixed (i ∷ []))
    ]

each-kept : (act : ResolvedStrategy → Act) (ss : List ResolvedStrategy) (i c : ℕ) (B : Bindings) (t : Tree)
    → Kept t (each act ss i c B t)
each-kept act [] i c B t = refl
each-kept act (s ∷ ss) i c B t =
    either-kept t (on_child (act s) i c B t) _ _ (one-kept (act s) i c B t)
    (λ u B1 b e is. edits-kept t e _ (other-kept t u _ is (each-kept act ss (i + 1) b B1 u))) (λ b. tt)

leftmost-kept : (act : Act) (n i c : ℕ) (B : Bindings) (t : Tree) → Kept t (leftmost act n i c B t)
leftmost-kept act zero i c B t = tt
leftmost-kept act (suc n) i c B t =
    either-kept t (on_child act i c B t) _ _ (one-kept act i c B t) (λ u B1 b e is. is)
    (λ b. leftmost-kept act n (i + 1) b B t)

those-kept : (act : Act) (n : ℕ) (any : Bool) (i c : ℕ) (B : Bindings) (t : Tree)
    → Kept t (those_done act n any i c B t)
those-kept act zero true i c B t = refl
those-kept act zero false i c B t = tt
those-kept act (suc n) any i c B t =
    either-kept t (on_child act i c B t) _ _ (one-kept act i c B t)
    (λ u B1 b e is. edits-kept t e _ (other-kept t u _ is (those-kept act n true (i + 1) b B1 u)))
    (λ b. those-kept act n any (i + 1) b B t)

number-kept : (act : Act) (n c : ℕ) (B : Bindings) (t : Tree) → Kept t (on_child_number act n c B t)
number-kept act zero c B t = tt
number-kept act (suc i) c B t = one-kept act i c B t

some-kept : (t : Tree) (o : Option (List Tree)) (c : ℕ) (B : Bindings) (n : ℕ)
    → Kept t (with_some o c (λ us. done (with_rest n t us) B c (at_root (with_rest n t us))))
some-kept t None c B n = tt
some-kept t (Some us) c B n = with_children-annotations t _

rest-kept : (act : Act) (n c : ℕ) (B : Bindings) (t : Tree) → Kept t (on_rest act n c B t)
rest-kept act n c B t = by (act c B (rest_of n t)) where
  by : (a : Answer) → Kept t (if_done a
      (λ u B1 b e. with_some (elements u) b (λ us. done (with_rest n t us) B1 b (at_root (with_rest n t us)))))
  by (done u B1 b e) = some-kept t (elements u) b B1 n
  by (failed b) = tt
  by (stopped why) = tt

where_it_holds : (t : Tree) (v : Bool) (a : Answer) (c : ℕ) → Kept t a → Kept t (cond v a (failed c))
where_it_holds t true a c h = h
where_it_holds t false a c h = tt

pub traversals_keep_annotations : TraversalsKeepAnnotations
traversals_keep_annotations W h ss s n = (
  λ E l b B t. from_form _ W E l (congruence h ss) b B t
      (λ c. where_it_holds t _ _ c (each-kept _ (resolved_list ss) 0 c B t)),
  λ E l b B t. from_form _ W E l (tail_congruence ss s) b B t
      (λ c. where_it_holds t _ _ c (either-kept t _ _ _ (each-kept _ (resolved_list ss) 0 c B t)
      (λ u B1 b1 e is. edits-kept t e _
      (other-kept t u _ is (rest-kept (run W E l s) (length (resolved_list ss)) b1 B1 u))) (λ b1. tt))),
  λ E l b B t. from_form _ W E l (all s) b B t (λ c. each-kept _ (replicate (length (children t)) s) 0 c B t),
  λ E l b B t. from_form _ W E l (one s) b B t (λ c. leftmost-kept _ (length (children t)) 0 c B t),
  λ E l b B t. from_form _ W E l (some s) b B t (λ c. those-kept _ (length (children t)) false 0 c B t),
  λ E l b B t. from_form _ W E l (child n s) b B t (λ c. number-kept _ n c B t),
)
