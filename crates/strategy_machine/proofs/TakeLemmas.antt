-- What a form leads to once its step is charged.
use Rattle.std.proofs.Common.{◌≡◌, ◌<◌, ℕ, ◌+◌, ◌-◌, zero, suc, List, [], ◌∷◌, ◌++◌, length, replicate, reverse, refl, sym, ap, ◌∙◌, subst, arith, Some, None, Bool, true, false, cond, Bor, Vec, Global}
use Rattle.std.specs.declared.option.Option.{Option}
use Rattle.std.proofs.lemmas.List.{append-nil}
use Rattle.term_core.specs.Tree.{Head, Tree, children}
use Rattle.term_core.specs.Size.{fits}
use Rattle.term_paths.specs.Edits.{Edits}
use Rattle.term_changes.specs.Standing.{Standing, fresh, standing_tree}
use Rattle.strategy_syntax.specs.Resolved.{ResolvedPattern, ResolvedStrategy, matches, seq, guard, test, param, congruence, tail_congruence, all, one, some, child, rec, resolved_list, resolveds_of}
use Rattle.strategy_syntax.proofs.ResolvedLemmas.{resolved_list-resolveds_of}
use Rattle.strategy_meaning.specs.Scopes.{Scope, cells_in, stands_for, with_name}
use Rattle.strategy_meaning.specs.Matching.{Bindings, match_pattern, elements}
use Rattle.strategy_meaning.specs.Answer.{Stop, Answer, Act, done, failed, stopped, spent, big, either, with_edits, and_then, at_root}
use Rattle.strategy_meaning.specs.Meaning.{World, run, form, with_some, built, each, leftmost, those_done, on_rest, is_over, is_list_from, on_child, cut, opened}
use Rattle.strategy_meaning.proofs.StepLemmas.{one_step_is_one_form}
use Rattle.strategy_machine.specs.Table.{scopes, scope_at, NameStands, closure_of}
use Rattle.strategy_machine.specs.declared.scopes.Closure.{Closure as TableClosure}
use Rattle.term_match.specs.CellContents.{CellContents}
use Rattle.term_match.specs.Marks.{kept, mark_of, Before, Stays}
use Rattle.strategy_machine.specs.Leading.{Has, node_now, all_parts, PartsStand}
use Rattle.strategy_machine.specs.Trails.{Shows, path_of}
use Rattle.strategy_machine.specs.Frames.{Opens, Meets, acts_list}
use Rattle.strategy_machine.specs.Turns.{State, state_of, HoldsIn}
use Rattle.strategy_machine.specs.inside.Taking.{FormIn, Replaced}
use Rattle.strategy_machine.specs.inside.Endings.{AnswersIn, HasCells, with_those}
use Rattle.strategy_machine.specs.declared.machine.Machine.{Machine}
use Rattle.strategy_machine.specs.declared.trail.Trail.{Trail}
use Rattle.strategy_machine.specs.declared.frames.Acts.{Acts}
use Rattle.strategy_machine.specs.declared.frames.Acts.TheVariants.{Same, List as Listed}
use Rattle.strategy_machine.specs.declared.frames.Frame.{Frame}
use Rattle.strategy_machine.specs.declared.frames.Frame.TheVariants.{Then, Choose, Restore, Tail}
use Rattle.strategy_machine.specs.Hands.{Hand, Begin, Done, Failed, Each, Leftmost, Those}
use Rattle.strategy_machine.proofs.LeadLemmas.{leads_fresh}
use Rattle.strategy_machine.proofs.NodeLeads.{none_stand}
use Rattle.strategy_machine.proofs.ScopeLemmas.{one_more_there, one_more_is}
use Rattle.strategy_machine.proofs.LengthLemmas.{run_has}
use Rattle.strategy_machine.proofs.EndingLemmas.{form_answers, begun, along}
use Rattle.strategy_machine.proofs.OpenLemmas.{with_edits-none, with_edits-and_then, and_then-done, opens_along, opens_through, opens_on, opens_new, before_self, opens_kept, meets_stopped}

-- the same state with other frames
abbrev pub framed : State → List Frame → State
framed S fs =
    record { cells = S.cells; scopes = S.scopes; trail = S.trail; level = S.level; frames = fs; steps = S.steps }

pub with_frames : (W : World) (sub : Standing) (whole : Answer) (S : State) (hand : Hand) (fs gs : List Frame)
    → gs ≡ fs → HoldsIn W sub whole (framed S fs) hand → HoldsIn W sub whole (framed S gs) hand
with_frames W sub whole S hand fs gs e h = subst (λ (x : List Frame). HoldsIn W sub whole (framed S x) hand) (sym e) h

-- ---- a step is charged

pub run_step : (W : World) (E : Scope) (l : ℕ) (s : ResolvedStrategy) (b c : ℕ) (B : Bindings) (t : Tree)
    → b ≡ c + 1 → run W E l s b B t ≡ form W (run W) E l s c B t
run_step W E l s zero c B t e = absurd (omega (arith, e))
run_step W E l s (suc b) c B t e =
    let same : b ≡ c = omega (arith, e) in rw same (one_step_is_one_form W E l s c B t)

abbrev pub paid : State → ℕ → State
paid S c = record { cells = S.cells; scopes = S.scopes; trail = S.trail; level = S.level; frames = S.frames; steps = c }

pub no_steps : (W : World) (E : Scope) (l : ℕ) (s : ResolvedStrategy) (b : ℕ) (B : Bindings) (t : Tree)
    → b ≡ 0 → run W E l s b B t ≡ stopped spent
no_steps W E l s b B t e = rw e refl

-- ---- answers of a form

abbrev answers : World → State → ResolvedStrategy → ℕ → Standing → Answer
answers W S r n p = form W (run W) (scope_at S.scopes n) S.level r S.steps S.cells.bindings (standing_tree p)

-- the form succeeds with the term itself
pub take_same : (W : World) (sub : Standing) (whole : Answer) (S : State) (r : ResolvedStrategy) (n : ℕ) (p : Standing)
    → answers W S r n p ≡ done (standing_tree p) S.cells.bindings S.steps [] → FormIn W sub whole S r n p
    → HoldsIn W sub whole S (Done p)
take_same W sub whole S r n p e h =
    record { now = p; edits = h.edits; shows = h.shows; in_hand = refl; opens = opens_along _ _ e h.opens }

pub take_failed : (W : World) (sub : Standing) (whole : Answer) (S : State) (r : ResolvedStrategy) (n : ℕ)
    (p : Standing)
    → answers W S r n p ≡ failed S.steps → FormIn W sub whole S r n p → HoldsIn W sub whole S Failed
take_failed W sub whole S r n p e h =
    record { now = p; edits = h.edits; shows = h.shows; in_hand = tt; opens = opens_along _ _ e h.opens }

pub take_stops : (W : World) (sub : Standing) (whole : Answer) (S : State) (r : ResolvedStrategy) (n : ℕ) (p : Standing)
    (w : Stop)
    → answers W S r n p ≡ stopped w → FormIn W sub whole S r n p → whole ≡ stopped w
take_stops W sub whole S r n p w e h =
    let o = opens_along _ _ e h.opens in
    meets_stopped W sub whole S.cells (mark_of S.cells) S.scopes S.level S.frames o.start o.base w o.is

abbrev pub celled : State → CellContents → State
celled S D =
    record { cells = D; scopes = S.scopes; trail = S.trail; level = S.level; frames = S.frames; steps = S.steps }

pub some_is : {A : Type 0} (o : Option A) (x : A) (c : ℕ) (go : A → Answer) → o ≡ Some x → with_some o c go ≡ go x
some_is {A = A} o x c go e = ap (λ (y : Option A). with_some y c go) e

pub none_is : {A : Type 0} (o : Option A) (c : ℕ) (go : A → Answer) → o ≡ None → with_some o c go ≡ failed c
none_is {A = A} o c go e = ap (λ (y : Option A). with_some y c go) e

pub with_cells : (W : World) (sub : Standing) (whole : Answer) (S : State) {hand : Hand} (D : CellContents)
    → D ≡ S.cells → HoldsIn W sub whole S hand → HoldsIn W sub whole (celled S D) hand
with_cells W sub whole S {hand = hand} D e h =
    subst (λ (x : CellContents). HoldsIn W sub whole (celled S x) hand) (sym e) h

-- the pattern matches, or it doesn't
pub take_matched : (W : World) (sub : Standing) (whole : Answer) (S : State) (q : ResolvedPattern) (n : ℕ)
    (p : Standing) (D : CellContents)
    → Before (mark_of S.cells) (mark_of D) → Stays (mark_of S.cells) S.cells D
    → match_pattern q (standing_tree p) (cells_in (scope_at S.scopes n)) S.cells.bindings ≡ Some D.bindings
    → FormIn W sub whole S (matches q) n p → HoldsIn W sub whole (celled S D) (Done p)
take_matched W sub whole S q n p D b st e h = record {
  now = p;
  edits = h.edits;
  shows = h.shows;
  in_hand = refl;
  opens = opens_along _ _ (some_is _ D.bindings S.steps (λ B1. done (standing_tree p) B1 S.steps []) e)
      (opens_kept W sub whole S.cells D (mark_of S.cells) (mark_of D) S.scopes S.level S.frames (path_of S.frames) p
      h.edits _ b st h.opens);
}

pub take_unmatched : (W : World) (sub : Standing) (whole : Answer) (S : State) (q : ResolvedPattern) (n : ℕ)
    (p : Standing) (D : CellContents)
    → Before (mark_of S.cells) (mark_of D) → Stays (mark_of S.cells) S.cells D
    → match_pattern q (standing_tree p) (cells_in (scope_at S.scopes n)) S.cells.bindings ≡ None
    → FormIn W sub whole S (matches q) n p → HoldsIn W sub whole (celled S D) Failed
take_unmatched W sub whole S q n p D b st e h = record {
  now = p;
  edits = h.edits;
  shows = h.shows;
  in_hand = tt;
  opens = opens_along _ _ (none_is _ S.steps (λ B1. done (standing_tree p) B1 S.steps []) e)
      (opens_kept W sub whole S.cells D (mark_of S.cells) (mark_of D) S.scopes S.level S.frames (path_of S.frames) p
      h.edits _ b st h.opens);
}

-- ---- edits

-- the focus is replaced by another term
pub puts : (W : World) (sub : Standing) (whole : Answer) (S : State) (p q : Standing) (T : Edits) (u : Tree)
    (trail : Trail)
    → q ≡ fresh u → Shows trail (T ++ record { path = path_of S.frames; new = u } ∷ [])
    → Opens (Meets W sub whole S.cells (mark_of S.cells) S.scopes S.level S.frames) (path_of S.frames) p T
    (done u S.cells.bindings S.steps (at_root u))
    → HoldsIn W sub whole
    (record { cells = S.cells; scopes = S.scopes; trail = trail; level = S.level; frames = S.frames; steps = S.steps })
    (Done q)
puts W sub whole S p q T u trail e sh o = record {
  now = fresh u;
  edits = T ++ record { path = path_of S.frames; new = u } ∷ [];
  shows = sh;
  in_hand = sym e;
  opens = opens_along _ _ (ap (λ x. done (standing_tree x) S.cells.bindings S.steps []) (sym e))
      (opens_on (path_of S.frames) p (fresh u) T _ (at_root u) (done u S.cells.bindings S.steps []) (leads_fresh p u)
      (ap (λ (x : List ℕ). T ++ record { path = x; new = u } ∷ []) (sym (append-nil (path_of S.frames)))) o);
}

pub built_is : (room l c : ℕ) (u : Tree) (o : Option Tree) (go : Tree → Answer) → o ≡ Some u
    → fits room l u ≡ true → built room o l c go ≡ go u
built_is room l c u o go e f = rw (e, f) refl

pub big_is : (room l c : ℕ) (u : Tree) (o : Option Tree) (go : Tree → Answer) → o ≡ Some u
    → fits room l u ≡ false → built room o l c go ≡ stopped big
big_is room l c u o go e f = rw (e, f) refl

pub unbuilt_is : (room l c : ℕ) (o : Option Tree) (go : Tree → Answer) → o ≡ None → built room o l c go ≡ failed c
unbuilt_is room l c o go e = rw e refl

-- the form amounts to a build of u
pub take_built : (W : World) (sub : Standing) (whole : Answer) (S : State) (r : ResolvedStrategy) (n : ℕ)
    (p q : Standing) (o : Option Tree) (u : Tree) (trail : Trail)
    → answers W S r n p ≡ built W.room o S.level S.steps (λ v. done v S.cells.bindings S.steps (at_root v))
    → o ≡ Some u → fits W.room S.level u ≡ true → q ≡ fresh u
    → ((T : Edits) → Shows S.trail T → Shows trail (T ++ record { path = path_of S.frames; new = u } ∷ []))
    → FormIn W sub whole S r n p
    → HoldsIn W sub whole
    (record { cells = S.cells; scopes = S.scopes; trail = trail; level = S.level; frames = S.frames; steps = S.steps })
    (Done q)
take_built W sub whole S r n p q o u trail a e f is sh h =
    puts W sub whole S p q h.edits u trail is (sh h.edits h.shows)
    (opens_along _ _ (a ∙ built_is W.room S.level S.steps u o _ e f) h.opens)

-- ---- sequences

pub take_then : (W : World) (sub : Standing) (whole : Answer) (S : State) (s1 s2 : Bor ResolvedStrategy) (n : ℕ)
    (p : Standing)
    → FormIn W sub whole S (seq s1.now s2.now) n p
    → HoldsIn W sub whole (framed S (Then s2 n ∷ S.frames)) (Begin s1 n p)
take_then W sub whole S s1 s2 n p h = record {
  now = p;
  edits = h.edits;
  shows = h.shows;
  in_hand = (h.there, refl);
  opens = opens_through _ _ (λ start base e r. (
    h.there,
    subst (Meets W sub whole S.cells (mark_of S.cells) S.scopes S.level S.frames start base)
        (with_edits-and_then e (run W (scope_at S.scopes n) S.level s1.now S.steps S.cells.bindings (standing_tree p))
        (run W (scope_at S.scopes n) S.level s2.now)) r,
  ))
      h.opens;
}

-- a match, whose step is charged with that of the sequence, followed by a strategy
match_spent : (W : World) (E : Scope) (l : ℕ) (q : ResolvedPattern) (s : ResolvedStrategy) (b : ℕ) (B : Bindings)
    (t : Tree) → b ≡ 0
    → form W (run W) E l (seq (matches q) s) b B t ≡ stopped spent
match_spent W E l q s b B t e = ap (λ (a : Answer). and_then a (run W E l s)) (no_steps W E l (matches q) b B t e)

pub take_match_spent : (W : World) (sub : Standing) (whole : Answer) (S : State) (q : ResolvedPattern)
    (s : ResolvedStrategy) (n : ℕ) (p : Standing)
    → S.steps ≡ 0 → FormIn W sub whole S (seq (matches q) s) n p → whole ≡ stopped spent
take_match_spent W sub whole S q s n p e h =
    take_stops W sub whole S (seq (matches q) s) n p spent
    (match_spent W (scope_at S.scopes n) S.level q s S.steps S.cells.bindings (standing_tree p) e) h

pub take_matched_first : (W : World) (sub : Standing) (whole : Answer) (S : State) (q : ResolvedPattern)
    (s : Bor ResolvedStrategy) (n : ℕ) (p : Standing) (D : CellContents) (c : ℕ)
    → S.steps ≡ c + 1 → Before (mark_of S.cells) (mark_of D) → Stays (mark_of S.cells) S.cells D
    → match_pattern q (standing_tree p) (cells_in (scope_at S.scopes n)) S.cells.bindings ≡ Some D.bindings
    → FormIn W sub whole S (seq (matches q) s.now) n p → HoldsIn W sub whole (celled (paid S c) D) (Begin s n p)
take_matched_first W sub whole S q s n p D c e b st m h =
    let E = scope_at S.scopes n in
    let t = standing_tree p in
    let then : Act = run W E S.level s.now in
    record {
      now = p;
      edits = h.edits;
      shows = h.shows;
      in_hand = (h.there, refl);
      opens = opens_along _ _
          (ap (λ (a : Answer). and_then a then) (run_step W E S.level (matches q) S.steps c S.cells.bindings t e
          ∙ some_is _ D.bindings c (λ B1. done t B1 c []) m) ∙ with_edits-none (then c D.bindings t))
          (opens_kept W sub whole S.cells D (mark_of S.cells) (mark_of D) S.scopes S.level S.frames (path_of S.frames) p
          h.edits _ b st h.opens);
    }

pub take_unmatched_first : (W : World) (sub : Standing) (whole : Answer) (S : State) (q : ResolvedPattern)
    (s : ResolvedStrategy) (n : ℕ) (p : Standing) (D : CellContents) (c : ℕ)
    → S.steps ≡ c + 1 → Before (mark_of S.cells) (mark_of D) → Stays (mark_of S.cells) S.cells D
    → match_pattern q (standing_tree p) (cells_in (scope_at S.scopes n)) S.cells.bindings ≡ None
    → FormIn W sub whole S (seq (matches q) s) n p → HoldsIn W sub whole (celled (paid S c) D) Failed
take_unmatched_first W sub whole S q s n p D c e b st m h =
    let E = scope_at S.scopes n in
    let t = standing_tree p in
    record {
      now = p;
      edits = h.edits;
      shows = h.shows;
      in_hand = tt;
      opens = opens_along _ _ (ap (λ (a : Answer). and_then a (run W E S.level s))
          (run_step W E S.level (matches q) S.steps c S.cells.bindings t e ∙ none_is _ c (λ B1. done t B1 c []) m))
          (opens_kept W sub whole S.cells D (mark_of S.cells) (mark_of D) S.scopes S.level S.frames (path_of S.frames) p
          h.edits _ b st h.opens);
    }

pub take_choice : (W : World) (sub : Standing) (whole : Answer) (S : State) (s1 s2 s3 : Bor ResolvedStrategy) (n : ℕ)
    (p : Standing)
    → kept S.cells (mark_of S.cells) ≡ S.cells.bindings
    → FormIn W sub whole S (guard s1.now s2.now s3.now) n p
    → HoldsIn W sub whole (framed S (Choose s2 s3 n p S.trail.count (mark_of S.cells) ∷ S.frames)) (Begin s1 n p)
take_choice W sub whole S s1 s2 s3 n p k h = record {
  now = p;
  edits = h.edits;
  shows = h.shows;
  in_hand = (h.there, refl);
  opens = opens_new _ p h.edits _ h.opens.leads.has (
    h.there,
    refl,
    h.shows.count,
    before_self (mark_of S.cells),
    opens_along _ _ (ap (λ (K : Bindings).
        either (run W (scope_at S.scopes n) S.level s1.now S.steps S.cells.bindings (standing_tree p))
        (λ t B b e. with_edits e (run W (scope_at S.scopes n) S.level s2.now b B t))
        (λ b. run W (scope_at S.scopes n) S.level s3.now b K (standing_tree p))) (sym k)) h.opens,
  );
}

pub take_test : (W : World) (sub : Standing) (whole : Answer) (S : State) (s1 : Bor ResolvedStrategy) (n : ℕ)
    (p : Standing)
    → FormIn W sub whole S (test s1.now) n p
    → HoldsIn W sub whole (framed S (Restore p S.trail.count ∷ S.frames)) (Begin s1 n p)
take_test W sub whole S s1 n p h = record {
  now = p;
  edits = h.edits;
  shows = h.shows;
  in_hand = (h.there, refl);
  opens = opens_new _ p h.edits _ h.opens.leads.has (refl, h.shows.count, h.opens);
}

-- ---- scopes

-- Room for more cells and a scope, which end after the strategy.
pub take_opened : (W : World) (sub : Standing) (whole : Answer) (S : State) (r : ResolvedStrategy)
    (s : Bor ResolvedStrategy) (n inner : ℕ) (p : Standing) (E : Scope) (new : Bindings) (D : CellContents)
    (es : List Scope) (fs : List Frame)
    → answers W S r n p ≡ opened (run W) E new S.level s.now S.steps S.cells.bindings (standing_tree p)
    → inner < length es → scope_at es inner ≡ E → D.bindings ≡ S.cells.bindings ++ new
    → ((a : Answer) → HasCells (length D.bindings) a → AnswersIn W sub whole S p (cut (length S.cells.bindings) a)
    → AnswersIn W sub whole (with_those S D es fs) p a)
    → FormIn W sub whole S r n p → HoldsIn W sub whole (with_those S D es fs) (Begin s inner p)
take_opened W sub whole S r s n inner p E new D es fs a lt is de room h =
    begun W sub whole (with_those S D es fs) s inner p lt
    (room _ (run_has W (scope_at es inner) S.level s.now S.steps D.bindings (standing_tree p))
    (along W sub whole S p _ _
    (a ∙ (λ i. cut (length S.cells.bindings) (run W ((sym is) i) S.level s.now S.steps ((sym de) i) (standing_tree p))))
    (form_answers W sub whole S r n p h)))

-- `rec`: room for a scope, which ends after the strategy
pub take_named : (W : World) (sub : Standing) (whole : Answer) (S : State) (s body : Bor ResolvedStrategy) (n inner : ℕ)
    (p : Standing) (mid es : List Scope) (fs : List Frame)
    → s.now ≡ rec body.now → inner ≡ length mid → scope_at mid n ≡ scope_at S.scopes n
    → es ≡ mid ++ with_name (scope_at mid n) s.now (scope_at mid n) ∷ []
    → ((a : Answer) → AnswersIn W sub whole S p a → AnswersIn W sub whole (with_those S S.cells es fs) p a)
    → FormIn W sub whole S (rec body.now) n p → HoldsIn W sub whole (with_those S S.cells es fs) (Begin body inner p)
take_named W sub whole S s body n inner p mid es fs is at same e room h =
    let E = with_name (scope_at mid n) s.now (scope_at mid n) in
    begun W sub whole (with_those S S.cells es fs) body inner p (one_more_there mid es E at e)
    (room _
    (along W sub whole S p _ _ (ap (λ (F : Scope). run W F S.level body.now S.steps S.cells.bindings (standing_tree p))
    ((λ i. with_name (sym same i) (sym is i) (sym same i)) ∙ sym (one_more_is mid es E at e)))
    (form_answers W sub whole S (rec body.now) n p h)))

-- what a name stands for
pub take_known : (W : World) (sub : Standing) (whole : Answer) (S : State) (x n : ℕ) (p : Standing)
    (known : TableClosure)
    → NameStands S.scopes n x known → FormIn W sub whole S (param x) n p
    → HoldsIn W sub whole S (Begin known.strategy known.written_in p)
take_known W sub whole S x n p known k h = record {
  now = p;
  edits = h.edits;
  shows = h.shows;
  in_hand = (k.0, refl);
  opens = opens_along _ _ (some_is (stands_for (scope_at S.scopes n) x) (closure_of S.scopes known) S.steps
      (λ z. run W z.written_in S.level z.strategy S.steps S.cells.bindings (standing_tree p)) k.1) h.opens;
}

pub unknown_is : (W : World) (S : State) (x n : ℕ) (p : Standing)
    → stands_for (scope_at S.scopes n) x ≡ None → answers W S (param x) n p ≡ failed S.steps
unknown_is W S x n p e = none_is (stands_for (scope_at S.scopes n) x) S.steps
    (λ z. run W z.written_in S.level z.strategy S.steps S.cells.bindings (standing_tree p)) e

-- ---- over children

minus_none : (n : ℕ) → n ≡ n - 0
minus_none n = omega arith

-- a node with no changed child
pub over_none : (p : Standing) (parts : List Standing) → parts ≡ [] → Has p
    → PartsStand p (all_parts p parts) × (p ≡ node_now p (all_parts p parts))
over_none p parts e h = rw e (none_stand p h, refl)

pub take_each : (W : World) (sub : Standing) (whole : Answer) (S : State) (r : ResolvedStrategy) (acts : Acts) (n i : ℕ)
    (p : Standing) (parts : Vec Standing Global)
    → parts.items ≡ []
    → answers W S r n p ≡ each (run W (scope_at S.scopes n) (S.level + 1))
    (acts_list acts (length (children (standing_tree p)) - i)) i S.steps S.cells.bindings (standing_tree p)
    → FormIn W sub whole S r n p → HoldsIn W sub whole S (Each acts n p i parts)
take_each W sub whole S r acts n i p parts e a h =
    let none = over_none p parts.items e h.opens.leads.has in record {
      now = p;
      edits = h.edits;
      shows = h.shows;
      in_hand = (h.there, h.opens.leads.has, none.0, none.1);
      opens = opens_along _ _ (a ∙ ap (λ x. each (run W (scope_at S.scopes n) (S.level + 1)) (acts_list acts
          (length (children (standing_tree p)) - i)) i S.steps S.cells.bindings (standing_tree x)) none.1) h.opens;
    }

pub all_is : (W : World) (S : State) (s : Bor ResolvedStrategy) (n : ℕ) (p : Standing)
    → answers W S (all s.now) n p ≡ each (run W (scope_at S.scopes n) (S.level + 1))
    (acts_list (Same s) (length (children (standing_tree p)) - 0)) 0 S.steps S.cells.bindings (standing_tree p)
all_is W S s n p = ap (λ (k : ℕ). each (run W (scope_at S.scopes n) (S.level + 1)) (replicate k s.now) 0 S.steps
    S.cells.bindings (standing_tree p)) (minus_none (length (children (standing_tree p))))

pub take_leftmost : (W : World) (sub : Standing) (whole : Answer) (S : State) (s : Bor ResolvedStrategy) (n : ℕ)
    (p : Standing)
    → FormIn W sub whole S (one s.now) n p → HoldsIn W sub whole S (Leftmost s n p 0)
take_leftmost W sub whole S s n p h = record {
  now = p;
  edits = h.edits;
  shows = h.shows;
  in_hand = (h.there, h.opens.leads.has, refl);
  opens = opens_along _ _ (ap (λ (k : ℕ). leftmost (run W (scope_at S.scopes n) (S.level + 1) s.now) k 0 S.steps
      S.cells.bindings (standing_tree p)) (minus_none (length (children (standing_tree p))))) h.opens;
}

pub take_those : (W : World) (sub : Standing) (whole : Answer) (S : State) (s : Bor ResolvedStrategy) (n : ℕ)
    (p : Standing) (parts : Vec Standing Global)
    → parts.items ≡ [] → FormIn W sub whole S (some s.now) n p → HoldsIn W sub whole S (Those s n p 0 false parts)
take_those W sub whole S s n p parts e h =
    let none = over_none p parts.items e h.opens.leads.has in record {
      now = p;
      edits = h.edits;
      shows = h.shows;
      in_hand = (h.there, h.opens.leads.has, none.0, none.1);
      opens = opens_along _ _ (ap (λ (k : ℕ). those_done (run W (scope_at S.scopes n) (S.level + 1) s.now) k false 0
          S.steps S.cells.bindings (standing_tree p)) (minus_none (length (children (standing_tree p))))
          ∙ ap (λ x. those_done (run W (scope_at S.scopes n) (S.level + 1) s.now)
          (length (children (standing_tree p)) - 0) false 0 S.steps S.cells.bindings (standing_tree x)) none.1) h.opens;
    }

listed : (ss : List ResolvedStrategy) → length (resolved_list (resolveds_of ss)) ≡ length ss
listed ss = ap (λ (l : List ResolvedStrategy). length l) (resolved_list-resolveds_of ss)

pub yes_is : (v : Bool) (a : Answer) (c : ℕ) → v ≡ true → cond v a (failed c) ≡ a
yes_is v a c e = rw e refl

pub no_is : (v : Bool) (a : Answer) (c : ℕ) → v ≡ false → cond v a (failed c) ≡ failed c
no_is v a c e = rw e refl

pub congruence_is : (W : World) (S : State) (x : Head) (ss : Bor (List ResolvedStrategy)) (n : ℕ) (p : Standing) (k : ℕ)
    → is_over x (length ss.now) (standing_tree p) ≡ true
    → answers W S (congruence x (resolveds_of ss.now)) n p ≡ each (run W (scope_at S.scopes n) (S.level + 1))
    (acts_list (Listed ss) k) 0 S.steps S.cells.bindings (standing_tree p)
congruence_is W S x ss n p k e =
    yes_is _ _ S.steps (ap (λ (j : ℕ). is_over x j (standing_tree p)) (listed ss.now) ∙ e)
    ∙ ap (λ (l : List ResolvedStrategy). each (run W (scope_at S.scopes n) (S.level + 1)) l 0 S.steps S.cells.bindings
    (standing_tree p)) (resolved_list-resolveds_of ss.now)

pub not_over : (W : World) (S : State) (x : Head) (ss : List ResolvedStrategy) (n : ℕ) (p : Standing)
    → is_over x (length ss) (standing_tree p) ≡ false → answers W S (congruence x (resolveds_of ss)) n p
    ≡ failed S.steps
not_over W S x ss n p e = no_is _ _ S.steps (ap (λ (j : ℕ). is_over x j (standing_tree p)) (listed ss) ∙ e)

pub no_elements : (W : World) (S : State) (ss : List ResolvedStrategy) (s : ResolvedStrategy) (n : ℕ) (p : Standing)
    → is_list_from (length ss) (elements (standing_tree p))
    ≡ false → answers W S (tail_congruence (resolveds_of ss) s) n p ≡ failed S.steps
no_elements W S ss s n p e =
    no_is _ _ S.steps (ap (λ (j : ℕ). is_list_from j (elements (standing_tree p))) (listed ss) ∙ e)

pub take_tailed : (W : World) (sub : Standing) (whole : Answer) (S : State) (ss : Bor (List ResolvedStrategy))
    (s : Bor ResolvedStrategy) (n k : ℕ) (p : Standing) (parts : Vec Standing Global)
    → parts.items ≡ [] → k ≡ length ss.now → is_list_from k (elements (standing_tree p)) ≡ true
    → FormIn W sub whole S (tail_congruence (resolveds_of ss.now) s.now) n p
    → HoldsIn W sub whole (framed S (Tail s n k ∷ S.frames)) (Each (Listed ss) n p 0 parts)
take_tailed W sub whole S ss s n k p parts e ke is h =
    let none = over_none p parts.items e h.opens.leads.has in
    let go = run W (scope_at S.scopes n) in
    let first = each (go (S.level + 1)) ss.now 0 S.steps S.cells.bindings (standing_tree p) in
    record {
      now = p;
      edits = h.edits;
      shows = h.shows;
      in_hand = (h.there, h.opens.leads.has, none.0, none.1);
      opens =
          opens_along _ _ (ap (λ x. each (go (S.level + 1)) ss.now 0 S.steps S.cells.bindings (standing_tree x)) none.1)
          (opens_through (and_then first (on_rest (go S.level s.now) k)) first (λ start base x r. (
            h.there,
            subst (Meets W sub whole S.cells (mark_of S.cells) S.scopes S.level S.frames start base)
                (with_edits-and_then x first (on_rest (go S.level s.now) k)) r,
          ))
          (opens_along _ _ (yes_is _ _ S.steps
          (ap (λ (j : ℕ). is_list_from j (elements (standing_tree p))) (listed ss.now ∙ sym ke) ∙ is)
          ∙ (λ i. and_then (each (go (S.level + 1)) (resolved_list-resolveds_of ss.now i) 0 S.steps S.cells.bindings
          (standing_tree p)) (on_rest (go S.level s.now) ((listed ss.now ∙ sym ke) i)))) h.opens));
    }

-- one child alone
pub child_is : (W : World) (S : State) (s : Bor ResolvedStrategy) (ss : Bor (List ResolvedStrategy)) (n i j k : ℕ)
    (p : Standing)
    → ss.now ≡ s.now ∷ [] → i ≡ j + 1
    → answers W S (child i s.now) n p ≡ each (run W (scope_at S.scopes n) (S.level + 1)) (acts_list (Listed ss) k) j
    S.steps S.cells.bindings (standing_tree p)
child_is W S s ss n zero j k p e is = absurd (omega (arith, is))
child_is W S s ss n (suc i) j k p e is =
    let same : i ≡ j = omega (arith, is) in
    ap (λ (x : ℕ).
    on_child (run W (scope_at S.scopes n) (S.level + 1) s.now) x S.steps S.cells.bindings (standing_tree p)) same
    ∙ sym (and_then-done
    (on_child (run W (scope_at S.scopes n) (S.level + 1) s.now) j S.steps S.cells.bindings (standing_tree p)))
    ∙ ap (λ (l : List ResolvedStrategy).
    each (run W (scope_at S.scopes n) (S.level + 1)) l j S.steps S.cells.bindings (standing_tree p)) (sym e)

-- the form amounts to a build of u, which replaced the focus
pub replaced_in : (W : World) (sub : Standing) (whole : Answer) (m0 m new : Machine) (r : ResolvedStrategy) (n : ℕ)
    (p q : Standing) (o : Option Tree) (u : Tree)
    → m.frames ≡ m0.frames → m.scopes ≡ m0.scopes → m.trail ≡ m0.trail → m.level ≡ m0.level → m.steps ≡ m0.steps
    → m.cells ≡ m0.cells
    → answers W (state_of m0) r n p
    ≡ built W.room o m0.level m0.steps (λ v. done v m0.cells.bindings m0.steps (at_root v))
    → o ≡ Some u → fits W.room m0.level u ≡ true → Replaced m u new q
    → FormIn W sub whole (state_of m0) r n p → HoldsIn W sub whole (state_of new) (Done q)
replaced_in W sub whole m0 m new r n p q o u fe se te le pe ce a e f k h =
    subst (λ (S : State). HoldsIn W sub whole S (Done q))
    (λ i. record {
      cells = sym (k.rest.1 ∙ ce) i;
      scopes = scopes (sym (k.rest.2 ∙ se) i);
      trail = new.trail;
      level = sym (k.rest.3 ∙ le) i;
      frames = reverse (sym (k.rest.0 ∙ fe) i);
      steps = sym (k.rest.4 ∙ pe) i;
    })
    (take_built W sub whole (state_of m0) r n p q o u new.trail a e f k.part
    (λ T sh. subst (λ (fs : List Frame). Shows new.trail (T ++ record { path = path_of (reverse fs); new = u } ∷ [])) fe
    (k.shows T (subst (λ t. Shows t T) (sym te) sh))) h)
