-- A step preserves soundness.
use Rattle.std.proofs.Common.{◌≡◌, ◌≤◌, ◌+◌, ◌-◌, ℕ, zero, suc, true, false, cond, List, [], ◌∷◌, length, set, slice_get, Option, Some, None, IfSome, Result, Ok, Err, OnOk, OnErr, ok_or, is_none, refl, sym, ap, subst, ◌∙◌, arith}
use Rattle.std.specs.Option.{option_map_or}
use Rattle.std.specs.List.{AllByRecursion, list_all}
use Rattle.std.specs.Ordering.{nat_cmp, eq_by_cmp}
use Rattle.std.specs.Cmp.Lexicographic.{slice_cmp, nat_list_cmp_total}
use Rattle.std.proofs.lemmas.Bool.Decides.{nat_tests}
use Rattle.std.specs.FinMap as finmap
use Rattle.std.specs.FinMap.{get, get-empty, get-insert, get-remove}
use Rattle.term_core.specs.Tree.{Tree, integer, branch, to_list, of_list, children, with_child, with_annotations}
use Rattle.term_core.specs.Size.{height, heights, fits}
use Rattle.term_core.specs.declared.TheConstants.{MAX_HEIGHT}
use Rattle.term_paths.specs.Paths.{set_at, set_annotations_at}
use Rattle.term_core.proofs.TreeLemmas.{of_list-to_list}
use Rattle.term_paths.proofs.PathLemmas.{changed_at, set_at-changed, set_annotations_at-changed, changed_at-child, changed_at-no_child}
use Rattle.strategy_syntax.specs.Modules.{Module}
use Rattle.strategy_check.specs.Faults.{Primitives, first}
use Rattle.term_changes.specs.Contents.{Contents, Named, no_contents, with_tree, without_tree, with_module, without_module}
use Rattle.strategy_check.specs.Programs.{Program}
use Rattle.strategy_syntax.specs.Syntax.{Strategy}
use Rattle.strategy_meaning.specs.Applied.{Outcome as Ending, gives, fails, stops, IfGiven, applied}
use Rattle.strategy_meaning.specs.Laws.{AppliedKeepsHeights}
use Rattle.session_modules.specs.Modules.{Texts, ReadsAsModuleOf, AreReadable, AreRead, Finds, GivesProgram, Checks}
use Rattle.session_history.specs.History.{HistoryGroup, History, stepped, changed, back_to, forward_to, step_back, step_forward, undone, redone, AreLow, AreFormed, AreSound, IsSoundNow, HasSoundContents}
use Rattle.session_history.specs.Acts.{Act, set_tree, copy_tree, drop_tree, put, annotate, set_module, unload, apply, undo, redo, begin, commit, abandon, Passing, Leaves, ChangesTo, ChangesModules, Given, PutsAt, AnnotatesAt, AppliesAt, Located, ActResult, ComesTo, tree_of, module_text_of, place_of, committed}
use Rattle.session_history.specs.Applying.{ReadsAsStrategy, resolved_in, world_in, given_by}
use Rattle.session_history.specs.Laws.{ChangeIsToContents}
use Rattle.session_modules.specs.declared.refusal.Refusal.{Refusal}
use Rattle.session_modules.specs.declared.refusal.Refusal.TheVariants.{NoTree, Big, NoUndo, NoRedo, Group, NoGroup}
use Rattle.session_history.proofs.HistoryLemmas.{same_Some, moved_keeps}
use Rattle.session_modules.proofs.MapLemmas.{no_keys}
use Rattle.session_history.proofs.StepLemmas.{same_Ok, passing_Ok, holding_Ok, given_Ok, ok_or-Ok, none_of, place_tree}

-- ---- contents

-- maps whose values have a property
module _ {X : Type 0} (P : X → Type 0) where
  abbrev Have : Named X → Type 0
  Have xs = (q : List ℕ) → IfSome (get xs q) P

  have_none : Have finmap.empty
  have_none q = subst (λ o. IfSome o P) (sym (get-empty (slice_cmp nat_cmp) q)) tt

  have_with : (xs : Named X) (name : List ℕ) (x : X) → Have xs → P x → Have (finmap.insert xs name x)
  have_with xs name x s h q = subst (λ o. IfSome o P) (sym (get-insert nat_list_cmp_total xs name x q))
      (elim (eq_by_cmp (slice_cmp nat_cmp) q name) as (λ b.
      IfSome (cond b (Some x) (get xs q)) P) [ true ↦ h | false ↦ s q ])

  pub have_without : (xs : Named X) (name : List ℕ) → Have xs → Have (finmap.remove xs name)
  have_without xs name s q = subst (λ o. IfSome o P) (sym (get-remove nat_list_cmp_total xs name q))
      (elim (eq_by_cmp (slice_cmp nat_cmp) q name) as (λ b.
      IfSome (cond b None (get xs q)) P) [ true ↦ tt | false ↦ s q ])

abbrev Low : Tree → Type 0
Low t = height t ≤ MAX_HEIGHT

abbrev pub IsReadable : ℕ → List ℕ → Type 0
IsReadable most text = (m : Module) × ReadsAsModuleOf most text (Ok m)

pub readable_empty : (most : ℕ) → AreReadable most finmap.empty
readable_empty most = have_none (IsReadable most)

pub sound_no_contents : (ps : Primitives) (most : ℕ) → AreSound ps most no_contents
sound_no_contents ps most = (
  (have_none Low, readable_empty most),
  record {
    modules = [];
    are = subst (λ (names : List (List ℕ)). AreRead finmap.empty names [])
        (sym (no_keys finmap.empty (λ q. get-empty (slice_cmp nat_cmp) q))) tt;
    fault = refl;
  },
)

-- ---- heights of what is put at a path

pub height_of_fit : (room l : ℕ) (t : Tree) → fits room l t ≡ true → l + height t ≤ MAX_HEIGHT
height_of_fit room l t h = grind (arith, nat_tests)

heights-set : (us : List Tree) (i : ℕ) (u : Tree) (n : ℕ)
    → heights (of_list us) ≤ n → height u ≤ n → heights (of_list (set us i u)) ≤ n
heights-set [] i u n h k = h
heights-set (x ∷ us) zero u n h k = omega (arith, h, k)
heights-set (x ∷ us) (suc i) u n h k = let rest = heights-set us i u n (omega (arith, h)) k in omega (arith, h, rest)

heights_get : (us : List Tree) (i : ℕ) (kid : Tree) → slice_get us i ≡ Some kid → height kid ≤ heights (of_list us)
heights_get [] i kid e = absurd (cc)
heights_get (x ∷ us) zero kid e = let same : x ≡ kid = cc in omega (arith, ap height same)
heights_get (x ∷ us) (suc i) kid e = let rest = heights_get us i kid e in omega (arith, rest)

child_height : (t : Tree) (i : ℕ) (kid : Tree) → slice_get (children t) i ≡ Some kid → suc (height kid) ≤ height t
child_height (integer z notes) i kid e = absurd (cc)
child_height (branch head kids notes) i kid e =
    let low = heights_get (to_list kids) i kid e in
    let same : heights (of_list (to_list kids)) ≡ heights kids = ap heights (of_list-to_list kids) in
    omega (arith, low, same)

with_child_height : (t : Tree) (i : ℕ) (v : Tree) (l n : ℕ)
    → l + height t ≤ n → l + 1 + height v ≤ n → l + height (with_child t i v) ≤ n
with_child_height (integer z notes) i v l n h k = h
with_child_height (branch head kids notes) i v l n h k =
    let same : heights (of_list (to_list kids)) ≡ heights kids = ap heights (of_list-to_list kids) in
    let low = heights-set (to_list kids) i v (n - (l + 1)) (omega (arith, h, same)) (omega (arith, k)) in
    omega (arith, h, k, low)

-- a change that keeps the subterm at a path low enough keeps the tree so
changed_height : (f : Tree → Tree) (t : Tree) (p : List ℕ) (l n : ℕ) → l + height t ≤ n
    → ((u : Tree) → l + length p + height u ≤ n → l + length p + height (f u) ≤ n) → l + height (changed_at f t p) ≤ n
changed_height f t [] l n h k = let last = k t (omega (arith, h)) in omega (arith, last)
changed_height f t (i ∷ p) l n h k =
    elim (slice_get (children t) i) as (λ o. slice_get (children t) i ≡ o → l + height (changed_at f t (i ∷ p)) ≤ n) [
      | None ↦ λ e. subst (λ s. l + height s ≤ n) (sym (changed_at-no_child f t i p e)) h
      | Some kid ↦ λ e.
          let below = changed_height f kid p (l + 1) n (omega (arith, h, child_height t i kid e))
          (λ u b. let last = k u (omega (arith, b)) in omega (arith, last)) in
          subst (λ s. l + height s ≤ n) (sym (changed_at-child f t kid i p e))
          (with_child_height t i (changed_at f kid p) l n h below)
    ] refl

pub height_of_set : (room : ℕ) (t u : Tree) (p : List ℕ)
    → height t ≤ MAX_HEIGHT → fits room (length p) u ≡ true → height (set_at t p u) ≤ MAX_HEIGHT
height_of_set room t u p h f =
    let low = height_of_fit room (length p) u f in
    let all = changed_height (λ _. u) t p 0 MAX_HEIGHT (omega (arith, h)) (λ v b. omega (arith, low)) in
    omega (arith, all, ap height (set_at-changed t u p))

heights_of_fit : (room l : ℕ) (us : List Tree)
    → list_all (fits room l) us ≡ true → l ≤ MAX_HEIGHT → l + heights (of_list us) ≤ MAX_HEIGHT
heights_of_fit room l [] h k = omega (arith, k)
heights_of_fit room l (u ∷ us) h k = grind (arith, nat_tests, heights_of_fit room l us, height_of_fit room l u)

annotated_height : (t : Tree) (us : List Tree) (l n : ℕ)
    → l + height t ≤ n → l + 1 + heights (of_list us) ≤ n → l + height (with_annotations t us) ≤ n
annotated_height t us l n h k = grind arith

some_height : (t : Tree) → 1 ≤ height t
some_height (integer z notes) = omega arith
some_height (branch head kids notes) = omega arith

pub height_of_annotated : (room : ℕ) (t : Tree) (us : List Tree) (p : List ℕ) → height t
    ≤ MAX_HEIGHT → list_all (fits room (length p + 1)) us ≡ true → height (set_annotations_at t p us) ≤ MAX_HEIGHT
height_of_annotated room t us p h f =
    let all = changed_height (λ u. with_annotations u us) t p 0 MAX_HEIGHT (omega (arith, h)) (λ v b.
    let low : length p + 1 + heights (of_list us) ≤ MAX_HEIGHT =
    heights_of_fit room (length p + 1) us f (omega (arith, b, some_height v)) in
    annotated_height v us (0 + length p) MAX_HEIGHT b (omega (arith, low))) in
    omega (arith, all, ap height (set_annotations_at-changed t us p))

-- ---- histories

-- the current contents are well formed, and outside a group they are sound
pub formed_now : (ps : Primitives) (most : ℕ) (c : Contents) (o : Option HistoryGroup) → IsSoundNow ps most c o
    → AreFormed most c
formed_now ps most c o s = grind arith

pub sound_outside : (h : History) → HasSoundContents h
    → h.group ≡ None → AreSound h.primitives h.limits.max_tokens h.now
sound_outside h s closed = subst (IsSoundNow h.primitives h.limits.max_tokens h.now) closed s.1

pub sound_begun : (h : History) (group : HistoryGroup) → HasSoundContents h → h.group ≡ Some group
    → AreSound h.primitives h.limits.max_tokens group.begun
sound_begun h group s e = (subst (IsSoundNow h.primitives h.limits.max_tokens h.now) e s.1).1

pub sound_changed : (c : Contents) (h : History) → HasSoundContents h → AreFormed h.limits.max_tokens c
    → (h.group ≡ None → Finds h.primitives c.modules None) → HasSoundContents (changed c h)
sound_changed c h s k f = by h.group refl s.1
  where
    by : (o : Option HistoryGroup) → h.group ≡ o → IsSoundNow h.primitives h.limits.max_tokens h.now o
        → HasSoundContents (option_map_or (λ g. record h { now = c; group = Some (record g { changed = true }) }) o
        (record (stepped h.now h) { now = c }))
    by None e n = ((n, s.0), subst (IsSoundNow h.primitives h.limits.max_tokens c) (sym e) (k, f e), tt)
    by (Some group) e n = (s.0, (k, n.1, tt), s.2)

-- a sound history without an open group
abbrev Whole : History → Type 0
Whole h = (h.group ≡ None) × (AllByRecursion (AreSound h.primitives h.limits.max_tokens) h.past × AreSound h.primitives
    h.limits.max_tokens h.now × AllByRecursion (AreSound h.primitives h.limits.max_tokens) h.later)

whole : (h : History) → HasSoundContents h → h.group ≡ None → Whole h
whole h s closed = (closed, (s.0, sound_outside h s closed, s.2))

sound_whole : (h : History) → Whole h → HasSoundContents h
sound_whole h w = (w.1.0, subst (IsSoundNow h.primitives h.limits.max_tokens h.now) (sym w.0) w.1.1, w.1.2)

whole_back : (h g : History) → Whole h → step_back h ≡ Some g → Whole g
whole_back h g w e = by h.past w.1.0 e
  where
    by : (past : List Contents) → AllByRecursion (AreSound h.primitives h.limits.max_tokens) past
        → back_to h past ≡ Some g → Whole g
    by [] a e = absurd (cc)
    by (c ∷ cs) a e =
        subst Whole (same_Some _ _ e) (w.0, (a.1, a.0, (w.1.1, w.1.2)))

whole_forward : (h g : History) → Whole h → step_forward h ≡ Some g → Whole g
whole_forward h g w e = by h.later w.1.2 e
  where
    by : (later : List Contents) → AllByRecursion (AreSound h.primitives h.limits.max_tokens) later
        → forward_to h later ≡ Some g → Whole g
    by [] a e = absurd (cc)
    by (c ∷ cs) a e = subst Whole (same_Some _ _ e) (w.0, ((w.1.1, w.1.0), a.0, a.1))

-- ---- acts

pub sound_committed : (group : HistoryGroup) (h : History) → HasSoundContents h → h.group ≡ Some group
    → Finds h.primitives h.now.modules None → HasSoundContents (committed group h)
sound_committed group h s inside found =
    let now : AreSound h.primitives h.limits.max_tokens h.now =
    (formed_now h.primitives h.limits.max_tokens h.now h.group s.1, found) in
    elim group.changed as (λ b.
    HasSoundContents (cond b (record (stepped group.begun h) { group = None }) (record h { group = None }))) [
      | true ↦ ((sound_begun h group s inside, s.0), now, tt)
      | false ↦ (s.0, now, s.2)
    ]

pub now_changed : (c : Contents) (h : History) → (changed c h).now ≡ c
now_changed c h = grind arith

-- if the checker gives a program, it finds no fault
pub program_finds : (ps : Primitives) (texts : Texts) (p : Program) → GivesProgram ps texts p → Finds ps texts None
program_finds ps texts p is = record { modules = is.modules; are = is.are; fault = sym (ap first is.faultless) }

-- ---- acts that change only the trees

-- what the soundness of an act relies on: for an apply, that strategies keep heights
abbrev pub StandsOn : Act → Type 0
StandsOn (apply meaning name path steps text) = AppliedKeepsHeights
StandsOn act = Unit {0}

-- Such a change keeps trees low.
pub record TreesChange (act : Act) (h g : History) : Type 0 where
  pub trees : Named Tree
  pub is : g ≡ changed (record h.now { trees = trees }) h
  pub low : StandsOn act → AreLow h.now.trees → AreLow trees

abbrev pub ChangesTrees : Act → Type 0
ChangesTrees (set_tree name tree) = Unit {0}
ChangesTrees (copy_tree name copy) = Unit {0}
ChangesTrees (drop_tree name) = Unit {0}
ChangesTrees (put name path part) = Unit {0}
ChangesTrees (annotate name path us) = Unit {0}
ChangesTrees (apply meaning name path steps text) = Unit {0}
ChangesTrees act = ⊥

low_at : (c : Contents) (name : List ℕ) (t : Tree) → get c.trees name ≡ Some t → AreLow c.trees → height t ≤ MAX_HEIGHT
low_at c name t e low = subst (λ (o : Option Tree). IfSome o Low) e (low name)

-- the resulting tree, if heights are kept
given_low : (o : Ending) (t : Tree) → given_by o ≡ Ok t
    → IfGiven o (λ u e. height u ≤ MAX_HEIGHT) → height t ≤ MAX_HEIGHT
given_low (gives u e) t is low = let same : u ≡ t = cc in subst (λ (x : Tree). height x ≤ MAX_HEIGHT) same low
given_low fails t is low = absurd (cc)
given_low (stops why) t is low = absurd (cc)

-- a tree that is put under a name
tree_put : (act : Act) (h g : History) (name : List ℕ) (tree : Tree) → ChangesTo (with_tree h.now name tree) h (Ok g)
    → (StandsOn act → AreLow h.now.trees → height tree ≤ MAX_HEIGHT) → TreesChange act h g
tree_put act h g name tree done within = record {
  trees = finmap.insert h.now.trees name tree;
  is = same_Ok (changed (with_tree h.now name tree) h) g done;
  low = λ stands low. have_with Low h.now.trees name tree low (within stands low);
}

pub trees_change : (act : Act) (h g : History) → ChangesTrees act → ComesTo act h (Ok g) → TreesChange act h g
trees_change (set_tree name tree) h g only done =
    let fit = holding_Ok (fits h.limits.max_terms 0 tree) Big (ChangesTo (with_tree h.now name tree) h) g done in
    tree_put (set_tree name tree) h g name tree fit.1
    (λ _ low. omega (arith, height_of_fit h.limits.max_terms 0 tree fit.0))
trees_change (copy_tree name copy) h g only done =
    let there = passing_Ok (tree_of h.now name) (λ t. ChangesTo (with_tree h.now copy t) h) g done in
    tree_put (copy_tree name copy) h g copy there.0 there.2
    (λ _ low. low_at h.now name there.0 (ok_or-Ok (get h.now.trees name) NoTree there.0 there.1) low)
trees_change (drop_tree name) h g only done =
    let there = passing_Ok (tree_of h.now name) (λ t. ChangesTo (without_tree h.now name) h) g done in
    record {
      trees = finmap.remove h.now.trees name;
      is = same_Ok (changed (without_tree h.now name) h) g there.2;
      low = λ _ low. have_without Low h.now.trees name low;
    }
trees_change (put name path part) h g only done =
    let there = passing_Ok (place_of h.now name path) (PutsAt name path part h) g done in
    let tree = set_at there.0.tree path part in
    let fit =
    holding_Ok (fits h.limits.max_terms (length path) part) Big (ChangesTo (with_tree h.now name tree) h) g there.2 in
    let within = low_at h.now name there.0.tree (place_tree h.now name path there.0 there.1) in
    tree_put (put name path part) h g name tree fit.1
    (λ _ low. height_of_set h.limits.max_terms there.0.tree part path (within low) fit.0)
trees_change (annotate name path us) h g only done =
    let there = passing_Ok (place_of h.now name path) (AnnotatesAt name path us h) g done in
    let tree = set_annotations_at there.0.tree path us in
    let fit = holding_Ok (list_all (fits h.limits.max_terms (length path + 1)) us) Big
    (ChangesTo (with_tree h.now name tree) h) g there.2 in
    let within = low_at h.now name there.0.tree (place_tree h.now name path there.0 there.1) in
    tree_put (annotate name path us) h g name tree fit.1
    (λ _ low. height_of_annotated h.limits.max_terms there.0.tree us path (within low) fit.0)
trees_change (apply meaning name path steps text) h g only done =
    let Resolves : Located → Strategy → Program → ActResult → Type 0 = λ place s program.
    Passing (resolved_in program h.primitives s) (AppliesAt meaning name path steps h place program) in
    let Checked : Located → Strategy → ActResult → Type 0 =
    λ place s. Given (Checks h.primitives h.now.modules) (Resolves place s) in
    let Read : Located → ActResult → Type 0 = λ place. Given (ReadsAsStrategy text) (Checked place) in
    let there = passing_Ok (place_of h.now name path) Read g done in
    let read = given_Ok (ReadsAsStrategy text) (Checked there.0) g there.2 in
    let checked = given_Ok (Checks h.primitives h.now.modules) (Resolves there.0 read.0) g read.2 in
    let whole = passing_Ok (resolved_in checked.0 h.primitives read.0)
    (AppliesAt meaning name path steps h there.0 checked.0) g checked.2 in
    let ending = applied (world_in meaning checked.0 h.primitives h.limits.max_terms) path whole.0 steps there.0.tree in
    let given = passing_Ok (given_by ending) (λ tree. ChangesTo (with_tree h.now name tree) h) g whole.2 in
    let within = low_at h.now name there.0.tree (place_tree h.now name path there.0 there.1) in
    tree_put (apply meaning name path steps text) h g name given.0 given.2
    (λ keeps low. given_low ending given.0 given.1
    (keeps (world_in meaning checked.0 h.primitives h.limits.max_terms) path whole.0 steps there.0.tree (within low)))
trees_change act h g only done = absurd only

-- a change of the trees leaves the modules as they are
trees_sound : (act : Act) (h g : History) → ChangesTrees act → StandsOn act → HasSoundContents h → ComesTo act h (Ok g)
    → HasSoundContents g
trees_sound act h g only stands s done =
    let change = trees_change act h g only done in
    let formed = formed_now h.primitives h.limits.max_tokens h.now h.group s.1 in
    subst HasSoundContents (sym change.is) (sound_changed (record h.now { trees = change.trees }) h s
    (change.low stands formed.0, formed.1) (λ closed. (sound_outside h s closed).1))

trees_leave : (act : Act) (h g : History) → ChangesTrees act → ComesTo act h (Ok g) → g.now.modules ≡ h.now.modules
trees_leave act h g only done =
    let change = trees_change act h g only done in
    ap (λ (x : History). x.now.modules) change.is
    ∙ ap (λ (c : Contents). c.modules) (now_changed (record h.now { trees = change.trees }) h)

-- ---- acts that change the modules

modules_change : (o : Option HistoryGroup) (c : Contents) (h g : History) → ChangesModules o c h (Ok g)
    → (g ≡ changed c h) × (o ≡ None → Finds h.primitives c.modules None)
modules_change None c h g done =
    let checked = given_Ok (Checks h.primitives c.modules) (λ p. ChangesTo c h) g done in
    (same_Ok (changed c h) g checked.2, λ _. program_finds h.primitives c.modules checked.0 checked.1)
modules_change (Some group) c h g done = (same_Ok (changed c h) g done, λ none. absurd (cc))

modules_sound : (c : Contents) (h g : History) → HasSoundContents h → AreFormed h.limits.max_tokens c
    → ChangesModules h.group c h (Ok g) → HasSoundContents g
modules_sound c h g s formed done =
    let change = modules_change h.group c h g done in
    subst HasSoundContents (sym change.0) (sound_changed c h s formed change.1)

-- ---- all acts

moved : (h g : History) (o : Option History) (refusal : Refusal) → Passing (ok_or o refusal) Leaves (Ok g) → o ≡ Some g
moved h g o refusal done =
    let there = passing_Ok (ok_or o refusal) Leaves g done in
    ok_or-Ok o refusal there.0 there.1 ∙ ap (λ (x : History). Some x) (sym (same_Ok there.0 g there.2))

pub step_sound : (act : Act) (h g : History) → StandsOn act → HasSoundContents h → ComesTo act h (Ok g)
    → HasSoundContents g
step_sound (set_module name text) h g stands s done =
    let read = given_Ok (ReadsAsModuleOf h.limits.max_tokens text)
    (λ m. ChangesModules h.group (with_module h.now name text) h) g done in
    let formed = formed_now h.primitives h.limits.max_tokens h.now h.group s.1 in
    modules_sound (with_module h.now name text) h g s
    (formed.0, have_with (IsReadable h.limits.max_tokens) h.now.modules name text formed.1 (read.0, read.1)) read.2
step_sound (unload name) h g stands s done =
    let there =
    passing_Ok (module_text_of h.now name) (λ text. ChangesModules h.group (without_module h.now name) h) g done in
    let formed = formed_now h.primitives h.limits.max_tokens h.now h.group s.1 in
    modules_sound (without_module h.now name) h g s
    (formed.0, have_without (IsReadable h.limits.max_tokens) h.now.modules name formed.1) there.2
step_sound (undo k) h g stands s done =
    let there = holding_Ok (is_none h.group) Group (Passing (ok_or (undone k h) NoUndo) Leaves) g done in
    sound_whole g (moved_keeps step_back Whole whole_back k h g (whole h s (none_of h.group there.0))
    (moved h g (undone k h) NoUndo there.1))
step_sound (redo k) h g stands s done =
    let there = holding_Ok (is_none h.group) Group (Passing (ok_or (redone k h) NoRedo) Leaves) g done in
    sound_whole g (moved_keeps step_forward Whole whole_forward k h g (whole h s (none_of h.group there.0))
    (moved h g (redone k h) NoRedo there.1))
step_sound begin h g stands s done =
    let begun : History = record h { group = Some (record { begun = h.now; changed = false }) } in
    let there = holding_Ok (is_none h.group) Group (Leaves begun) g done in
    let now = sound_outside h s (none_of h.group there.0) in
    subst HasSoundContents (sym (same_Ok begun g there.1)) (s.0, (now.0, now, refl), s.2)
step_sound commit h g stands s done =
    let there = passing_Ok (ok_or h.group NoGroup)
    (λ group. Given (Checks h.primitives h.now.modules) (λ p. Leaves (committed group h))) g done in
    let checked = given_Ok (Checks h.primitives h.now.modules) (λ p. Leaves (committed there.0 h)) g there.2 in
    subst HasSoundContents (sym (same_Ok (committed there.0 h) g checked.2)) (sound_committed there.0 h s
    (ok_or-Ok h.group NoGroup there.0 there.1) (program_finds h.primitives h.now.modules checked.0 checked.1))
step_sound abandon h g stands s done =
    let there =
    passing_Ok (ok_or h.group NoGroup) (λ group. Leaves (record h { now = group.begun; group = None })) g done in
    let left : History = record h { now = there.0.begun; group = None } in
    subst HasSoundContents (sym (same_Ok left g there.2))
    (s.0, sound_begun h there.0 s (ok_or-Ok h.group NoGroup there.0 there.1), s.2)
step_sound act h g stands s done = trees_sound act h g tt stands s done

-- an accepted act does what the machine does, and a refused one changes nothing
pub act_sound : {A E : Type 0} (act : Act) (r : Result A E) (old new : History) → StandsOn act
    → OnOk r (ComesTo act old (Ok new)) → OnErr r (new ≡ old) → HasSoundContents old → HasSoundContents new
act_sound act (Ok x) old new stands ok err s = step_sound act old new stands s ok
act_sound act (Err e) old new stands ok err s = subst HasSoundContents (sym err) s

-- an accepted change leads to contents by a change
pub change_is_to_contents : ChangeIsToContents
change_is_to_contents (set_module name text) h g change done =
    let read = given_Ok (ReadsAsModuleOf h.limits.max_tokens text)
    (λ m. ChangesModules h.group (with_module h.now name text) h) g done in
    (with_module h.now name text, (modules_change h.group (with_module h.now name text) h g read.2).0)
change_is_to_contents (unload name) h g change done =
    let there =
    passing_Ok (module_text_of h.now name) (λ text. ChangesModules h.group (without_module h.now name) h) g done in
    (without_module h.now name, (modules_change h.group (without_module h.now name) h g there.2).0)
change_is_to_contents (undo k) h g change done = absurd change
change_is_to_contents (redo k) h g change done = absurd change
change_is_to_contents begin h g change done = absurd change
change_is_to_contents commit h g change done = absurd change
change_is_to_contents abandon h g change done = absurd change
change_is_to_contents act h g change done = let t = trees_change act h g tt done in
    (record h.now { trees = t.trees }, t.is)

-- ---- acts that leave the modules as they are

abbrev pub LeavesModules : Act → Type 0
LeavesModules begin = Unit {0}
LeavesModules act = ChangesTrees act

pub step_leaves : (act : Act) (h g : History) → LeavesModules act → ComesTo act h (Ok g) → g.now.modules ≡ h.now.modules
step_leaves begin h g leaves done =
    let begun : History = record h { group = Some (record { begun = h.now; changed = false }) } in
    ap (λ (x : History). x.now.modules) (same_Ok begun g (holding_Ok (is_none h.group) Group (Leaves begun) g done).1)
step_leaves act h g leaves done = trees_leave act h g leaves done

-- the answer to such an act
pub act_leaves : {A E : Type 0} (act : Act) (r : Result A E) (old new : History) → LeavesModules act
    → OnOk r (ComesTo act old (Ok new)) → OnErr r (new ≡ old) → new.now.modules ≡ old.now.modules
act_leaves act (Ok x) old new leaves ok err = step_leaves act old new leaves ok
act_leaves act (Err e) old new leaves ok err = ap (λ (h : History). h.now.modules) err

-- the same for the end of a group
pub committed_leaves : (group : HistoryGroup) (h : History) → (committed group h).now ≡ h.now
committed_leaves group h = grind arith
