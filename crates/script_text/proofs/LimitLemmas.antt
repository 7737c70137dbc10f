-- With greater limits, what is accepted is accepted, too, and says the same.
use Rattle.std.proofs.Common.{◌≡◌, ℕ, zero, suc, ◌+◌, Some, None, Bool, true, false, ◌&&◌, List, [], ◌∷◌, ◌++◌, length, map, Ok, Err, Result, refl, sym, ap, ◌∙◌, subst, arith, if◌then◌else◌}
use Rattle.std.proofs.lemmas.Bool.Decides.{nat_tests}
use Rattle.std.specs.Prelude.{◌≢◌, codes, is_ok, is_none, ok_or, nat_le, option_map, option_and_then}
use Rattle.std.specs.declared.option.Option.{Option}
use Rattle.std.specs.Option.{option_map_or}
use Rattle.std.specs.List.{list_all, AllByRecursion}
use Rattle.std.specs.Result.{MatchResult}
use Rattle.std.specs.Bool.{MatchBool}
use Rattle.term_core.specs.Tree.{Tree}
use Rattle.term_core.specs.Size.{fits}
use Rattle.term_paths.specs.Paths.{set_at, set_annotations_at}
use Rattle.term_paths.specs.PathText.{part_of}
use Rattle.aterm_text.specs.Grammar.{Spells, SpellsAnnotations}
use Rattle.strategy_syntax.specs.Syntax.{Strategy}
use Rattle.strategy_syntax.specs.declared.resolved.Resolved.{Resolved}
use Rattle.strategy_check.specs.Programs.{Program}
use Rattle.term_changes.specs.Contents.{Contents, with_tree, without_tree, with_module, without_module}
use Rattle.strategy_meaning.specs.Answer.{Answer, done as run_done, failed, stopped as run_stopped, big}
use Rattle.strategy_meaning.specs.Meaning.{World, run_whole}
use Rattle.strategy_meaning.specs.Applied.{Outcome, gives, fails, stops, applied}
use Rattle.strategy_meaning.specs.Laws.{MoreRoomGivesTheSame, MoreRoomAppliesTheSame}
use Rattle.session_history.specs.Applying.{Meaning, ReadsAsStrategy, resolved_in, world_in, given_by}
use Rattle.strategy_tokens.specs.Tokens as lexed
use Rattle.session_modules.specs.Modules.{ReadsAsModuleOf, Checks}
use Rattle.session_modules.proofs.ReadingLemmas.{more_tokens}
use Rattle.session_history.proofs.StepLemmas.{given_Ok}
use Rattle.session_history.specs.History.{HistoryGroup, History, stepped, changed, back_to, step_back, forward_to, step_forward, moved, undone, redone}
use Rattle.session_history.specs.Acts.{Act, set_tree as set_tree_act, copy_tree, drop_tree as drop_tree_act, put as put_act, annotate as annotate_act, set_module as set_module_act, unload as unload_act, apply as apply_act, undo as undo_act, redo as redo_act, begin as begin_act, commit as commit_act, abandon as abandon_act, ActResult, Passing, Holding, Given, Leaves, ChangesTo, ChangesModules, PutsAt, AnnotatesAt, AppliesAt, Located, Resolving, ComesTo, committed, tree_of, module_text_of, place_of}
use Rattle.session_history.specs.Preview.{Preview, Foresees, ForeseesAt, Previews}
use Rattle.session_modules.specs.declared.refusal.Refusal.{Refusal}
use Rattle.session_modules.specs.declared.refusal.Refusal.TheVariants.{Big, NoUndo, NoRedo, Group, NoGroup}
use Rattle.script_text.specs.declared.command.Budgets.{Budgets}
use Rattle.script_text.specs.declared.keyword.Keyword.{Keyword}
use Rattle.script_text.specs.declared.keyword.Keyword.TheVariants.{Apply, Preview as PreviewWord}
use Rattle.script_text.specs.KeywordView.{keyword_at, form_after}
use Rattle.script_text.proofs.KeywordLemmas.{form_at}
use Rattle.script_text.specs.Script.{without_end}
use Rattle.aterm_text.specs.Tokens.{is_blank}
use Rattle.script_text.specs.Form.{Form, tree, copy, drop_tree, put, annotate, set_module, unload, apply, preview, undo, redo, begin, commit, abandon, show, pretty, diff, modules, module_text, history, front_word, after_word, has_word, option_word, after_option, path_or_root, up_to, budget_or, with_do, with_budget, strategy_form, form_of, checked, command_of}
use Rattle.script_text.specs.Handed.{Handed, text, long}
use Rattle.script_text.specs.Replies.{Accepted, ReadAs, Told, done, shown, preview_text, Reply, Replies, budgets_in}
use Rattle.script_text.specs.Answer.{ReplyInRun}
use Rattle.script_text.specs.Run.{Replied, out}
use Rattle.script_text.specs.Laws.{raised, raised_accepted, raised_reply, GreaterLimitsAnswerTheSame}

-- ---- what is tested in order

module _ {X Y Z : Type 0} (y : Y) (z : Z) where
  passing : (test : Result X Refusal) (next : X → Result Y Refusal → Type 0) (later : X → Result Z Refusal → Type 0)
      → ((x : X) → next x (Ok y) → later x (Ok z)) → Passing test next (Ok y) → Passing test later (Ok z)
  passing (Ok x) next later f p = f x p
  passing (Err refusal) next later f p = absurd (cc)

  given : (Gives : Result X Refusal → Type 0) (next : X → Result Y Refusal → Type 0)
      (later : X → Result Z Refusal → Type 0)
      → ((x : X) → next x (Ok y) → later x (Ok z)) → Given Gives next (Ok y) → Given Gives later (Ok z)
  given Gives next later f p = (p.0, p.1, passing p.0 next later f p.2)

holding : (a b : Bool) (refusal : Refusal) (next later : ActResult → Type 0) (g k : History) → (a ≡ true → b ≡ true)
    → (next (Ok g) → later (Ok k)) → Holding a refusal next (Ok g) → Holding b refusal later (Ok k)
holding true b refusal next later g k on f p = rw (on refl) (f p)
holding false b refusal next later g k on f p = absurd (cc)

-- ---- numbers

more_fits : (most more level : ℕ) (t : Tree) → fits most level t ≡ true → fits (most + more) level t ≡ true
more_fits most more level t e = grind (arith, nat_tests)

both_true : (a b c d : Bool) → (a ≡ true → c ≡ true) → (b ≡ true → d ≡ true) → a && b ≡ true → c && d ≡ true
both_true true true c d f g e = rw (f refl, g refl) refl
both_true true false c d f g e = absurd (cc)
both_true false b c d f g e = absurd (cc)

more_fit : (most more level : ℕ) (ts : List Tree)
    → list_all (fits most level) ts ≡ true → list_all (fits (most + more) level) ts ≡ true
more_fit most more level [] e = refl
more_fit most more level (t ∷ ts) e =
    both_true (fits most level t) (list_all (fits most level) ts) (fits (most + more) level t)
    (list_all (fits (most + more) level) ts)
    (more_fits most more level t) (more_fit most more level ts) e

more_within : (n most more : ℕ) → nat_le 1 n && nat_le n most ≡ true → nat_le 1 n && nat_le n (most + more) ≡ true
more_within n most more e = grind (arith, nat_tests)

module _ (more_room_gives_the_same : MoreRoomGivesTheSame) (more_room_applies_the_same : MoreRoomAppliesTheSame)
    (terms steps tokens : ℕ) where
  abbrev wide : History → History
  wide h = raised terms steps tokens h

  -- ---- changes

  changed_on : (c : Contents) (h : History) → changed c (wide h) ≡ wide (changed c h)
  changed_on c h =
      elim h.group as (λ o. option_map_or (λ g. record (wide h) { now = c; group = Some (record g { changed = true }) })
      o (record (stepped h.now (wide h)) { now = c })
      ≡ wide (option_map_or (λ g. record h { now = c; group = Some (record g { changed = true }) }) o
      (record (stepped h.now h) { now = c }))) [
        | None ↦ refl
        | Some g ↦ refl
      ]

  leaves : (f g : History) → Leaves f (Ok g) → Leaves (wide f) (Ok (wide g))
  leaves f g e = let same : g ≡ f = cc in ap (λ (h : History). Ok (wide h)) same

  changes : (c : Contents) (h g : History) → ChangesTo c h (Ok g) → ChangesTo c (wide h) (Ok (wide g))
  changes c h g e = leaves (changed c h) g e ∙ ap Ok (sym (changed_on c h))

  puts : (name path : List ℕ) (t : Tree) (h g : History) (place : Located) → PutsAt name path t h place (Ok g)
      → PutsAt name path t (wide h) place (Ok (wide g))
  puts name path t h g place =
      let c : Contents = with_tree h.now name (set_at place.tree path t) in
      holding (fits h.limits.max_terms (length path) t) (fits (h.limits.max_terms + terms) (length path) t) Big
      (ChangesTo c h) (ChangesTo c (wide h)) g (wide g)
      (more_fits h.limits.max_terms terms (length path) t) (changes c h g)

  annotates : (name path : List ℕ) (ts : List Tree) (h g : History) (place : Located)
      → AnnotatesAt name path ts h place (Ok g) → AnnotatesAt name path ts (wide h) place (Ok (wide g))
  annotates name path ts h g place =
      let c : Contents = with_tree h.now name (set_annotations_at place.tree path ts) in
      holding (list_all (fits h.limits.max_terms (length path + 1)) ts)
      (list_all (fits (h.limits.max_terms + terms) (length path + 1)) ts) Big (ChangesTo c h) (ChangesTo c (wide h))
      g (wide g)
      (more_fit h.limits.max_terms terms (length path + 1) ts) (changes c h g)

  changes_modules : (o : Option HistoryGroup) (c : Contents) (h g : History) → ChangesModules o c h (Ok g)
      → ChangesModules o c (wide h) (Ok (wide g))
  changes_modules None c h g p = given g (wide g) (Checks h.primitives c.modules) (λ program. ChangesTo c h)
      (λ program. ChangesTo c (wide h)) (λ program. changes c h g) p
  changes_modules (Some o) c h g p = changes c h g p

  -- ---- steps back and forward

  moved_on : (move : History → Option History) → ((h : History) → move (wide h) ≡ option_map wide (move h))
      → (k : ℕ) (h : History) → moved move k (wide h) ≡ option_map wide (moved move k h)
  moved_on move on zero h = refl
  moved_on move on (suc k) h =
      ap (option_and_then (moved move k)) (on h)
      ∙ elim (move h) as (λ o.
      option_and_then (moved move k) (option_map wide o) ≡ option_map wide (option_and_then (moved move k) o)) [
        | None ↦ refl
        | Some g ↦ moved_on move on k g
      ]

  back_on : (h : History) → step_back (wide h) ≡ option_map wide (step_back h)
  back_on h = elim h.past as (λ l. back_to (wide h) l ≡ option_map wide (back_to h l)) [ [] ↦ refl | c ∷ cs ↦ refl ]

  forward_on : (h : History) → step_forward (wide h) ≡ option_map wide (step_forward h)
  forward_on h =
      elim h.later as (λ l. forward_to (wide h) l ≡ option_map wide (forward_to h l)) [ [] ↦ refl | c ∷ cs ↦ refl ]

  goes : (o : Option History) (refusal : Refusal) (g : History) → Passing (ok_or o refusal) Leaves (Ok g)
      → Passing (ok_or (option_map wide o) refusal) Leaves (Ok (wide g))
  goes None refusal g p = absurd (cc)
  goes (Some f) refusal g p = leaves f g p

  goes_to : (o r : Option History) (refusal : Refusal) (g : History) → r ≡ option_map wide o
      → Passing (ok_or o refusal) Leaves (Ok g) → Passing (ok_or r refusal) Leaves (Ok (wide g))
  goes_to o r refusal g e p = subst (λ x. Passing (ok_or x refusal) Leaves (Ok (wide g))) (sym e) (goes o refusal g p)

  -- ---- strategies

  resolving : {Y Z : Type 0} (name path x : List ℕ) (h : History)
      (next : Located → Program → Resolved → Result Y Refusal → Type 0)
      (later : Located → Program → Resolved → Result Z Refusal → Type 0) (y : Y) (z : Z)
      → ((place : Located) (program : Program) (whole : Resolved) → next place program whole (Ok y)
      → later place program whole (Ok z))
      → Resolving name path x h next (Ok y) → Resolving name path x (wide h) later (Ok z)
  resolving {Y} {Z} name path x h next later y z f =
      let Before : Located → Strategy → Program → Result Y Refusal → Type 0 =
      λ place s program. Passing (resolved_in program h.primitives s) (next place program) in
      let After : Located → Strategy → Program → Result Z Refusal → Type 0 =
      λ place s program. Passing (resolved_in program h.primitives s) (later place program) in
      let Checked : Located → Strategy → Result Y Refusal → Type 0 =
      λ place s. Given (Checks h.primitives h.now.modules) (Before place s) in
      let Again : Located → Strategy → Result Z Refusal → Type 0 =
      λ place s. Given (Checks h.primitives h.now.modules) (After place s) in
      passing y z (place_of h.now name path) (λ place. Given (ReadsAsStrategy x) (Checked place))
      (λ place. Given (ReadsAsStrategy x) (Again place))
      (λ place. given y z (ReadsAsStrategy x) (Checked place) (Again place)
      (λ s. given y z (Checks h.primitives h.now.modules) (Before place s) (After place s)
      (λ program.
      passing y z (resolved_in program h.primitives s) (next place program) (later place program) (f place program))))

  applies : (meaning : Meaning) (name path : List ℕ) (n : ℕ) (h g : History) (place : Located) (program : Program)
      (whole : Resolved)
      → AppliesAt meaning name path n h place program whole (Ok g)
      → AppliesAt meaning name path n (wide h) place program whole (Ok (wide g))
  applies meaning name path n h g place program whole p =
      let W : World = world_in meaning program h.primitives h.limits.max_terms in
      let Next : Tree → ActResult → Type 0 = λ t. ChangesTo (with_tree h.now name t) h in
      let Later : Tree → ActResult → Type 0 = λ t. ChangesTo (with_tree h.now name t) (wide h) in
      let outcome : Outcome = applied W path whole n place.tree in
      subst (λ o. Passing (given_by o) Later (Ok (wide g)))
      (sym (more_room_applies_the_same W path whole n place.tree terms (not_big outcome Next p)))
      (passing g (wide g) (given_by outcome) Next Later (λ t. changes (with_tree h.now name t) h g) p)
    where
      not_big : (o : Outcome) (Next : Tree → ActResult → Type 0) → Passing (given_by o) Next (Ok g) → o ≢ stops big
      not_big (gives t e) Next p = λ is. absurd (cc)
      not_big fails Next p = absurd (cc)
      not_big (stops why) Next p = absurd (cc)

  foresees : (meaning : Meaning) (path : List ℕ) (n : ℕ) (h : History) (found : Preview) (place : Located)
      (program : Program) (whole : Resolved)
      → ForeseesAt meaning path n h place program whole (Ok found)
      → ForeseesAt meaning path n (wide h) place program whole (Ok found)
  foresees meaning path n h found place program whole p =
      let W : World = world_in meaning program h.primitives h.limits.max_terms in
      let answer : Answer = run_whole W (length path) whole n place.part in
      subst (λ a. Foresees path n place.part a (Ok found))
      (sym (more_room_gives_the_same W _ (length path) whole.strategy n _ place.part terms (not_big answer p))) p
    where
      not_big : (a : Answer) → Foresees path n place.part a (Ok found) → a ≢ run_stopped big
      not_big (run_done after bindings left edits) p = λ is. absurd (cc)
      not_big (failed left) p = absurd (cc)
      not_big (run_stopped why) p = absurd (cc)

  -- ---- acts

  committed_on : (o : HistoryGroup) (h : History) → committed o (wide h) ≡ wide (committed o h)
  committed_on o h =
      elim o.changed as (λ b.
      (if b then record (stepped o.begun (wide h)) { group = None } else record (wide h) { group = None })
      ≡ wide (if b then record (stepped o.begun h) { group = None } else record h
      { group = None })) [ true ↦ refl | false ↦ refl ]

  comes : (act : Act) (h g : History) → ComesTo act h (Ok g) → ComesTo act (wide h) (Ok (wide g))
  comes (set_tree_act name t) h g p =
      let c : Contents = with_tree h.now name t in
      holding (fits h.limits.max_terms 0 t) (fits (h.limits.max_terms + terms) 0 t) Big (ChangesTo c h)
      (ChangesTo c (wide h)) g (wide g) (more_fits h.limits.max_terms terms 0 t) (changes c h g) p
  comes (copy_tree name other) h g p =
      passing g (wide g) (tree_of h.now name) (λ t. ChangesTo (with_tree h.now other t) h)
      (λ t. ChangesTo (with_tree h.now other t) (wide h)) (λ t. changes (with_tree h.now other t) h g) p
  comes (drop_tree_act name) h g p =
      passing g (wide g) (tree_of h.now name) (λ t. ChangesTo (without_tree h.now name) h)
      (λ t. ChangesTo (without_tree h.now name) (wide h)) (λ t. changes (without_tree h.now name) h g) p
  comes (put_act name path t) h g p = passing g (wide g) (place_of h.now name path) (PutsAt name path t h)
      (PutsAt name path t (wide h)) (puts name path t h g) p
  comes (annotate_act name path ts) h g p = passing g (wide g) (place_of h.now name path) (AnnotatesAt name path ts h)
      (AnnotatesAt name path ts (wide h)) (annotates name path ts h g) p
  comes (set_module_act name x) h g p =
      let c : Contents = with_module h.now name x in
      let read = given_Ok (ReadsAsModuleOf h.limits.max_tokens x) (λ m. ChangesModules h.group c h) g p in
      let more = more_tokens h.limits.max_tokens (h.limits.max_tokens + tokens) (lexed.tokens x) (omega arith) in
      (Ok read.0, (omega (arith, read.1.0, more), read.1.1), changes_modules h.group c h g read.2)
  comes (unload_act name) h g p =
      let c : Contents = without_module h.now name in
      passing g (wide g) (module_text_of h.now name) (λ x. ChangesModules h.group c h)
      (λ x. ChangesModules h.group c (wide h)) (λ x. changes_modules h.group c h g) p
  comes (apply_act meaning name path n x) h g p =
      resolving name path x h (AppliesAt meaning name path n h) (AppliesAt meaning name path n (wide h)) g (wide g)
      (λ place program whole. applies meaning name path n h g place program whole) p
  comes (undo_act k) h g p =
      holding (is_none h.group) (is_none h.group) Group (Passing (ok_or (undone k h) NoUndo) Leaves)
      (Passing (ok_or (undone k (wide h)) NoUndo) Leaves) g (wide g) (λ e. e)
      (goes_to (undone k h) (undone k (wide h)) NoUndo g (moved_on step_back back_on k h)) p
  comes (redo_act k) h g p =
      holding (is_none h.group) (is_none h.group) Group (Passing (ok_or (redone k h) NoRedo) Leaves)
      (Passing (ok_or (redone k (wide h)) NoRedo) Leaves) g (wide g) (λ e. e)
      (goes_to (redone k h) (redone k (wide h)) NoRedo g (moved_on step_forward forward_on k h)) p
  comes begin_act h g p =
      let begun : History = record h { group = Some (record { begun = h.now; changed = false }) } in
      holding (is_none h.group) (is_none h.group) Group (Leaves begun) (Leaves (wide begun)) g (wide g) (λ e. e)
      (leaves begun g) p
  comes commit_act h g p =
      passing g (wide g) (ok_or h.group NoGroup)
      (λ o. Given (Checks h.primitives h.now.modules) (λ program. Leaves (committed o h)))
      (λ o. Given (Checks h.primitives h.now.modules) (λ program. Leaves (committed o (wide h))))
      (λ o. given g (wide g) (Checks h.primitives h.now.modules) (λ program. Leaves (committed o h))
      (λ program. Leaves (committed o (wide h)))
      (λ program e. leaves (committed o h) g e ∙ ap Ok (sym (committed_on o h)))) p
  comes abandon_act h g p =
      passing g (wide g) (ok_or h.group NoGroup) (λ o. Leaves (record h { now = o.begun; group = None }))
      (λ o. Leaves (wide (record h { now = o.begun; group = None })))
      (λ o. leaves (record h { now = o.begun; group = None }) g) p

  -- ---- replies

  abbrev wider : Accepted → Accepted
  wider a = raised_accepted terms steps tokens a

  told : (Comes Later : ActResult → Type 0) (a : Accepted) → ((g : History) → Comes (Ok g) → Later (Ok (wide g)))
      → Told Comes (Ok a) → Told Later (Ok (wider a))
  told Comes Later a f p = go p.0 p.1 p.2
    where
      go : (outcome : ActResult) → Comes outcome → Ok a ≡ done outcome → Told Later (Ok (wider a))
      go (Ok g) comes e = (Ok (wide g), f g comes, ap (raised_reply terms steps tokens) e)
      go (Err refusal) comes e = absurd (cc)

  shows : {X : Type 0} (text_of : X → List ℕ) (h : History) (found : Result X Refusal) (a : Accepted)
      → Ok a ≡ shown text_of h found → Ok (wider a) ≡ shown text_of (wide h) found
  shows text_of h (Ok x) a e = ap (raised_reply terms steps tokens) e
  shows text_of h (Err refusal) a e = absurd (cc)

  module _ (meaning : Meaning) where
    replies_on : (form : Form) (h : History) (a : Accepted) → Replies meaning form h (Ok a)
        → Replies meaning form (wide h) (Ok (wider a))
    replies_on (tree name x) h a =
        let next : Tree → ActResult → Type 0 = λ t. ComesTo (set_tree_act name t) h in
        let later : Tree → ActResult → Type 0 = λ t. ComesTo (set_tree_act name t) (wide h) in
        told (Given (ReadAs Spells x) next) (Given (ReadAs Spells x) later) a
        (λ g. given g (wide g) (ReadAs Spells x) next later (λ t. comes (set_tree_act name t) h g))
    replies_on (put name path x) h a =
        let next : Located → Tree → ActResult → Type 0 = λ place t. PutsAt name path t h place in
        let later : Located → Tree → ActResult → Type 0 = λ place t. PutsAt name path t (wide h) place in
        let Before : Located → ActResult → Type 0 = λ place. Given (ReadAs Spells x) (next place) in
        let After : Located → ActResult → Type 0 = λ place. Given (ReadAs Spells x) (later place) in
        told (Passing (place_of h.now name path) Before) (Passing (place_of h.now name path) After) a
        (λ g. passing g (wide g) (place_of h.now name path) Before After
        (λ place. given g (wide g) (ReadAs Spells x) (next place) (later place) (λ t. puts name path t h g place)))
    replies_on (annotate name path x) h a =
        let next : Located → List Tree → ActResult → Type 0 = λ place ts. AnnotatesAt name path ts h place in
        let later : Located → List Tree → ActResult → Type 0 = λ place ts. AnnotatesAt name path ts (wide h) place in
        let Before : Located → ActResult → Type 0 = λ place. Given (ReadAs SpellsAnnotations x) (next place) in
        let After : Located → ActResult → Type 0 = λ place. Given (ReadAs SpellsAnnotations x) (later place) in
        told (Passing (place_of h.now name path) Before) (Passing (place_of h.now name path) After) a
        (λ g. passing g (wide g) (place_of h.now name path) Before After (λ place. given g (wide g)
        (ReadAs SpellsAnnotations x) (next place) (later place) (λ ts. annotates name path ts h g place)))
    replies_on (copy name other) h a = told (ComesTo (copy_tree name other) h) (ComesTo (copy_tree name other) (wide h))
        a (comes (copy_tree name other) h)
    replies_on (drop_tree name) h a =
        told (ComesTo (drop_tree_act name) h) (ComesTo (drop_tree_act name) (wide h)) a (comes (drop_tree_act name) h)
    replies_on (set_module name x) h a = told (ComesTo (set_module_act name x) h)
        (ComesTo (set_module_act name x) (wide h)) a (comes (set_module_act name x) h)
    replies_on (unload name) h a =
        told (ComesTo (unload_act name) h) (ComesTo (unload_act name) (wide h)) a (comes (unload_act name) h)
    replies_on (apply name path n x) h a = told (ComesTo (apply_act meaning name path n x) h)
        (ComesTo (apply_act meaning name path n x) (wide h)) a (comes (apply_act meaning name path n x) h)
    replies_on (preview name path n x) h a = λ p. go p.0 p.1 p.2
      where
        go : (found : Result Preview Refusal) → Previews meaning name path n x h found
            → Ok a ≡ shown preview_text h found → Replies meaning (preview name path n x) (wide h) (Ok (wider a))
        go (Ok found) sees e = (
          Ok found,
          resolving name path x h (ForeseesAt meaning path n h) (ForeseesAt meaning path n (wide h)) found found
              (foresees meaning path n h found) sees,
          shows preview_text h (Ok found) a e,
        )
        go (Err refusal) sees e = absurd (cc)
    replies_on (undo n) h a = told (ComesTo (undo_act n) h) (ComesTo (undo_act n) (wide h)) a (comes (undo_act n) h)
    replies_on (redo n) h a = told (ComesTo (redo_act n) h) (ComesTo (redo_act n) (wide h)) a (comes (redo_act n) h)
    replies_on begin h a = told (ComesTo begin_act h) (ComesTo begin_act (wide h)) a (comes begin_act h)
    replies_on commit h a = told (ComesTo commit_act h) (ComesTo commit_act (wide h)) a (comes commit_act h)
    replies_on abandon h a = told (ComesTo abandon_act h) (ComesTo abandon_act (wide h)) a (comes abandon_act h)
    replies_on (show name path) h a = shows _ h (place_of h.now name path) a
    replies_on (pretty name path) h a = shows _ h (place_of h.now name path) a
    replies_on (diff name) h a = shows _ h _ a
    replies_on (module_text name) h a = shows _ h (module_text_of h.now name) a
    replies_on form h a = ap (raised_reply terms steps tokens)

  -- ---- forms

  -- a part that is found is found with a greater budget, too
  if_on : {Z : Type 0} (b : Bool) (x y : Option Z) (z : Z) → (x ≡ Some z → y ≡ Some z)
      → (if b then x else None) ≡ Some z → (if b then y else None) ≡ Some z
  if_on true x y z f e = f e
  if_on false x y z f e = absurd (cc)

  then_on : {X Z : Type 0} (o : Option X) (next later : X → Option Z) (z : Z)
      → ((x : X) → next x ≡ Some z → later x ≡ Some z) → option_and_then next o ≡ Some z
      → option_and_then later o ≡ Some z
  then_on None next later z f e = absurd (cc)
  then_on (Some x) next later z f e = f x e

  found_on : {X Z : Type 0} (o r : Option X) (next : X → Option Z) (z : Z) → ((x : X) → o ≡ Some x → r ≡ Some x)
      → option_and_then next o ≡ Some z → option_and_then next r ≡ Some z
  found_on None r next z f e = absurd (cc)
  found_on (Some x) r next z f e = rw (f x refl) e

  within_on : (b c : Bool) (n m : ℕ) → (b ≡ true → c ≡ true) → (if b then Some n else None) ≡ Some m
      → (if c then Some n else None) ≡ Some m
  within_on true c n m f e = rw (f refl) e
  within_on false c n m f e = absurd (cc)

  abbrev greater : Budgets → Budgets
  greater b = record b { most = b.most + steps }

  up_to_on : (most : ℕ) (digits : List ℕ) (m : ℕ) → up_to most digits ≡ Some m → up_to (most + steps) digits ≡ Some m
  up_to_on most digits m e =
      then_on (part_of digits) (λ n. if nat_le 1 n && nat_le n most then Some n else None)
      (λ n. if nat_le 1 n && nat_le n (most + steps) then Some n else None) m
      (λ n.
      within_on (nat_le 1 n && nat_le n most) (nat_le 1 n && nat_le n (most + steps)) n m (more_within n most steps)) e

  budget_on : (b : Budgets) (o : Option (List ℕ)) (m : ℕ) → budget_or b o ≡ Some m → budget_or (greater b) o ≡ Some m
  budget_on b None m e = e
  budget_on b (Some word) m e = up_to_on b.most word m e

  with_budget_on : (b : Budgets) (form : ℕ → List ℕ → Form) (rest : List ℕ) (f : Form)
      → with_budget b form rest ≡ Some f → with_budget (greater b) form rest ≡ Some f
  with_budget_on b form rest f e =
      found_on (budget_or b (option_word (codes "within") rest))
      (budget_or (greater b) (option_word (codes "within") rest))
      (λ n. with_do (form n) (after_option (codes "within") rest)) f
      (budget_on b (option_word (codes "within") rest)) e

  strategy_on : (form : List ℕ → List ℕ → ℕ → List ℕ → Form) (b : Budgets) (rest : List ℕ) (f : Form)
      → strategy_form form b rest ≡ Some f → strategy_form form (greater b) rest ≡ Some f
  strategy_on form b rest f e =
      let name : List ℕ = front_word rest in
      let after : List ℕ = after_word rest in
      let next : Budgets → List ℕ → Option Form =
      λ b path. with_budget b (form name path) (after_option (codes "at") after) in
      if_on (has_word rest) (option_and_then (next b) (path_or_root (option_word (codes "at") after)))
      (option_and_then (next (greater b)) (path_or_root (option_word (codes "at") after))) f
      (then_on (path_or_root (option_word (codes "at") after)) (next b) (next (greater b)) f
      (λ path. with_budget_on b (form name path) (after_option (codes "at") after) f)) e

  after_on : (k : Keyword) (b : Budgets) (rest : List ℕ) (f : Form) → form_after k b rest ≡ Some f
      → form_after k (greater b) rest ≡ Some f
  after_on Apply b rest f e = strategy_on apply b rest f e
  after_on PreviewWord b rest f e = strategy_on preview b rest f e
  after_on k b rest f e = e

  form_on : (b : Budgets) (command : List ℕ) (f : Form) → form_of b command ≡ Some f
      → form_of (greater b) command ≡ Some f
  form_on b command f e =
      let x : List ℕ = without_end is_blank command in
      form_at (front_word x) (greater b) (after_word x)
      ∙ after_on (keyword_at (front_word x)) b (after_word x) f (sym (form_at (front_word x) b (after_word x)) ∙ e)

  checked_on : (o r : Option Form) (f : Form) → ((g : Form) → o ≡ Some g → r ≡ Some g) → checked o ≡ Ok f
      → checked r ≡ Ok f
  checked_on None r f on e = absurd (cc)
  checked_on (Some g) r f on e = rw (on g refl) e

  -- ---- runs

  module _ (meaning : Meaning) (budget : ℕ) where
    read_on : (h : History) (a : Accepted) (r s : Result Form Refusal) → ((f : Form) → r ≡ Ok f → s ≡ Ok f)
        → MatchResult r (λ form. Replies meaning form h (Ok a)) (λ refusal. Ok a ≡ Err refusal)
        → MatchResult s (λ form. Replies meaning form (wide h) (Ok (wider a))) (λ refusal. Ok (wider a) ≡ Err refusal)
    read_on h a (Ok form) s on p = rw (on form refl) (replies_on meaning form h a p)
    read_on h a (Err refusal) s on p = absurd (cc)

    reply_on : (command : Handed) (flag : Bool) (h : History) (a : Accepted) → ReplyInRun meaning budget command flag h
        (Ok a) → ReplyInRun meaning budget command flag (wide h) (Ok (wider a))
    reply_on (text command) false h a p =
        let b : Budgets = budgets_in h budget in
        read_on h a (command_of b command) (command_of (greater b) command)
        (λ f. checked_on (form_of b command) (form_of (greater b) command) f (form_on b command)) p
    reply_on long false h a p = absurd (cc)
    reply_on command true h a p = let no = p.1 in absurd (cc)

    going : (stop : Bool) (P Q : Type 0) → MatchBool (stop && false) P Q → Q
    going true P Q q = q
    going false P Q q = q

    gone : (stop : Bool) (P Q : Type 0) → Q → MatchBool (stop && false) P Q
    gone true P Q q = q
    gone false P Q q = q

    runs_on : (stop : Bool) (commands : List Handed) (flags : List Bool) (h g : History) (rs : List Reply)
        → AllByRecursion (λ reply. is_ok reply ≡ true) rs
        → Replied stop (ReplyInRun meaning budget) commands flags h rs g
        → Replied stop (ReplyInRun meaning budget) commands flags (wide h) (map (raised_reply terms steps tokens) rs)
        (wide g) × (out (map (raised_reply terms steps tokens) rs) ≡ out rs)
    runs_on stop [] [] h g [] ok p = (ap wide p, refl)
    runs_on stop (c ∷ cs) (f ∷ fs) h g (Ok a ∷ rs) ok p =
        let rest = runs_on stop cs fs a.history g rs ok.1 (going stop _ _ p.1) in
        ((reply_on c f h a p.0, gone stop _ _ rest.0), ap (λ l. a.answer ++ l) rest.1)
    runs_on stop (c ∷ cs) (f ∷ fs) h g (Err refusal ∷ rs) ok p = let no = ok.0 in absurd (cc)
    runs_on stop cs fs h g rs ok p = absurd p

pub greater_limits_answer_the_same : MoreRoomGivesTheSame → MoreRoomAppliesTheSame → GreaterLimitsAnswerTheSame
greater_limits_answer_the_same run applied meaning stop budget commands flags h g replies terms steps tokens ok p =
    runs_on run applied terms steps tokens meaning budget stop commands flags h g replies ok p
