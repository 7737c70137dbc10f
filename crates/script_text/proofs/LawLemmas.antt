-- The replies to commands are determined, since a text spells at most one term and at most one list
-- of annotations, and is at most one module and at most one strategy.
use Rattle.std.proofs.Common.{◌≡◌, ℕ, Some, None, Bool, true, false, ◌&&◌, ◌+◌, ◌-◌, List, [], ◌∷◌, length, Ok, Err, Result, refl, sym, ap, ◌∙◌, subst, inl, inr, arith}
use Rattle.std.specs.Prelude.{is_err, is_none, ok_or, IsSomeAnd}
use Rattle.std.specs.declared.option.Option.{Option}
use Rattle.std.specs.List.{list_all}
use Rattle.std.specs.FinMap as finmap
use Rattle.std.specs.Result.{MatchResult}
use Rattle.std.specs.Bool.{MatchBool}
use Rattle.term_core.specs.Tree.{Tree}
use Rattle.term_core.specs.Size.{fits}
use Rattle.term_paths.specs.Paths.{set_at, set_annotations_at}
use Rattle.aterm_text.specs.Laws.{OneTerm}
use Rattle.aterm_text.specs.Grammar.{Spells, SpellsAnnotations}
use Rattle.strategy_syntax.specs.Modules.{Module}
use Rattle.strategy_syntax.specs.Syntax.{Strategy}
use Rattle.strategy_syntax.specs.declared.resolved.Resolved.{Resolved}
use Rattle.strategy_parse.specs.Laws.{OneModule, OneResult}
use Rattle.strategy_tokens.specs.declared.token.Token.{Token}
use Rattle.strategy_tokens.specs.Tokens.{tokens}
use Rattle.strategy_parse.specs.Gives.{GivesModule, GivesStrategy}
use Rattle.strategy_tokens.specs.declared.TheConstants.{MAX_TOKENS}
use Rattle.strategy_tokens.specs.Items.{module_tokens}
use Rattle.strategy_check.specs.Tables.{Modules}
use Rattle.strategy_check.specs.Faults.{Fault, Primitives, faults, first}
use Rattle.strategy_check.specs.Programs.{Program, program}
use Rattle.aterm_text.specs.Nesting.{nesting}
use Rattle.aterm_text.specs.declared.TheConstants.{MAX_NESTING}
use Rattle.term_changes.specs.Contents.{Contents, with_tree, without_tree, with_module, without_module}
use Rattle.strategy_meaning.specs.Answer.{Answer, done as run_done, failed, stopped as run_stopped}
use Rattle.strategy_meaning.specs.Meaning.{run_whole}
use Rattle.strategy_meaning.specs.Applied.{applied}
use Rattle.session_history.specs.Applying.{Meaning, ReadsAsStrategy, resolved_in, world_in, given_by}
use Rattle.session_modules.specs.Modules.{Texts, ReadsWithin, ReadsBy, ReadsAsModule, ReadsAsModuleOf, AreRead, Finds, GivesProgram, Checks, refusal_of}
use Rattle.session_history.specs.History.{HistoryGroup, History, changed, undone, redone}
use Rattle.session_history.specs.Acts.{Act, set_tree as set_tree_act, copy_tree, drop_tree as drop_tree_act, put as put_act, annotate as annotate_act, set_module as set_module_act, unload as unload_act, apply as apply_act, undo as undo_act, redo as redo_act, begin as begin_act, commit as commit_act, abandon as abandon_act, ActResult, Passing, Holding, Given, Leaves, ChangesTo, ChangesModules, PutsAt, AnnotatesAt, AppliesAt, Located, Resolving, ComesTo, committed, tree_of, module_text_of, place_of}
use Rattle.session_history.specs.Preview.{Preview, Foresees, ForeseesAt, Previews}
use Rattle.session_history.proofs.OutermostLemmas.{outermost_paths, shown_one}
use Rattle.session_modules.specs.declared.refusal.Refusal.{Refusal}
use Rattle.session_modules.specs.declared.refusal.Refusal.TheVariants.{Term, Syntax, Big, NoUndo, NoRedo, Group, NoGroup}
use Rattle.script_text.specs.Form.{Form, tree, copy, drop_tree, put, annotate, set_module, unload, apply, preview, undo, redo, begin, commit, abandon, command_of}
use Rattle.script_text.specs.Handed.{Handed, text, long}
use Rattle.script_text.specs.Replies.{ReadAs, Told, done, shown, preview_text, Reply, Replies, history_after, budgets_in}
use Rattle.script_text.specs.Answer.{ReplyInRun}
use Rattle.script_text.specs.Run.{Replied}

module _ {X : Type 0} (Gives : X → Type 0) (n most : ℕ) (none : Refusal)
    (one : (a b : X) → Gives a → Gives b → a ≡ b) where
  outcome-one : (a b : Result X Refusal) → ReadsWithin n most Gives none a → ReadsWithin n most Gives none b → a ≡ b
  outcome-one (Ok t) (Ok u) p q = ap Ok (one t u p.1 q.1)
  outcome-one (Ok t) (Err r) p (inl deep) = absurd (omega (arith, p.0, deep.1))
  outcome-one (Ok t) (Err r) p (inr never) = absurd (never.2 t p.1)
  outcome-one (Err r) (Ok u) (inl deep) q = absurd (omega (arith, q.0, deep.1))
  outcome-one (Err r) (Ok u) (inr never) q = absurd (never.2 u q.1)
  outcome-one (Err r) (Err s) p q = grind arith

module _ {X : Type 0} (Spelled : List ℕ → X → Type 0)
    (one : (x : List ℕ) (a b : X) → Spelled x a → Spelled x b → a ≡ b) where
  ReadAs-one : (x : List ℕ) (a b : Result X Refusal) → ReadAs Spelled x a → ReadAs Spelled x b → a ≡ b
  ReadAs-one x a b p q = outcome-one (Spelled x) (nesting x) MAX_NESTING Term (one x) a b p q

-- ---- tests in order

module _ {X Y : Type 0} where
  Passing-one : (test : Result X Refusal) (next : X → Result Y Refusal → Type 0)
      → ((x : X) (a b : Result Y Refusal) → next x a → next x b → a ≡ b) → (a b : Result Y Refusal)
      → Passing test next a → Passing test next b → a ≡ b
  Passing-one (Ok x) next one a b p q = one x a b p q
  Passing-one (Err refusal) next one a b p q = p ∙ sym q

  Given-one : (Gives : Result X Refusal → Type 0) (next : X → Result Y Refusal → Type 0)
      → ((r s : Result X Refusal) → Gives r → Gives s → r ≡ s)
      → ((x : X) (a b : Result Y Refusal) → next x a → next x b → a ≡ b)
      → (a b : Result Y Refusal) → Given Gives next a → Given Gives next b → a ≡ b
  Given-one Gives next gives one a b p q = Passing-one p.0 next one a b p.2
      (subst (λ (r : Result X Refusal). Passing r next b) (sym (gives p.0 q.0 p.1 q.1)) q.2)

Holding-one : (test : Bool) (refusal : Refusal) (Next : ActResult → Type 0)
    → ((a b : ActResult) → Next a → Next b → a ≡ b) → (a b : ActResult) → Holding test refusal Next a
    → Holding test refusal Next b → a ≡ b
Holding-one true refusal Next one a b p q = one a b p q
Holding-one false refusal Next one a b p q = p ∙ sym q

Leaves-one : (g : History) (a b : ActResult) → Leaves g a → Leaves g b → a ≡ b
Leaves-one g a b p q = p ∙ sym q

PutsAt-one : (name path : List ℕ) (t : Tree) (h : History) (place : Located) (a b : ActResult)
    → PutsAt name path t h place a → PutsAt name path t h place b → a ≡ b
PutsAt-one name path t h place =
    let c : Contents = with_tree h.now name (set_at place.tree path t) in
    Holding-one (fits h.limits.max_terms (length path) t) Big (ChangesTo c h) (Leaves-one (changed c h))

AnnotatesAt-one : (name path : List ℕ) (ts : List Tree) (h : History) (place : Located) (a b : ActResult)
    → AnnotatesAt name path ts h place a → AnnotatesAt name path ts h place b → a ≡ b
AnnotatesAt-one name path ts h place =
    let c : Contents = with_tree h.now name (set_annotations_at place.tree path ts) in
    Holding-one (list_all (fits h.limits.max_terms (length path + 1)) ts) Big (ChangesTo c h) (Leaves-one (changed c h))

Told-one : (Comes : ActResult → Type 0) → ((a b : ActResult) → Comes a → Comes b → a ≡ b) → (r s : Reply) → Told Comes r
    → Told Comes s → r ≡ s
Told-one Comes one r s p q = p.2 ∙ ap done (one p.0 q.0 p.1 q.1) ∙ sym q.2

-- ---- modules

same_fault : (f g : Fault) → Some f ≡ Some g → f ≡ g
same_fault f g e = cc

module _ {X : Type 0} (Gives : List Token → X → Type 0)
    (one : (x : List ℕ) (a b : X) → Gives (tokens x) a → Gives (tokens x) b → a ≡ b) where
  ReadsBy-one : (most : ℕ) (x : List ℕ) (a b : Result X Refusal) → ReadsBy Gives most x a
      → ReadsBy Gives most x b → a ≡ b
  ReadsBy-one most x a b p q = outcome-one (Gives (tokens x)) (length (tokens x)) most Syntax (one x) a b p q

AppliesAt-one : (meaning : Meaning) (name path : List ℕ) (n : ℕ) (h : History) (place : Located) (program : Program)
    (strategy : Resolved) (a b : ActResult) → AppliesAt meaning name path n h place program strategy a
    → AppliesAt meaning name path n h place program strategy b → a ≡ b
AppliesAt-one meaning name path n h place program strategy =
    Passing-one
    (given_by (applied (world_in meaning program h.primitives h.limits.max_terms) path strategy n place.tree))
    (λ t. ChangesTo (with_tree h.now name t) h) (λ t. Leaves-one (changed (with_tree h.now name t) h))

Foresees-one : (path : List ℕ) (n : ℕ) (before : Tree) (answer : Answer) (a b : Result Preview Refusal)
    → Foresees path n before answer a → Foresees path n before answer b → a ≡ b
Foresees-one path n before (run_done after bindings left edits) a b p q =
    let same = shown_one path before after p.0 q.0 p.1 q.1 (outermost_paths p.0 q.0 edits p.2 q.2) p.3 q.3 in
    p.4 ∙ ap (λ l. Ok (record { replacements = l; steps = n - left })) same ∙ sym q.4
Foresees-one path n before (failed left) a b p q = p ∙ sym q
Foresees-one path n before (run_stopped why) a b p q = p ∙ sym q

module _ (one : OneModule) where
  ReadsAsModule-one : (most : ℕ) (x : List ℕ) (a b : Result Module Refusal) → ReadsAsModuleOf most x a
      → ReadsAsModuleOf most x b → a ≡ b
  ReadsAsModule-one most x = ReadsBy-one GivesModule one (module_tokens most (tokens x)) x

  read_as-one : (text : Option (List ℕ)) (m n : Module) → IsSomeAnd text (λ x. ReadsAsModule x (Ok m))
      → IsSomeAnd text (λ x. ReadsAsModule x (Ok n)) → m ≡ n
  read_as-one None m n p q = absurd p
  read_as-one (Some x) m n p q = one x m n p.1 q.1

  AreRead-one : (texts : Texts) (names : List (List ℕ)) (ms ns : Modules) → AreRead texts names ms
      → AreRead texts names ns → ms ≡ ns
  AreRead-one texts [] [] [] p q = refl
  AreRead-one texts (name ∷ names) (m ∷ ms) (n ∷ ns) p q =
      let named : m.0 ≡ n.0 = p.0 ∙ sym q.0 in
      let read : m.1 ≡ n.1 = read_as-one (finmap.get texts name) m.1 n.1 p.1 q.1 in
      λ i. (named i, read i) ∷ AreRead-one texts names ms ns p.2 q.2 i
  AreRead-one texts [] [] (n ∷ ns) p q = absurd q
  AreRead-one texts (name ∷ names) (m ∷ ms) [] p q = absurd q
  AreRead-one texts names ms ns p q = absurd p

  pub Finds-one : (primitives : Primitives) (texts : Texts) (a b : Option Fault) → Finds primitives texts a
      → Finds primitives texts b → a ≡ b
  Finds-one primitives texts a b p q =
      p.fault ∙ ap (λ (ms : Modules). first (faults ms primitives))
      (AreRead-one texts (finmap.keys texts) p.modules q.modules p.are q.are) ∙ sym q.fault

  -- modules with a fault have no program
  faultless : (primitives : Primitives) (texts : Texts) (p : Program) (fault : Fault) → GivesProgram primitives texts p
      → Finds primitives texts (Some fault) → ⊥
  faultless primitives texts p fault gives finds = none (finds.fault
      ∙ ap (λ (ms : Modules). first (faults ms primitives))
      (AreRead-one texts (finmap.keys texts) finds.modules gives.modules finds.are gives.are)
      ∙ ap first gives.faultless)
    where
      none : Some fault ≡ None → ⊥
      none e = absurd (cc)

  pub Checks-one : (primitives : Primitives) (texts : Texts) (a b : Result Program Refusal) → Checks primitives texts a
      → Checks primitives texts b → a ≡ b
  Checks-one primitives texts (Ok p) (Ok q) a b =
      ap Ok (a.given ∙ ap (λ (ms : Modules). program ms primitives)
      (AreRead-one texts (finmap.keys texts) a.modules b.modules a.are b.are) ∙ sym b.given)
  Checks-one primitives texts (Ok p) (Err r) a b = absurd (faultless primitives texts p b.0 a b.1)
  Checks-one primitives texts (Err r) (Ok q) a b = absurd (faultless primitives texts q a.0 b a.1)
  Checks-one primitives texts (Err r) (Err s) a b =
      let same : a.0 ≡ b.0 = same_fault a.0 b.0 (Finds-one primitives texts (Some a.0) (Some b.0) a.1 b.1) in
      ap Err (a.2 ∙ ap refusal_of same ∙ sym b.2)

  ChangesModules-one : (o : Option HistoryGroup) (c : Contents) (h : History) (a b : ActResult) → ChangesModules o c h a
      → ChangesModules o c h b → a ≡ b
  ChangesModules-one None c h a b p q = Given-one (Checks h.primitives c.modules) (λ program. ChangesTo c h)
      (Checks-one h.primitives c.modules) (λ program. Leaves-one (changed c h)) a b p q
  ChangesModules-one (Some g) c h a b p q = p ∙ sym q

  Resolving-one : OneResult → {Y : Type 0} (name path x : List ℕ) (h : History)
      (next : Located → Program → Resolved → Result Y Refusal → Type 0)
      → ((place : Located) (program : Program) (whole : Resolved) (a b : Result Y Refusal) → next place program whole a
      → next place program whole b → a ≡ b)
      → (a b : Result Y Refusal) → Resolving name path x h next a → Resolving name path x h next b → a ≡ b
  Resolving-one strategies {Y} name path x h next one =
      let Resolves : Located → Strategy → Program → Result Y Refusal → Type 0 =
      λ place s program. Passing (resolved_in program h.primitives s) (next place program) in
      let Checked : Located → Strategy → Result Y Refusal → Type 0 =
      λ place s. Given (Checks h.primitives h.now.modules) (Resolves place s) in
      Passing-one (place_of h.now name path) (λ place. Given (ReadsAsStrategy x) (Checked place))
      (λ place. Given-one (ReadsAsStrategy x) (Checked place) (ReadsBy-one GivesStrategy strategies MAX_TOKENS x)
      (λ s. Given-one (Checks h.primitives h.now.modules) (Resolves place s) (Checks-one h.primitives h.now.modules)
      (λ program. Passing-one (resolved_in program h.primitives s) (next place program) (one place program))))

  Previews-one : OneResult
      → (meaning : Meaning) (name path : List ℕ) (n : ℕ) (x : List ℕ) (h : History) (a b : Result Preview Refusal)
      → Previews meaning name path n x h a → Previews meaning name path n x h b → a ≡ b
  Previews-one strategies meaning name path n x h =
      Resolving-one strategies name path x h (ForeseesAt meaning path n h)
      (λ place program whole. Foresees-one path n place.part
      (run_whole (world_in meaning program h.primitives h.limits.max_terms) (length path) whole n place.part))

  pub ComesTo-one : OneResult → (act : Act) (h : History) (a b : ActResult) → ComesTo act h a → ComesTo act h b → a ≡ b
  ComesTo-one strategies (set_tree_act name t) h = Holding-one (fits h.limits.max_terms 0 t) Big
      (ChangesTo (with_tree h.now name t) h) (Leaves-one (changed (with_tree h.now name t) h))
  ComesTo-one strategies (copy_tree name other) h = Passing-one (tree_of h.now name)
      (λ t. ChangesTo (with_tree h.now other t) h) (λ t. Leaves-one (changed (with_tree h.now other t) h))
  ComesTo-one strategies (drop_tree_act name) h = Passing-one (tree_of h.now name)
      (λ t. ChangesTo (without_tree h.now name) h) (λ t. Leaves-one (changed (without_tree h.now name) h))
  ComesTo-one strategies (put_act name path t) h =
      Passing-one (place_of h.now name path) (PutsAt name path t h) (PutsAt-one name path t h)
  ComesTo-one strategies (annotate_act name path ts) h =
      Passing-one (place_of h.now name path) (AnnotatesAt name path ts h) (AnnotatesAt-one name path ts h)
  ComesTo-one strategies (set_module_act name x) h =
      Given-one (ReadsAsModuleOf h.limits.max_tokens x) (λ m. ChangesModules h.group (with_module h.now name x) h)
      (ReadsAsModule-one h.limits.max_tokens x) (λ m. ChangesModules-one h.group (with_module h.now name x) h)
  ComesTo-one strategies (unload_act name) h =
      Passing-one (module_text_of h.now name) (λ x. ChangesModules h.group (without_module h.now name) h)
      (λ x. ChangesModules-one h.group (without_module h.now name) h)
  ComesTo-one strategies (apply_act meaning name path n x) h =
      Resolving-one strategies name path x h (AppliesAt meaning name path n h)
      (λ place program whole. AppliesAt-one meaning name path n h place program whole)
  ComesTo-one strategies (undo_act k) h = Holding-one (is_none h.group) Group
      (Passing (ok_or (undone k h) NoUndo) Leaves) (Passing-one (ok_or (undone k h) NoUndo) Leaves Leaves-one)
  ComesTo-one strategies (redo_act k) h = Holding-one (is_none h.group) Group
      (Passing (ok_or (redone k h) NoRedo) Leaves) (Passing-one (ok_or (redone k h) NoRedo) Leaves Leaves-one)
  ComesTo-one strategies begin_act h =
      let begun : History = record h { group = Some (record { begun = h.now; changed = false }) } in
      Holding-one (is_none h.group) Group (Leaves begun) (Leaves-one begun)
  ComesTo-one strategies commit_act h =
      Passing-one (ok_or h.group NoGroup)
      (λ g. Given (Checks h.primitives h.now.modules) (λ program. Leaves (committed g h)))
      (λ g. Given-one (Checks h.primitives h.now.modules) (λ program. Leaves (committed g h))
      (Checks-one h.primitives h.now.modules) (λ program. Leaves-one (committed g h)))
  ComesTo-one strategies abandon_act h =
      Passing-one (ok_or h.group NoGroup) (λ g. Leaves (record h { now = g.begun; group = None }))
      (λ g. Leaves-one (record h { now = g.begun; group = None }))

-- ---- replies

module _ (one : OneTerm) (one_module : OneModule) (one_strategy : OneResult) (meaning : Meaning) where
  Replies-one : (form : Form) (h : History) (r s : Reply) → Replies meaning form h r → Replies meaning form h s → r ≡ s
  Replies-one (tree name x) h =
      let next : Tree → ActResult → Type 0 = λ t. ComesTo (set_tree_act name t) h in
      Told-one (Given (ReadAs Spells x) next) (Given-one (ReadAs Spells x) next (ReadAs-one Spells one.term x)
      (λ t. ComesTo-one one_module one_strategy (set_tree_act name t) h))
  Replies-one (put name path x) h =
      let next : Located → Tree → ActResult → Type 0 = λ place t. PutsAt name path t h place in
      Told-one (Passing (place_of h.now name path) (λ place. Given (ReadAs Spells x) (next place)))
      (Passing-one (place_of h.now name path) (λ place. Given (ReadAs Spells x) (next place))
      (λ place.
      Given-one (ReadAs Spells x) (next place) (ReadAs-one Spells one.term x) (λ t. PutsAt-one name path t h place)))
  Replies-one (annotate name path x) h =
      let next : Located → List Tree → ActResult → Type 0 = λ place ts. AnnotatesAt name path ts h place in
      Told-one (Passing (place_of h.now name path) (λ place. Given (ReadAs SpellsAnnotations x) (next place)))
      (Passing-one (place_of h.now name path) (λ place. Given (ReadAs SpellsAnnotations x) (next place))
      (λ place. Given-one (ReadAs SpellsAnnotations x) (next place) (ReadAs-one SpellsAnnotations one.annotations x)
      (λ ts. AnnotatesAt-one name path ts h place)))
  Replies-one (copy name other) h =
      Told-one (ComesTo (copy_tree name other) h) (ComesTo-one one_module one_strategy (copy_tree name other) h)
  Replies-one (drop_tree name) h =
      Told-one (ComesTo (drop_tree_act name) h) (ComesTo-one one_module one_strategy (drop_tree_act name) h)
  Replies-one (set_module name x) h =
      Told-one (ComesTo (set_module_act name x) h) (ComesTo-one one_module one_strategy (set_module_act name x) h)
  Replies-one (unload name) h =
      Told-one (ComesTo (unload_act name) h) (ComesTo-one one_module one_strategy (unload_act name) h)
  Replies-one (apply name path n x) h = Told-one (ComesTo (apply_act meaning name path n x) h)
      (ComesTo-one one_module one_strategy (apply_act meaning name path n x) h)
  Replies-one (preview name path n x) h = λ r s p q. p.2 ∙ ap (shown preview_text h)
      (Previews-one one_module one_strategy meaning name path n x h p.0 q.0 p.1 q.1) ∙ sym q.2
  Replies-one (undo n) h = Told-one (ComesTo (undo_act n) h) (ComesTo-one one_module one_strategy (undo_act n) h)
  Replies-one (redo n) h = Told-one (ComesTo (redo_act n) h) (ComesTo-one one_module one_strategy (redo_act n) h)
  Replies-one begin h = Told-one (ComesTo begin_act h) (ComesTo-one one_module one_strategy begin_act h)
  Replies-one commit h = Told-one (ComesTo commit_act h) (ComesTo-one one_module one_strategy commit_act h)
  Replies-one abandon h = Told-one (ComesTo abandon_act h) (ComesTo-one one_module one_strategy abandon_act h)
  Replies-one form h = λ r s p q. p ∙ sym q

  read-one : (read : Result Form Refusal) (h : History) (r s : Reply)
      → MatchResult read (λ form. Replies meaning form h r) (λ refusal. r ≡ Err refusal) →
      MatchResult read (λ form. Replies meaning form h s) (λ refusal. s ≡ Err refusal) → r ≡ s
  read-one (Ok form) h r s p q = Replies-one form h r s p q
  read-one (Err refusal) h r s p q = p ∙ sym q

  ReplyInRun-one : (budget : ℕ) (command : Handed) (flag : Bool) (h : History) (r s : Reply)
      → ReplyInRun meaning budget command flag h r → ReplyInRun meaning budget command flag h s → r ≡ s
  ReplyInRun-one budget (text command) false h r s p q = read-one (command_of (budgets_in h budget) command) h r s p q
  ReplyInRun-one budget long false h r s p q = p ∙ sym q
  ReplyInRun-one budget command true h r s p q = p.1 ∙ sym q.1

  pub Replied-one : (stop : Bool) (budget : ℕ) (commands : List Handed) (flags : List Bool) (h g k : History)
      (rs ss : List Reply) → Replied stop (ReplyInRun meaning budget) commands flags h rs g
      → Replied stop (ReplyInRun meaning budget) commands flags h ss k → (rs ≡ ss) × (g ≡ k)
  Replied-one stop budget [] [] h g k [] [] p q = (refl, p ∙ sym q)
  Replied-one stop budget (c ∷ cs) (f ∷ fs) h g k (r ∷ rs) (s ∷ ss) p q =
      let first = ReplyInRun-one budget c f h r s p.0 q.0 in
      later (stop && is_err r) first p.1
      (subst (λ (x : Reply). MatchBool (stop && is_err x) ((fs ≡ []) × (ss ≡ []) × (k ≡ history_after h x))
      (Replied stop (ReplyInRun meaning budget) cs fs (history_after h x) ss k)) (sym first) q.1)
      (Replied-one stop budget cs fs (history_after h r) g k rs ss)
    where
      later : (b : Bool) → r ≡ s → MatchBool b ((fs ≡ []) × (rs ≡ []) × (g ≡ history_after h r))
          (Replied stop (ReplyInRun meaning budget) cs fs (history_after h r) rs g) →
          MatchBool b ((fs ≡ []) × (ss ≡ []) × (k ≡ history_after h r))
          (Replied stop (ReplyInRun meaning budget) cs fs (history_after h r) ss k) →
          (Replied stop (ReplyInRun meaning budget) cs fs (history_after h r) rs g
          → Replied stop (ReplyInRun meaning budget) cs fs (history_after h r) ss k
          → (rs ≡ ss) × (g ≡ k)) → (r ∷ rs ≡ s ∷ ss) × (g ≡ k)
      later true e a b rest =
          (ap (λ (x : Reply). x ∷ rs) e ∙ ap (λ (xs : List Reply). s ∷ xs) (a.1 ∙ sym b.1), a.2 ∙ sym b.2)
      later false e a b rest =
          (ap (λ (x : Reply). x ∷ rs) e ∙ ap (λ (xs : List Reply). s ∷ xs) (rest a b).0, (rest a b).1)
  Replied-one stop budget [] [] h g k [] (s ∷ ss) p q = absurd q
  Replied-one stop budget (c ∷ cs) (f ∷ fs) h g k (r ∷ rs) [] p q = absurd q
  Replied-one stop budget cs fs h g k rs ss p q = absurd p
