-- No command changes limits or primitives.
use Rattle.std.proofs.Common.{◌≡◌, ℕ, zero, suc, ◌+◌, Some, None, Bool, true, false, ◌&&◌, List, [], ◌∷◌, length, Ok, Err, Result, refl, sym, ◌∙◌, subst}
use Rattle.std.specs.Prelude.{⊤, is_err, is_none, ok_or, option_and_then, if◌then◌else◌}
use Rattle.std.specs.declared.option.Option.{Option}
use Rattle.std.specs.Option.{option_map_or}
use Rattle.std.specs.List.{list_all}
use Rattle.std.specs.Result.{MatchResult}
use Rattle.std.specs.Bool.{MatchBool}
use Rattle.term_core.specs.Tree.{Tree}
use Rattle.term_core.specs.Size.{fits}
use Rattle.term_paths.specs.Paths.{set_at, set_annotations_at}
use Rattle.aterm_text.specs.Grammar.{Spells, SpellsAnnotations}
use Rattle.strategy_syntax.specs.Syntax.{Strategy}
use Rattle.strategy_syntax.specs.declared.resolved.Resolved.{Resolved}
use Rattle.strategy_check.specs.Programs.{Program}
use Rattle.term_changes.specs.Contents.{Contents, with_tree, without_tree, with_module, without_module}
use Rattle.strategy_meaning.specs.Applied.{applied}
use Rattle.session_history.specs.Applying.{Meaning, ReadsAsStrategy, resolved_in, world_in, given_by}
use Rattle.session_modules.specs.Modules.{ReadsAsModuleOf, Checks}
use Rattle.session_history.specs.History.{HistoryGroup, History, stepped, changed, back_to, step_back, forward_to, step_forward, moved, undone, redone}
use Rattle.session_history.specs.Acts.{Act, set_tree as set_tree_act, copy_tree, drop_tree as drop_tree_act, put as put_act, annotate as annotate_act, set_module as set_module_act, unload as unload_act, apply as apply_act, undo as undo_act, redo as redo_act, begin as begin_act, commit as commit_act, abandon as abandon_act, ActResult, Passing, Holding, Given, Leaves, ChangesTo, ChangesModules, PutsAt, AnnotatesAt, AppliesAt, Located, ComesTo, committed, tree_of, module_text_of, place_of}
use Rattle.session_modules.specs.declared.refusal.Refusal.{Refusal}
use Rattle.session_modules.specs.declared.refusal.Refusal.TheVariants.{Big, NoUndo, NoRedo, Group, NoGroup}
use Rattle.script_text.specs.Form.{Form, tree, copy, drop_tree, put, annotate, set_module, unload, apply, preview, undo, redo, begin, commit, abandon, show, pretty, diff, modules, module_text, command_of}
use Rattle.script_text.specs.Handed.{Handed, text, long}
use Rattle.script_text.specs.Replies.{ReadAs, Told, done, shown, Reply, Replies, history_after, budgets_in}
use Rattle.script_text.specs.Answer.{ReplyInRun}
use Rattle.script_text.specs.Run.{Replied}
use Rattle.script_text.specs.Laws.{LimitsAreKept}

abbrev Kept : History → History → Type 0
Kept h g = (g.limits ≡ h.limits) × (g.primitives ≡ h.primitives)

-- so does the history of an outcome, if there is one
abbrev IfKept : History → ActResult → Type 0
IfKept h (Ok g) = Kept h g
IfKept h (Err refusal) = ⊤

kept_on : (h f g : History) → Kept h f → Kept f g → Kept h g
kept_on h f g a b = (b.0 ∙ a.0, b.1 ∙ a.1)

-- ---- what is tested in order

module _ (h : History) (o : ActResult) where
  leaves : (f : History) → Kept h f → Leaves f o → IfKept h o
  leaves f k e = subst (IfKept h) (sym e) k

  passing : {X : Type 0} (test : Result X Refusal) (next : X → ActResult → Type 0) → ((x : X) → next x o → IfKept h o)
      → Passing test next o → IfKept h o
  passing (Ok x) next f p = f x p
  passing (Err refusal) next f p = subst (IfKept h) (sym p) tt

  given : {X : Type 0} (Gives : Result X Refusal → Type 0) (next : X → ActResult → Type 0)
      → ((x : X) → next x o → IfKept h o) → Given Gives next o → IfKept h o
  given Gives next f p = passing p.0 next f p.2

  holding : (test : Bool) (refusal : Refusal) (next : ActResult → Type 0) → (next o → IfKept h o)
      → Holding test refusal next o → IfKept h o
  holding true refusal next f p = f p
  holding false refusal next f p = subst (IfKept h) (sym p) tt

changed_kept : (c : Contents) (h : History) → Kept h (changed c h)
changed_kept c h =
    elim h.group as (λ o. Kept h (option_map_or (λ g. record h { now = c; group = Some (record g { changed = true }) })
    o (record (stepped h.now h) { now = c }))) [
      | None ↦ (refl, refl)
      | Some g ↦ (refl, refl)
    ]

changes : (c : Contents) (h : History) (o : ActResult) → ChangesTo c h o → IfKept h o
changes c h o e = leaves h o (changed c h) (changed_kept c h) e

changes_modules : (group : Option HistoryGroup) (c : Contents) (h : History) (o : ActResult)
    → ChangesModules group c h o → IfKept h o
changes_modules None c h o p =
    given h o (Checks h.primitives c.modules) (λ program. ChangesTo c h) (λ program. changes c h o) p
changes_modules (Some g) c h o p = changes c h o p

-- ---- steps back and forward

known : (h f g : History) → Kept h f → Some f ≡ Some g → Kept h g
known h f g k e = let same : f ≡ g = cc in subst (Kept h) same k

moved_kept : (move : History → Option History) → ((h g : History) → move h ≡ Some g → Kept h g)
    → (k : ℕ) (h g : History) → moved move k h ≡ Some g → Kept h g
moved_kept move one zero h g e = known h h g (refl, refl) e
moved_kept move one (suc k) h g e =
    elim (move h) as (λ o. move h ≡ o → option_and_then (moved move k) o ≡ Some g → Kept h g) [
      | None ↦ λ is p. absurd (cc)
      | Some f ↦ λ is p. kept_on h f g (one h f is) (moved_kept move one k f g p)
    ] refl e

back_kept : (h g : History) → step_back h ≡ Some g → Kept h g
back_kept h g e =
    elim h.past as (λ l. back_to h l ≡ Some g → Kept h g) [
      | [] ↦ λ p. absurd (cc)
      | c ∷ cs ↦ λ p. known h (record h { past = cs; now = c; later = h.now ∷ h.later }) g (refl, refl) p
    ] e

forward_kept : (h g : History) → step_forward h ≡ Some g → Kept h g
forward_kept h g e =
    elim h.later as (λ l. forward_to h l ≡ Some g → Kept h g) [
      | [] ↦ λ p. absurd (cc)
      | c ∷ cs ↦ λ p. known h (record h { past = h.now ∷ h.past; now = c; later = cs }) g (refl, refl) p
    ] e

goes : (h : History) (o : ActResult) (found : Option History) (refusal : Refusal)
    → ((g : History) → found ≡ Some g → Kept h g) → Passing (ok_or found refusal) Leaves o → IfKept h o
goes h o None refusal k p = subst (IfKept h) (sym p) tt
goes h o (Some g) refusal k p = leaves h o g (k g refl) p

-- ---- acts

puts : (name path : List ℕ) (t : Tree) (h : History) (place : Located) (o : ActResult) → PutsAt name path t h place o
    → IfKept h o
puts name path t h place o p =
    let c : Contents = with_tree h.now name (set_at place.tree path t) in
    holding h o (fits h.limits.max_terms (length path) t) Big (ChangesTo c h) (changes c h o) p

annotates : (name path : List ℕ) (ts : List Tree) (h : History) (place : Located) (o : ActResult)
    → AnnotatesAt name path ts h place o → IfKept h o
annotates name path ts h place o p =
    let c : Contents = with_tree h.now name (set_annotations_at place.tree path ts) in
    holding h o (list_all (fits h.limits.max_terms (length path + 1)) ts) Big (ChangesTo c h) (changes c h o) p

applies : (meaning : Meaning) (name path : List ℕ) (n : ℕ) (h : History) (place : Located) (program : Program)
    (whole : Resolved) (o : ActResult) → AppliesAt meaning name path n h place program whole o → IfKept h o
applies meaning name path n h place program whole o p =
    passing h o (given_by (applied (world_in meaning program h.primitives h.limits.max_terms) path whole n place.tree))
    (λ t. ChangesTo (with_tree h.now name t) h)
    (λ t. changes (with_tree h.now name t) h o) p

committed_kept : (g : HistoryGroup) (h : History) → Kept h (committed g h)
committed_kept g h =
    elim g.changed as (λ b. Kept h (if b then record (stepped g.begun h) { group = None } else record h
    { group = None })) [ true ↦ (refl, refl) | false ↦ (refl, refl) ]

comes : (act : Act) (h : History) (o : ActResult) → ComesTo act h o → IfKept h o
comes (set_tree_act name t) h o p = holding h o (fits h.limits.max_terms 0 t) Big (ChangesTo (with_tree h.now name t) h)
    (changes (with_tree h.now name t) h o) p
comes (copy_tree name other) h o p = passing h o (tree_of h.now name) (λ t. ChangesTo (with_tree h.now other t) h)
    (λ t. changes (with_tree h.now other t) h o) p
comes (drop_tree_act name) h o p = passing h o (tree_of h.now name) (λ t. ChangesTo (without_tree h.now name) h)
    (λ t. changes (without_tree h.now name) h o) p
comes (put_act name path t) h o p =
    passing h o (place_of h.now name path) (PutsAt name path t h) (λ place. puts name path t h place o) p
comes (annotate_act name path ts) h o p =
    passing h o (place_of h.now name path) (AnnotatesAt name path ts h) (λ place. annotates name path ts h place o) p
comes (set_module_act name x) h o p =
    given h o (ReadsAsModuleOf h.limits.max_tokens x) (λ m. ChangesModules h.group (with_module h.now name x) h)
    (λ m. changes_modules h.group (with_module h.now name x) h o) p
comes (unload_act name) h o p =
    passing h o (module_text_of h.now name) (λ x. ChangesModules h.group (without_module h.now name) h)
    (λ x. changes_modules h.group (without_module h.now name) h o) p
comes (apply_act meaning name path n x) h o p =
    let Resolves : Located → Strategy → Program → ActResult → Type 0 =
    λ place s program. Passing (resolved_in program h.primitives s) (AppliesAt meaning name path n h place program) in
    let Checked : Located → Strategy → ActResult → Type 0 =
    λ place s. Given (Checks h.primitives h.now.modules) (Resolves place s) in
    passing h o (place_of h.now name path) (λ place. Given (ReadsAsStrategy x) (Checked place))
    (λ place. given h o (ReadsAsStrategy x) (Checked place)
    (λ s. given h o (Checks h.primitives h.now.modules) (Resolves place s)
    (λ program. passing h o (resolved_in program h.primitives s) (AppliesAt meaning name path n h place program)
    (λ whole. applies meaning name path n h place program whole o)))) p
comes (undo_act k) h o p =
    holding h o (is_none h.group) Group (Passing (ok_or (undone k h) NoUndo) Leaves)
    (goes h o (undone k h) NoUndo (moved_kept step_back back_kept k h)) p
comes (redo_act k) h o p =
    holding h o (is_none h.group) Group (Passing (ok_or (redone k h) NoRedo) Leaves)
    (goes h o (redone k h) NoRedo (moved_kept step_forward forward_kept k h)) p
comes begin_act h o p =
    let begun : History = record h { group = Some (record { begun = h.now; changed = false }) } in
    holding h o (is_none h.group) Group (Leaves begun) (leaves h o begun (refl, refl)) p
comes commit_act h o p =
    passing h o (ok_or h.group NoGroup)
    (λ g. Given (Checks h.primitives h.now.modules) (λ program. Leaves (committed g h)))
    (λ g. given h o (Checks h.primitives h.now.modules) (λ program. Leaves (committed g h))
    (λ program. leaves h o (committed g h) (committed_kept g h))) p
comes abandon_act h o p =
    passing h o (ok_or h.group NoGroup) (λ g. Leaves (record h { now = g.begun; group = None }))
    (λ g. leaves h o (record h { now = g.begun; group = None }) (refl, refl)) p

-- ---- replies

told : (h : History) (Comes : ActResult → Type 0) (reply : Reply) → ((o : ActResult) → Comes o → IfKept h o)
    → Told Comes reply → Kept h (history_after h reply)
told h Comes reply k p = subst (λ r. Kept h (history_after h r)) (sym p.2) (go p.0 (k p.0 p.1))
  where
    go : (o : ActResult) → IfKept h o → Kept h (history_after h (done o))
    go (Ok g) k = k
    go (Err refusal) k = (refl, refl)

shows : {X : Type 0} (text_of : X → List ℕ) (h : History) (found : Result X Refusal) (reply : Reply)
    → reply ≡ shown text_of h found → Kept h (history_after h reply)
shows text_of h found reply e = subst (λ r. Kept h (history_after h r)) (sym e) (go found)
  where
    go : (found : Result _ Refusal) → Kept h (history_after h (shown text_of h found))
    go (Ok x) = (refl, refl)
    go (Err refusal) = (refl, refl)

module _ (meaning : Meaning) where
  replies_kept : (form : Form) (h : History) (reply : Reply) → Replies meaning form h reply
      → Kept h (history_after h reply)
  replies_kept (tree name x) h reply =
      told h (Given (ReadAs Spells x) (λ t. ComesTo (set_tree_act name t) h)) reply
      (λ o. given h o (ReadAs Spells x) (λ t. ComesTo (set_tree_act name t) h) (λ t. comes (set_tree_act name t) h o))
  replies_kept (put name path x) h reply =
      let next : Located → Tree → ActResult → Type 0 = λ place t. PutsAt name path t h place in
      told h (Passing (place_of h.now name path) (λ place. Given (ReadAs Spells x) (next place))) reply
      (λ o. passing h o (place_of h.now name path) (λ place. Given (ReadAs Spells x) (next place))
      (λ place. given h o (ReadAs Spells x) (next place) (λ t. puts name path t h place o)))
  replies_kept (annotate name path x) h reply =
      let next : Located → List Tree → ActResult → Type 0 = λ place ts. AnnotatesAt name path ts h place in
      told h (Passing (place_of h.now name path) (λ place. Given (ReadAs SpellsAnnotations x) (next place))) reply
      (λ o. passing h o (place_of h.now name path) (λ place. Given (ReadAs SpellsAnnotations x) (next place))
      (λ place. given h o (ReadAs SpellsAnnotations x) (next place) (λ ts. annotates name path ts h place o)))
  replies_kept (copy name other) h reply =
      told h (ComesTo (copy_tree name other) h) reply (comes (copy_tree name other) h)
  replies_kept (drop_tree name) h reply = told h (ComesTo (drop_tree_act name) h) reply (comes (drop_tree_act name) h)
  replies_kept (set_module name x) h reply =
      told h (ComesTo (set_module_act name x) h) reply (comes (set_module_act name x) h)
  replies_kept (unload name) h reply = told h (ComesTo (unload_act name) h) reply (comes (unload_act name) h)
  replies_kept (apply name path n x) h reply =
      told h (ComesTo (apply_act meaning name path n x) h) reply (comes (apply_act meaning name path n x) h)
  replies_kept (preview name path n x) h reply = λ p. shows _ h p.0 reply p.2
  replies_kept (undo n) h reply = told h (ComesTo (undo_act n) h) reply (comes (undo_act n) h)
  replies_kept (redo n) h reply = told h (ComesTo (redo_act n) h) reply (comes (redo_act n) h)
  replies_kept begin h reply = told h (ComesTo begin_act h) reply (comes begin_act h)
  replies_kept commit h reply = told h (ComesTo commit_act h) reply (comes commit_act h)
  replies_kept abandon h reply = told h (ComesTo abandon_act h) reply (comes abandon_act h)
  replies_kept (show name path) h reply = shows _ h (place_of h.now name path) reply
  replies_kept (pretty name path) h reply = shows _ h (place_of h.now name path) reply
  replies_kept (diff name) h reply = shows _ h _ reply
  replies_kept (module_text name) h reply = shows _ h (module_text_of h.now name) reply
  replies_kept form h reply = λ e. subst (λ r. Kept h (history_after h r)) (sym e) (refl, refl)

  module _ (budget : ℕ) where
    read_kept : (read : Result Form Refusal) (h : History) (reply : Reply) → MatchResult read
        (λ form. Replies meaning form h reply) (λ refusal. reply ≡ Err refusal) → Kept h (history_after h reply)
    read_kept (Ok form) h reply p = replies_kept form h reply p
    read_kept (Err refusal) h reply p = subst (λ r. Kept h (history_after h r)) (sym p) (refl, refl)

    reply_kept : (command : Handed) (flag : Bool) (h : History) (reply : Reply)
        → ReplyInRun meaning budget command flag h reply → Kept h (history_after h reply)
    reply_kept (text command) false h reply p = read_kept (command_of (budgets_in h budget) command) h reply p
    reply_kept long false h reply p = subst (λ r. Kept h (history_after h r)) (sym p) (refl, refl)
    reply_kept command true h reply p = subst (λ r. Kept h (history_after h r)) (sym p.1) (refl, refl)

    run_kept : (stop : Bool) (commands : List Handed) (flags : List Bool) (h g : History) (rs : List Reply)
        → Replied stop (ReplyInRun meaning budget) commands flags h rs g → Kept h g
    run_kept stop [] [] h g [] p = subst (Kept h) (sym p) (refl, refl)
    run_kept stop (c ∷ cs) (f ∷ fs) h g (r ∷ rs) p =
        kept_on h (history_after h r) g (reply_kept c f h r p.0)
        (elim (stop && is_err r) as (λ b. MatchBool b ((fs ≡ []) × (rs ≡ []) × (g ≡ history_after h r))
        (Replied stop (ReplyInRun meaning budget) cs fs (history_after h r) rs g) → Kept (history_after h r) g) [
          | true ↦ λ q. subst (Kept (history_after h r)) (sym q.2) (refl, refl)
          | false ↦ λ q. run_kept stop cs fs (history_after h r) g rs q
        ] p.1)
    run_kept stop cs fs h g rs p = absurd p

pub limits_are_kept : LimitsAreKept
limits_are_kept meaning stop budget commands flags h g replies p =
    run_kept meaning budget stop commands flags h g replies p
