-- What parsing and checking the modules of a store means for the history.
use Rattle.std.proofs.Common.{◌≡◌, ◌⊎◌, ℕ, List, [], Option, Some, None, IsSome, IfSome, Result, Ok, Err, OnOk, OnErr, IfErr, ok_or, option_and_then, inl, inr, refl, sym, ap, subst, ◌∙◌, arith}
use Rattle.std.specs.Prelude.{IsSomeAnd, IsErrAnd}
use Rattle.std.specs.FinMap as finmap
use Rattle.strategy_syntax.specs.Modules.{Module}
use Rattle.strategy_check.specs.Faults.{Primitives}
use Rattle.strategy_check.specs.Programs.{Program}
use Rattle.term_changes.specs.Contents.{Contents, with_module, without_module}
use Rattle.term_changes.specs.Slots.{Store, contents, content, slot_of}
use Rattle.term_changes.specs.Entries.{slot_text, put}
use Rattle.term_changes.proofs.ContentsLemmas.{module_of_name, module_put, module_taken}
use Rattle.prim_core.specs.Signature.{Signature}
use Rattle.session_modules.specs.Modules.{Texts, ReadsAsModule, ReadsAsModuleOf, AreReadable, GivesProgram, Checks, IsUnread, AreRefused, changed_text}
use Rattle.session_modules.specs.Kept.{AreCurrent, IsCurrent, IsKept}
use Rattle.session_modules.specs.declared.cache.ModuleCache.{ModuleCache}
use Rattle.session_modules.specs.declared.checked.CheckedTexts.{CheckedTexts}
use Rattle.session_modules.specs.declared.refusal.Refusal.{Refusal}
use Rattle.session_modules.specs.declared.refusal.Refusal.TheVariants.{Memory, NoModule, NoGroup}
use Rattle.session_modules.proofs.CacheLemmas.{kept_current}
use Rattle.session_modules.proofs.ReadingLemmas.{any_module}
use Rattle.session_history.specs.Unfolded.{Logged, unfolded, HasText}
use Rattle.session_history.specs.Moving.{KeepsHistory, Puts, Commits, PerformsBy}
use Rattle.session_history.specs.History.{HistoryGroup, History, changed}
use Rattle.session_history.specs.Acts.{set_module, unload, commit, ActResult, Passing, Given, Leaves, ChangesModules, ComesTo, committed}
use Rattle.session_history.proofs.StepLemmas.{refuses_by, some_there}
use Rattle.session_history.proofs.ActLemmas.{keeps_itself, keeps_further, accepted, refused_by, wants_in, closed_group, kept_same}
use Rattle.session_history.proofs.SoundLemmas.{now_changed}

-- a text that is a module isn't refused
pub reads_one : (text : List ℕ) (m : Module) (refusal : Refusal) → ReadsAsModule text (Ok m)
    → ReadsAsModule text (Err refusal) → ⊥
reads_one text m refusal ok (inl (deep, more)) = omega (arith, ok.0, more)
reads_one text m refusal ok (inr (syntax, few, none)) = none m ok.1

-- checked modules give their program
pub given_by : (ps : Primitives) (texts : Texts) (c : CheckedTexts) → AreCurrent ps texts c
    → GivesProgram ps texts c.checked.program
given_by ps texts c current = record {
  modules = c.checked.modules;
  are = current.are;
  faultless = current.belong.checked.faultless;
  given = current.belong.checked.given;
}

pub current_gives : (ps : Primitives) (texts : Texts) (o : Option CheckedTexts) → IsSomeAnd o (AreCurrent ps texts)
    → (p : Program) × GivesProgram ps texts p
current_gives ps texts None current = absurd current
current_gives ps texts (Some c) current = (c.checked.program, given_by ps texts c current)

-- ---- one module more, or one less

pub none_unread : (most : ℕ) (texts : Texts) (refusal : Refusal) → AreReadable most texts → IsUnread texts refusal → ⊥
none_unread most texts refusal readable (q, x, e, unread) =
    let old : (m : Module) × ReadsAsModuleOf most x (Ok m) =
    subst (λ (o : Option (List ℕ)). IfSome o (λ t. (m : Module) × ReadsAsModuleOf most t (Ok m))) e (readable q) in
    reads_one x old.0 refusal (any_module most x old.0 old.1) unread

-- ---- a text in the slot of a name

-- the contents with a text that was put there
pub text_put : (t m : Logged) (name text : List ℕ) (i : ℕ) → slot_of m.store.modules name ≡ Some i → KeepsHistory t m
    → contents (put (slot_text i (Some text)) m.store) ≡ with_module (contents t.store) name text
text_put t m name text i here kept = module_put m.store name i text here
    ∙ (λ j. with_module ((kept.same [] j).now) name text)

module _ (s : Store) (name : List ℕ) (i : ℕ) (text : List ℕ) (is : HasText s name i text) where
  pub text_held : finmap.get (contents s).modules name ≡ Some text
  text_held = module_of_name s name is.apart ∙ ap (option_and_then (content s.modules)) is.named ∙ is.held

-- ---- what the checker makes of changed modules

module _ (ps : List Signature) (t n : Logged) (c : Contents) where
  abbrev h : History
  h = unfolded ps t

  abbrev g : History
  g = unfolded ps n

  becomes_found : (k : ModuleCache) → t.group ≡ None → IsCurrent ps c.modules k → g ≡ changed c h
      → ChangesModules h.group c h (Ok g)
  becomes_found k closed current is =
      let given = current_gives ps c.modules k.kept current in
      subst (λ (o : Option HistoryGroup). ChangesModules o c h (Ok g)) (sym (closed_group t ps closed))
      (Ok given.0, given.1, ap Ok is)

  becomes_refused : (refusal : Refusal) → t.group ≡ None → Checks ps c.modules (Err refusal)
      → ChangesModules h.group c h (Err refusal)
  becomes_refused refusal closed checks = subst (λ (o : Option HistoryGroup). ChangesModules o c h (Err refusal))
      (sym (closed_group t ps closed)) (Err refusal, checks, refl)

  becomes_inside : IsSome t.group → g ≡ changed c h → ChangesModules h.group c h (Ok g)
  becomes_inside inside is = subst (λ (o : Option HistoryGroup). ChangesModules o c h (Ok g))
      (sym (some_there h.group (grind arith)).1) (ap Ok is)

-- ---- acts on the modules

module _ (ps : List Signature) (t : Logged) (name text : List ℕ) where
  abbrev with_text : Contents
  with_text = with_module (contents t.store) name text

  -- a text that is no module, at a `?`
  pub set_unread : {X : Type 0} (r : Result X Refusal) (refusal : Refusal)
      → IsErrAnd r (λ e. e ≡ refusal) → (refusal ≡ Memory) ⊎ ReadsAsModuleOf t.limits.max_tokens text (Err refusal)
      → PerformsBy ps (set_module name text) t t r
  set_unread r refusal is (inl memory) =
      record { is = refuses_by (set_module name text) (unfolded ps t) (unfolded ps t) r refusal is (inl memory) refl }
  set_unread r refusal is (inr unread) = record {
    is = refuses_by (set_module name text) (unfolded ps t) (unfolded ps t) r refusal is
        (inr (Err refusal, unread, refl)) refl;
  }

  module _ (m n : Logged) (i : ℕ) (here : slot_of m.store.modules name ≡ Some i) (kept : KeepsHistory t m) where
    now_is : contents (put (slot_text i (Some text)) m.store) ≡ with_text
    now_is = text_put t m name text i here kept

    told : Puts (slot_text i (Some text)) m n → unfolded ps n ≡ changed with_text (unfolded ps t)
    told change = change.made ps ∙ (λ j. changed (now_is j) (kept.same ps j))

    pub now_with : Puts (slot_text i (Some text)) m n → contents n.store ≡ with_text
    now_with change = ap (λ (h : History). h.now) (told change) ∙ now_changed with_text (unfolded ps t)

    -- the texts that were checked are those afterwards
    told_texts : changed_text (contents m.store).modules name (Some text) ≡ with_text.modules
    told_texts = ap (λ (h : History). changed_text h.now.modules name (Some text)) (kept.same ps)

    module _ (read : Module) (reads : ReadsAsModuleOf t.limits.max_tokens text (Ok read))
        (closed : t.group ≡ None) where
      pub set_outside : (k : ModuleCache) → IsCurrent ps (changed_text (contents m.store).modules name (Some text)) k
          → Puts (slot_text i (Some text)) m n
          → PerformsBy {X = Unit {0}} ps (set_module name text) t n (Ok tt)
      set_outside k current change =
          accepted (set_module name text) t n ps tt (
            Ok read,
            reads,
            becomes_found ps t n with_text k closed (subst (λ (texts : Texts). IsCurrent ps texts k) told_texts current)
                (told change),
          )

      pub set_refused : (refusal : Refusal) → (refusal ≡ Memory) ⊎ Checks ps
          (changed_text (contents m.store).modules name (Some text)) (Err refusal) → KeepsHistory m n
          → PerformsBy {X = Unit {0}} ps (set_module name text) t n (Err refusal)
      set_refused refusal why same =
          refused_by (set_module name text) t n ps refusal (by why) (keeps_further t m n kept same)
        where
          by : (refusal ≡ Memory) ⊎ Checks ps (changed_text (contents m.store).modules name (Some text)) (Err refusal)
              → (refusal ≡ Memory) ⊎ ComesTo (set_module name text) (unfolded ps t) (Err refusal)
          by (inl memory) = inl memory
          by (inr checks) = inr (
            Ok read,
            reads,
            becomes_refused ps t n with_text refusal closed
                (subst (λ (texts : Texts). Checks ps texts (Err refusal)) told_texts checks),
          )

      -- the answer of a change of the text
      pub set_ends : (r : Result (Unit {0}) Refusal) (k : ModuleCache) → OnOk r (Puts (slot_text i (Some text)) m n)
          → OnOk r (IsCurrent ps (changed_text (contents m.store).modules name (Some text)) k)
          → IfErr r (λ refusal. (refusal ≡ Memory) ⊎ Checks ps
          (changed_text (contents m.store).modules name (Some text)) (Err refusal)) → OnErr r (KeepsHistory m n)
          → PerformsBy ps (set_module name text) t n r
      set_ends (Ok tt) k change current why same = set_outside k current change
      set_ends (Err refusal) k change current why same = set_refused refusal why same

    pub set_kept : (r : Result (Unit {0}) Refusal) (k : ModuleCache) → OnOk r (Puts (slot_text i (Some text)) m n)
        → OnOk r (IsCurrent ps (changed_text (contents m.store).modules name (Some text)) k)
        → OnErr r (KeepsHistory m n) → OnErr r (IsKept ps (contents m.store).modules k)
        → IsKept ps (contents n.store).modules k
    set_kept (Ok _) k change current same stays = kept_current ps (contents n.store).modules k
        (subst (λ (texts : Texts). IsCurrent ps texts k)
        (told_texts ∙ ap (λ (c : Contents). c.modules) (sym (now_with change))) current)
    set_kept (Err refusal) k change current same stays = kept_same ps m n k same stays

    pub set_inside : (read : Module) → IsSome t.group → ReadsAsModuleOf t.limits.max_tokens text (Ok read)
        → Puts (slot_text i (Some text)) m n
        → PerformsBy {X = Unit {0}} ps (set_module name text) t n (Ok tt)
    set_inside read inside reads change =
        accepted (set_module name text) t n ps tt (Ok read, reads, becomes_inside ps t n with_text inside (told change))

module _ (ps : List Signature) (t : Logged) (name : List ℕ) where
  pub unload_none : {X : Type 0}
      → finmap.get (contents t.store).modules name ≡ None → PerformsBy {X = X} ps (unload name) t t (Err NoModule)
  unload_none none = refused_by (unload name) t t ps NoModule (inr (rw none refl)) (keeps_itself t)

  module _ (n : Logged) (i : ℕ) (text : List ℕ) (there : HasText t.store name i text) where
    abbrev without_text : Contents
    without_text = without_module (contents t.store) name

    gone : contents (put (slot_text i None) t.store) ≡ without_text
    gone = module_taken t.store name i there.apart there.named

    without : Puts (slot_text i None) t n → unfolded ps n ≡ changed without_text (unfolded ps t)
    without change = change.made ps ∙ ap (λ c. changed c (unfolded ps t)) gone

    unloads : (outcome : ActResult) → ChangesModules (unfolded ps t).group without_text (unfolded ps t) outcome
        → ComesTo (unload name) (unfolded ps t) outcome
    unloads outcome becomes = rw (text_held t.store name i text there) becomes

    pub unload_outside : (k : ModuleCache) → t.group ≡ None → IsCurrent ps
        (changed_text (contents t.store).modules name None) k → Puts (slot_text i None) t n
        → PerformsBy {X = Unit {0}} ps (unload name) t n (Ok tt)
    unload_outside k closed current change = accepted (unload name) t n ps tt
        (unloads (Ok (unfolded ps n)) (becomes_found ps t n without_text k closed current (without change)))

    pub unload_refused : (refusal : Refusal) → t.group ≡ None → (refusal ≡ Memory) ⊎ Checks ps
        (changed_text (contents t.store).modules name None) (Err refusal) → KeepsHistory t n
        → PerformsBy {X = Unit {0}} ps (unload name) t n (Err refusal)
    unload_refused refusal closed why same = refused_by (unload name) t n ps refusal (by why) same
      where
        by : (refusal ≡ Memory) ⊎ Checks ps (changed_text (contents t.store).modules name None) (Err refusal)
            → (refusal ≡ Memory) ⊎ ComesTo (unload name) (unfolded ps t) (Err refusal)
        by (inl memory) = inl memory
        by (inr checks) = inr (unloads (Err refusal) (becomes_refused ps t n without_text refusal closed checks))

    -- the answer of a change of the text
    pub unload_ends : (r : Result (Unit {0}) Refusal) (k : ModuleCache) → t.group ≡ None → OnOk r
        (Puts (slot_text i None) t n) → OnOk r (IsCurrent ps (changed_text (contents t.store).modules name None) k)
        → IfErr r
        (λ refusal. (refusal ≡ Memory) ⊎ Checks ps (changed_text (contents t.store).modules name None) (Err refusal))
        → OnErr r (KeepsHistory t n)
        → PerformsBy ps (unload name) t n r
    unload_ends (Ok tt) k closed change current why same = unload_outside k closed current change
    unload_ends (Err refusal) k closed change current why same = unload_refused refusal closed why same

    pub unload_kept : (r : Result (Unit {0}) Refusal) (k : ModuleCache) → OnOk r (Puts (slot_text i None) t n)
        → OnOk r (IsCurrent ps (changed_text (contents t.store).modules name None) k)
        → OnErr r (KeepsHistory t n) → OnErr r (IsKept ps (contents t.store).modules k)
        → IsKept ps (contents n.store).modules k
    unload_kept (Ok _) k change current same stays =
        let now : contents n.store ≡ without_text = ap (λ (h : History). h.now) (without change)
        ∙ now_changed without_text (unfolded ps t) in
        kept_current ps (contents n.store).modules k
        (subst (λ (c : Contents). IsCurrent ps c.modules k) (sym now) current)
    unload_kept (Err refusal) k change current same stays = kept_same ps t n k same stays

    pub unload_inside : IsSome t.group → Puts (slot_text i None) t n
        → PerformsBy {X = Unit {0}} ps (unload name) t n (Ok tt)
    unload_inside inside change = accepted (unload name) t n ps tt
        (unloads (Ok (unfolded ps n)) (becomes_inside ps t n without_text inside (without change)))

-- ---- the end of a group

module _ (ps : List Signature) (t : Logged) where
  pub commit_outside : {X : Type 0} → t.group ≡ None → PerformsBy {X = X} ps commit t t (Err NoGroup)
  commit_outside closed = refused_by commit t t ps NoGroup (inr (rw closed refl)) (keeps_itself t)

  pub commit_found : (n : Logged) (k : ModuleCache) → IsCurrent ps (contents t.store).modules k → Commits t n
      → PerformsBy {X = Unit {0}} ps commit t n (Ok tt)
  commit_found n k current commits = accepted commit t n ps tt (by (unfolded ps t).group (commits.made ps))
    where
      by : (o : Option HistoryGroup) → IsSomeAnd o (λ g. unfolded ps n ≡ committed g (unfolded ps t))
          → Passing (ok_or o NoGroup)
          (λ g. Given (Checks ps (contents t.store).modules) (λ program. Leaves (committed g (unfolded ps t))))
          (Ok (unfolded ps n))
      by None left = absurd left
      by (Some group) left = let given = current_gives ps (contents t.store).modules k.kept current in
          (Ok given.0, given.1, ap Ok left)

  pub commit_refused : (refusal : Refusal) → IsSome t.group → AreReadable t.limits.max_tokens (contents t.store).modules
      → AreRefused ps (contents t.store).modules refusal
      → PerformsBy {X = Unit {0}} ps commit t t (Err refusal)
  commit_refused refusal inside readable refused = refused_by commit t t ps refusal (by refused) (keeps_itself t)
    where
      by : AreRefused ps (contents t.store).modules refusal
          → (refusal ≡ Memory) ⊎ ComesTo commit (unfolded ps t) (Err refusal)
      by (inl (inl memory)) = inl memory
      by (inl (inr unread)) =
          absurd (none_unread t.limits.max_tokens (contents t.store).modules refusal readable unread)
      by (inr checks) = inr (rw (some_there t.group inside).1 (Err refusal, checks, refl))

-- what makes the answers to acts on the modules out of what the calls in them say
pub ruleset module_acts = (keeps_itself, wants_in, set_unread, commit_found)
