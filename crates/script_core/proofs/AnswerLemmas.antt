-- Lemmas on how one command is answered.
use Rattle.std.proofs.Common.{◌≡◌, ◌≤◌, ◌<◌, ℕ, Bool, false, true, ◌||◌, List, [], codes, Some, None, Ok, Err, IfErr, OnOk, is_none, Result, ok_or, option_map, ◌⊎◌, inl, inr, refl, sym, ap, ◌∙◌, subst, arith, if◌then◌else◌}
use Rattle.std.specs.declared.option.Option.{Option}
use Rattle.std.specs.Prelude.{is_ok}
use Rattle.std.specs.Cmp.Lexicographic.{same_text}
use Rattle.std.specs.Result.{MatchResult}
use Rattle.aterm_text.specs.declared.TheConstants.{MAX_NESTING}
use Rattle.aterm_text.specs.declared.reader.ReadFault.{ReadFault}
use Rattle.aterm_text.specs.declared.reader.ReadFault.TheVariants.{Deep as DeepText, Term as NoTerm, Memory as NoMemory}
use Rattle.aterm_text.specs.Nesting.{nesting}
use Rattle.aterm_text.specs.Tokens.{is_blank}
use Rattle.session_history.specs.Applying.{Meaning}
use Rattle.session_history.specs.History.{HistoryGroup, History, undone, redone}
use Rattle.session_history.specs.Acts.{Act, ActResult, Passing, Holding, Given, Leaves, Located, ComesTo, Performs, PerformsSurely}
use Rattle.term_changes.specs.Contents.{Contents}
use Rattle.session_history.specs.Differences.{base_of, changes_of, diff_text, TellsChanges}
use Rattle.session_modules.specs.declared.refusal.Refusal.{Refusal}
use Rattle.session_modules.specs.declared.refusal.Refusal.TheVariants.{Memory, NoUndo, NoRedo, Group, NoGroup}
use Rattle.script_text.specs.declared.keyword.Keyword.{Keyword}
use Rattle.script_text.specs.Script.{without_end}
use Rattle.script_text.specs.Handed.{Handed, text as handed_text, long}
use Rattle.std.specs.Str.{bytes_eq}
use Rattle.script_text.specs.Form.{Form, is_without_memory, diff, undo, redo, begin, abandon, checked, form_of, form_with, last_steps, has_word, front_word, after_word, takes_no_memory, takes_no_memory_with}
use Rattle.script_text.specs.declared.command.Budgets.{Budgets}
use Rattle.script_text.specs.CommandView.{form}
use Rattle.script_text.specs.Replies.{Reply, ReadAs, Told, done, shown, told_of, Replies, budgets_in, ReplyTo, ReplyToText, refused, line}
use Rattle.script_text.specs.Answer.{Answered, ReplyInRun, TellsRefusal, takes_none, is_fault}
use Rattle.script_text.specs.KeywordView.{form_after, is_without_memory_after}
use Rattle.script_core.specs.inside.Performing.{Refuses, PerformedRight, ReplyToForm, ToldRight, reading_refusal}

-- ---- texts that are read

pub read_refused : {X : Type 0} (Spelled : List ℕ → X → Type 0) (text : List ℕ) (fault : ReadFault)
    → (fault ≡ DeepText → MAX_NESTING < nesting text) →
    (MAX_NESTING < nesting text → fault ≡ DeepText) → (fault ≡ NoTerm → (x : X) → Spelled text x → ⊥)
    → (reading_refusal fault ≡ Memory) ⊎ ReadAs Spelled text (Err (reading_refusal fault))
read_refused Spelled text DeepText deep only none = inr (inl (refl, deep refl))
read_refused Spelled text NoTerm deep only none = inr (inr (refl, shallow, none refl))
  where
    not_deep : (MAX_NESTING < nesting text) → ⊥
    not_deep h = let e = only h in absurd (cc)

    shallow : nesting text ≤ MAX_NESTING
    shallow = omega (arith, not_deep)
read_refused Spelled text NoMemory deep only none = inl refl

pub read_well : {X : Type 0} (Spelled : List ℕ → X → Type 0) (text : List ℕ) (x : X)
    → (MAX_NESTING < nesting text → ⊥) → Spelled text x → ReadAs Spelled text (Ok x)
read_well Spelled text x not_deep spelled = (omega (arith, not_deep), spelled)

-- ---- commands by rules

-- a refusal before anything was done
pub refuses : (Rule : Reply → Type 0) (none : Bool) (refusal : Refusal) (h : History) (answer : List ℕ)
    → Refuses Rule none refusal → PerformedRight Rule none (Err refusal) h h answer
refuses Rule none refusal h answer p = record { ok = tt; refused = p; err = refl }

-- by a weaker rule
pub PerformedRight-by : (P Q : Reply → Type 0) (none : Bool) (r : Result (Unit {0}) Refusal) (h g : History)
    (answer : List ℕ) → ((reply : Reply) → P reply → Q reply) → PerformedRight P none r h g answer
    → PerformedRight Q none r h g answer
PerformedRight-by P Q none (Ok x) h g answer f p = record { ok = f _ p.ok; refused = tt; err = tt }
PerformedRight-by P Q none (Err refusal) h g answer f p = record { ok = tt; refused = by p.refused; err = p.err }
  where
    by : Refuses P none refusal → Refuses Q none refusal
    by (inl memory) = inl memory
    by (inr e) = inr (f (Err refusal) e)

-- an act of the session; and one that takes no memory
pub acts : (act : Act) (r : Result (Unit {0}) Refusal) (h g : History) → Performs act h g r
    → PerformedRight (Told (ComesTo act h)) false r h g (line (codes "ok"))
acts act (Ok x) h g p = record { ok = (Ok g, p.ok, refl); refused = tt; err = tt }
acts act (Err refusal) h g p = record { ok = tt; refused = by p.refused; err = p.err }
  where
    by : (refusal ≡ Memory) ⊎ ComesTo act h (Err refusal) → Refuses (Told (ComesTo act h)) false refusal
    by (inl memory) = inl (memory, refl)
    by (inr comes) = inr (Err refusal, comes, refl)

pub acts_surely : (act : Act) (r : Result (Unit {0}) Refusal) (h g : History) → PerformsSurely act h g r
    → PerformedRight (Told (ComesTo act h)) true r h g (line (codes "ok"))
acts_surely act (Ok x) h g p = record { ok = (Ok g, p.ok, refl); refused = tt; err = tt }
acts_surely act (Err refusal) h g p = record { ok = tt; refused = inr (Err refusal, p.refused, refl); err = p.err }

-- with the value of a text
module _ {X : Type 0} (Gives : Result X Refusal → Type 0) (next : X → ActResult → Type 0) where
  pub unread : (refusal : Refusal) → (refusal ≡ Memory) ⊎ Gives (Err refusal)
      → Refuses (Told (Given Gives next)) false refusal
  unread refusal (inl memory) = inl (memory, refl)
  unread refusal (inr gives) = inr (Err refusal, (Err refusal, gives, refl), refl)

  pub told_given : (x : X) → Gives (Ok x) → (reply : Reply) → Told (next x) reply → Told (Given Gives next) reply
  told_given x gives reply t = (t.0, (Ok x, gives, t.1), t.2)

-- at a place and with the value of a text
module _ {X : Type 0} (Gives : Result X Refusal → Type 0) (next : Located → X → ActResult → Type 0) where
  abbrev AtPlace : Result Located Refusal → ActResult → Type 0
  AtPlace test = Passing test (λ place. Given Gives (next place))

  pub nowhere : (test : Result Located Refusal) (refusal : Refusal) → test ≡ Err refusal
      → Refuses (Told (AtPlace test)) false refusal
  nowhere test refusal none =
      inr (Err refusal, subst (λ (t : Result Located Refusal). AtPlace t (Err refusal)) (sym none) refl, refl)

  pub unread_there : (test : Result Located Refusal) (place : Located) (refusal : Refusal) → test ≡ Ok place
      → (refusal ≡ Memory) ⊎ Gives (Err refusal) → Refuses (Told (AtPlace test)) false refusal
  unread_there test place refusal there (inl memory) = inl (memory, refl)
  unread_there test place refusal there (inr gives) = inr (
    Err refusal,
    subst (λ (t : Result Located Refusal). AtPlace t (Err refusal)) (sym there) (Err refusal, gives, refl),
    refl,
  )

  pub told_there : (test : Result Located Refusal) (x : X) → Gives (Ok x) → (reply : Reply)
      → Told (Passing test (λ place. next place x)) reply → Told (AtPlace test) reply
  told_there (Ok place) x gives reply t = (t.0, (Ok x, gives, t.1), t.2)
  told_there (Err refusal) x gives reply t = t

-- `ok` for the outcome of an act
pub told_ok : (Rule : Reply → Type 0) (none : Bool) (r outcome : Result (Unit {0}) Refusal) (h g : History)
    (answer : List ℕ) → PerformedRight Rule none outcome h g (line (codes "ok"))
    → r ≡ outcome → OnOk r (answer ≡ line (codes "ok")) → PerformedRight Rule none r h g answer
told_ok Rule none r (Ok x) h g answer p same written =
    let is : answer ≡ line (codes "ok") = rw same at written in
    rw (same, is) (record { ok = p.ok; refused = tt; err = tt })
told_ok Rule none r (Err refusal) h g answer p same written =
    rw same (record { ok = tt; refused = p.refused; err = p.err })

pub ruleset by_acts = (acts, acts_surely, told_ok)

-- what the last step changed
pub told_changes : (meaning : Meaning) (name : Option (List ℕ)) (r : Result (Unit {0}) Refusal) (h g : History)
    (answer : List ℕ) → g ≡ h
    → OnOk r (TellsChanges name h [] answer) → IfErr r (λ refusal. (refusal ≡ Memory) ⊎ (base_of h ≡ Err refusal))
    → PerformedRight (Replies meaning (diff name) h) false r h g answer
told_changes meaning name (Ok x) h g answer same told refused =
    let text : Contents → List ℕ = λ base. diff_text (changes_of name base h.now) in
    record { ok = (λ k. Ok (told_of (same k) (told.text k))) ∙ ap (shown text h) (sym told.is); refused = tt; err = tt }
told_changes meaning name (Err refusal) h g answer same told refused =
    record { ok = tt; refused = by refused; err = same }
  where
    by : (refusal ≡ Memory) ⊎ (base_of h ≡ Err refusal) → Refuses (Replies meaning (diff name) h) false refusal
    by (inl memory) = inl (memory, refl)
    by (inr e) = inr (sym (ap (shown (λ base. diff_text (changes_of name base h.now)) h) e))

-- by a form that was read, or wasn't
to_form : (meaning : Meaning) (asked : Option Form) (known : Form) (h : History) → checked asked ≡ Ok known
    → (reply : Reply) → Replies meaning known h reply → ReplyToForm meaning asked h reply
to_form meaning asked known h read reply p = subst
    (λ (x : Result Form Refusal). MatchResult x (λ form. Replies meaning form h reply) (λ refusal. reply ≡ Err refusal))
    (sym read) p

pub formed : (meaning : Meaning) (asked : Option Form) (known : Form) (none : Bool) (r : Result (Unit {0}) Refusal)
    (h g : History) (answer : List ℕ) → checked asked ≡ Ok known → none ≡ is_without_memory known →
    PerformedRight (Replies meaning known h) (is_without_memory known) r h g answer
    → PerformedRight (ReplyToForm meaning asked h) none r h g answer
formed meaning asked known none r h g answer read quiet p =
    subst (λ (b : Bool). PerformedRight (ReplyToForm meaning asked h) b r h g answer) (sym quiet)
    (PerformedRight-by (Replies meaning known h) (ReplyToForm meaning asked h) (is_without_memory known) r h g answer
    (to_form meaning asked known h read) p)

pub unformed : (meaning : Meaning) (asked : Option Form) (none : Bool) (refusal : Refusal) (h : History)
    → ((refusal ≡ Memory) × (none ≡ false)) ⊎ (checked asked ≡ Err refusal)
    → Refuses (ReplyToForm meaning asked h) none refusal
unformed meaning asked none refusal h (inl memory) = inl memory
unformed meaning asked none refusal h (inr e) = inr
    (subst (λ (x : Result Form Refusal). MatchResult x (λ form. Replies meaning form h (Err refusal))
    (λ other. (◌≡◌ {A = Reply} (Err refusal) (Err other)))) (sym e) (refl {A = Reply}))

-- ---- commands that take no memory are refused without reporting a fault

abbrev tells_fault : Reply → Bool
tells_fault (Ok accepted) = false
tells_fault (Err refusal) = is_fault refusal

same_told : (outcome known : ActResult)
    → outcome ≡ known → tells_fault (done known) ≡ false → tells_fault (done outcome) ≡ false
same_told outcome known is e = ap (λ (o : ActResult). tells_fault (done o)) is ∙ e

going : (group : Option HistoryGroup) (o : Option History) (miss : Refusal)
    → is_fault miss ≡ false → (outcome : ActResult)
    → Holding (is_none group) Group (Passing (ok_or o miss) Leaves) outcome → tells_fault (done outcome) ≡ false
going None None miss e outcome p = same_told outcome (Err miss) p e
going None (Some g) miss e outcome p = same_told outcome (Ok g) p refl
going (Some g) o miss e outcome p = same_told outcome (Err Group) p refl

beginning : (group : Option HistoryGroup) (h : History) (outcome : ActResult)
    → Holding (is_none group) Group (Leaves h) outcome → tells_fault (done outcome) ≡ false
beginning None h outcome p = same_told outcome (Ok h) p refl
beginning (Some g) h outcome p = same_told outcome (Err Group) p refl

leaving : (group : Option HistoryGroup) (next : HistoryGroup → History) (outcome : ActResult)
    → Passing (ok_or group NoGroup) (λ g. Leaves (next g)) outcome → tells_fault (done outcome) ≡ false
leaving None next outcome p = same_told outcome (Err NoGroup) p refl
leaving (Some g) next outcome p = same_told outcome (Ok (next g)) p refl

module _ (meaning : Meaning) (budgets : Budgets) (h : History) (reply : Reply) where
  abbrev Says : Option Form → Type 0
  Says form = MatchResult (checked form) (λ f. Replies meaning f h reply) (λ refusal. reply ≡ Err refusal)

  undo_said : (o : Option ℕ) → Says (option_map undo o) → tells_fault reply ≡ false
  undo_said None m = ap tells_fault m
  undo_said (Some n) m = ap tells_fault m.2 ∙ going h.group (undone n h) NoUndo refl m.0 m.1

  redo_said : (o : Option ℕ) → Says (option_map redo o) → tells_fault reply ≡ false
  redo_said None m = ap tells_fault m
  redo_said (Some n) m = ap tells_fault m.2 ∙ going h.group (redone n h) NoRedo refl m.0 m.1

  begin_said : (b : Bool) → Says (if b then None else Some begin) → tells_fault reply ≡ false
  begin_said true m = ap tells_fault m
  begin_said false m = ap tells_fault m.2
      ∙ beginning h.group (record h { group = Some (record { begun = h.now; changed = false }) }) m.0 m.1

  abandon_said : (b : Bool) → Says (if b then None else Some abandon) → tells_fault reply ≡ false
  abandon_said true m = ap tells_fault m
  abandon_said false m = ap tells_fault m.2 ∙ leaving h.group (λ g. record h { now = g.begun; group = None }) m.0 m.1

  module _ (keyword rest : List ℕ) (m : Says (form_with budgets keyword rest)) where
    said_as : (word : List ℕ) → true ≡ bytes_eq keyword word → Says (form_with budgets word rest)
    said_as word e = let P : List ℕ → Type 0 = λ w. Says (form_with budgets w rest) in
        subst P (same_text keyword word e) m

    by_word : (a b c d : Bool) → a ≡ bytes_eq keyword (codes "undo") → b ≡ bytes_eq keyword (codes "redo")
        → c ≡ bytes_eq keyword (codes "begin") → d ≡ bytes_eq keyword (codes "abandon") →
        (a || b || c || d) ≡ true → tells_fault reply ≡ false
    by_word true b c d ea eb ec ed h = undo_said (last_steps rest) (said_as (codes "undo") ea)
    by_word false true c d ea eb ec ed h = redo_said (last_steps rest) (said_as (codes "redo") eb)
    by_word false false true d ea eb ec ed h = begin_said (has_word rest) (said_as (codes "begin") ec)
    by_word false false false true ea eb ec ed h = abandon_said (has_word rest) (said_as (codes "abandon") ed)
    by_word false false false false ea eb ec ed h = absurd (cc)

    said_shortly : takes_no_memory_with keyword ≡ true → tells_fault reply ≡ false
    said_shortly = by_word (bytes_eq keyword (codes "undo")) (bytes_eq keyword (codes "redo"))
        (bytes_eq keyword (codes "begin")) (bytes_eq keyword (codes "abandon")) refl refl refl refl

told_shortly : (meaning : Meaning) (budget : ℕ) (command : Handed) (h : History) (refusal : Refusal)
    → is_fault refusal ≡ true → ReplyTo meaning budget command h (Err refusal) → takes_none command ≡ false
told_shortly meaning budget (handed_text c) h refusal fault reply = at (takes_no_memory c) refl
  where
    at : (b : Bool) → takes_no_memory c ≡ b → takes_no_memory c ≡ false
    at false e = e
    at true e =
        let short : is_fault refusal ≡ false = said_shortly meaning (budgets_in h budget) h (Err refusal)
        (front_word (without_end is_blank c)) (after_word (without_end is_blank c)) reply e in
        absurd (cc)
told_shortly meaning budget long h refusal fault reply = let short : is_fault refusal ≡ false = ap tells_fault reply in
    absurd (cc)

-- ---- a command in a run

-- a refusal, and the outcome of an act
pub refusal_told : (Rule : Reply → Type 0) (none : Bool) (refusal : Refusal) (h g : History) (answer : List ℕ)
    (verdict : Bool) → Refuses Rule none refusal → g ≡ h → TellsRefusal answer refusal
    → verdict ≡ false → ToldRight Rule none h g answer verdict
refusal_told Rule none refusal h g answer verdict refuses same tells is =
    subst (λ (b : Bool). ToldRight Rule none h g answer b) (sym is) (refusal, refuses, same, tells)

pub told : (Rule : Reply → Type 0) (none : Bool) (outcome : Result (Unit {0}) Refusal) (h g : History)
    (before answer : List ℕ) (verdict : Bool) → PerformedRight Rule none outcome h g before →
    verdict ≡ is_ok outcome → OnOk outcome (answer ≡ before) → IfErr outcome (λ refusal. TellsRefusal answer refusal)
    → ToldRight Rule none h g answer verdict
told Rule none (Ok x) h g before answer verdict p is same refused =
    subst (λ (b : Bool). ToldRight Rule none h g answer b) (sym is)
    (subst (λ (bytes : List ℕ). Rule (Ok (told_of g bytes))) (sym same) p.ok)
told Rule none (Err refusal) h g before answer verdict p is same refused =
    refusal_told Rule none refusal h g answer verdict p.refused p.err refused is

pub answered : (meaning : Meaning) (budget : ℕ) (command : Handed) (h g : History) (answer : List ℕ) (verdict : Bool)
    → ToldRight (ReplyTo meaning budget command h) (takes_none command) h g answer verdict →
    Answered (ReplyInRun meaning budget) command h g answer verdict
answered meaning budget command h g answer true t =
    record { flag = false; reply = Ok (told_of g answer); replied = t; history = refl; written = refl; accepted = refl }
answered meaning budget command h g answer false (refusal, inl memory, same, inl text) = record {
  flag = true;
  reply = Err refusal;
  replied = (memory.1, ap Err memory.0);
  history = same;
  written = text;
  accepted = refl;
}
answered meaning budget command h g answer false (refusal, inr reply, same, inl text) =
    record { flag = false; reply = Err refusal; replied = reply; history = same; written = text; accepted = refl }
answered meaning budget command h g answer false (refusal, inl memory, same, inr wanting) = record {
  flag = true;
  reply = Err Memory;
  replied = (memory.1, refl);
  history = same;
  written = wanting.1;
  accepted = refl;
}
answered meaning budget command h g answer false (refusal, inr reply, same, inr wanting) = record {
  flag = true;
  reply = Err Memory;
  replied = (told_shortly meaning budget command h refusal wanting.0 reply, refl);
  history = same;
  written = wanting.1;
  accepted = refl;
}

-- a command that is answered by its form
pub by_form : (meaning : Meaning) (budget : ℕ) (command : Handed) (text : List ℕ) (keyword known : Keyword)
    (rest : List ℕ) (h g : History) (answer : List ℕ) (verdict : Bool) →
    command ≡ handed_text text → form_of (budgets_in h budget) text ≡ form_after keyword (budgets_in h budget) rest
    → takes_no_memory text ≡ is_without_memory_after keyword → keyword ≡ known →
    ToldRight (ReplyToForm meaning (form_after known (budgets_in h budget) rest) h) (is_without_memory_after known) h g
    answer verdict → Answered (ReplyInRun meaning budget) command h g answer verdict
by_form meaning budget command text keyword known rest h g answer verdict is same quiet e t =
    answered meaning budget command h g answer verdict
    (subst (λ (c : Handed). ToldRight (ReplyTo meaning budget c h) (takes_none c) h g answer verdict) (sym is)
    (subst (λ (none : Bool). ToldRight (ReplyToText meaning budget text h) none h g answer verdict)
    (sym (quiet ∙ ap is_without_memory_after e))
    (subst (λ (asked : Option Form). ToldRight (ReplyToForm meaning asked h) (is_without_memory_after known) h g answer
    verdict) (sym (same ∙ ap (λ k. form_after k (budgets_in h budget) rest) e)) t)))
