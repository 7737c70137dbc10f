-- The reply to each command, and the history after it.
use Rattle.std.specs.Prelude.{◌≡◌, ℕ, Bool, List, [], ◌∷◌, ◌++◌, length, codes, decimal, Ok, Err, MatchResult}
use Rattle.std.specs.declared.result.Result.{Result}
use Rattle.std.specs.List.{flat_map}
use Rattle.std.specs.FinMap as finmap
use Rattle.aterm_text.specs.declared.TheConstants.{MAX_NESTING}
use Rattle.aterm_text.specs.Nesting.{nesting}
use Rattle.aterm_text.specs.Grammar.{Spells, SpellsAnnotations}
use Rattle.aterm_text.specs.Printed.{print, print_name as print_symbol}
use Rattle.aterm_text.specs.Layout.{pretty as pretty_text}
use Rattle.strategy_check.specs.Words.{word_of as kind_word}
use Rattle.session_history.specs.History.{History}
use Rattle.session_modules.specs.Modules.{ReadsWithin}
use Rattle.session_history.specs.Applying.{Meaning}
use Rattle.session_history.specs.Acts as session
use Rattle.session_history.specs.Preview.{Replacement, Preview, Previews}
use Rattle.session_history.specs.Dump.{dumped}
use Rattle.session_history.specs.Differences.{base_of, changes_of, diff_text}
use Rattle.session_modules.specs.Refusal.{number_of, word_of}
use Rattle.session_modules.specs.declared.refusal.Refusal.{Refusal}
use Rattle.session_modules.specs.declared.refusal.Refusal.TheVariants.{Long, Term, Check}
use Rattle.script_text.specs.Handed.{Handed, text as handed_text, long}
use Rattle.script_text.specs.declared.command.Budgets.{Budgets}
use Rattle.script_text.specs.Form.{Form, tree, copy, drop_tree, put, annotate, set_module, unload, apply, preview, undo, redo, begin, commit, abandon, show, pretty, diff, trees, modules, module_text, history, dump, command_of}

-- an accepted command: its answer, line feeds included, and the history after it
pub record Accepted : Type 0 where
  pub answer : List ℕ
  pub history : History

-- A command is accepted or refused; a refused command leaves the history unchanged.
abbrev pub Reply : Type 0
Reply = Result Accepted Refusal

abbrev pub line : List ℕ → List ℕ
line text = text ++ 10 ∷ []

-- What a text is read as, by a relation on its bytes. At one place 1,000 brackets may be open.
abbrev pub ReadAs : {X : Type 0} → (List ℕ → X → Type 0) → List ℕ → Result X Refusal → Type 0
ReadAs Spelled text = ReadsWithin (nesting text) MAX_NESTING (Spelled text) Term

-- an answer that leaves the history unchanged
abbrev pub told_of : History → List ℕ → Accepted
told_of h answer = record { answer = answer; history = h }

abbrev pub ok_with : History → Accepted
ok_with h = told_of h (line (codes "ok"))

-- a step of the session, answered with `ok`
abbrev pub done : session.ActResult → Reply
done (Ok h) = Ok (ok_with h)
done (Err refusal) = Err refusal

-- the outcome is answered with `ok`, or is the refusal
abbrev pub Told : (session.ActResult → Type 0) → Reply → Type 0
Told Comes reply = (outcome : session.ActResult) × Comes outcome × (reply ≡ done outcome)

-- the answer that shows what was found, as this text of it, or the refusal
abbrev pub shown : {X : Type 0} → (X → List ℕ) → History → Result X Refusal → Reply
shown text h (Ok x) = Ok (told_of h (text x))
shown text h (Err refusal) = Err refusal

-- a path as a command gives it: `/` for the root, else a `/` and a number for each part
abbrev pub path_text : List ℕ → List ℕ
path_text [] = 47 ∷ []
path_text (i ∷ p) = flat_map (λ part. 47 ∷ decimal part) (i ∷ p)

-- what is at a path and what would be there, on one line
abbrev pub replacement_line : Replacement → List ℕ
replacement_line r = line (path_text r.path ++ 32 ∷ print r.old ++ codes " => " ++ print r.new)

-- the numbers of places and of steps
abbrev pub preview_line : ℕ → ℕ → List ℕ
preview_line places steps = line (codes "changes " ++ decimal places ++ codes " steps " ++ decimal steps)

-- how many places would be replaced, and in how many steps; and then a line for each of them
abbrev pub preview_text : Preview → List ℕ
preview_text p = preview_line (length p.replacements) p.steps ++ flat_map replacement_line p.replacements

-- a word, followed by a space and a name for each of these, on one line
abbrev pub listed : List ℕ → List (List ℕ) → List ℕ
listed word names = line (word ++ flat_map (λ name. 32 ∷ name) names)

-- the numbers of steps to undo and to redo
abbrev pub counted : History → List ℕ
counted h = line (codes "undo " ++ decimal (length h.past) ++ codes " redo " ++ decimal (length h.later))

abbrev pub Is : Reply → Reply → Type 0
Is is reply = reply ≡ is

-- The reply to a form at a history, given the meaning of primitives. What a command finds in the
-- session comes before its text.
abbrev pub Replies : Meaning → Form → History → Reply → Type 0
Replies meaning (tree name text) h =
    Told (session.Given (ReadAs Spells text) (λ t. session.ComesTo (session.set_tree name t) h))
Replies meaning (copy name other) h = Told (session.ComesTo (session.copy_tree name other) h)
Replies meaning (drop_tree name) h = Told (session.ComesTo (session.drop_tree name) h)
Replies meaning (put name path text) h =
    Told (session.Passing (session.place_of h.now name path) (λ place.
    session.Given (ReadAs Spells text) (λ t. session.PutsAt name path t h place)))
Replies meaning (annotate name path text) h =
    Told (session.Passing (session.place_of h.now name path) (λ place.
    session.Given (ReadAs SpellsAnnotations text) (λ ts. session.AnnotatesAt name path ts h place)))
Replies meaning (set_module name text) h = Told (session.ComesTo (session.set_module name text) h)
Replies meaning (unload name) h = Told (session.ComesTo (session.unload name) h)
Replies meaning (apply name path budget text) h =
    Told (session.ComesTo (session.apply meaning name path budget text) h)
Replies meaning (preview name path budget text) h =
    (λ reply. (found : Result Preview Refusal) × Previews meaning name path budget text h found
    × (reply ≡ shown preview_text h found))
Replies meaning (undo n) h = Told (session.ComesTo (session.undo n) h)
Replies meaning (redo n) h = Told (session.ComesTo (session.redo n) h)
Replies meaning begin h = Told (session.ComesTo session.begin h)
Replies meaning commit h = Told (session.ComesTo session.commit h)
Replies meaning abandon h = Told (session.ComesTo session.abandon h)
Replies meaning (show name path) h = Is (shown (λ place. line (print place.part)) h (session.place_of h.now name path))
Replies meaning (pretty name path) h =
    Is (shown (λ place. line (pretty_text 0 place.part)) h (session.place_of h.now name path))
Replies meaning (diff name) h = Is (shown (λ base. diff_text (changes_of name base h.now)) h (base_of h))
Replies meaning trees h = Is (Ok (told_of h (listed (codes "trees") (finmap.keys h.now.trees))))
Replies meaning modules h = Is (Ok (told_of h (listed (codes "modules") (finmap.keys h.now.modules))))
Replies meaning (module_text name) h = Is (shown line h (session.module_text_of h.now name))
Replies meaning history h = Is (Ok (told_of h (counted h)))
Replies meaning dump h = Is (Ok (told_of h (dumped h.now)))

-- the budgets of commands in this session: the greatest is the session's
abbrev pub budgets_in : History → ℕ → Budgets
budgets_in h budget = record { most = h.limits.max_steps; usual = budget }

-- The reply to a text that is a command, with this budget if it names none.
abbrev pub ReplyToText : Meaning → ℕ → List ℕ → History → Reply → Type 0
ReplyToText meaning budget command h reply =
    MatchResult (command_of (budgets_in h budget) command) (λ form. Replies meaning form h reply)
    (λ refusal. reply ≡ Err refusal)

-- the reply to a command as the splitter gives it
abbrev pub ReplyTo : Meaning → ℕ → Handed → History → Reply → Type 0
ReplyTo meaning budget (handed_text command) h reply = ReplyToText meaning budget command h reply
ReplyTo meaning budget long h reply = reply ≡ Err Long

-- A condition on each reply of a run: it relates the command as the splitter gives it, whether
-- memory couldn't grow, and the history before it to the reply.
abbrev pub Replying : Type 1
Replying = Handed → Bool → History → Reply → Type 0

-- the history that a reply leaves
abbrev pub history_after : History → Reply → History
history_after h (Ok accepted) = accepted.history
history_after h (Err refusal) = h

-- ---- how replies are written

-- What follows a refusal's number: its word; for a fault also the kind, the name as terms are
-- printed, and the two numbers.
abbrev pub reason : Refusal → List ℕ
reason (Check kind name n m) =
    kind_word kind ++ 32 ∷ print_symbol name ++ 32 ∷ decimal n ++ 32 ∷ decimal m
reason refusal = word_of refusal

-- a refusal's number and reason
abbrev pub refused : Refusal → List ℕ
refused refusal = codes "refused " ++ decimal (number_of refusal) ++ 32 ∷ reason refusal

abbrev pub written : Reply → List ℕ
written (Ok accepted) = accepted.answer
written (Err refusal) = line (refused refusal)
