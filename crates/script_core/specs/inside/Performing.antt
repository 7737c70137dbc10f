-- Performing commands: what their parts do, from which the answer follows.
use Rattle.std.specs.Prelude.{◌≡◌, ◌⊎◌, Bool, true, false, ℕ, List, Ok, Err, OnOk, OnErr, IfErr, MatchResult}
use Rattle.std.specs.declared.option.Option.{Option}
use Rattle.std.specs.declared.result.Result.{Result}
use Rattle.session_history.specs.Applying.{Meaning}
use Rattle.session_history.specs.History.{History}
use Rattle.session_modules.specs.declared.refusal.Refusal.{Refusal}
use Rattle.session_modules.specs.declared.refusal.Refusal.TheVariants.{Memory, Term, Deep}
use Rattle.aterm_text.specs.declared.reader.ReadFault.{ReadFault}
use Rattle.aterm_text.specs.declared.reader.ReadFault.TheVariants.{Deep as DeepText, Term as NoTerm, Memory as NoMemory}
use Rattle.script_text.specs.Form.{Form, checked}
use Rattle.script_text.specs.Replies.{Reply, Replies, told_of}
use Rattle.script_text.specs.Answer.{TellsRefusal}

-- The rule gives this refusal; or memory is wanted, if it may be.
abbrev pub Refuses : (Reply → Type 0) → Bool → Refusal → Type 0
Refuses Rule takes_none refusal = ((refusal ≡ Memory) × (takes_none ≡ false)) ⊎ Rule (Err refusal)

-- A command is performed by this rule; or it is refused, and changes nothing.
pub record PerformedRight (Rule : Reply → Type 0) (takes_none : Bool) (result : Result (Unit {0}) Refusal)
    (old new : History) (answer : List ℕ) : Type 0 where
  pub ok : OnOk result (Rule (Ok (told_of new answer)))
  pub refused : IfErr result (Refuses Rule takes_none)
  pub err : OnErr result (new ≡ old)

-- A command is answered by this rule, and accepted or refused.
abbrev pub ToldRight : (Reply → Type 0) → Bool → History → History → List ℕ → Bool → Type 0
ToldRight Rule takes_none old new answer true = Rule (Ok (told_of new answer))
ToldRight Rule takes_none old new answer false =
    (refusal : Refusal) × Refuses Rule takes_none refusal × (new ≡ old) × TellsRefusal answer refusal

-- the reply to a form, if there is one
abbrev pub ReplyToForm : Meaning → Option Form → History → Reply → Type 0
ReplyToForm meaning asked h reply =
    MatchResult (checked asked) (λ form. Replies meaning form h reply) (λ refusal. reply ≡ Err refusal)

-- the refusal for a fault in reading a term or annotations
abbrev pub reading_refusal : ReadFault → Refusal
reading_refusal DeepText = Deep
reading_refusal NoTerm = Term
reading_refusal NoMemory = Memory
