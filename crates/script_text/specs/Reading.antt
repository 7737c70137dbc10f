-- What is read of the bytes after a keyword.
use Rattle.std.specs.Prelude.{◌≡◌, ◌⊎◌, Bool, false, Ok, Err, IfOk, IfErr}
use Rattle.std.specs.declared.option.Option.{Option}
use Rattle.std.specs.declared.result.Result.{Result}
use Rattle.session_modules.specs.declared.refusal.Refusal.{Refusal}
use Rattle.session_modules.specs.declared.refusal.Refusal.TheVariants.{Memory}
use Rattle.script_text.specs.declared.command.Command.{Command}
use Rattle.script_text.specs.Form.{Form, checked, is_without_memory}
use Rattle.script_text.specs.CommandView.{form}

-- This form is read, or the refusal says what is wrong with it.
pub record ReadRight (asked : Option Form) (takes_none : Bool) (result : Result Command Refusal) : Type 0 where
  pub ok : IfOk result (λ read. checked asked ≡ Ok (form read))
  pub without_memory : IfOk result (λ read. takes_none ≡ is_without_memory (form read))
  pub refused : IfErr result (λ refusal. ((refusal ≡ Memory) × (takes_none ≡ false)) ⊎ (checked asked ≡ Err refusal))
