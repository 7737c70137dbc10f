use Rattle.std.proofs.Common.{◌≡◌, Bool, true, false, Some, None, Ok, Err, IfOk, IfErr, refl, sym, ap, ◌∙◌, inr, if◌then◌else◌}
use Rattle.std.specs.declared.result.Result.{Result}
use Rattle.session_modules.specs.declared.refusal.Refusal.{Refusal}
use Rattle.session_modules.specs.declared.refusal.Refusal.TheVariants.{Line}
use Rattle.script_text.specs.declared.command.Command.{Command}
use Rattle.script_text.specs.Form.{Form, begin, abandon, checked, has_word, has_labels, is_without_memory}
use Rattle.script_text.specs.CommandView.{form}
use Rattle.script_text.specs.Reading.{ReadRight}
use Rattle.script_text.proofs.command.Command.read_form.Goals as goal

-- a form without names and budget that takes no memory, where nothing follows
ended-right : (f : Form) → has_labels f ≡ true → is_without_memory f ≡ true → (b : Bool) (r : Result Command Refusal) →
    IfOk r (λ read. (if b then None else Some f) ≡ Some (form read))
    → IfErr r (λ refusal. (refusal ≡ Line) × ((if b then None else Some f) ≡ None)) →
    ReadRight (if b then None else Some f) true r
ended-right f labels quiet true (Ok read) p q = absurd (cc)
ended-right f labels quiet false (Ok read) p q =
    let e : f ≡ form read = cc in
    let named : checked (Some f) ≡ Ok f = rw labels refl in
    record { ok = named ∙ ap Ok e; without_memory = sym quiet ∙ ap is_without_memory e; refused = tt }
ended-right f labels quiet b (Err refusal) p q =
    record { ok = tt; without_memory = tt; refused = inr (ap checked q.1 ∙ ap Err (sym q.0)) }

pub returns-in-Begin : goal.returns-in-Begin
returns-in-Begin c = rw c.in-Begin.is (ended-right begin refl refl (has_word c.args.rest.now) c.read_ended.result
    c.read_ended.ensures.ok c.read_ended.ensures.refused)

pub returns-in-Abandon : goal.returns-in-Abandon
returns-in-Abandon c = rw c.in-Abandon.is (ended-right abandon refl refl (has_word c.args.rest.now)
    c.read_ended-in-Abandon.result c.read_ended-in-Abandon.ensures.ok c.read_ended-in-Abandon.ensures.refused)
