use Rattle.std.proofs.Common.{◌≡◌, ℕ, ◌<◌, Some, length}
use Rattle.std.specs.List.{slice_get}
use Rattle.term_sorts.specs.declared.signature.Form.{Form}
use Rattle.term_sorts.specs.inside.Forms.{IsOf}
use Rattle.term_sorts.proofs.signature.has_other.Given as goal

abbrev pub invariant-loop-form : goal.invariant-loop-form
invariant-loop-form l =
    (k : ℕ) → k < l.form-index → (f : Form) → slice_get l.forms k ≡ Some f
    → IsOf f.declaration l.declaration.name (length l.declaration.arguments)
    → f.declaration ≡ l.declaration
