use Rattle.std.proofs.Common.{◌≡◌, ℕ, ◌<◌, Some, get_or}
use Rattle.std.specs.List.{slice_get}
use Rattle.term_sorts.specs.declared.signature.Form.{Form}
use Rattle.term_sorts.specs.inside.Forms.{IsOf}
use Rattle.term_sorts.proofs.signature.Signature.form.Given as goal

abbrev pub invariant-loop-number : goal.invariant-loop-number
invariant-loop-number l =
    (k : ℕ) → k < l.number-index → (f : Form) → slice_get l.self-inside.forms.items (get_or l.number-items k 0) ≡ Some f
    → IsOf f.declaration l.name l.count → ⊥
