-- A step of the session with the value of a text.
use Rattle.std.proofs.Common.{◌≡◌, ◌⊎◌, Ok, Err, IfErr, OnOk, Result, inl, inr, refl}
use Rattle.session_history.specs.History.{History}
use Rattle.session_history.specs.Acts.{Given, ActResult}
use Rattle.session_modules.specs.declared.refusal.Refusal.{Refusal}
use Rattle.session_modules.specs.declared.refusal.Refusal.TheVariants.{Memory}

module _ {X : Type 0} (Gives : Result X Refusal → Type 0) (next : X → ActResult → Type 0) where
  pub unread : (refusal : Refusal) → (refusal ≡ Memory) ⊎ Gives (Err refusal)
      → (refusal ≡ Memory) ⊎ Given Gives next (Err refusal)
  unread refusal (inl memory) = inl memory
  unread refusal (inr gives) = inr (Err refusal, gives, refl)

  pub read_ok : {T : Type 0} (r : Result T Refusal) (x : X) (new : History) → Gives (Ok x) → OnOk r (next x (Ok new))
      → OnOk r (Given Gives next (Ok new))
  read_ok (Ok y) x new gives p = (Ok x, gives, p)
  read_ok (Err refusal) x new gives p = tt

  pub read_then_refused : {T : Type 0} (r : Result T Refusal) (x : X) → Gives (Ok x)
      → IfErr r (λ refusal. (refusal ≡ Memory) ⊎ next x (Err refusal))
      → IfErr r (λ refusal. (refusal ≡ Memory) ⊎ Given Gives next (Err refusal))
  read_then_refused (Ok y) x gives p = tt
  read_then_refused (Err refusal) x gives (inl memory) = inl memory
  read_then_refused (Err refusal) x gives (inr p) = inr (Ok x, gives, p)
