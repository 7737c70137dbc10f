-- The primitive at the index that `find` returns.
use Rattle.std.proofs.Common.{◌≡◌, ℕ, ◌==◌, ◌&&◌, Bool, true, false, List, length, get_or, Some, None, IfSome, refl, sym}
use Rattle.std.specs.declared.option.Option.{Option}
use Rattle.std.specs.List.{slice_get}
use Rattle.std.specs.Str.{bytes_eq}
use Rattle.std.proofs.lemmas.List.Quantifiers.{position-Some}
use Rattle.std.proofs.lemmas.Option.{slice_get_read}
use Rattle.std.proofs.lemmas.Bool.Decides.{Decides-eqb}
use Rattle.std.proofs.lemmas.Slice.Eq.{bytes_eq-Decides}
use Rattle.prim_core.specs.Signature.{Signature, has_signature, index_of}

both_true : (p q : Bool) → (p && q) ≡ true → (p ≡ true) × (q ≡ true)
both_true true q e = (refl, e)
both_true false q e = absurd (cc)

same_signature : (name : List ℕ) (arity : ℕ) (s : Signature)
    → has_signature name arity s ≡ true → s ≡ record { name = name; arity = arity }
same_signature name arity s h =
    let tests = both_true (s.arity == arity) (bytes_eq s.name name) h in
    let same_arity = (Decides-eqb s.arity arity).0 tests.0 in
    let same_name = (bytes_eq-Decides s.name name).0 tests.1 in
    λ i. record { name = same_name i; arity = same_arity i }

pub index_of-there : (name : List ℕ) (arity : ℕ) (xs : List Signature) (o : Option ℕ) → o ≡ index_of name arity xs
    → IfSome o (λ i. slice_get xs i ≡ Some (record { name = name; arity = arity }))
index_of-there name arity xs None e = tt
index_of-there name arity xs (Some i) e =
    let wanted : Signature = record { name = name; arity = arity } in
    let found = position-Some (has_signature name arity) xs i wanted (sym e) in
    slice_get_read xs (length xs) i wanted refl found.0 (sym (same_signature name arity (get_or xs i wanted) found.1))
