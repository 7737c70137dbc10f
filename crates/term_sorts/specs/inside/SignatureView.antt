-- What a signature keeps true.
use Rattle.std.specs.Prelude.{◌≡◌, ℕ, length, Some, slice_get}
use Rattle.std.specs.List.{Contains}
use Rattle.std.specs.Option.{IsSomeAnd}
use Rattle.term_sorts.specs.Sorts.{AreAgreed, int_sort, str_sort}
use Rattle.term_sorts.specs.inside.Tables.{IsNumber}
use Rattle.term_sorts.specs.inside.Forms.{declarations_in, bucket_of, IsForm}
use Rattle.term_sorts.specs.declared.signature.Form.{Form}
use Rattle.term_sorts.specs.declared.signature.Signature.TheInside.{Inside}

-- Each form knows the numbers of its sorts, and is listed in the bucket of its constructor.
pub record IsSignature (a : Inside) : Type 0 where
  pub forms : (k : ℕ) (f : Form) → slice_get a.forms.items k ≡ Some f → IsForm a.table.sorts f
  pub listed : (k : ℕ) (f : Form) → slice_get a.forms.items k ≡ Some f
      → IsSomeAnd (slice_get a.buckets.items (bucket_of f.declaration.name (length f.declaration.arguments)))
      (λ numbers. Contains numbers.items k)
  pub buckets : length a.buckets.items ≡ 256
  pub agreed : AreAgreed (record { constructors = declarations_in a.forms.items; injections = a.table.injections })
  pub integers : IsNumber a.table.sorts a.integers int_sort
  pub strings : IsNumber a.table.sorts a.strings str_sort
