-- Constructors by their names and numbers of arguments.
use Rattle.std.specs.Prelude.{◌≡◌, ℕ, ◌+◌, ◌*◌, ◌%◌, ◌-◌, List, map, length, slice_index_or}
use Rattle.std.specs.List.{Contains}
use Rattle.term_core.specs.Tree.{Symbol}
use Rattle.term_sorts.specs.Sorts.{Sort, Declaration}
use Rattle.term_sorts.specs.inside.Tables.{IsNumber, AreNumbers}
use Rattle.term_sorts.specs.declared.signature.Form.{Form}

-- a remainder of the name and the number of arguments
abbrev pub bucket_of : Symbol → ℕ → ℕ
bucket_of f n =
    (slice_index_or f.text 0 0 * 31 + slice_index_or f.text (length f.text - 1) 0 * 7 + length f.text
    % 64 * 3 + n % 64) % 256

abbrev pub declarations_in : List Form → List Declaration
declarations_in forms = map (λ f. f.declaration) forms

-- it declares the constructor of this name with so many arguments
abbrev pub IsOf : Declaration → Symbol → ℕ → Type 0
IsOf d f n = (length d.arguments ≡ n) × (d.name ≡ f)

-- the numbers of the sorts of a declaration
abbrev pub IsForm : List Sort → Form → Type 0
IsForm sorts form =
    AreNumbers sorts form.arguments.items form.declaration.arguments × IsNumber sorts form.given form.declaration.result

-- the constructor of the declaration has another one
abbrev pub HasOther : List Declaration → Declaration → Type 0
HasOther ds d = (c : Declaration) × Contains ds c × IsOf c d.name (length d.arguments) × (c ≡ d → ⊥)

-- all that it has are the same
abbrev pub AreSame : List Declaration → Declaration → Type 0
AreSame ds d = (c : Declaration) → Contains ds c → IsOf c d.name (length d.arguments) → c ≡ d
