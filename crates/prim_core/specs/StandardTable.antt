-- The table of the standard primitives.
use Rattle.std.specs.Prelude.{ℕ, List, [], ◌∷◌, codes}
use Rattle.std.specs.declared.option.Option.{Option}
use Rattle.term_core.specs.Tree.{Tree}
use Rattle.prim_core.specs.Signature.{Signature}
use Rattle.prim_core.specs.Computes.{Computes}
use Rattle.prim_core.specs.declared.standard.operations.StandardOperations.{StandardOperations}

abbrev signature : List ℕ → ℕ → Signature
signature name arity = record { name = name; arity = arity }

-- their names and arities, in order
abbrev pub standard_signatures : List Signature
standard_signatures =
    signature (codes "addi") 2 ∷ (signature (codes "subti") 2 ∷ (signature (codes "muli") 2
    ∷ (signature (codes "divi") 2 ∷ (signature (codes "gti") 2 ∷ (signature (codes "strcat") 2
    ∷ (signature (codes "strlen") 1 ∷ (signature (codes "int-to-string") 1
    ∷ (signature (codes "string-to-int") 1 ∷ []))))))))

-- each of the operations computes what its name means
pub record ComputeStandard {F : Type 0} (may_run : F → List Tree → Type 0)
    (answers : F → List Tree → Option Tree → Type 0) (meaning : List ℕ → List Tree → Option Tree)
    (operations : StandardOperations F) : Type 0 where
  pub addi : Computes may_run answers operations.addi 2 (meaning (codes "addi"))
  pub subti : Computes may_run answers operations.subti 2 (meaning (codes "subti"))
  pub muli : Computes may_run answers operations.muli 2 (meaning (codes "muli"))
  pub divi : Computes may_run answers operations.divi 2 (meaning (codes "divi"))
  pub gti : Computes may_run answers operations.gti 2 (meaning (codes "gti"))
  pub strcat : Computes may_run answers operations.strcat 2 (meaning (codes "strcat"))
  pub strlen : Computes may_run answers operations.strlen 1 (meaning (codes "strlen"))
  pub int_to_string :
      Computes may_run answers operations.int_to_string 1 (meaning (codes "int-to-string"))
  pub string_to_int :
      Computes may_run answers operations.string_to_int 1 (meaning (codes "string-to-int"))
