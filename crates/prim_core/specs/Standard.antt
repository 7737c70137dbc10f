-- The meaning of the standard primitives.
use Rattle.std.specs.Prelude.{ℕ, List, None, if◌then◌else◌, codes}
use Rattle.std.specs.declared.option.Option.{Option}
use Rattle.std.specs.Str.{bytes_eq}
use Rattle.term_core.specs.Tree.{Tree}
use Rattle.prim_core.specs.Integers.{sum_of, difference_of, product_of, quotient_of, greater_of}
use Rattle.prim_core.specs.Strings.{joined_of, length_of, printed_of, read_of}

-- by name; any other name means nothing
abbrev pub standard : List ℕ → List Tree → Option Tree
standard name arguments =
    if (bytes_eq name (codes "addi")) then sum_of arguments else
    if (bytes_eq name (codes "subti")) then difference_of arguments else
    if (bytes_eq name (codes "muli")) then product_of arguments else
    if (bytes_eq name (codes "divi")) then quotient_of arguments else
    if (bytes_eq name (codes "gti")) then greater_of arguments else
    if (bytes_eq name (codes "strcat")) then joined_of arguments else
    if (bytes_eq name (codes "strlen")) then length_of arguments else
    if (bytes_eq name (codes "int-to-string")) then printed_of arguments else
    if (bytes_eq name (codes "string-to-int")) then read_of arguments else
    None
