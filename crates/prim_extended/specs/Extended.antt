-- The meaning of the extended primitives: the standard ones, and twenty-seven more.
use Rattle.std.specs.Prelude.{ℕ, List, if◌then◌else◌, codes}
use Rattle.std.specs.declared.option.Option.{Option}
use Rattle.std.specs.Str.{bytes_eq}
use Rattle.term_core.specs.Tree.{Tree}
use Rattle.prim_core.specs.Standard.{standard}
use Rattle.prim_extended.specs.Annotations.{stripped_of, equal_of}
use Rattle.prim_extended.specs.Bytes.{exploded_of, imploded_of, later_of}
use Rattle.prim_extended.specs.Comparing.{compared_of}
use Rattle.prim_extended.specs.Constructors.{taken_apart_of, put_together_of}
use Rattle.prim_extended.specs.Greatest.{greatest_of}
use Rattle.prim_extended.specs.ListPrimitives.{concatenated_of, counted_of, left_of, looked_up_of, placed_of, reversed_of, sorted_of}
use Rattle.prim_extended.specs.StringPrimitives.{characters_of, found_of, in_lower_case_of, in_upper_case_of, split_of, texts_joined_of}
use Rattle.prim_extended.specs.TablePrimitives.{got_of, keys_of, put_of, removed_of}
use Rattle.prim_extended.specs.Remainder.{remainder_of}

-- by name; any other name means what it does among the standard primitives
abbrev pub extended : List ℕ → List Tree → Option Tree
extended name arguments =
    if (bytes_eq name (codes "explode-string")) then exploded_of arguments else
    if (bytes_eq name (codes "implode-string")) then imploded_of arguments else
    if (bytes_eq name (codes "gts")) then later_of arguments else
    if (bytes_eq name (codes "modi")) then remainder_of arguments else
    if (bytes_eq name (codes "explode-term")) then taken_apart_of arguments else
    if (bytes_eq name (codes "mkterm")) then put_together_of arguments else
    if (bytes_eq name (codes "greatest-number")) then greatest_of arguments else
    if (bytes_eq name (codes "strip-annos")) then stripped_of arguments else
    if (bytes_eq name (codes "eq-ignore-annos")) then equal_of arguments else
    if (bytes_eq name (codes "compare")) then compared_of arguments else
    if (bytes_eq name (codes "table-put")) then put_of arguments else
    if (bytes_eq name (codes "table-get")) then got_of arguments else
    if (bytes_eq name (codes "table-remove")) then removed_of arguments else
    if (bytes_eq name (codes "table-keys")) then keys_of arguments else
    if (bytes_eq name (codes "list-length")) then counted_of arguments else
    if (bytes_eq name (codes "list-reverse")) then reversed_of arguments else
    if (bytes_eq name (codes "list-sort")) then sorted_of arguments else
    if (bytes_eq name (codes "list-concat")) then concatenated_of arguments else
    if (bytes_eq name (codes "list-without")) then left_of arguments else
    if (bytes_eq name (codes "list-index")) then placed_of arguments else
    if (bytes_eq name (codes "list-lookup")) then looked_up_of arguments else
    if (bytes_eq name (codes "string-search")) then found_of arguments else
    if (bytes_eq name (codes "string-split")) then split_of arguments else
    if (bytes_eq name (codes "string-join")) then texts_joined_of arguments else
    if (bytes_eq name (codes "string-characters")) then characters_of arguments else
    if (bytes_eq name (codes "upper-case")) then in_upper_case_of arguments else
    if (bytes_eq name (codes "lower-case")) then in_lower_case_of arguments else
    standard name arguments
