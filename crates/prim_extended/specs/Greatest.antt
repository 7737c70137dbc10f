-- The primitive that finds the greatest number after a beginning of strings, for fresh names.
use Rattle.std.specs.Prelude.{ℕ, zero, suc, pos, ◌+◌, ◌*◌, ◌-◌, ◌^◌, ◌&&◌, nat_lt, max, List, [], ◌∷◌, length, take, drop, None, if◌then◌else◌, option_and_then}
use Rattle.std.specs.declared.option.Option.{Option}
use Rattle.std.specs.Char.{is_ascii_digit}
use Rattle.std.specs.Str.{bytes_eq}
use Rattle.term_core.specs.Tree.{application, Tree, Trees, integer, branch, none, more}
use Rattle.prim_core.specs.Values.{integer_in_range, string_value}

-- The number that digits spell, at least one and at most 18 after leading zeros. One more than it is
-- counted, so that 0 stands for no number.
abbrev pub counted_from : ℕ → List ℕ → ℕ
counted_from n [] = suc n
counted_from n (b ∷ bs) =
    if is_ascii_digit b && nat_lt n (10 ^ 17) then counted_from (n * 10 + (b - 48)) bs else 0

abbrev pub counted : List ℕ → ℕ
counted [] = 0
counted (b ∷ bs) = counted_from 0 (b ∷ bs)

-- the same of what comes after this beginning of a text
abbrev pub counted_after : List ℕ → List ℕ → ℕ
counted_after beginning text =
    if bytes_eq (take (length beginning) text) beginning then counted (drop (length beginning) text) else 0

-- The greatest of a number and those of a term's strings. Annotations aren't looked at.
abbrev mutual
  pub greatest : List ℕ → ℕ → Tree → ℕ
  greatest beginning n (integer z notes) = n
  greatest beginning n (branch (application f) none notes) =
      if f.is_quoted then max n (counted_after beginning f.text) else n
  greatest beginning n (branch head kids notes) = greatest_of_all beginning n kids

  pub greatest_of_all : List ℕ → ℕ → Trees → ℕ
  greatest_of_all beginning n none = n
  greatest_of_all beginning n (more t ts) = greatest_of_all beginning (greatest beginning n t) ts

-- the number itself
abbrev pub uncounted : ℕ → Option Tree
uncounted zero = None
uncounted (suc n) = integer_in_range (pos n)

abbrev pub greatest_of : List Tree → Option Tree
greatest_of (s ∷ t ∷ []) = option_and_then (λ beginning. uncounted (greatest beginning 0 t)) (string_value s)
greatest_of arguments = None
