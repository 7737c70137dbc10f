-- Lemmas on the lines of a script: a line as it arrives, byte by byte.
use Rattle.std.proofs.Common.{◌≡◌, ◌≤◌, ◌<◌, ◌+◌, ◌-◌, ℕ, zero, suc, true, false, not, ◌==◌, inl, inr, List, [], ◌∷◌, ◌++◌, length, take, get_or, map, filter, refl, sym, ap, ◌∙◌, subst, arith, append_assoc, append-nil, if◌then◌else◌}
use Rattle.std.specs.List.{All, repeat, suffix_len, slice_split, onto_first}
use Rattle.std.proofs.lemmas.Bool.{cases_Bool, eqb-true}
use Rattle.std.proofs.lemmas.List.{length-append, get_or_append_left, get_or-append-add}
use Rattle.std.proofs.lemmas.List.Sums.{suffix_len_is}
use Rattle.std.proofs.lemmas.List.Splits.{slice_split_none, slice_split_at, slice_split-cons_yes, slice_split-cons_no}
use Rattle.std.proofs.lemmas.List.Elements.{All-append, All-cons}
use Rattle.std.proofs.Math.Seq.{take-append_seam, get_or-append_seam}
use Rattle.script_text.specs.Script.{is_line_feed, is_carriage_return, without_end, pieces, without_empty_last, is_comment, lines}

-- a byte is this one, or another
pub this_or : (P : ℕ → Type 0) (k b : ℕ) → P k → ((b == k) ≡ false → P b) → P b
this_or P k b this other = elim (cases_Bool (b == k)) [ inl e ↦ subst P (sym (eqb-true b k e)) this | inr e ↦ other e ]

abbrev pub returns : ℕ → List ℕ
returns n = repeat n (13 ∷ [])

-- the kept part of a line neither ends with a carriage return nor contains a line feed
pub record IsCore (core : List ℕ) : Type 0 where
  pub last : 0 < length core → is_carriage_return (get_or core (length core - 1) 0) ≡ false
  pub one_line : All (λ b. is_line_feed b ≡ false) core

pub no_core : IsCore []
no_core = record { last = λ h. absurd (omega (arith, h)); one_line = λ k d h. absurd (omega (arith, h)) }

-- ---- carriage returns

length-returns : (n : ℕ) → length (returns n) ≡ n
length-returns zero = refl
length-returns (suc n) = ap suc (length-returns n)

get_or-returns : (n k : ℕ) → k < n → is_carriage_return (get_or (returns n) k 0) ≡ true
get_or-returns zero k h = absurd (omega (arith, h))
get_or-returns (suc n) zero h = refl
get_or-returns (suc n) (suc k) h = get_or-returns n k (omega (arith, h))

pub one_line-returns : (n : ℕ) → All (λ b. is_line_feed b ≡ false) (returns n)
one_line-returns zero = λ k d h. absurd (omega (arith, h))
one_line-returns (suc n) = All-cons (λ b. is_line_feed b ≡ false) 13 (returns n) refl (one_line-returns n)

-- one more of them, at the front and at the end
returns-snoc : (n : ℕ) (x : List ℕ) → returns n ++ 13 ∷ x ≡ 13 ∷ (returns n ++ x)
returns-snoc zero x = refl
returns-snoc (suc n) x = ap (λ (xs : List ℕ). 13 ∷ xs) (returns-snoc n x)

pub one_more_return : (core x : List ℕ) (n : ℕ) → core ++ (returns n ++ 13 ∷ x) ≡ core ++ (returns (suc n) ++ x)
one_more_return core x n = ap (λ (xs : List ℕ). core ++ xs) (returns-snoc n x)

-- a byte after them makes them part of the line
pub longer_append : (core : List ℕ) (n b : ℕ) (x : List ℕ)
    → (core ++ (returns n ++ b ∷ [])) ++ x ≡ core ++ (returns n ++ b ∷ x)
longer_append core n b x = append_assoc core (returns n ++ b ∷ []) x
    ∙ ap (λ (xs : List ℕ). core ++ xs) (append_assoc (returns n) (b ∷ []) x)

-- ---- the line without them

pub core_of : (core : List ℕ) (n : ℕ) → IsCore core → without_end is_carriage_return (core ++ returns n) ≡ core
core_of core n h =
    let all : List ℕ = core ++ returns n in
    let total : length all ≡ length core + n = length-append core (returns n)
    ∙ ap (λ (k : ℕ). length core + k) (length-returns n) in
    let run : suffix_len is_carriage_return all ≡ length all - length core =
    suffix_len_is is_carriage_return all (length core) 0 (omega (arith, total))
    (λ k low high. after k low (omega (arith, high, total))) in_front in
    ap (λ (k : ℕ). take k all) (omega (arith, run, total)) ∙ take-append_seam core (returns n)
  where
    after : (k : ℕ) → length core ≤ k → k < length core + n → is_carriage_return (get_or (core ++ returns n) k 0) ≡ true
    after k low high =
        ap is_carriage_return (ap (λ (i : ℕ). get_or (core ++ returns n) i 0) (omega (arith, low))
        ∙ get_or-append-add core (returns n) (k - length core) 0)
        ∙ get_or-returns n (k - length core) (omega (arith, low, high))

    in_front : 0 < length core → is_carriage_return (get_or (core ++ returns n) (length core - 1) 0) ≡ false
    in_front some = ap is_carriage_return
        (get_or_append_left core (returns n) 0 (length core - 1) (omega (arith, some))) ∙ h.last some

-- a line that ends with none of them
pub kept-core : (core : List ℕ) → IsCore core → without_end is_carriage_return core ≡ core
kept-core core h = ap (without_end is_carriage_return) (sym (append-nil core)) ∙ core_of core 0 h

-- another byte makes the carriage returns part of the line
pub longer_core : (core : List ℕ) (n b : ℕ) → IsCore core
    → is_carriage_return b ≡ false → is_line_feed b ≡ false → IsCore (core ++ (returns n ++ b ∷ []))
longer_core core n b h other_return other_feed = record {
  last = λ _. subst (λ (xs : List ℕ). is_carriage_return (get_or xs (length xs - 1) 0) ≡ false)
      (append_assoc core (returns n) (b ∷ [])) last;
  one_line = All-append (λ x. is_line_feed x ≡ false) core _ h.one_line
      (All-append (λ x. is_line_feed x ≡ false) (returns n) _ (one_line-returns n)
      (All-cons (λ x. is_line_feed x ≡ false) b [] other_feed (λ k d h. absurd (omega (arith, h)))));
}
  where
    last : is_carriage_return
        (get_or ((core ++ returns n) ++ b ∷ []) (length ((core ++ returns n) ++ b ∷ []) - 1) 0) ≡ false
    last =
        ap is_carriage_return (ap (λ (i : ℕ). get_or ((core ++ returns n) ++ b ∷ []) i 0)
        (omega (arith, length-append (core ++ returns n) (b ∷ []))) ∙ get_or-append_seam (core ++ returns n) b [] 0)
        ∙ other_return

-- ---- the lines

-- a line, if it is no comment, followed by others
abbrev pub with_line : List ℕ → List (List ℕ) → List (List ℕ)
with_line line others = if not (is_comment line) then line ∷ others else others

not_empty : (p : List ℕ) (x : List ℕ) (ls : List (List ℕ))
    → without_empty_last (p ∷ (x ∷ ls)) ≡ p ∷ without_empty_last (x ∷ ls)
not_empty [] x ls = refl
not_empty (b ∷ p) x ls = refl

-- a list of pieces is never empty
pub first_piece : (y : List ℕ) → (p : List ℕ) × ((ps : List (List ℕ)) × (slice_split is_line_feed y ≡ p ∷ ps))
first_piece [] = ([], ([], refl))
first_piece (b ∷ y) =
    let rest = first_piece y in
    elim (cases_Bool (is_line_feed b)) [
      | inl e ↦ ([], (slice_split is_line_feed y, slice_split-cons_yes is_line_feed b y e))
      | inr e ↦ (b ∷ rest.0, (rest.1.0, slice_split-cons_no is_line_feed b y e ∙ ap (onto_first b) rest.1.1))
    ]

-- what ends at a line feed, without the carriage returns at its end
lines-ended : (raw core y : List ℕ) → All (λ b. is_line_feed b ≡ false) raw
    → without_end is_carriage_return raw ≡ core → lines (raw ++ 10 ∷ y) ≡ with_line core (lines y)
lines-ended raw core y inner kept =
    let split : pieces (raw ++ 10 ∷ y) ≡ core ∷ pieces y =
    ap (map (without_end is_carriage_return)) (slice_split_at is_line_feed raw 10 y inner refl)
    ∙ ap (λ (p : List ℕ). p ∷ pieces y) kept in
    let first = first_piece y in
    let after : pieces y ≡ without_end is_carriage_return first.0 ∷ map (without_end is_carriage_return) first.1.0 =
    ap (map (without_end is_carriage_return)) first.1.1 in
    let whole : without_empty_last (core ∷ pieces y) ≡ core ∷ without_empty_last (pieces y) =
    ap (λ (ps : List (List ℕ)). without_empty_last (core ∷ ps)) after
    ∙ not_empty core _ _ ∙ ap (λ (ps : List (List ℕ)). core ∷ without_empty_last ps) (sym after) in
    ap (λ (ps : List (List ℕ)). filter (λ line. not (is_comment line)) (without_empty_last ps)) split
    ∙ ap (filter (λ line. not (is_comment line))) whole

-- a line that ends at a line feed
pub lines-line_feed : (core y : List ℕ) (n : ℕ) → IsCore core
    → lines (core ++ (returns n ++ 10 ∷ y)) ≡ with_line core (lines y)
lines-line_feed core y n h =
    ap lines (sym (append_assoc core (returns n) (10 ∷ y)))
    ∙ lines-ended (core ++ returns n) core y
    (All-append (λ x. is_line_feed x ≡ false) core _ h.one_line (one_line-returns n)) (core_of core n h)

-- a line without carriage returns at its end
pub lines-kept : (line y : List ℕ) → All (λ b. is_line_feed b ≡ false) line
    → without_end is_carriage_return line ≡ line → lines (line ++ 10 ∷ y) ≡ with_line line (lines y)
lines-kept line y inner kept = lines-ended line line y inner kept

-- the end of the text: the kept part of its last line
abbrev pub last_line : List ℕ → List (List ℕ)
last_line [] = []
last_line (b ∷ core) = with_line (b ∷ core) []

pub lines-end : (core : List ℕ) (n : ℕ) → IsCore core → lines (core ++ returns n) ≡ last_line core
lines-end core n h =
    ap (λ (ps : List (List ℕ)). filter (λ line. not (is_comment line)) (without_empty_last ps))
    (ap (map (without_end is_carriage_return)) (slice_split_none is_line_feed (core ++ returns n)
    (All-append (λ x. is_line_feed x ≡ false) core _ h.one_line (one_line-returns n)))
    ∙ ap (λ (p : List ℕ). p ∷ []) (core_of core n h))
    ∙ last core
  where
    last : (core : List ℕ) → filter (λ line. not (is_comment line)) (without_empty_last (core ∷ [])) ≡ last_line core
    last [] = refl
    last (b ∷ core) = refl
