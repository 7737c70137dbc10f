-- Lines that are commands: the machine over bytes gives the commands of a script.
use Rattle.std.proofs.Common.{◌≡◌, ◌+◌, ◌-◌, ◌⊎◌, inl, inr, ℕ, suc, Bool, true, false, not, ◌==◌, List, [], ◌∷◌, ◌++◌, length, take, drop, reverse, map, filter, Some, None, refl, sym, ap, ◌∙◌, arith, append_assoc, append-nil, if◌then◌else◌}
use Rattle.std.specs.Option.{option_to_list}
use Rattle.std.specs.List.{All, slice_split, prefix_len, suffix_len, onto_first}
use Rattle.std.proofs.Math.Dec.{eqb}
use Rattle.std.proofs.lemmas.Bool.{cases_Bool}
use Rattle.std.proofs.lemmas.Bool.Decides.{nat_tests}
use Rattle.std.proofs.lemmas.List.{length-append, length-reverse, take_all, take-append-le, reverse-append}
use Rattle.std.proofs.lemmas.List.Elements.{All-append}
use Rattle.std.proofs.lemmas.List.Folds.{prefix_len-append}
use Rattle.std.proofs.lemmas.List.Sums.{suffix_len-le-length}
use Rattle.std.proofs.lemmas.List.Splits.{slice_split_none, slice_split_at, slice_split-cons_yes, slice_split-cons_no}
use Rattle.script_text.specs.declared.framing.Framing.TheVariants.{Lines}
use Rattle.script_text.specs.declared.splitter.LineState.TheVariants.{Kept, Comment}
use Rattle.script_text.specs.Script.{is_line_feed, is_carriage_return, without_end, pieces, is_blank, without_start, is_command, line_commands, commands, ended_lines}
use Rattle.script_text.specs.Handed.{Handed, handed_as, handed}
use Rattle.script_text.specs.Splitting.{after_returns, Taken, going, taken, begun, in_place, rest_of, nothing}
use Rattle.script_text.proofs.HandedLemmas.{with_more-handed_as, capped, capped-suc, capped-more}
use Rattle.script_text.proofs.LineLemmas.{this_or, returns, IsCore, one_line-returns, core_of, longer_core, longer_append, one_more_return, first_piece, no_core}

-- ---- the command of a line, if it is one

abbrev of_lines : List (List ℕ) → List Handed
of_lines raws = map handed_as (line_commands (map (without_end is_carriage_return) raws))

abbrev of_line : List ℕ → List Handed
of_line raw = of_lines (raw ∷ [])

handed-split : (x raw : List ℕ) (raws : List (List ℕ))
    → slice_split is_line_feed x ≡ raw ∷ raws → handed Lines x ≡ of_line raw ++ of_lines raws
handed-split x raw raws e = ap of_lines e ∙ grind arith

-- ---- the end of a text

suffix-snoc : (p : ℕ → Bool) (x : List ℕ) (b : ℕ) → suffix_len p (x ++ b ∷ []) ≡ (if p b then 1 + suffix_len p x else 0)
suffix-snoc p x b = ap (prefix_len p) (reverse-append x (b ∷ []))

pub ended-feed : (x : List ℕ) (b : ℕ) → (b == 10) ≡ true → ended_lines (x ++ b ∷ []) ≡ x ++ b ∷ []
ended-feed x b e = take_all _ (x ++ b ∷ []) (grind (arith, nat_tests, suffix-snoc (λ b. not (is_line_feed b)) x b))

pub ended-byte : (x : List ℕ) (b : ℕ) → (b == 10) ≡ false → ended_lines (x ++ b ∷ []) ≡ ended_lines x
ended-byte x b e =
    let n : ℕ = suffix_len (λ b. not (is_line_feed b)) x in
    let same : length (x ++ b ∷ []) - suffix_len (λ b. not (is_line_feed b)) (x ++ b ∷ []) ≡ length x - n =
    grind (arith, nat_tests, suffix-snoc (λ b. not (is_line_feed b)) x b, length-append x (b ∷ [])) in
    ap (λ (k : ℕ). take k (x ++ b ∷ [])) same ∙ take-append-le (length x - n) x (b ∷ []) (omega arith)

-- ---- a line with one more byte at its start

-- the carriage returns at its end don't reach that byte, or are the whole line
end-cons : (p : ℕ → Bool) (b : ℕ) (xs : List ℕ)
    → (without_end p (b ∷ xs) ≡ b ∷ without_end p xs) ⊎ ((without_end p xs ≡ []) × (without_end p (b ∷ xs) ≡ []))
end-cons p b xs =
    elim lengths [
      | inl e ↦ inl (ap (λ (n : ℕ). take n (b ∷ xs)) e)
      | inr e ↦ inr (ap (λ (n : ℕ). take n xs) e.0, ap (λ (n : ℕ). take n (b ∷ xs)) e.1)
    ]
  where
    longer : suffix_len p (b ∷ xs) ≡ (if eqb (suffix_len p xs) (length (reverse xs)) then length (reverse xs)
        + prefix_len p (b ∷ []) else suffix_len p xs)
    longer = ap (prefix_len p) (reverse-append (b ∷ []) xs) ∙ prefix_len-append p (reverse xs) (b ∷ [])

    lengths : (length (b ∷ xs) - suffix_len p (b ∷ xs) ≡ suc (length xs - suffix_len p xs))
        ⊎ ((length xs - suffix_len p xs ≡ 0) × (length (b ∷ xs) - suffix_len p (b ∷ xs) ≡ 0))
    lengths = grind (arith, nat_tests, longer, length-reverse xs, suffix_len-le-length p xs)

blank-front : (z : List ℕ) (b : ℕ) → is_blank b ≡ true → without_start (b ∷ z) ≡ without_start z
blank-front z b e =
    let more : 1 + prefix_len is_blank z ≡ suc (prefix_len is_blank z) = omega arith in
    ap (λ (t : Bool). drop (if t then 1 + prefix_len is_blank z else 0) (b ∷ z)) e ∙ ap (λ (k : ℕ). drop k (b ∷ z)) more

line-front : (raw : List ℕ) (b : ℕ) → is_blank b ≡ true → of_line (b ∷ raw) ≡ of_line raw
line-front raw b e =
    ap (λ (line : List ℕ). map handed_as (filter is_command (line ∷ []))) (elim (end-cons is_carriage_return b raw) [
      | inl more ↦ ap without_start more ∙ blank-front (without_end is_carriage_return raw) b e
      | inr none ↦ ap without_start (none.1 ∙ sym none.0)
    ])

handed-blank : (b : ℕ) (x : List ℕ) → is_blank b ≡ true → handed Lines (b ∷ x) ≡ handed Lines x
handed-blank b x e =
    let first = first_piece x in
    let no_feed : is_line_feed b ≡ false = grind (arith, nat_tests) in
    handed-split (b ∷ x) (b ∷ first.0) first.1.0
    (slice_split-cons_no is_line_feed b x no_feed ∙ ap (onto_first b) first.1.1)
    ∙ ap (λ (hs : List Handed). hs ++ of_lines first.1.0) (line-front first.0 b e)
    ∙ sym (handed-split x first.0 first.1.0 first.1.1)

handed-feed : (x : List ℕ) → handed Lines (10 ∷ x) ≡ handed Lines x
handed-feed x = handed-split (10 ∷ x) [] (slice_split is_line_feed x) (slice_split-cons_yes is_line_feed 10 x refl)

comment-end : (raw : List ℕ) → of_line (35 ∷ raw) ≡ []
comment-end raw = elim (end-cons is_carriage_return 35 raw) [
  | inl more ↦ ap (λ (line : List ℕ). map handed_as (line_commands (line ∷ []))) more
  | inr none ↦ ap (λ (line : List ℕ). map handed_as (line_commands (line ∷ []))) none.1
]

-- ---- the whole text

-- what comes after the line that x begins in
abbrev FromComment : List ℕ → Type 0
FromComment x = (p : List ℕ) (ps : List (List ℕ))
    → slice_split is_line_feed x ≡ p ∷ ps → rest_of (in_place Lines None Comment) x ≡ of_lines ps

-- a byte with which a command begins
record IsOwn (k : ℕ) : Type 0 where
  pub ink : is_blank k ≡ false
  pub no_comment : (k == 35) ≡ false

-- after the kept part of a command's line
abbrev FromLine : List ℕ → Type 0
FromLine x = (k : ℕ) (core : List ℕ) (n : ℕ) → IsOwn k → IsCore (k ∷ core) →
    rest_of (record { framing = Lines; command = Some (handed_as (k ∷ core)); place = Kept; returns = capped n }) x
    ≡ handed Lines ((k ∷ core) ++ (returns n ++ x))

own-line : (k : ℕ) (core : List ℕ) (n : ℕ) → IsOwn k
    → IsCore (k ∷ core) → of_line ((k ∷ core) ++ returns n) ≡ handed_as (k ∷ core) ∷ []
own-line k core n own h = ap (λ (line : List ℕ). map handed_as (line_commands (line ∷ []))) (core_of (k ∷ core) n h)
    ∙ rw (own.ink, own.no_comment) refl

one-line : (core : List ℕ) (n : ℕ) → IsCore core → All (λ b. is_line_feed b ≡ false) (core ++ returns n)
one-line core n h = All-append (λ b. is_line_feed b ≡ false) core _ h.one_line (one_line-returns n)

line-byte : (b : ℕ) (x : List ℕ) → (b == 13) ≡ false → (b == 10) ≡ false → FromLine x → FromLine (b ∷ x)
line-byte b x e f ih k core n own h =
    rw (e, f)
    (ap (λ (c : Handed). rest_of (in_place Lines (Some c) Kept) x)
    (capped-more n b (handed_as (k ∷ core)) ∙ with_more-handed_as (k ∷ core) (after_returns n b)))
    ∙ ih k (core ++ (returns n ++ b ∷ [])) 0 own (longer_core (k ∷ core) n b h e f)
    ∙ ap (handed Lines) (longer_append (k ∷ core) n b x)

record From (x : List ℕ) : Type 0 where
  pub start : rest_of (nothing Lines) x ≡ handed Lines x
  pub comment : FromComment x
  pub line : FromLine x

from-none : From []
from-none = record {
  start = refl;
  comment = λ p ps e. ap of_lines (ap (drop 1) e);
  line = λ k core n own h. sym (ap (handed Lines) (ap (λ (xs : List ℕ). (k ∷ core) ++ xs) (append-nil (returns n)))
      ∙ handed-split ((k ∷ core) ++ returns n) ((k ∷ core) ++ returns n) []
      (slice_split_none is_line_feed ((k ∷ core) ++ returns n) (one-line (k ∷ core) n h))
      ∙ append-nil _ ∙ own-line k core n own h);
}

from-feed : (x : List ℕ) → From x → From (10 ∷ x)
from-feed x h = record {
  start = h.start ∙ sym (handed-feed x);
  comment = λ p ps e. h.start ∙ ap of_lines (ap (drop 1) (sym (slice_split-cons_yes is_line_feed 10 x refl) ∙ e));
  line = λ k core n own kept. ap (λ (hs : List Handed). handed_as (k ∷ core) ∷ hs) h.start
      ∙ sym (ap (handed Lines) (sym (append_assoc (k ∷ core) (returns n) (10 ∷ x)))
      ∙ handed-split (((k ∷ core) ++ returns n) ++ 10 ∷ x) ((k ∷ core) ++ returns n) (slice_split is_line_feed x)
      (slice_split_at is_line_feed ((k ∷ core) ++ returns n) 10 x (one-line (k ∷ core) n kept) refl)
      ∙ ap (λ (hs : List Handed). hs ++ handed Lines x) (own-line k core n own kept));
}

from-byte : (b : ℕ) (x : List ℕ) → (b == 10) ≡ false → From x → From (b ∷ x)
from-byte b x f h = record {
  start = elim (cases_Bool (is_blank b)) [
    | inl g ↦ rw (f, g) h.start ∙ sym (handed-blank b x g)
    | inr g ↦ this_or (λ k. rest_of (nothing Lines) (k ∷ x) ≡ handed Lines (k ∷ x)) 35 b comment (first g)
  ];
  comment = λ p ps e. rw f (h.comment next.0 next.1.0 next.1.1)
      ∙ ap of_lines (ap (drop 1) (sym (slice_split-cons_no is_line_feed b x f ∙ ap (onto_first b) next.1.1) ∙ e));
  line = this_or (λ k. FromLine (k ∷ x)) 13 b
      (λ k core n own kept. ap (λ (i : ℕ). rest_of
      (record { framing = Lines; command = Some (handed_as (k ∷ core)); place = Kept; returns = i }) x) (capped-suc n)
      ∙ h.line k core (suc n) own kept ∙ ap (handed Lines) (sym (one_more_return (k ∷ core) x n)))
      (λ e. line-byte b x e f h.line);
}
  where
    next : (p : List ℕ) × ((ps : List (List ℕ)) × (slice_split is_line_feed x ≡ p ∷ ps))
    next = first_piece x

    comment : rest_of (nothing Lines) (35 ∷ x) ≡ handed Lines (35 ∷ x)
    comment =
        h.comment next.0 next.1.0 next.1.1
        ∙ sym (handed-split (35 ∷ x) (35 ∷ next.0) next.1.0
        (slice_split-cons_no is_line_feed 35 x refl ∙ ap (onto_first 35) next.1.1)
        ∙ ap (λ (hs : List Handed). hs ++ of_lines next.1.0) (comment-end next.0))

    first : is_blank b ≡ false → (b == 35) ≡ false → rest_of (nothing Lines) (b ∷ x) ≡ handed Lines (b ∷ x)
    first g c =
        let begins : taken (nothing Lines) b ≡ going (begun Lines 0 b) = grind (arith, nat_tests) in
        ap (λ (t : Taken). option_to_list t.out ++ rest_of t.left x) begins
        ∙ h.line b [] 0 (record { ink = g; no_comment = c }) (longer_core [] 0 b no_core (grind (arith, nat_tests)) f)

from : (x : List ℕ) → From x
from [] = from-none
from (b ∷ x) = this_or (λ k. From (k ∷ x)) 10 b (from-feed x (from x)) (λ f. from-byte b x f (from x))

pub handed_by_lines : (x : List ℕ) → handed Lines x ≡ rest_of (nothing Lines) x
handed_by_lines x = sym (from x).start

-- a whole line that is a command, followed by a line feed
pub own_command : (x y : List ℕ) → All (λ b. is_line_feed b ≡ false) x
    → without_end is_carriage_return x ≡ x → without_start x ≡ x → is_command x ≡ true →
    commands Lines (x ++ 10 ∷ y) ≡ x ∷ commands Lines y
own_command x y inner kept start own =
    ap (λ (raws : List (List ℕ)). line_commands (map (without_end is_carriage_return) raws))
    (slice_split_at is_line_feed x 10 y inner refl)
    ∙ ap (λ (line : List ℕ). filter is_command (without_start line ∷ map without_start (pieces y))) kept
    ∙ ap (λ (line : List ℕ). filter is_command (line ∷ map without_start (pieces y))) start
    ∙ ap (λ (b : Bool). if b then x ∷ line_commands (pieces y) else line_commands (pieces y)) own
