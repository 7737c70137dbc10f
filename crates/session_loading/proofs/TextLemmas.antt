-- The text of a module from a file is one that a command can give.
use Rattle.std.proofs.Common.{◌≡◌, ◌≤◌, ◌<◌, ◌+◌, ◌-◌, ◌⊎◌, ℕ, zero, suc, Bool, true, false, ◌==◌, ◌||◌, cond, List, [], ◌∷◌, ◌++◌, length, take, drop, reverse, get_or, map, refl, sym, ap, inl, inr, ◌∙◌, subst, arith, append_assoc, append-nil}
use Rattle.std.specs.List.{All, AllByRecursion, prefix_len, suffix_len, slice_split, onto_first, flat_map}
use Rattle.std.proofs.lemmas.List.{drop_more, drop_all, take_all, take_more, length-take-le, reverse-append}
use Rattle.std.proofs.lemmas.List.Elements.{All-cons, All-take}
use Rattle.std.proofs.lemmas.List.Splits.{slice_split_none, slice_split_at, slice_split-cons_yes, slice_split-cons_no}
use Rattle.std.proofs.lemmas.List.Sums.{suffix_len-take_no, suffix_len-take_yes}
use Rattle.std.proofs.Math.Seq.{take-length}
use Rattle.aterm_text.specs.Tokens.{is_blank, without_blanks}
use Rattle.script_text.specs.Script.{begins_command, is_carriage_return, is_line_feed, pieces, without_end}
use Rattle.script_text.specs.declared.framing.Framing.TheVariants.{Continued}
use Rattle.script_text.proofs.LineLemmas.{first_piece}
use Rattle.script_text.specs.Laws.{GoOn, IsCommandText}
use Rattle.session_loading.specs.Loading.{indented, module_text_of, next_line, one_command, trimmed}

abbrev pub kept : List ℕ → List ℕ
kept = without_end is_carriage_return

-- the lines as they stand
abbrev pub lines_in : List ℕ → List (List ℕ)
lines_in text = slice_split is_line_feed (trimmed text)

-- ---- the loop over the lines

-- what the lines that are left add
abbrev pub rest_of : Bool → List (List ℕ) → List ℕ
rest_of false lines = one_command lines
rest_of true lines = flat_map next_line lines

pub one_more_line : (lines : List (List ℕ)) (k : ℕ) (line made : List ℕ) (started : Bool)
    → (k < length lines) × (line ≡ get_or lines k line)
    → made ++ rest_of started (map kept (drop k lines))
    ≡ (made ++ cond started (next_line (kept line)) (kept line)) ++ rest_of true (map kept (drop (k + 1) lines))
one_more_line lines k line made started h =
    ap (λ (l : List (List ℕ)). made ++ rest_of started (map kept l))
    (drop_more lines k line h.0 ∙ ap (λ (p : List ℕ). p ∷ drop (k + 1) lines) (sym h.1))
    ∙ by started
  where
    by : (b : Bool) → made ++ rest_of b (map kept (line ∷ drop (k + 1) lines))
        ≡ (made ++ cond b (next_line (kept line)) (kept line)) ++ rest_of true (map kept (drop (k + 1) lines))
    by true = sym (append_assoc made (next_line (kept line)) (rest_of true (map kept (drop (k + 1) lines))))
    by false = sym (append_assoc made (kept line) (rest_of true (map kept (drop (k + 1) lines))))

pub all_lines : (lines : List (List ℕ)) (k : ℕ) (made : List ℕ) (started : Bool) → k ≡ length lines
    → made ++ rest_of started (map kept (drop k lines)) ≡ made
all_lines lines k made started e =
    ap (λ (l : List (List ℕ)). made ++ rest_of started (map kept l)) (drop_all k lines (omega (arith, e))) ∙ by started
    ∙ append-nil made
  where
    by : (b : Bool) → made ++ rest_of b [] ≡ made ++ []
    by true = refl
    by false = refl

-- ---- ends of lists

-- the last element doesn't pass
abbrev EndsWell : (ℕ → Bool) → List ℕ → Type 0
EndsWell p x = (f : List ℕ) × (b : ℕ) × (x ≡ f ++ b ∷ []) × (p b ≡ false)

none_at_end : (p : ℕ → Bool) (f : List ℕ) (b : ℕ) → p b ≡ false → suffix_len p (f ++ b ∷ []) ≡ 0
none_at_end p f b e =
    ap (prefix_len p) (reverse-append f (b ∷ [])) ∙ ap (λ (q : Bool). cond q (1 + prefix_len p (reverse f)) 0) e

ends_well : (p : ℕ → Bool) (x : List ℕ) → EndsWell p x → suffix_len p x ≡ 0
ends_well p x w = ap (suffix_len p) w.2 ∙ none_at_end p w.0 w.1 w.3

cut_none : (p : ℕ → Bool) (x : List ℕ) → suffix_len p x ≡ 0 → without_end p x ≡ x
cut_none p x e = take_all (length x - suffix_len p x) x (omega (arith, e))

abbrev Cut : (ℕ → Bool) → List ℕ → ℕ → Type 0
Cut p xs n =
    ((without_end p (take n xs) ≡ []) × (0 < n → p (get_or xs 0 0) ≡ true)) ⊎ EndsWell p (without_end p (take n xs))

take_nil : (n : ℕ) → take {A = ℕ} n [] ≡ []
take_nil zero = refl
take_nil (suc n) = refl

take_take : (k n : ℕ) (xs : List ℕ) → k ≤ n → take k (take n xs) ≡ take k xs
take_take zero n xs h = refl
take_take (suc k) zero xs h = absurd (omega (arith, h))
take_take (suc k) (suc n) [] h = refl
take_take (suc k) (suc n) (x ∷ xs) h = ap (λ (l : List ℕ). x ∷ l) (take_take k n xs (omega (arith, h)))

cut : (p : ℕ → Bool) (xs : List ℕ) (n : ℕ) → n ≤ length xs → Cut p xs n
cut p xs zero within =
    inl (take_nil (length (take {A = ℕ} 0 xs) - suffix_len p (take {A = ℕ} 0 xs)), λ h. absurd (omega (arith, h)))
cut p xs (suc m) within = by (p (get_or xs m 0)) refl (cut p xs m (omega (arith, within)))
  where
    by : (q : Bool) → p (get_or xs m 0) ≡ q → Cut p xs m → Cut p xs (suc m)
    by false e rest =
        let at : suc m - 1 ≡ m = omega arith in
        let none : suffix_len p (take (suc m) xs) ≡ 0 =
        suffix_len-take_no p xs (suc m) 0 (omega arith) within (ap (λ (k : ℕ). p (get_or xs k 0)) at ∙ e) in
        let next : suc m ≡ m + 1 = omega arith in
        let whole : take (suc m) xs ≡ take m xs ++ get_or xs m 0 ∷ [] = ap (λ (k : ℕ). take k xs) next
        ∙ take_more xs m 0 (omega (arith, within)) in
        inr (take m xs, get_or xs m 0, cut_none p (take (suc m) xs) none ∙ whole, e)
    by true e rest =
        let at : suc m - 1 ≡ m = omega arith in
        let more : suffix_len p (take (suc m) xs) ≡ 1 + suffix_len p (take m xs) =
        suffix_len-take_yes p xs (suc m) 0 (omega arith) within
        (ap (λ (k : ℕ). p (get_or xs k 0)) at ∙ e) ∙ ap (λ (k : ℕ). 1 + suffix_len p (take k xs)) at in
        let long : length (take (suc m) xs) ≡ suc m = length-take-le (suc m) xs within in
        let short : length (take m xs) ≡ m = length-take-le m xs (omega (arith, within)) in
        let size : length (take (suc m) xs) - suffix_len p (take (suc m) xs)
        ≡ length (take m xs) - suffix_len p (take m xs) = omega (arith, more, long, short) in
        let same : without_end p (take (suc m) xs) ≡ without_end p (take m xs) =
        ap (λ (k : ℕ). take k (take (suc m) xs)) size
        ∙ take_take (length (take m xs) - suffix_len p (take m xs)) (suc m) xs (omega (arith, short))
        ∙ sym (take_take (length (take m xs) - suffix_len p (take m xs)) m xs (omega (arith, short))) in
        keep same rest
      where
        first : (k : ℕ)
            → m ≡ k → p (get_or xs m 0) ≡ true → (0 < m → p (get_or xs 0 0) ≡ true) → p (get_or xs 0 0) ≡ true
        first zero is last front = ap (λ (k : ℕ). p (get_or xs k 0)) (sym is) ∙ last
        first (suc k) is last front = front (omega (arith, is))

        keep : without_end p (take (suc m) xs) ≡ without_end p (take m xs) → Cut p xs m → Cut p xs (suc m)
        keep same (inl none) = inl (same ∙ none.0, λ h. first m refl e none.1)
        keep same (inr w) = inr (w.0, w.1, same ∙ w.2, w.3)

-- a whole list
cut_whole : (p : ℕ → Bool) (xs : List ℕ)
    → ((without_end p xs ≡ []) × (0 < length xs → p (get_or xs 0 0) ≡ true)) ⊎ EndsWell p (without_end p xs)
cut_whole p xs = subst
    (λ (l : List ℕ). ((without_end p l ≡ []) × (0 < length xs → p (get_or xs 0 0) ≡ true)) ⊎ EndsWell p
    (without_end p l)) (take-length xs) (cut p xs (length xs) (omega arith))

-- ---- the lines of a module's text

abbrev HasNoFeed : List ℕ → Type 0
HasNoFeed line = All (λ b. is_line_feed b ≡ false) line

no_feed_nil : HasNoFeed []
no_feed_nil = λ k d h. absurd (omega (arith, h))

inner : (text : List ℕ) → AllByRecursion HasNoFeed (slice_split is_line_feed text)
inner [] = (no_feed_nil, tt)
inner (b ∷ text) = by (is_line_feed b) refl (first_piece text) (inner text)
  where
    by : (q : Bool)
        → is_line_feed b ≡ q → ((p : List ℕ) × ((ps : List (List ℕ)) × (slice_split is_line_feed text ≡ p ∷ ps)))
        → AllByRecursion HasNoFeed (slice_split is_line_feed text)
        → AllByRecursion HasNoFeed (slice_split is_line_feed (b ∷ text))
    by true e rest h =
        subst (AllByRecursion HasNoFeed) (sym (slice_split-cons_yes is_line_feed b text e)) (no_feed_nil, h)
    by false e rest h =
        let split : slice_split is_line_feed (b ∷ text) ≡ (b ∷ rest.0) ∷ rest.1.0 =
        slice_split-cons_no is_line_feed b text e ∙ ap (onto_first b) rest.1.1 in
        let parts : AllByRecursion HasNoFeed (rest.0 ∷ rest.1.0) = subst (AllByRecursion HasNoFeed) rest.1.1 h in
        subst (AllByRecursion HasNoFeed) (sym split)
        (All-cons (λ b. is_line_feed b ≡ false) b rest.0 e parts.0, parts.1)

kept_inner : (raw : List ℕ) → HasNoFeed raw → HasNoFeed (kept raw)
kept_inner raw h = All-take (λ b. is_line_feed b ≡ false) (length raw - suffix_len is_carriage_return raw) raw h

indented_inner : (line : List ℕ) → HasNoFeed line → HasNoFeed (indented line)
indented_inner line h = by (begins_command line)
  where
    by : (q : Bool) → HasNoFeed (cond q (32 ∷ line) line)
    by true = All-cons (λ b. is_line_feed b ≡ false) 32 line refl h
    by false = h

-- the lines of lines that are put together
lines_of : (p : List ℕ) (raws : List (List ℕ)) → HasNoFeed p → AllByRecursion HasNoFeed raws
    → slice_split is_line_feed (p ++ flat_map next_line (map kept raws)) ≡ p ∷ map indented (map kept raws)
lines_of p [] h all = ap (slice_split is_line_feed) (append-nil p) ∙ slice_split_none is_line_feed p h
lines_of p (raw ∷ raws) h all =
    slice_split_at is_line_feed p 10 (indented (kept raw) ++ flat_map next_line (map kept raws)) h refl
    ∙ ap (λ (l : List (List ℕ)). p ∷ l)
    (lines_of (indented (kept raw)) raws (indented_inner (kept raw) (kept_inner raw all.0)) all.1)

no_return : (raw : List ℕ) → suffix_len is_carriage_return (kept raw) ≡ 0
no_return raw = by (cut_whole is_carriage_return raw)
  where
    by : ((kept raw ≡ []) × (0 < length raw → is_carriage_return (get_or raw 0 0) ≡ true)) ⊎ EndsWell is_carriage_return
        (kept raw) → suffix_len is_carriage_return (kept raw) ≡ 0
    by (inl none) = ap (suffix_len is_carriage_return) none.0
    by (inr w) = ends_well is_carriage_return (kept raw) w

-- the same of a line with a space in front
no_return_after : (raw : List ℕ) → suffix_len is_carriage_return (32 ∷ kept raw) ≡ 0
no_return_after raw = by (cut_whole is_carriage_return raw)
  where
    by : ((kept raw ≡ []) × (0 < length raw → is_carriage_return (get_or raw 0 0) ≡ true)) ⊎ EndsWell is_carriage_return
        (kept raw) → suffix_len is_carriage_return (32 ∷ kept raw) ≡ 0
    by (inl none) = ap (λ (l : List ℕ). suffix_len is_carriage_return (32 ∷ l)) none.0
    by (inr w) = ends_well is_carriage_return (32 ∷ kept raw) (32 ∷ w.0, w.1, ap (λ (l : List ℕ). 32 ∷ l) w.2, w.3)

indented_no_return : (raw : List ℕ) → suffix_len is_carriage_return (indented (kept raw)) ≡ 0
indented_no_return raw = by (begins_command (kept raw))
  where
    by : (q : Bool) → suffix_len is_carriage_return (cond q (32 ∷ kept raw) (kept raw)) ≡ 0
    by true = no_return_after raw
    by false = no_return raw

no_returns : (raws : List (List ℕ))
    → AllByRecursion (λ line. suffix_len is_carriage_return line ≡ 0) (map indented (map kept raws))
no_returns [] = tt
no_returns (raw ∷ raws) = (indented_no_return raw, no_returns raws)

goes_on : (line : List ℕ) → begins_command (indented line) ≡ false
goes_on line = by (begins_command line) refl
  where
    by : (q : Bool) → begins_command line ≡ q → begins_command (cond q (32 ∷ line) line) ≡ false
    by true e = refl
    by false e = e

all_go_on : (raws : List (List ℕ)) → GoOn Continued (map indented (map kept raws))
all_go_on [] = tt
all_go_on (raw ∷ raws) = (goes_on (kept raw), all_go_on raws)

-- ---- the end

-- the last line ends with this byte
abbrev LastEnds : ℕ → List (List ℕ) → Type 0
LastEnds b [] = ⊥
LastEnds b (line ∷ []) = (f : List ℕ) × (line ≡ f ++ b ∷ [])
LastEnds b (line ∷ (next ∷ more)) = LastEnds b (next ∷ more)

on_more : (b : ℕ) (line : List ℕ) (lines : List (List ℕ)) → LastEnds b lines → LastEnds b (line ∷ lines)
on_more b line [] h = absurd h
on_more b line (next ∷ more) h = h

onto_more : (b c : ℕ) (lines : List (List ℕ)) → LastEnds b lines → LastEnds b (onto_first c lines)
onto_more b c [] h = absurd h
onto_more b c (line ∷ []) h = (c ∷ h.0, ap (λ (l : List ℕ). c ∷ l) h.1)
onto_more b c (line ∷ (next ∷ more)) h = h

last_ends : (f : List ℕ) (b : ℕ) → is_line_feed b ≡ false → LastEnds b (slice_split is_line_feed (f ++ b ∷ []))
last_ends [] b e = subst (LastEnds b) (sym (slice_split-cons_no is_line_feed b [] e)) ([], refl)
last_ends (c ∷ f) b e = by (is_line_feed c) refl (last_ends f b e)
  where
    by : (q : Bool) → is_line_feed c ≡ q → LastEnds b (slice_split is_line_feed (f ++ b ∷ [])) → LastEnds b
        (slice_split is_line_feed (c ∷ (f ++ b ∷ [])))
    by true is rest = subst (LastEnds b) (sym (slice_split-cons_yes is_line_feed c (f ++ b ∷ []) is))
        (on_more b [] (slice_split is_line_feed (f ++ b ∷ [])) rest)
    by false is rest = subst (LastEnds b) (sym (slice_split-cons_no is_line_feed c (f ++ b ∷ []) is))
        (onto_more b c (slice_split is_line_feed (f ++ b ∷ [])) rest)

module _ (b : ℕ) (no_return : is_carriage_return b ≡ false) where
  kept_last : (raw f : List ℕ) → raw ≡ f ++ b ∷ [] → kept raw ≡ f ++ b ∷ []
  kept_last raw f e = ap kept e
      ∙ cut_none is_carriage_return (f ++ b ∷ []) (none_at_end is_carriage_return f b no_return)

  indented_last : (line f : List ℕ) → line ≡ f ++ b ∷ [] → (g : List ℕ) × (indented line ≡ g ++ b ∷ [])
  indented_last line f e = by (begins_command line)
    where
      by : (q : Bool) → (g : List ℕ) × (cond q (32 ∷ line) line ≡ g ++ b ∷ [])
      by true = (32 ∷ f, ap (λ (l : List ℕ). 32 ∷ l) e)
      by false = (f, e)

  rest_ends : (raws : List (List ℕ)) → LastEnds b raws
      → (g : List ℕ) × (flat_map next_line (map kept raws) ≡ g ++ b ∷ [])
  rest_ends [] h = absurd h
  rest_ends (raw ∷ []) h =
      let last = indented_last (kept raw) h.0 (kept_last raw h.0 h.1) in
      (10 ∷ last.0, append-nil (next_line (kept raw)) ∙ ap (λ (l : List ℕ). 10 ∷ l) last.1)
  rest_ends (raw ∷ (next ∷ more)) h =
      let rest = rest_ends (next ∷ more) h in (
        next_line (kept raw) ++ rest.0,
        ap (λ (l : List ℕ). next_line (kept raw) ++ l) rest.1
            ∙ sym (append_assoc (next_line (kept raw)) rest.0 (b ∷ [])),
      )

  all_ends : (raws : List (List ℕ)) → LastEnds b raws → (g : List ℕ) × (one_command (map kept raws) ≡ g ++ b ∷ [])
  all_ends [] h = absurd h
  all_ends (raw ∷ []) h = (h.0, append-nil (kept raw) ∙ kept_last raw h.0 h.1)
  all_ends (raw ∷ (next ∷ more)) h =
      let rest = rest_ends (next ∷ more) h in
      (kept raw ++ rest.0, ap (λ (l : List ℕ). kept raw ++ l) rest.1 ∙ sym (append_assoc (kept raw) rest.0 (b ∷ [])))

not_blank : (b : ℕ) → is_blank b ≡ false → (is_line_feed b ≡ false) × (is_carriage_return b ≡ false)
not_blank b e = by (b == 32) (b == 9) (b == 10) (b == 13) e
  where
    by : (s t f r : Bool) → (((s || t) || f) || r) ≡ false → (f ≡ false) × (r ≡ false)
    by true t f r h = absurd (cc)
    by false true f r h = absurd (cc)
    by false false true r h = absurd (cc)
    by false false false true h = absurd (cc)
    by false false false false h = (refl, refl)

text_ends : (text : List ℕ) → EndsWell is_blank text → suffix_len is_blank (one_command (pieces text)) ≡ 0
text_ends text w =
    let b : ℕ = w.1 in
    let other = not_blank b w.3 in
    let last : LastEnds b (slice_split is_line_feed text) =
    subst (λ (l : List ℕ). LastEnds b (slice_split is_line_feed l)) (sym w.2) (last_ends w.0 b other.0) in
    let ends = all_ends b other.1 (slice_split is_line_feed text) last in
    ends_well is_blank (one_command (pieces text)) (ends.0, b, ends.1, w.3)

-- ---- the front

-- the first element doesn't pass
abbrev BeginsWell : (ℕ → Bool) → List ℕ → Type 0
BeginsWell p x = (b : ℕ) × (r : List ℕ) × (x ≡ b ∷ r) × (p b ≡ false)

begins_well : (p : ℕ → Bool) (x : List ℕ) → BeginsWell p x → prefix_len p x ≡ 0
begins_well p x w = ap (prefix_len p) w.2 ∙ ap (λ (q : Bool). cond q (1 + prefix_len p w.1) 0) w.3

-- what is cut at the end leaves the first, if it doesn't pass
kept_front : (p : ℕ → Bool) (b : ℕ) (r : List ℕ) → p b ≡ false → (s : List ℕ) × (without_end p (b ∷ r) ≡ b ∷ s)
kept_front p b r e = by (length (b ∷ r) - suffix_len p (b ∷ r)) refl (cut_whole p (b ∷ r))
  where
    by : (n : ℕ) → length (b ∷ r) - suffix_len p
        (b ∷ r) ≡ n → ((without_end p (b ∷ r) ≡ []) × (0 < length (b ∷ r) → p b ≡ true)) ⊎ EndsWell p
        (without_end p (b ∷ r)) → (s : List ℕ) × (without_end p (b ∷ r) ≡ b ∷ s)
    by n is (inl none) = let yes = none.1 (omega arith) in absurd (cc)
    by (suc n) is (inr w) = (take n r, ap (λ (k : ℕ). take k (b ∷ r)) is)
    by zero is (inr w) = absurd (empty w.0 (sym (ap (λ (k : ℕ). take k (b ∷ r)) is) ∙ w.2))
      where
        empty : (f : List ℕ) → [] ≡ f ++ w.1 ∷ [] → ⊥
        empty [] h = let n : 0 ≡ 1 = ap length h in omega (arith, n)
        empty (x ∷ f) h = let n : 0 ≡ suc (length (f ++ w.1 ∷ [])) = ap length h in omega (arith, n)

text_begins : (text : List ℕ) → BeginsWell is_blank text → prefix_len is_blank (one_command (pieces text)) ≡ 0
text_begins text w =
    let b : ℕ = w.0 in
    let other = not_blank b w.3 in
    let first = first_piece w.1 in
    let split : slice_split is_line_feed text ≡ (b ∷ first.0) ∷ first.1.0 = ap (slice_split is_line_feed) w.2
    ∙ slice_split-cons_no is_line_feed b w.1 other.0 ∙ ap (onto_first b) first.1.1 in
    let front = kept_front is_carriage_return b first.0 other.1 in
    let whole : one_command (pieces text) ≡ b ∷ (front.0 ++ flat_map next_line (map kept first.1.0)) =
    ap (λ (ls : List (List ℕ)). one_command (map kept ls)) split
    ∙ ap (λ (l : List ℕ). l ++ flat_map next_line (map kept first.1.0)) front.1 in
    begins_well is_blank (one_command (pieces text)) (b, front.0 ++ flat_map next_line (map kept first.1.0), whole, w.3)

-- ---- a text without blanks at its ends

without_blanks_begins : (x : List ℕ) → (without_blanks x ≡ []) ⊎ BeginsWell is_blank (without_blanks x)
without_blanks_begins [] = inl refl
without_blanks_begins (b ∷ x) = by (is_blank b) refl (without_blanks_begins x)
  where
    by : (q : Bool) → is_blank b ≡ q → (without_blanks x ≡ []) ⊎ BeginsWell is_blank (without_blanks x)
        → (drop (cond q (1 + prefix_len is_blank x) 0) (b ∷ x) ≡ []) ⊎ BeginsWell is_blank
        (drop (cond q (1 + prefix_len is_blank x) 0) (b ∷ x))
    by true e rest =
        let next : 1 + prefix_len is_blank x ≡ suc (prefix_len is_blank x) = omega arith in
        let step : drop (1 + prefix_len is_blank x) (b ∷ x) ≡ without_blanks x = ap (λ (k : ℕ). drop k (b ∷ x)) next in
        subst (λ (l : List ℕ). (l ≡ []) ⊎ BeginsWell is_blank l) (sym step) rest
    by false e rest = inr (b, x, refl, e)

-- nothing, or no blank at either end
trimmed_ends : (text : List ℕ)
    → (trimmed text ≡ []) ⊎ (BeginsWell is_blank (trimmed text) × EndsWell is_blank (trimmed text))
trimmed_ends text = by (without_blanks_begins text) (cut_whole is_blank (without_blanks text))
  where
    by : (without_blanks text ≡ []) ⊎ BeginsWell is_blank (without_blanks text)
        → ((trimmed text ≡ []) × (0 < length (without_blanks text)
        → is_blank (get_or (without_blanks text) 0 0) ≡ true)) ⊎ EndsWell is_blank (trimmed text)
        → (trimmed text ≡ []) ⊎ (BeginsWell is_blank (trimmed text) × EndsWell is_blank (trimmed text))
    by begins (inl none) = inl none.0
    by (inl none) (inr w) = inl (ap (without_end is_blank) none)
    by (inr begins) (inr w) =
        let front = kept_front is_blank begins.0 begins.1 begins.3 in
        inr ((begins.0, front.0, ap (without_end is_blank) begins.2 ∙ front.1, begins.3), w)

pub text_is_given : (text : List ℕ) → IsCommandText Continued (module_text_of text)
text_is_given text = by (trimmed_ends text) (first_piece (trimmed text)) (inner (trimmed text))
  where
    by : (trimmed text ≡ []) ⊎ (BeginsWell is_blank (trimmed text) × EndsWell is_blank (trimmed text))
        → ((p : List ℕ) × ((ps : List (List ℕ)) × (slice_split is_line_feed (trimmed text) ≡ p ∷ ps)))
        → AllByRecursion HasNoFeed (slice_split is_line_feed (trimmed text))
        → IsCommandText Continued (module_text_of text)
    by (inl none) first all = subst (λ (t : List ℕ). IsCommandText Continued (one_command (pieces t))) (sym none)
        (record { front = refl; end = refl; lines = (refl, tt); goes_on = tt })
    by (inr ends) first all =
        let parts : AllByRecursion HasNoFeed (first.0 ∷ first.1.0) = subst (AllByRecursion HasNoFeed) first.1.1 all in
        let split : slice_split is_line_feed (module_text_of text) ≡ kept first.0 ∷ map indented (map kept first.1.0) =
        ap (λ (ls : List (List ℕ)). slice_split is_line_feed (one_command (map kept ls))) first.1.1
        ∙ lines_of (kept first.0) first.1.0 (kept_inner first.0 parts.0) parts.1 in
        record {
          front = text_begins (trimmed text) ends.0;
          end = text_ends (trimmed text) ends.1;
          lines = subst (AllByRecursion (λ line. suffix_len is_carriage_return line ≡ 0)) (sym split)
              (no_return first.0, no_returns first.1.0);
          goes_on = subst (λ (ls : List (List ℕ)). GoOn Continued (drop 1 ls)) (sym split) (all_go_on first.1.0);
        }
