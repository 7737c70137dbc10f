-- A run of bytes, consumed at once.
use Rattle.std.proofs.Common.{◌≡◌, ◌≤◌, ◌<◌, ◌+◌, ◌-◌, ℕ, zero, suc, Bool, true, false, List, [], ◌∷◌, ◌++◌, length, take, drop, get_or, Some, None, is_some, option_map, ◌⊎◌, refl, sym, ap, ◌∙◌, arith, append_assoc, append-nil, add-one}
use Rattle.std.specs.declared.option.Option.{Option}
use Rattle.std.specs.Option.{option_to_list}
use Rattle.std.specs.List.{position_or_len}
use Rattle.std.proofs.Math.Seq.{take-add, take-suc}
use Rattle.std.proofs.lemmas.Bool.{false_from_ne_true}
use Rattle.std.proofs.lemmas.Bool.Decides.{nat_tests}
use Rattle.std.proofs.lemmas.List.{get_or-take, take_all, length-drop, length-take}
use Rattle.std.proofs.lemmas.List.Sums.{position_or_len_is, fails_before_first}
use Rattle.memchr.specs.Find.{Nowhere, NoneBefore, Passes}
use Rattle.script_text.specs.declared.framing.Framing.{Framing}
use Rattle.script_text.specs.declared.splitter.LineState.TheVariants.{Kept, Comment, Skipped}
use Rattle.script_text.specs.declared.splitter.Unfinished.{Unfinished}
use Rattle.script_text.specs.Handed.{Handed}
use Rattle.script_text.specs.Script.{is_line_feed}
use Rattle.script_text.specs.Splitting.{Taken, going, with_more, in_place, taken, StandsAfter}
use Rattle.script_text.specs.inside.Passing.{ends_run, passed, out_of, Goes}
use Rattle.script_text.proofs.HandedLemmas.{with_more-append}
use Rattle.script_text.proofs.SplitLemmas.{StandsAfter-run}

-- ---- the bytes before the first that passes a test, as a search finds them

pub found_place : (test : ℕ → Bool) (x : List ℕ) (k : ℕ) → NoneBefore (Passes test x) 0 (length x) k × Passes test x k
    → k ≡ position_or_len test x
found_place test x k h =
    let high : k < length x = h.0.high in
    sym (position_or_len_is test x k 0 (omega arith)
    (λ i below. false_from_ne_true _ (h.0.before i (omega arith) below)) (λ _. h.1))

pub no_place : (test : ℕ → Bool) (x : List ℕ) → Nowhere (Passes test x) 0 (length x) → length x ≡ position_or_len test x
no_place test x none =
    sym (position_or_len_is test x (length x) 0 (omega arith)
    (λ i below. false_from_ne_true _ (none i (omega arith) below)) (λ h. absurd (omega (arith, h))))

pub ruleset first_places = (found_place, no_place)

-- none of these bytes passes the test
abbrev NonePasses : (ℕ → Bool) → List ℕ → Type 0
NonePasses test run = (i : ℕ) → i < length run → test (get_or run i 0) ≡ false

run_passes : (test : ℕ → Bool) (x : List ℕ) (k : ℕ) → k ≡ position_or_len test x → NonePasses test (take k x)
run_passes test x k e i within =
    let under : i < k = omega (arith, within, length-take k x) in
    ap test (get_or-take k x i 0 under) ∙ fails_before_first test x i 0 (omega (arith, e, under))

-- ---- the effect of a run

goes_on : (s next left : Unfinished) (b : ℕ) (run : List ℕ) → taken s b ≡ going next → Goes next run [] left
    → Goes s (b ∷ run) [] left
goes_on s next left b run e h = record {
  out = ap (λ (t : Taken). option_to_list t.out ++ out_of t.left run) e ∙ h.out;
  left = ap (λ (t : Taken). passed t.left run) e ∙ h.left;
}

-- in a line of the command
abbrev kept : Framing → Option Handed → Unfinished
kept f c = in_place f c Kept

kept_byte : (f : Framing) (c : Option Handed) (b : ℕ)
    → ends_run b ≡ false → taken (kept f c) b ≡ going (kept f (option_map (with_more (b ∷ [])) c))
kept_byte f c b e = grind (arith, nat_tests)

more_after : (b : ℕ) (run : List ℕ) (c : Option Handed)
    → option_map (with_more run) (option_map (with_more (b ∷ [])) c) ≡ option_map (with_more (b ∷ run)) c
more_after b run None = refl
more_after b run (Some c) = ap Some (with_more-append (b ∷ []) run c)

kept_run : (f : Framing) (run : List ℕ) (c : Option Handed) → NonePasses ends_run run
    → Goes (kept f c) run [] (kept f (option_map (with_more run) c))
kept_run f [] c h = record { out = refl; left = grind arith }
kept_run f (b ∷ run) c h =
    rw (← more_after b run c)
    (goes_on (kept f c) _ _ b run (kept_byte f c b (h zero (omega arith)))
    (kept_run f run (option_map (with_more (b ∷ [])) c) (λ i within. h (suc i) (omega (arith, within)))))

-- in a dropped line
dropped_run : (run : List ℕ) (s : Unfinished) → ((b : ℕ) → is_line_feed b ≡ false → taken s b ≡ going s)
    → NonePasses is_line_feed run → Goes s run [] s
dropped_run [] s stays h = record { out = refl; left = refl }
dropped_run (b ∷ run) s stays h =
    goes_on s s s b run (stays b (h zero (omega arith)))
    (dropped_run run s stays (λ i within. h (suc i) (omega (arith, within))))

-- ---- as the code consumes it

pub kept_taken : (s : Unfinished) (x : List ℕ) (k : ℕ) (after : Option Handed)
    → s.place ≡ Kept → s.returns ≡ 0 → k ≡ position_or_len ends_run x →
    after ≡ option_map (with_more (take k x)) s.command → Goes s (take k x) [] (record s { command = after })
kept_taken s x k after place returns e f =
    let same : s ≡ kept s.framing s.command = (λ i. record s { place = place i; returns = returns i }) in
    rw (f, place, returns) (rw same (kept_run s.framing (take k x) s.command (run_passes ends_run x k e)))

pub dropped_taken : (s : Unfinished) (x : List ℕ) (k : ℕ)
    → (s.place ≡ Comment) ⊎ (s.place ≡ Skipped) → k ≡ position_or_len is_line_feed x → Goes s (take k x) [] s
dropped_taken s x k place e = dropped_run (take k x) s (λ b f. grind (arith, nat_tests)) (run_passes is_line_feed x k e)

-- ---- one run after another

passed-append : (s : Unfinished) (xs ys : List ℕ) → passed s (xs ++ ys) ≡ passed (passed s xs) ys
passed-append s [] ys = refl
passed-append s (x ∷ xs) ys = passed-append (taken s x).left xs ys

out_of-append : (s : Unfinished) (xs ys : List ℕ) → out_of s (xs ++ ys) ≡ out_of s xs ++ out_of (passed s xs) ys
out_of-append s [] ys = refl
out_of-append s (x ∷ xs) ys = grind (arith, append_assoc, out_of-append (taken s x).left xs ys)

Goes-append : (s t left : Unfinished) (xs ys : List ℕ) (out : List Handed) → Goes s xs [] t → Goes t ys out left
    → Goes s (xs ++ ys) out left
Goes-append s t left xs ys out p q = record {
  out = out_of-append s xs ys ∙ (λ i. p.out i ++ out_of (p.left i) ys) ∙ q.out;
  left = passed-append s xs ys ∙ ap (λ (u : Unfinished). passed u ys) p.left ∙ q.left;
}

-- the rest of a piece, as the code consumes it
abbrev left_of : ℕ → List ℕ → List ℕ
left_of i bytes = take (length bytes - i) (drop i bytes)

left_is : (i : ℕ) (bytes : List ℕ) → left_of i bytes ≡ drop i bytes
left_is i bytes = take_all (length bytes - i) (drop i bytes) (omega (arith, length-drop i bytes))

pub run_within : (i k : ℕ) (bytes : List ℕ) → i ≤ length bytes → k ≤ length (left_of i bytes) → i + k ≤ length bytes
run_within i k bytes in_range within = omega (arith, in_range, within, ap length (left_is i bytes), length-drop i bytes)

-- the next run of a piece, and the next byte
module _ (s t left : Unfinished) (bytes : List ℕ) (i : ℕ) (h : Goes s (take i bytes) [] t) where
  pub Goes-run : (k : ℕ) → Goes t (take k (left_of i bytes)) [] left → Goes s (take (i + k) bytes) [] left
  Goes-run k run = rw (take-add i k bytes, ← left_is i bytes)
      (Goes-append s t left (take i bytes) (take k (left_of i bytes)) [] h run)

  pub Goes-byte : (out : Option Handed) → i < length bytes → taken t (get_or bytes i 0)
      ≡ record { out = out; left = left } → Goes s (take (i + 1) bytes) (option_to_list out) left
  Goes-byte out within e =
      rw (add-one i, take-suc bytes i 0 within)
      (Goes-append s t left (take i bytes) (get_or bytes i 0 ∷ []) (option_to_list out) h
      (record {
        out = ap (λ (t : Taken). option_to_list t.out ++ []) e ∙ append-nil _;
        left = ap (λ (t : Taken). t.left) e;
      }))

-- what the splitter then says
module _ (s t : Unfinished) (framing : Framing) (x : List ℕ) (out : List Handed) (h : StandsAfter framing x out s) where
  pub goes_after : (run : List ℕ) (given : List Handed) → Goes s run given t
      → StandsAfter framing (x ++ run) (out ++ given) t
  goes_after run given goes = rw (← goes.out, ← goes.left) (StandsAfter-run framing run x out s h)

  -- a piece was consumed to its end
  pub goes_after_all : (bytes : List ℕ) (i : ℕ) → length bytes ≤ i → Goes s (take i bytes) [] t
      → StandsAfter framing (x ++ bytes) (out ++ []) t
  goes_after_all bytes i all goes = rw (sym (take_all i bytes all)) (goes_after (take i bytes) [] goes)

pub command_there : (o : Option Handed) → is_some o ≡ true → (c : Handed) × (o ≡ Some c)
command_there None e = absurd (cc)
command_there (Some c) e = (c, refl)
