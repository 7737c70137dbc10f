-- The machine over bytes gives the commands of a script.
use Rattle.std.proofs.Common.{◌≡◌, ℕ, zero, suc, Bool, true, false, ◌==◌, List, [], ◌∷◌, ◌++◌, Some, None, option_map, map, inl, inr, refl, sym, ap, ◌∙◌, arith, append_assoc, append-nil, if◌then◌else◌}
use Rattle.std.specs.declared.option.Option.{Option}
use Rattle.std.specs.Option.{option_to_list}
use Rattle.script_text.specs.declared.framing.Framing.{Framing}
use Rattle.script_text.specs.declared.framing.Framing.TheVariants.{Continued, Lines}
use Rattle.script_text.specs.declared.splitter.LineState.TheVariants.{Start, Kept, Comment, Skipped}
use Rattle.script_text.specs.declared.splitter.Unfinished.{Unfinished}
use Rattle.script_text.specs.Script.{Cut, cut, begins_command, lines, commands, but_last}
use Rattle.script_text.specs.Handed.{Handed, handed_as, handed, completed}
use Rattle.script_text.specs.Splitting.{with_more, after_returns, Taken, going, in_place, at_start, taken, rest_of, nothing, StandsAfter}
use Rattle.script_text.specs.inside.Passing.{out_of, passed}
use Rattle.script_text.proofs.HandedLemmas.{with_more-handed_as, with_more-append, capped, capped-suc, capped-more, capped-begun}
use Rattle.std.proofs.lemmas.Bool.{cases_Bool}
use Rattle.std.proofs.lemmas.Bool.Decides.{nat_tests}
use Rattle.script_text.proofs.OwnLineLemmas.{handed_by_lines, ended-feed, ended-byte}
use Rattle.script_text.proofs.LineLemmas.{this_or, returns, IsCore, no_core, longer_core, longer_append, one_more_return, with_line, last_line, lines-line_feed, lines-end}

-- ---- lines, split after a pending command

abbrev pub finished : Option Handed → Cut → List Handed
finished None c = map handed_as c.commands
finished (Some command) c = with_more c.going_on command ∷ map handed_as c.commands

abbrev line_out : Bool → Option Handed → List Handed
line_out begins c = if begins then option_to_list c else []

abbrev line_command : Bool → Option Handed → List ℕ → Option Handed
line_command begins c line = if begins then Some (handed_as line) else option_map (with_more (10 ∷ line)) c

finished-line : (c : Option Handed) (line : List ℕ) (ls : List (List ℕ)) →
    finished c (cut (line ∷ ls)) ≡ line_out (begins_command line) c
    ++ finished (line_command (begins_command line) c line) (cut ls)
finished-line c line ls = at (begins_command line) c
  where
    at : (b : Bool) (c : Option Handed) →
        finished c (if b then record { going_on = []; commands = (line ++ (cut ls).going_on) ∷ (cut ls).commands } else
        record { going_on = 10 ∷ line ++ (cut ls).going_on; commands = (cut ls).commands })
        ≡ line_out b c ++ finished (line_command b c line) (cut ls)
    at true None =
        ap (λ (h : Handed). h ∷ map handed_as (cut ls).commands) (sym (with_more-handed_as line (cut ls).going_on))
    at true (Some d) = ap (λ (h : Handed). d ∷ (h ∷ map handed_as (cut ls).commands))
        (sym (with_more-handed_as line (cut ls).going_on))
    at false None = refl
    at false (Some d) = ap (λ (h : Handed). h ∷ map handed_as (cut ls).commands)
        (sym (with_more-append (10 ∷ line) (cut ls).going_on d))

-- ---- a line of which this much has arrived

abbrev gone : Option Handed → List ℕ → ℕ → Unfinished
gone None core n = record { framing = Continued; command = None; place = Skipped; returns = 0 }
gone (Some c) core n =
    record { framing = Continued; command = Some (with_more (10 ∷ core) c); place = Kept; returns = capped n }

-- depending on whether it is a comment, and whether it begins a command
abbrev in_some : Bool → Bool → Option Handed → List ℕ → ℕ → Taken
in_some true begins c core n = going (record { framing = Continued; command = c; place = Comment; returns = 0 })
in_some false true c core n = record {
  out = c;
  left = record { framing = Continued; command = Some (handed_as core); place = Kept; returns = capped n };
}
in_some false false c core n = going (gone c core n)

abbrev pub in_core : Option Handed → List ℕ → ℕ → Taken
in_core c [] n = going (record { framing = Continued; command = c; place = Start; returns = capped n })
in_core c (b ∷ core) n = in_some (b == 35) (begins_command (b ∷ core)) c (b ∷ core) n

abbrev pub handed_from : Taken → List ℕ → List Handed
handed_from t x = option_to_list t.out ++ rest_of t.left x

-- ---- its next byte

at_return : (c : Option Handed) (core x : List ℕ) (n : ℕ)
    → handed_from (in_core c core n) (13 ∷ x) ≡ handed_from (in_core c core (suc n)) x
at_return c core x n = grind (arith, nat_tests, capped-suc)

-- a line feed, given what comes of the lines after it
at_line_feed : (c : Option Handed) (core x : List ℕ) (n : ℕ) (ls : List (List ℕ))
    → ((d : Option Handed) → rest_of (in_place Continued d Start) x ≡ finished d (cut ls)) →
    handed_from (in_core c core n) (10 ∷ x) ≡ finished c (cut (with_line core ls))
at_line_feed c [] x n ls ih = ih _ ∙ sym (finished-line c [] ls)
at_line_feed c (k ∷ core) x n ls ih = grind (
  arith,
  nat_tests,
  finished-line c (k ∷ core) ls,
  ih c,
  ih (Some (handed_as (k ∷ core))),
  ih (option_map (with_more (10 ∷ (k ∷ core))) c),
)

-- a first byte of a line
first_byte : (c : Option Handed) (n b : ℕ) → (b == 13) ≡ false → (b == 10) ≡ false
    → at_start (record { framing = Continued; command = c; place = Start; returns = capped n }) b
    ≡ in_core c (returns n ++ b ∷ []) 0
first_byte c zero b e f = grind (arith, nat_tests)
first_byte c (suc n) b e f = grind (arith, nat_tests, capped-begun)

at_byte : (c : Option Handed) (core x : List ℕ) (n b : ℕ) → (b == 13) ≡ false → (b == 10) ≡ false →
    handed_from (in_core c core n) (b ∷ x) ≡ handed_from (in_core c (core ++ (returns n ++ b ∷ [])) 0) x
at_byte c [] x n b e f = ap (λ (t : Taken). handed_from t x) (first_byte c n b e f)
at_byte None (k ∷ core) x n b e f =
    grind (arith, capped-more n b (handed_as (k ∷ core)), with_more-handed_as (k ∷ core) (after_returns n b))
at_byte (Some d) (k ∷ core) x n b e f =
    grind (
      arith,
      capped-more n b (handed_as (k ∷ core)),
      with_more-handed_as (k ∷ core) (after_returns n b),
      capped-more n b (with_more (10 ∷ (k ∷ core)) d),
      with_more-append (10 ∷ (k ∷ core)) (after_returns n b) d,
    )

at_end : (c : Option Handed) (core : List ℕ) (n : ℕ)
    → handed_from (in_core c core n) [] ≡ finished c (cut (last_line core))
at_end c [] n = grind arith
at_end c (k ∷ core) n =
    let as_if_ended : handed_from (in_core c (k ∷ core) n) [] ≡ handed_from (in_core c (k ∷ core) n) (10 ∷ []) =
    grind (arith, nat_tests) in
    as_if_ended ∙ at_line_feed c (k ∷ core) [] n [] (λ d. grind arith)

-- ---- the whole text

-- The text after the part of a line that has arrived.
abbrev Follows : List ℕ → Type 0
Follows x = (c : Option Handed) (core : List ℕ) (n : ℕ) → IsCore core
    → handed_from (in_core c core n) x ≡ finished c (cut (lines (core ++ (returns n ++ x))))

follows : (x : List ℕ) → Follows x
follows [] = λ c core n h. at_end c core n ∙ ap (λ (ls : List (List ℕ)). finished c (cut ls))
    (sym (ap (λ (xs : List ℕ). lines (core ++ xs)) (append-nil (returns n)) ∙ lines-end core n h))
follows (b ∷ x) = this_or (λ k. Follows (k ∷ x)) 13 b
    (λ c core n h. at_return c core x n ∙ follows x c core (suc n) h
    ∙ ap (λ (xs : List ℕ). finished c (cut (lines xs))) (sym (one_more_return core x n)))
    (λ e. this_or (λ k. Follows (k ∷ x)) 10 b
    (λ c core n h. at_line_feed c core x n (lines x) (λ d. follows x d [] 0 no_core)
    ∙ ap (λ (ls : List (List ℕ)). finished c (cut ls)) (sym (lines-line_feed core x n h)))
    (λ f c core n h. at_byte c core x n b e f
    ∙ follows x c (core ++ (returns n ++ b ∷ [])) 0 (longer_core core n b h e f)
    ∙ ap (λ (xs : List ℕ). finished c (cut (lines xs))) (longer_append core n b x)))

handed_by_bytes : (x : List ℕ) → handed Continued x ≡ rest_of (nothing Continued) x
handed_by_bytes x = sym (follows x None [] 0 no_core)

-- ---- all but the last

but_last-snoc : {X : Type 0} (xs : List X) (y : X) → but_last (xs ++ y ∷ []) ≡ xs
but_last-snoc [] y = refl
but_last-snoc (x ∷ []) y = refl
but_last-snoc (x ∷ (z ∷ xs)) y = ap (λ (ys : List _). x ∷ ys) (but_last-snoc (z ∷ xs) y)

but_last-map : {X Y : Type 0} (f : X → Y) (xs : List X) → map f (but_last xs) ≡ but_last (map f xs)
but_last-map f [] = refl
but_last-map f (x ∷ []) = refl
but_last-map f (x ∷ (y ∷ xs)) = ap (λ (ys : List _). f x ∷ ys) (but_last-map f (y ∷ xs))

but_last-same : {X : Type 0} (xs : List X) → xs ≡ but_last xs → xs ≡ []
but_last-same [] e = refl
but_last-same (x ∷ []) e = absurd (cc)
but_last-same (x ∷ (y ∷ xs)) e = let rest : y ∷ xs ≡ [] = but_last-same (y ∷ xs) (cc) in absurd (cc)

all_but_last : {X : Type 0} (xs out : List X) (last : Option X) → xs ≡ out ++ option_to_list last
    → (last ≡ None → out ≡ []) → out ≡ but_last xs
all_but_last xs out None e none = none refl ∙ sym (ap but_last (e ∙ append-nil out ∙ none refl))
all_but_last xs out (Some last) e none = sym (ap but_last e ∙ but_last-snoc out last)

-- ---- after a text

pub StandsAfter-none : (framing : Framing) → StandsAfter framing [] [] (nothing framing)
StandsAfter-none Continued = record { framed = refl; complete = refl; rest = λ more. handed_by_bytes more }
StandsAfter-none Lines = record { framed = refl; complete = refl; rest = λ more. handed_by_lines more }

-- at the end
pub StandsAfter-end : (framing : Framing) (x : List ℕ) (out : List Handed) (s : Unfinished)
    → StandsAfter framing x out s → handed framing x ≡ out ++ option_to_list s.command
StandsAfter-end framing x out s h = sym (ap (handed framing) (append-nil x)) ∙ h.rest []

-- ---- what a byte does

taken-framing : (s : Unfinished) (b : ℕ) → (taken s b).left.framing ≡ s.framing
taken-framing s b = grind (arith, nat_tests)

-- if it leaves no pending command, there was none before it
none_before : (s : Unfinished) (b : ℕ)
    → s.framing ≡ Continued → (taken s b).left.command ≡ None → (s.command ≡ None) × ((taken s b).out ≡ None)
none_before s b f e = grind (arith, nat_tests)

-- a line feed leaves nothing pending where lines are commands, and no other byte completes one
own_feed : (s : Unfinished) (b : ℕ) → s.framing ≡ Lines → (b == 10) ≡ true → (taken s b).left.command ≡ None
own_feed s b f e = grind (arith, nat_tests)

own_byte : (s : Unfinished) (b : ℕ) → s.framing ≡ Lines → (b == 10) ≡ false → (taken s b).out ≡ None
own_byte s b f e = grind (arith, nat_tests)

-- without a pending command none was completed
none_out : (x : List ℕ) (out : List Handed) (s : Unfinished) → StandsAfter Continued x out s
    → s.command ≡ None → out ≡ []
none_out x out s h e =
    but_last-same out (h.complete ∙ but_last-map handed_as (commands Continued x) ∙ ap but_last
    (StandsAfter-end Continued x out s h ∙ ap (λ (c : Option Handed). out ++ option_to_list c) e ∙ append-nil out))

-- a byte after the text
module _ (framing : Framing) (x : List ℕ) (out : List Handed) (s : Unfinished) (b : ℕ)
    (h : StandsAfter framing x out s) where
  rest_more : (more : List ℕ) → handed framing ((x ++ b ∷ []) ++ more) ≡ (out ++ option_to_list (taken s b).out)
      ++ rest_of (taken s b).left more
  rest_more more = ap (handed framing) (append_assoc x (b ∷ []) more)
      ∙ h.rest (b ∷ more) ∙ sym (append_assoc out (option_to_list (taken s b).out) (rest_of (taken s b).left more))

  whole : handed framing (x ++ b ∷ []) ≡ (out ++ option_to_list (taken s b).out)
      ++ option_to_list (taken s b).left.command
  whole = sym (ap (handed framing) (append-nil (x ++ b ∷ []))) ∙ rest_more []

complete_more : (framing : Framing) (x : List ℕ) (out : List Handed) (s : Unfinished) (b : ℕ)
    → StandsAfter framing x out s → out ++ option_to_list (taken s b).out ≡ completed framing (x ++ b ∷ [])
complete_more Continued x out s b h =
    all_but_last _ _ (taken s b).left.command (whole Continued x out s b h)
    (λ e. let before = none_before s b h.framed e in rw before.1 (append-nil out ∙ none_out x out s h before.0))
    ∙ sym (but_last-map handed_as (commands Continued (x ++ b ∷ [])))
complete_more Lines x out s b h = elim (cases_Bool (b == 10)) [
  | inl e ↦
      sym (ap (handed Lines) (ended-feed x b e) ∙ whole Lines x out s b h ∙ rw (own_feed s b h.framed e) (append-nil _))
  | inr e ↦ rw (own_byte s b h.framed e) (append-nil out ∙ h.complete ∙ sym (ap (handed Lines) (ended-byte x b e)))
]

StandsAfter-more : (framing : Framing) (x : List ℕ) (out : List Handed) (s : Unfinished) (b : ℕ)
    → StandsAfter framing x out s →
    StandsAfter framing (x ++ b ∷ []) (out ++ option_to_list (taken s b).out) (taken s b).left
StandsAfter-more framing x out s b h = record {
  framed = taken-framing s b ∙ h.framed;
  complete = complete_more framing x out s b h;
  rest = rest_more framing x out s b h;
}

-- ---- after more bytes

pub StandsAfter-run : (framing : Framing) (run x : List ℕ) (out : List Handed) (s : Unfinished)
    → StandsAfter framing x out s → StandsAfter framing (x ++ run) (out ++ out_of s run) (passed s run)
StandsAfter-run framing [] x out s h = rw (append-nil, append-nil) h
StandsAfter-run framing (b ∷ run) x out s h =
    rw
    (← append_assoc x (b ∷ []) run, ← append_assoc out (option_to_list (taken s b).out) (out_of (taken s b).left run))
    (StandsAfter-run framing run (x ++ b ∷ []) (out ++ option_to_list (taken s b).out) (taken s b).left
    (StandsAfter-more framing x out s b h))

-- what is complete in them
pub StandsAfter-out : (framing : Framing) (more x : List ℕ) (out : List Handed) (s : Unfinished)
    → StandsAfter framing x out s → completed framing (x ++ more) ≡ out ++ out_of s more
StandsAfter-out framing more x out s h = sym (StandsAfter-run framing more x out s h).complete
