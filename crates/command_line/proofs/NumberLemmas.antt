-- The numbers of options: what texts spell, and that of an option that isn't given.
use Rattle.std.proofs.Common.{◌≡◌, ◌⊎◌, ◌++◌, ap, ap₂, refl, inl, inr, Bool, true, false, ℕ, zero, suc, List, [], ◌∷◌, Option, Some, None, codes, cond, length, nat_lt, slice_get}
use Rattle.std.specs.Prelude.{⊤, ◌||◌, ◌&&◌, not, if◌then◌else◌, option_and_then, drop, encode_utf8, find, fold, min, ◌+◌}
use Rattle.std.specs.Option.{option_map_or}
use Rattle.std.specs.List.{list_all}
use Rattle.std.specs.Char.{digit_value}
use Rattle.std.specs.Str.{bytes_eq, chars}
use Rattle.std.specs.Str.Parse.{AllDigits, digits_value, without_leading_plus}
use Rattle.std.proofs.lemmas.Bool.{ltb-false, ltb-true, lt-ltb, le-ltb}
use Rattle.clap.specs.declared.builder.action.ArgAction.{ArgAction}
use Rattle.clap.specs.declared.builder.action.ArgAction.TheVariants.{Append, Count, Help, HelpLong, HelpShort, Set, SetFalse, SetTrue, Version}
use Rattle.clap.specs.declared.builder.value_parser.Reading.{Reading}
use Rattle.clap.specs.declared.parser.matches.ValueSource.{ValueSource}
use Rattle.clap.specs.declared.parser.matches.ValueSource.TheVariants.{CommandLine, DefaultValue}
use Rattle.clap.specs.Words.{built}
use Rattle.clap.specs.Simple.{argument_words, names_of}
use Rattle.clap.specs.Takes.{is_given}
use Rattle.clap.specs.Facts.{explicit_source}
use Rattle.clap.specs.Lexer.{long_of, short_of}
use Rattle.clap.specs.Walk.{has_row, one_of, row_text, reading_by, values_or_missing, Held, Names, Outcome, Step, Waiting, Walk, action_of, after_flag, after_step, arg_by_id, arg_by_index, arg_by_long, arg_by_short, at_row, attached_value, bundle_met, bundle_step, count_of, counted, default_rows, done, flag_met, idle, is_pending, long_met, long_or_other, long_word, more_values, new_count, next, nothing_held, option, option_met, option_word, plain, plain_word, positional, positional_held, reacted, refused, settled, settled_rows, short_met, short_or_plain, stronger, subcommand, subcommand_met, subcommand_or_other, takes_several, takes_values, to_positional, trailing, used, used_as, used_by_id, value, waits, walk, walk_from, walked, walked_from, with_count, with_default, with_values, without, word_met, Row, Rule, Text}
use Rattle.command_line.specs.Line.{given, is_number_in, line, most_steps_of, number_in}
use Rattle.command_line.specs.inside.Numbers.{Spells}
use Rattle.command_line.proofs.FlagLemmas.{max_steps_rule, rules}

-- ---- what a text spells

both : (a b : Bool) → (a && b) ≡ true → (a ≡ true) × (b ≡ true)
both true b e = (refl, e)
both false b e = cc

unless : (a : Bool) → not a ≡ true → a ≡ false
unless true e = cc
unless false e = refl

all_are_digits : (ds : Text) → AllDigits 10 ds → list_all (λ d. nat_lt (digit_value d) 10) ds ≡ true
all_are_digits [] h = refl
all_are_digits (d ∷ ds) h = ap₂ (λ (a b : Bool). a && b) (lt-ltb (digit_value d) 10 h.0) (all_are_digits ds h.1)

digits_are_all : (ds : Text) → list_all (λ d. nat_lt (digit_value d) 10) ds ≡ true → AllDigits 10 ds
digits_are_all [] e = tt
digits_are_all (d ∷ ds) e =
    let each = both (nat_lt (digit_value d) 10) (list_all (λ d. nat_lt (digit_value d) 10) ds) e in
    (ltb-true (digit_value d) 10 each.0, digits_are_all ds each.1)

spelled : (least most : ℕ) (text : Text) → Spells least most text → is_number_in least most text ≡ true
spelled least most text h =
    let digits = without_leading_plus text in
    ap₂ (λ (a b : Bool). a && b)
    (ap₂ (λ (a b : Bool). a && b) (lt-ltb 0 (length digits) h.0.0) (all_are_digits digits h.0.1))
    (ap₂ (λ (a b : Bool). not a && not b) (le-ltb (digits_value 10 digits) least h.1)
    (le-ltb most (digits_value 10 digits) h.2))

spells : (least most : ℕ) (text : Text) → is_number_in least most text ≡ true → Spells least most text
spells least most text e =
    let digits = without_leading_plus text in
    let parts = both (nat_lt 0 (length digits) && list_all (λ d. nat_lt (digit_value d) 10) digits)
    (not (nat_lt (digits_value 10 digits) least) && not (nat_lt most (digits_value 10 digits))) e in
    let numeral = both (nat_lt 0 (length digits)) (list_all (λ d. nat_lt (digit_value d) 10) digits) parts.0 in
    let range =
    both (not (nat_lt (digits_value 10 digits) least)) (not (nat_lt most (digits_value 10 digits))) parts.1 in (
      (ltb-true 0 (length digits) numeral.0, digits_are_all digits numeral.1),
      ltb-false (digits_value 10 digits) least (unless _ range.0),
      ltb-false most (digits_value 10 digits) (unless _ range.1),
    )

-- a number that is read from the text of an option, if there is one in the range, is that of the definition
pub number_is : (least most usual n : ℕ) (o : Option Text) → (o ≡ None → n ≡ usual)
    → ((text : Text) → o ≡ Some text → Spells least most text → n ≡ digits_value 10 (without_leading_plus text))
    → ((text : Text) → o ≡ Some text → (Spells least most text → ⊥) → n ≡ usual) → n ≡ number_in least most usual o
number_is least most usual n None none read other = none refl
number_is least most usual n (Some text) none read other = go (is_number_in least most text) refl
  where
    go : (b : Bool)
        → is_number_in least most text ≡ b → n ≡ (if b then digits_value 10 (without_leading_plus text) else usual)
    go true e = read text refl (spells least most text e)
    go false e = other text refl (λ h. let is = spelled least most text h in cc)

-- ---- all rows of a walk are of uses

abbrev AllUsed : List Row → Type 0
AllUsed [] = ⊤
AllUsed (r ∷ rs) = (r.source ≡ Some CommandLine) × AllUsed rs

joined : (xs ys : List Row) → AllUsed xs → AllUsed ys → AllUsed (xs ++ ys)
joined [] ys x y = y
joined (r ∷ xs) ys x y = (x.0, joined xs ys x.1 y)

at_used : (id : Text) (change : Row → List Row) (missing rows : List Row)
    → ((r : Row) → r.source ≡ Some CommandLine → AllUsed (change r))
    → AllUsed missing → AllUsed rows → AllUsed (at_row id change missing rows)
at_used id change missing [] changed new all = new
at_used id change missing (r ∷ rs) changed new all =
    go (bytes_eq r.id id) (at_used id change missing rs changed new all.1)
  where
    go : (b : Bool) → AllUsed (at_row id change missing rs)
        → AllUsed (cond b (change r ++ rs) (r ∷ at_row id change missing rs))
    go true rest = joined (change r) rs (changed r all.0) all.1
    go false rest = (all.0, rest)

without_used : (id : Text) (rows : List Row) → AllUsed rows → AllUsed (without id rows)
without_used id rows all = at_used id (λ _. []) [] rows (λ r is. tt) tt all

values_used : (id : Text) (how : Reading) (values : List Text) (rows : List Row) → AllUsed rows
    → AllUsed (with_values id how CommandLine values rows)
values_used id how values rows all =
    at_used id (more_values CommandLine values) _ rows
    (λ r is. (ap (λ (s : Option ValueSource). Some (stronger s CommandLine)) is, tt)) (refl, tt) all

count_used : (id : Text) (how : Reading) (n : ℕ) (rows : List Row) → AllUsed rows
    → AllUsed (with_count id how CommandLine n rows)
count_used id how n rows all =
    at_used id (new_count CommandLine n) _ rows
    (λ r is. (ap (λ (s : Option ValueSource). Some (stronger s CommandLine)) is, tt)) (refl, tt) all

counted_used : (id : Text) (how : Reading) (values : List Text) (rows : List Row) → AllUsed rows
    → AllUsed (counted id how values rows)
counted_used id how [] rows all =
    count_used id how (min (count_of id rows + 1) 255) (without id rows) (without_used id rows all)
counted_used id how (v ∷ vs) rows all = values_used id how (v ∷ vs) (without id rows) (without_used id rows all)

as_used : (action : ArgAction) (id : Text) (how : Reading) (values : List Text) (rows : List Row) → AllUsed rows
    → AllUsed (used_as action id how values rows)
as_used Set id how values rows all = values_used id how values (without id rows) (without_used id rows all)
as_used SetTrue id how values rows all = values_used id how values (without id rows) (without_used id rows all)
as_used SetFalse id how values rows all = values_used id how values (without id rows) (without_used id rows all)
as_used Append id how values rows all = values_used id how values rows all
as_used Count id how values rows all = counted_used id how values rows all
as_used Help id how values rows all = all
as_used HelpShort id how values rows all = all
as_used HelpLong id how values rows all = all
as_used Version id how values rows all = all

use_used : (a : Rule) (values : List Text) (rows : List Row) → AllUsed rows → AllUsed (used a values rows)
use_used a values rows all = as_used (action_of a) a.id (reading_by a) (values_or_missing a values) rows all

abbrev Keeps : Held → Type 0
Keeps h = AllUsed h.rows

by_id_used : (o : Option Rule) (values : List Text) (rows : List Row) → AllUsed rows
    → AllUsed (used_by_id o values rows)
by_id_used None values rows all = all
by_id_used (Some a) values rows all = use_used a values rows all

rows_settled : (p : Option (Text × List Text)) (rows : List Row) → AllUsed rows → AllUsed (settled_rows rules p rows)
rows_settled None rows all = all
rows_settled (Some p) rows all = by_id_used (arg_by_id rules p.0) p.1 rows all

is_settled : (h : Held) → Keeps h → Keeps (settled rules h)
is_settled h all = rows_settled h.pending h.rows all

is_reacted : (a : Rule) (values : List Text) (h : Held) → Keeps h → Keeps (reacted rules a values h)
is_reacted a values h all = use_used a values (settled rules h).rows (is_settled h all)

option_keeps : (a : Rule) (v : Option Text) (h : Held) → Keeps h → Keeps (option_met rules a v h).0
option_keeps a (Some v) h all = is_reacted a (v ∷ []) h all
option_keeps a None h all = is_settled h all

flag_keeps : (a : Rule) (v : Option Text) (h : Held) → Keeps h → Keeps (flag_met rules a v h).0
flag_keeps a (Some v) h all = all
flag_keeps a None h all = is_reacted a [] h all

long_keeps : (o : Option Rule) (v : Option Text) (h : Held) → Keeps h → Keeps (long_met rules o v h).0
long_keeps None v h all = all
long_keeps (Some a) v h all = go (takes_values a)
  where
    go : (b : Bool) → Keeps (cond b (option_met rules a v h) (flag_met rules a v h)).0
    go true = option_keeps a v h all
    go false = flag_keeps a v h all

short_keeps : (o : Option Rule) (rest : Text) (h : Held) (others : Held → Held × Outcome) → Keeps h
    → ((k : Held) → Keeps k → Keeps (others k).0)
    → Keeps (short_met rules o rest h others).0
short_keeps None rest h others all go_on = all
short_keeps (Some a) rest h others all go_on = go (takes_values a)
  where
    go : (b : Bool) → Keeps (cond b (option_met rules a (attached_value rest) h) (others (reacted rules a [] h))).0
    go true = option_keeps a (attached_value rest) h all
    go false = go_on (reacted rules a [] h) (is_reacted a [] h all)

step_keeps : (x : Option ℕ) (flags : Text) (skip : ℕ) (so_far : Outcome) (h : Held)
    (others : Text → ℕ → Outcome → Held → Held × Outcome)
    → Keeps h → ((rest : Text) (n : ℕ) (o : Outcome) (k : Held) → Keeps k → Keeps (others rest n o k).0)
    → Keeps (bundle_step rules x flags skip so_far h others).0
step_keeps None flags skip so_far h others all go_on = all
step_keeps (Some x) flags zero so_far h others all go_on =
    let rest : Text = drop (length (encode_utf8 x)) flags in
    short_keeps (arg_by_short rules x) rest h (others rest 0 done) all (λ k held. go_on rest 0 done k held)
step_keeps (Some x) flags (suc skip) so_far h others all go_on =
    go_on (drop (length (encode_utf8 x)) flags) skip so_far h all

bundle_keeps : (k : ℕ) (flags : Text) (skip : ℕ) (so_far : Outcome) (h : Held) → Keeps h
    → Keeps (bundle_met rules k flags skip so_far h).0
unfolding bundle_met
bundle_keeps zero flags skip so_far h all = all
bundle_keeps (suc k) flags skip so_far h all =
    step_keeps (slice_get (chars flags) 0) flags skip so_far h (bundle_met rules k) all
    (λ rest n o held keeps. bundle_keeps k rest n o held keeps)

option_word_keeps : (o : Option Rule) (id word : Text) (h : Held) → Keeps h → Keeps (option_word o id word h).0
option_word_keeps None id word h all = all
option_word_keeps (Some a) id word h all = all

plain_keeps : (waiting : Waiting) (word : Text) (h : Held) → Keeps h → Keeps (plain_word rules waiting word h).0
plain_keeps idle word h all = all
plain_keeps (option id) word h all = option_word_keeps (arg_by_id rules id) id word h all
plain_keeps positional word h all = all

flag_word_keeps : (waiting : Waiting) (word : Text) (h : Held) (o : Outcome) → Keeps h
    → Keeps (after_flag rules waiting word h o).0
flag_word_keeps waiting word h done all = all
flag_word_keeps waiting word h (waits id) all = all
flag_word_keeps waiting word h plain all = plain_keeps waiting word h all
flag_word_keeps waiting word h refused all = plain_keeps waiting word h all

long_word_keeps : (waiting : Waiting) (word name : Text) (v : Option Text) (h : Held) → Keeps h
    → Keeps (long_word rules waiting word name v h).0
long_word_keeps waiting word name v h all =
    flag_word_keeps waiting word _ _ (long_keeps (arg_by_long rules name) v h all)

short_word_keeps : (waiting : Waiting) (word : Text) (flags : Option Text) (h : Held) → Keeps h
    → Keeps (short_or_plain rules waiting word flags h).0
short_word_keeps waiting word None h all = plain_keeps waiting word h all
short_word_keeps waiting word (Some flags) h all =
    flag_word_keeps waiting word _ _ (bundle_keeps (length flags) flags h.skip plain (record h { skip = 0 }) all)

other_word_keeps : (waiting : Waiting) (word : Text) (p : Option (Text × Option Text)) (h : Held) → Keeps h
    → Keeps (long_or_other rules waiting word p h).0
other_word_keeps waiting word (Some p) h all = long_word_keeps waiting word p.0 p.1 h all
other_word_keeps waiting word None h all = short_word_keeps waiting word (short_of word) h all

subcommand_keeps : (name : Option Text) (waiting : Waiting) (position : ℕ) (word : Text) (h : Held) → Keeps h
    → Keeps (subcommand_or_other rules name waiting position word h).0
subcommand_keeps (Some name) waiting position word h all = all
subcommand_keeps None waiting position word h all = go (bytes_eq word (45 ∷ 45 ∷ []))
  where
    go : (b : Bool) → Keeps (cond b (h, trailing position) (long_or_other rules waiting word (long_of word) h)).0
    go true = all
    go false = other_word_keeps waiting word (long_of word) h all

word_keeps : (names : Names) (is_trailing : Bool) (waiting : Waiting) (position : ℕ) (word : Text) (h : Held) → Keeps h
    → Keeps (word_met rules names is_trailing waiting position word h).0
word_keeps names true waiting position word h all = all
word_keeps names false waiting position word h all =
    subcommand_keeps (subcommand_met names waiting word) waiting position word h all

positional_keeps : (a : Rule) (word : Text) (h : Held) → Keeps h → Keeps (positional_held rules a word h)
positional_keeps a word h all = go (is_pending a h.pending && takes_several a)
  where
    go : (b : Bool) → Keeps (cond b h (settled rules h))
    go true = all
    go false = is_settled h all

to_positional_keeps : (o : Option Rule) (word : Text) (w : Walk) (h : Held) → Keeps h
    → Keeps (to_positional rules o word w h).held
to_positional_keeps None word w h all = all
to_positional_keeps (Some a) word w h all = positional_keeps a word h all

after_step_keeps : (word : Text) (w : Walk) (h : Held) (step : Step) → Keeps h
    → Keeps (after_step rules word w h step).held
after_step_keeps word w h (next waiting) all = all
after_step_keeps word w h (trailing position) all = all
after_step_keeps word w h (subcommand name) all = all
after_step_keeps word w h value all = to_positional_keeps (arg_by_index rules w.position) word w h all

walked_from_keeps : (names : Names) (stopped : Option (Text × List Text)) (w : Walk) (word : Text) → Keeps w.held
    → Keeps (walked_from rules names stopped w word).held
walked_from_keeps names (Some p) w word all = all
walked_from_keeps names None w word all =
    after_step_keeps word w _ _ (word_keeps names w.is_trailing w.waiting w.position word w.held all)

walked_keeps : (names : Names) (w : Walk) (word : Text) → Keeps w.held → Keeps (walked rules names w word).held
unfolding walked
walked_keeps names w word all = walked_from_keeps names w.stopped w word all

fold_keeps : (names : Names) (w : Walk) (words : List Text) → Keeps w.held
    → Keeps (fold (walked rules names) w words).held
fold_keeps names w [] all = all
fold_keeps names w (word ∷ words) all =
    fold_keeps names (walked rules names w word) words (walked_keeps names w word all)

-- ---- the row of `--max-steps` is of its use, or has its default

abbrev own_id : Text
own_id = codes "max-steps"

abbrev usual_row : Row
usual_row = record {
  id = own_id;
  values = codes "1000000" ∷ [];
  count = None;
  source = Some DefaultValue;
  reading = reading_by max_steps_rule;
}

abbrev IsOwn : Row → Type 0
IsOwn r = bytes_eq r.id own_id ≡ true → (r.source ≡ Some CommandLine) ⊎ (r ≡ usual_row)

abbrev AllOwn : List Row → Type 0
AllOwn [] = ⊤
AllOwn (r ∷ rs) = IsOwn r × AllOwn rs

used_own : (rows : List Row) → AllUsed rows → AllOwn rows
used_own [] all = tt
used_own (r ∷ rs) all = (λ e. inl all.0, used_own rs all.1)

-- a row comes to the end where there is none of its id
at_end : (id : Text) (change : Row → List Row) (missing rows : List Row) → has_row id rows ≡ false → AllOwn missing
    → AllOwn rows → AllOwn (at_row id change missing rows)
at_end id change missing [] none new all = new
at_end id change missing (r ∷ rs) none new all =
    go (bytes_eq r.id id) none (λ rest. at_end id change missing rs rest new all.1)
  where
    go : (b : Bool) → (b || has_row id rs) ≡ false → (has_row id rs ≡ false → AllOwn (at_row id change missing rs))
        → AllOwn (cond b (change r ++ rs) (r ∷ at_row id change missing rs))
    go true e rest = cc
    go false e rest = (all.0, rest e)

-- the row that the defaults of an argument make
abbrev OwnDefault : Text → Reading → List Text → Type 0
OwnDefault id how [] = ⊤
OwnDefault id how (v ∷ vs) =
    IsOwn (record { id = id; values = v ∷ vs; count = None; source = Some DefaultValue; reading = how })

abbrev OwnDefaults : List Rule → Type 0
OwnDefaults [] = ⊤
OwnDefaults (a ∷ more) = OwnDefault a.id (reading_by a) a.defaults × OwnDefaults more

rows_own : (id : Text) (how : Reading) (values : List Text) (rows : List Row)
    → has_row id rows ≡ false → OwnDefault id how values → AllOwn rows
    → AllOwn (default_rows id how values rows)
rows_own id how [] rows none own all = all
rows_own id how (v ∷ vs) rows none own all = at_end id (more_values DefaultValue (v ∷ vs)) _ rows none (own, tt) all

default_own : (a : Rule) (rows : List Row) → OwnDefault a.id (reading_by a) a.defaults → AllOwn rows
    → AllOwn (with_default rows a)
default_own a rows own all = go (has_row a.id rows) refl
  where
    go : (b : Bool) → has_row a.id rows ≡ b → AllOwn (cond b rows (default_rows a.id (reading_by a) a.defaults rows))
    go true e = all
    go false e = rows_own a.id (reading_by a) a.defaults rows e own all

all_own : (more : List Rule) (rows : List Row) → OwnDefaults more → AllOwn rows → AllOwn (fold with_default rows more)
all_own [] rows own all = all
all_own (a ∷ more) rows own all = all_own more (with_default rows a) own.1 (default_own a rows own.0 all)

usual_text : (rows : List Row) → AllOwn rows
    → is_given own_id rows ≡ false → (one_of own_id rows ≡ None) ⊎ (one_of own_id rows ≡ Some (codes "1000000"))
usual_text [] all none = inl refl
usual_text (r ∷ rs) all none = go (bytes_eq r.id own_id) refl none (λ rest. usual_text rs all.1 rest)
  where
    first : (r.source ≡ Some CommandLine) ⊎ (r ≡ usual_row) → explicit_source r.source ≡ false
        → (row_text r ≡ None) ⊎ (row_text r ≡ Some (codes "1000000"))
    first (inl is) e = let explicit = ap explicit_source is in cc
    first (inr is) e = inr (ap row_text is)

    go : (b : Bool) → bytes_eq r.id own_id ≡ b
        → option_map_or (λ (it : Row). explicit_source it.source)
        (cond b (Some r) (find (λ (it : Row). bytes_eq it.id own_id) rs)) false ≡ false
        → (is_given own_id rs ≡ false → (one_of own_id rs ≡ None) ⊎ (one_of own_id rs ≡ Some (codes "1000000")))
        → (option_and_then row_text (cond b (Some r) (find (λ (it : Row). bytes_eq it.id own_id) rs)) ≡ None)
        ⊎ (option_and_then row_text (cond b (Some r) (find (λ (it : Row). bytes_eq it.id own_id) rs))
        ≡ Some (codes "1000000"))
    go true is e rest = first (all.0 is) e
    go false is e rest = rest e

own_defaults : OwnDefaults rules
own_defaults = (
  λ e. cc,
  (
    λ e. cc,
    (
      λ e. inr refl,
      (
        λ e. cc,
        (
          λ e. cc,
          (
            λ e. cc,
            (
              λ e. cc,
              (λ e. cc, (λ e. cc, (λ e. cc, (tt, (tt, (tt, (λ e. cc, (λ e. cc, (λ e. cc, (tt, (tt, (tt, tt)))))))))))),
            ),
          ),
        ),
      ),
    ),
  ),
)

-- Where `--max-steps` isn't given, the greatest budget is 1,000,000.
pub usual_most : (words : List Text) → is_given own_id (given words) ≡ false → most_steps_of (given words) ≡ 1000000
usual_most words none =
    let names : Names = names_of (built line) in
    let held : Held = (walk rules names nothing_held (argument_words line words)).held in
    let uses = is_settled held (fold_keeps names (walk_from nothing_held) (argument_words line words) tt) in
    let own : AllOwn (given words) =
    all_own rules (settled rules held).rows own_defaults (used_own (settled rules held).rows uses) in
    go (usual_text (given words) own none)
  where
    go : (one_of own_id (given words) ≡ None) ⊎ (one_of own_id (given words) ≡ Some (codes "1000000"))
        → most_steps_of (given words) ≡ 1000000
    go (inl is) = ap (number_in 1000000 4000000000 1000000) is
    go (inr is) = ap (number_in 1000000 4000000000 1000000) is
