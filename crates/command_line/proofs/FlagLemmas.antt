-- How the walk over the words treats a flag.
use Rattle.std.proofs.Common.{◌≡◌, ◌⊎◌, ◌∙◌, ◌++◌, ap, refl, sym, subst, inl, inr, Bool, true, false, ℕ, zero, suc, List, [], ◌∷◌, Option, Some, None, codes, is_some, slice_get, cond}
use Rattle.std.specs.Prelude.{⊤, ◌||◌, ◌&&◌, option_and_then, ◌==◌, not, drop, encode_utf8, find, fold, length, take}
use Rattle.std.specs.Option.{option_map_or}
use Rattle.std.specs.List.{filter, list_any}
use Rattle.std.specs.Str.{bytes_eq, chars}
use Rattle.std.proofs.lemmas.Slice.Eq.{bytes_eq-Decides}
use Rattle.std.proofs.lemmas.List.Elements.{filter-append}
use Rattle.command_line.specs.Line.{file_name, files_option, flag_of, given, line, max_steps_option, max_terms_option, max_tokens_option, steps_option}
use Rattle.clap.specs.declared.builder.value_parser.Reading.{Reading}
use Rattle.clap.specs.declared.builder.value_parser.Reading.TheVariants.{AsWritten}
use Rattle.clap.specs.declared.parser.matches.ValueSource.{ValueSource}
use Rattle.clap.specs.declared.parser.matches.ValueSource.TheVariants.{CommandLine, DefaultValue}
use Rattle.clap.specs.Words.{built}
use Rattle.clap.specs.Simple.{argument_words, filled, help_rule, names_of, version_rule, with_index}
use Rattle.clap.specs.Takes.{is_given}
use Rattle.clap.specs.Facts.{explicit_source}
use Rattle.clap.specs.Lexer.{long_of, short_of}
use Rattle.clap.specs.Walk.{has_row, one_of, row_text, has_long, has_short, is_multiple, reading_by, values_or_missing, Held, Names, Outcome, Step, Waiting, Walk, after_flag, after_step, arg_by_id, arg_by_index, arg_by_long, arg_by_short, attached_value, bundle_met, bundle_step, done, flag_met, idle, is_pending, long_met, long_or_other, long_word, next, nothing_held, option, option_met, option_word, plain, plain_word, positional, positional_held, pushed, reacted, refused, settled, settled_rows, short_met, short_or_plain, started, subcommand, subcommand_met, subcommand_or_other, takes_several, takes_values, to_positional, trailing, used_by_id, value, waits, walk, walk_from, walked, walked_from, with_default, default_rows, word_met, Row, Rule, Text, at_row, more_values, used, with_values, without}

abbrev pub rules : List Rule
rules = (built line).top.rules

-- a flag of this name, which may have a short one, as it is built
abbrev flag_rule : Text → Option ℕ → Rule
flag_rule name short = with_index 1 (filled (record (flag_of name) { short = short }))

abbrev files_rule : Text → Rule
files_rule name = with_index 1 (filled (files_option name))

abbrev steps_rule : Rule
steps_rule = with_index 1 (filled steps_option)

abbrev pub max_steps_rule : Rule
max_steps_rule = with_index 1 (filled max_steps_option)

abbrev max_terms_rule : Rule
max_terms_rule = with_index 1 (filled max_terms_option)

abbrev max_tokens_rule : Rule
max_tokens_rule = with_index 1 (filled max_tokens_option)

abbrev file_rule : Rule
file_rule = with_index 1 (filled file_name)

-- the names of the arguments that are no flags
abbrev option_names : List Text
option_names = codes "steps" ∷ codes "max-steps" ∷ codes "max-terms" ∷ codes "max-tokens" ∷ codes "module"
    ∷ codes "tree" ∷ codes "write" ∷ codes "file" ∷ codes "help" ∷ codes "version" ∷ []

abbrev is_option : Text → Bool
is_option name = list_any (λ id. bytes_eq id name) option_names

module _ (flag : Text) where
  -- ---- the rows of the flag

  itself : bytes_eq flag flag ≡ true
  itself = (bytes_eq-Decides flag flag).1 refl

  abbrev is_own : Row → Bool
  is_own r = bytes_eq r.id flag

  abbrev own : List Row → List Row
  own rows = filter is_own rows

  abbrev given_row : Row
  given_row =
      record { id = flag; values = codes "true" ∷ []; count = None; source = Some CommandLine; reading = AsWritten }

  abbrev default_row : Row
  default_row =
      record { id = flag; values = codes "false" ∷ []; count = None; source = Some DefaultValue; reading = AsWritten }

  -- a row of the flag is its own row
  own_one : (r : Row) → r.id ≡ flag → own (r ∷ []) ≡ r ∷ []
  own_one r is = ap (λ (b : Bool). cond b (r ∷ []) []) (ap (λ (id : Text). bytes_eq id flag) is ∙ itself)

  -- while the words are walked over, the flag has no row, or the one that a use gives
  abbrev Good : List Row → Type 0
  Good rows = (own rows ≡ []) ⊎ (own rows ≡ given_row ∷ [])

  -- a change of another argument's row
  at_other : (id : Text) (change : Row → List Row) (missing rows : List Row) → bytes_eq id flag ≡ false
      → ((r : Row) → bytes_eq r.id flag ≡ false → own (change r) ≡ []) → own missing ≡ []
      → own (at_row id change missing rows) ≡ own rows
  at_other id change missing [] other changed gone = gone
  at_other id change missing (r ∷ rs) other changed gone =
      go (bytes_eq r.id id) refl (at_other id change missing rs other changed gone)
    where
      go : (b : Bool) → bytes_eq r.id id ≡ b → own (at_row id change missing rs) ≡ own rs
          → own (cond b (change r ++ rs) (r ∷ at_row id change missing rs)) ≡ own (r ∷ rs)
      go true e rest =
          let same : r.id ≡ id = (bytes_eq-Decides r.id id).0 e in
          let no : bytes_eq r.id flag ≡ false = rw same other in
          filter-append is_own (change r) rs ∙ ap (λ (l : List Row). l ++ own rs) (changed r no)
          ∙ sym (ap (λ (b : Bool). cond b (r ∷ own rs) (own rs)) no)
      go false e rest = ap (λ (l : List Row). cond (is_own r) (r ∷ l) l) rest

  -- a change of the flag's row, if it has none
  at_none : (change : Row → List Row) (missing rows : List Row)
      → own rows ≡ [] → at_row flag change missing rows ≡ rows ++ missing
  at_none change missing [] none = refl
  at_none change missing (r ∷ rs) none = go (is_own r) none (λ rest. at_none change missing rs rest)
    where
      go : (b : Bool)
          → cond b (r ∷ own rs) (own rs) ≡ [] → (own rs ≡ [] → at_row flag change missing rs ≡ rs ++ missing)
          → cond b (change r ++ rs) (r ∷ at_row flag change missing rs) ≡ r ∷ (rs ++ missing)
      go true e rec = cc
      go false e rec = ap (λ (l : List Row). r ∷ l) (rec e)

  -- removing the flag's only row
  without_one : (s : Row) (rows : List Row) → own rows ≡ s ∷ [] → own (without flag rows) ≡ []
  without_one s [] one = cc
  without_one s (r ∷ rs) one = go (is_own r) refl one (λ rest. without_one s rs rest)
    where
      go : (b : Bool)
          → is_own r ≡ b → cond b (r ∷ own rs) (own rs) ≡ s ∷ [] → (own rs ≡ s ∷ [] → own (without flag rs) ≡ [])
          → own (cond b ([] ++ rs) (r ∷ without flag rs)) ≡ []
      go true is e rec = cc
      go false is e rec = rw is (rec e)

  without_good : (rows : List Row) → Good rows → own (without flag rows) ≡ []
  without_good rows (inl none) = ap own (at_none (λ _. []) [] rows none) ∙ filter-append is_own rows []
      ∙ ap (λ (l : List Row). l ++ []) none
  without_good rows (inr one) = without_one given_row rows one

  -- a use of the flag
  flag_used : (rows : List Row) → Good rows
      → Good (with_values flag AsWritten CommandLine (codes "true" ∷ []) (without flag rows))
  flag_used rows good =
      let none = without_good rows good in
      inr (ap own (at_none (more_values CommandLine (codes "true" ∷ [])) (given_row ∷ []) (without flag rows) none)
      ∙ filter-append is_own (without flag rows) (given_row ∷ []) ∙ (λ i. none i ++ own_one given_row refl i))

  same_own : (old new : List Row) → own new ≡ own old → Good old → Good new
  same_own old new same (inl none) = inl (same ∙ none)
  same_own old new same (inr one) = inr (same ∙ one)

  -- values of another argument
  values_other : (id : Text) (how : Reading) (s : ValueSource) (values : List Text) (rows : List Row)
      → bytes_eq id flag ≡ false
      → own (with_values id how s values rows) ≡ own rows
  values_other id how s values rows other =
      let row : Row = record { id = id; values = values; count = None; source = Some s; reading = how } in
      at_other id (more_values s values) (row ∷ []) rows other
      (λ r no. ap (λ (b : Bool). cond b (more_values s values r) []) no) (ap (λ (b : Bool). cond b (row ∷ []) []) other)

  without_other : (id : Text) (rows : List Row) → bytes_eq id flag ≡ false → own (without id rows) ≡ own rows
  without_other id rows other = at_other id (λ _. []) [] rows other (λ r no. refl) refl

  -- a use of another argument
  other_used : (id : Text) (how : Reading) (values : List Text) (rows : List Row) → bytes_eq id flag ≡ false → Good rows
      → Good (with_values id how CommandLine values (without id rows))
  other_used id how values rows other good =
      same_own rows (with_values id how CommandLine values (without id rows))
      (values_other id how CommandLine values (without id rows) other ∙ without_other id rows other) good

  -- ---- the arguments of the command line

  -- the flag takes no value and has no position among the words; and a use keeps the rows valid
  record Fits (a : Rule) : Type 0 where
    takes : takes_values a ≡ true → bytes_eq a.id flag ≡ false
    placed : is_some a.index ≡ true → bytes_eq a.id flag ≡ false
    plain_use : (rows : List Row) → Good rows → Good (used a [] rows)
    other_use : bytes_eq a.id flag ≡ false → (values : List Text) (rows : List Row) → Good rows
        → Good (used a values rows)

  abbrev AllFit : List Rule → Type 0
  AllFit [] = ⊤
  AllFit (a ∷ more) = Fits a × AllFit more

  -- another argument that is set by its uses
  other_fits : (a : Rule) → bytes_eq a.id flag ≡ false
      → ((values : List Text) (rows : List Row) → used a values rows
      ≡ with_values a.id (reading_by a) CommandLine (values_or_missing a values) (without a.id rows)) → Fits a
  other_fits a other is = record {
    takes = λ e. other;
    placed = λ e. other;
    plain_use = λ rows good.
        subst Good (sym (is [] rows)) (other_used a.id (reading_by a) (values_or_missing a []) rows other good);
    other_use = λ e values rows good.
        subst Good (sym (is values rows)) (other_used a.id (reading_by a) (values_or_missing a values) rows other good);
  }

  -- another argument to which uses add
  more_fits : (a : Rule) → bytes_eq a.id flag ≡ false
      → ((values : List Text) (rows : List Row)
      → used a values rows ≡ with_values a.id (reading_by a) CommandLine (values_or_missing a values) rows) → Fits a
  more_fits a other is = record {
    takes = λ e. other;
    placed = λ e. other;
    plain_use = λ rows good. subst Good (sym (is [] rows))
        (same_own rows _ (values_other a.id (reading_by a) CommandLine (values_or_missing a []) rows other) good);
    other_use = λ e values rows good. subst Good (sym (is values rows))
        (same_own rows _ (values_other a.id (reading_by a) CommandLine (values_or_missing a values) rows other) good);
  }

  own_fits : (short : Option ℕ) → Fits (flag_rule flag short)
  own_fits short = record {
    takes = λ e. cc;
    placed = λ e. cc;
    plain_use = λ rows good. flag_used rows good;
    other_use = λ e values rows good. let same = itself in cc;
  }

  -- a request, which has no row
  request_fits : (a : Rule)
      → bytes_eq a.id flag ≡ false → ((values : List Text) (rows : List Row) → used a values rows ≡ rows) → Fits a
  request_fits a other is = record {
    takes = λ e. other;
    placed = λ e. other;
    plain_use = λ rows good. subst Good (sym (is [] rows)) good;
    other_use = λ e values rows good. subst Good (sym (is values rows)) good;
  }

  -- a flag of this name or another
  flag_fits : (name : Text) (short : Option ℕ) → Fits (flag_rule name short)
  flag_fits name short = go (bytes_eq name flag) refl
    where
      go : (b : Bool) → bytes_eq name flag ≡ b → Fits (flag_rule name short)
      go true same =
          subst (λ (it : Text). Fits (flag_rule it short)) (sym ((bytes_eq-Decides name flag).0 same)) (own_fits short)
      go false other = other_fits (flag_rule name short) other (λ values rows. refl)

  -- none of these is the flag
  abbrev AreOthers : List Text → Type 0
  AreOthers [] = ⊤
  AreOthers (id ∷ ids) = (bytes_eq id flag ≡ false) × AreOthers ids

  each_other : (ids : List Text) → list_any (λ it. bytes_eq it flag) ids ≡ false → AreOthers ids
  each_other [] none = tt
  each_other (id ∷ ids) none = go (bytes_eq id flag) refl none (λ rest. each_other ids rest)
    where
      go : (b : Bool) → bytes_eq id flag ≡ b → (b || list_any (λ it. bytes_eq it flag) ids) ≡ false
          → (list_any (λ it. bytes_eq it flag) ids ≡ false → AreOthers ids) → AreOthers (id ∷ ids)
      go true same e rec = cc
      go false other e rec = (other, rec e)

  all_fit : is_option flag ≡ false → AllFit rules
  all_fit free =
      let is = each_other option_names free in (
        flag_fits (codes "library") None,
        (
          other_fits steps_rule is.0 (λ values rows. refl),
          (
            other_fits max_steps_rule is.1.0 (λ values rows. refl),
            (
              other_fits max_terms_rule is.1.1.0 (λ values rows. refl),
              (
                other_fits max_tokens_rule is.1.1.1.0 (λ values rows. refl),
                (
                  flag_fits (codes "stop") None,
                  (
                    flag_fits (codes "lines") None,
                    (
                      flag_fits (codes "explain") None,
                      (
                        flag_fits (codes "profile") None,
                        (
                          flag_fits (codes "interactive") (Some 105),
                          (
                            more_fits (files_rule (codes "module")) is.1.1.1.1.0 (λ values rows. refl),
                            (
                              more_fits (files_rule (codes "tree")) is.1.1.1.1.1.0 (λ values rows. refl),
                              (
                                more_fits (files_rule (codes "write")) is.1.1.1.1.1.1.0 (λ values rows. refl),
                                (
                                  flag_fits (codes "pretty") None,
                                  (
                                    flag_fits (codes "explain-json") None,
                                    (
                                      flag_fits (codes "check") None,
                                      (
                                        other_fits file_rule is.1.1.1.1.1.1.1.0 (λ values rows. refl),
                                        (
                                          request_fits (with_index 2 (filled help_rule)) is.1.1.1.1.1.1.1.1.0
                                              (λ values rows. refl),
                                          (
                                            request_fits (with_index 2 (filled version_rule)) is.1.1.1.1.1.1.1.1.1.0
                                                (λ values rows. refl),
                                            tt,
                                          ),
                                        ),
                                      ),
                                    ),
                                  ),
                                ),
                              ),
                            ),
                          ),
                        ),
                      ),
                    ),
                  ),
                ),
              ),
            ),
          ),
        ),
      )

  -- ---- the rows at the end

  -- the flag has one row: that of its use, or else that of its default
  abbrev IsSettled : List Row → Type 0
  IsSettled rows = (own rows ≡ given_row ∷ []) ⊎ (own rows ≡ default_row ∷ [])

  same_settled : (old new : List Row) → own new ≡ own old → IsSettled old → IsSettled new
  same_settled old new same (inl given) = inl (same ∙ given)
  same_settled old new same (inr default) = inr (same ∙ default)

  has_own : (rows : List Row) → own rows ≡ [] → has_row flag rows ≡ false
  has_own [] none = refl
  has_own (r ∷ rs) none = go (is_own r) none (λ rest. has_own rs rest)
    where
      go : (b : Bool)
          → cond b (r ∷ own rs) (own rs) ≡ [] → (own rs ≡ [] → has_row flag rs ≡ false) → (b || has_row flag rs) ≡ false
      go true e rec = cc
      go false e rec = rec e

  has_no_own : (rows : List Row) → has_row flag rows ≡ false → own rows ≡ []
  has_no_own [] none = refl
  has_no_own (r ∷ rs) none = go (is_own r) none (λ rest. has_no_own rs rest)
    where
      go : (b : Bool)
          → (b || has_row flag rs) ≡ false → (has_row flag rs ≡ false → own rs ≡ []) → cond b (r ∷ own rs) (own rs) ≡ []
      go true e rec = cc
      go false e rec = rec e

  other_given : (a : Rule) (rows : List Row) (values : List Text)
      → bytes_eq a.id flag ≡ false → own (default_rows a.id (reading_by a) values rows) ≡ own rows
  other_given a rows [] other = refl
  other_given a rows (v ∷ vs) other = values_other a.id (reading_by a) DefaultValue (v ∷ vs) rows other

  -- the default of another argument
  other_default : (a : Rule) (rows : List Row) → bytes_eq a.id flag ≡ false → own (with_default rows a) ≡ own rows
  other_default a rows other = go (has_row a.id rows)
    where
      go : (b : Bool) → own (cond b rows (default_rows a.id (reading_by a) a.defaults rows)) ≡ own rows
      go true = refl
      go false = other_given a rows a.defaults other

  good_default : (a : Rule) (rows : List Row) → bytes_eq a.id flag ≡ false → Good rows → Good (with_default rows a)
  good_default a rows other good = same_own rows (with_default rows a) (other_default a rows other) good

  settled_default : (a : Rule) (rows : List Row) → bytes_eq a.id flag ≡ false → IsSettled rows
      → IsSettled (with_default rows a)
  settled_default a rows other is = same_settled rows (with_default rows a) (other_default a rows other) is

  own_default : (short : Option ℕ) (rows : List Row) → Good rows → IsSettled (with_default rows (flag_rule flag short))
  own_default short rows (inl none) =
      let no : has_row flag rows ≡ false = has_own rows none in
      let added : own (with_values flag AsWritten DefaultValue (codes "false" ∷ []) rows) ≡ default_row ∷ [] =
      ap own (at_none (more_values DefaultValue (codes "false" ∷ [])) (default_row ∷ []) rows none)
      ∙ filter-append is_own rows (default_row ∷ []) ∙ (λ i. none i ++ own_one default_row refl i) in
      inr (ap (λ (b : Bool). own (cond b rows (with_values flag AsWritten DefaultValue (codes "false" ∷ []) rows))) no
      ∙ added)
  own_default short rows (inr one) = go (has_row flag rows) refl
    where
      go : (b : Bool) → has_row flag rows
          ≡ b → IsSettled (cond b rows (with_values flag AsWritten DefaultValue (codes "false" ∷ []) rows))
      go true e = inl one
      go false e =
          let none : own rows ≡ [] = has_no_own rows e in
          cc

  -- the arguments, among which the flag comes once
  abbrev AllOthers : List Rule → Type 0
  AllOthers [] = ⊤
  AllOthers (a ∷ more) = (bytes_eq a.id flag ≡ false) × AllOthers more

  abbrev HasFlag : List Rule → Type 0
  HasFlag [] = ⊥
  HasFlag (a ∷ more) = (((short : Option ℕ) × (a ≡ flag_rule flag short)) × AllOthers more)
      ⊎ ((bytes_eq a.id flag ≡ false) × HasFlag more)

  all_others : (more : List Rule) → list_any (λ (a : Rule). bytes_eq a.id flag) more ≡ false → AllOthers more
  all_others [] none = tt
  all_others (a ∷ more) none = go (bytes_eq a.id flag) refl none (λ rest. all_others more rest)
    where
      go : (b : Bool) → bytes_eq a.id flag ≡ b
          → (b || list_any (λ (it : Rule). bytes_eq it.id flag) more) ≡ false
          → (list_any (λ (it : Rule). bytes_eq it.id flag) more ≡ false → AllOthers more) → AllOthers (a ∷ more)
      go true same e rec = cc
      go false other e rec = (other, rec e)

  has_at : (n : ℕ) (short : Option ℕ) (more : List Rule) → slice_get more n ≡ Some (flag_rule flag short)
      → list_any (λ (a : Rule). bytes_eq a.id flag) (take n more) ≡ false
      → list_any (λ (a : Rule). bytes_eq a.id flag) (drop (suc n) more) ≡ false → HasFlag more
  has_at n short [] is before after = cc
  has_at zero short (a ∷ more) is before after = inl ((short, some_is is), all_others more after)
    where
      some_is : Some a ≡ Some (flag_rule flag short) → a ≡ flag_rule flag short
      some_is e = cc
  has_at (suc n) short (a ∷ more) is before after =
      go (bytes_eq a.id flag) refl before (λ rest. has_at n short more is rest after)
    where
      go : (b : Bool) → bytes_eq a.id flag ≡ b
          → (b || list_any (λ (it : Rule). bytes_eq it.id flag) (take n more)) ≡ false
          → (list_any (λ (it : Rule). bytes_eq it.id flag) (take n more) ≡ false → HasFlag more) → HasFlag (a ∷ more)
      go true same e rec = cc
      go false other e rec = inr (other, rec e)

  stays_settled : (more : List Rule) (rows : List Row) → AllOthers more → IsSettled rows
      → IsSettled (fold with_default rows more)
  stays_settled [] rows others is = is
  stays_settled (a ∷ more) rows others is =
      stays_settled more (with_default rows a) others.1 (settled_default a rows others.0 is)

  settles : (more : List Rule) (rows : List Row) → HasFlag more → Good rows → IsSettled (fold with_default rows more)
  settles [] rows has good = absurd has
  settles (a ∷ more) rows (inl own) good =
      stays_settled more (with_default rows a) own.1
      (subst (λ (it : Rule). IsSettled (with_default rows it)) (sym own.0.1) (own_default own.0.0 rows good))
  settles (a ∷ more) rows (inr other) good =
      settles more (with_default rows a) other.1 (good_default a rows other.0 good)

  first_own : (rows : List Row) → find is_own rows ≡ slice_get (own rows) 0
  first_own [] = refl
  first_own (r ∷ rs) = go (is_own r) (first_own rs)
    where
      go : (b : Bool) → find is_own rs ≡ slice_get (own rs) 0
          → cond b (Some r) (find is_own rs) ≡ slice_get (cond b (r ∷ own rs) (own rs)) 0
      go true rest = refl
      go false rest = rest

  -- ---- where a use of each argument keeps the flag's row

  module _ (rules_fit : AllFit rules) where
    abbrev Found : (Rule → Bool) → Option Rule → Type 0
    Found p None = ⊤
    Found p (Some a) = Fits a × (p a ≡ true)

    found : (p : Rule → Bool) (xs : List Rule) → AllFit xs → Found p (find p xs)
    found p [] fit = tt
    found p (a ∷ more) fit = go (p a) refl (found p more fit.1)
      where
        go : (b : Bool) → p a ≡ b → Found p (find p more) → Found p (cond b (Some a) (find p more))
        go true e rest = (fit.0, e)
        go false e rest = rest

    -- ---- what is held

    abbrev IsOther : Option (Text × List Text) → Type 0
    IsOther None = ⊤
    IsOther (Some p) = bytes_eq p.0 flag ≡ false

    abbrev Holds : Held → Type 0
    Holds h = Good h.rows × IsOther h.pending

    abbrev WaitsForOther : Waiting → Type 0
    WaitsForOther idle = ⊤
    WaitsForOther (option id) = bytes_eq id flag ≡ false
    WaitsForOther positional = ⊤

    abbrev ComesToOther : Outcome → Type 0
    ComesToOther done = ⊤
    ComesToOther (waits id) = bytes_eq id flag ≡ false
    ComesToOther plain = ⊤
    ComesToOther refused = ⊤

    abbrev StepsToOther : Step → Type 0
    StepsToOther (next waiting) = WaitsForOther waiting
    StepsToOther (trailing position) = ⊤
    StepsToOther (subcommand name) = ⊤
    StepsToOther value = ⊤

    abbrev Met : Held × Outcome → Type 0
    Met m = Holds m.0 × ComesToOther m.1

    abbrev Stepped : Held × Step → Type 0
    Stepped m = Holds m.0 × StepsToOther m.1

    other_by_id : (a : Rule) (id : Text)
        → bytes_eq a.id id ≡ true → bytes_eq id flag ≡ false → bytes_eq a.id flag ≡ false
    other_by_id a id same other = let is : a.id ≡ id = (bytes_eq-Decides a.id id).0 same in rw is other

    used_by_id_good : (o : Option Rule) (id : Text) → Found (λ a. bytes_eq a.id id) o → bytes_eq id flag ≡ false
        → (values : List Text) (rows : List Row) → Good rows → Good (used_by_id o values rows)
    used_by_id_good None id f other values rows good = good
    used_by_id_good (Some a) id f other values rows good = f.0.other_use (other_by_id a id f.1 other) values rows good

    settled_good : (p : Option (Text × List Text)) (rows : List Row) → IsOther p → Good rows
        → Good (settled_rows rules p rows)
    settled_good None rows other good = good
    settled_good (Some p) rows other good =
        used_by_id_good (arg_by_id rules p.0) p.0 (found (λ a. bytes_eq a.id p.0) rules rules_fit) other p.1 rows good

    settled_holds : (h : Held) → Holds h → Holds (settled rules h)
    settled_holds h holds = (settled_good h.pending h.rows holds.1 holds.0, tt)

    plain_reacted : (a : Rule) (h : Held) → Fits a → Holds h → Holds (reacted rules a [] h)
    plain_reacted a h fits holds = (fits.plain_use (settled rules h).rows (settled_holds h holds).0, tt)

    other_reacted : (a : Rule) (values : List Text) (h : Held) → Fits a → bytes_eq a.id flag ≡ false → Holds h
        → Holds (reacted rules a values h)
    other_reacted a values h fits other holds =
        (fits.other_use other values (settled rules h).rows (settled_holds h holds).0, tt)

    option_met_holds : (a : Rule) (v : Option Text) (h : Held) → Fits a → takes_values a ≡ true → Holds h
        → Met (option_met rules a v h)
    option_met_holds a (Some v) h fits takes holds = (other_reacted a (v ∷ []) h fits (fits.takes takes) holds, tt)
    option_met_holds a None h fits takes holds = (((settled_holds h holds).0, fits.takes takes), fits.takes takes)

    flag_met_holds : (a : Rule) (v : Option Text) (h : Held) → Fits a → Holds h → Met (flag_met rules a v h)
    flag_met_holds a (Some v) h fits holds = (holds, tt)
    flag_met_holds a None h fits holds = (plain_reacted a h fits holds, tt)

    long_met_holds : (p : Rule → Bool) (o : Option Rule) (v : Option Text) (h : Held) → Found p o → Holds h
        → Met (long_met rules o v h)
    long_met_holds p None v h f holds = (holds, tt)
    long_met_holds p (Some a) v h f holds = go (takes_values a) refl
      where
        go : (b : Bool) → takes_values a ≡ b → Met (cond b (option_met rules a v h) (flag_met rules a v h))
        go true e = option_met_holds a v h f.0 e holds
        go false e = flag_met_holds a v h f.0 holds

    short_met_holds : (p : Rule → Bool) (o : Option Rule) (rest : Text) (h : Held)
        (then : Held → Held × Outcome) → Found p o → Holds h
        → ((k : Held) → Holds k → Met (then k)) → Met (short_met rules o rest h then)
    short_met_holds p None rest h then f holds go_on = (holds, tt)
    short_met_holds p (Some a) rest h then f holds go_on = go (takes_values a) refl
      where
        go : (b : Bool) → takes_values a
            ≡ b → Met (cond b (option_met rules a (attached_value rest) h) (then (reacted rules a [] h)))
        go true e = option_met_holds a (attached_value rest) h f.0 e holds
        go false e = go_on (reacted rules a [] h) (plain_reacted a h f.0 holds)

    bundle_step_holds : (x : Option ℕ) (flags : Text) (skip : ℕ) (so_far : Outcome) (h : Held)
        (then : Text → ℕ → Outcome → Held → Held × Outcome)
        → ComesToOther so_far → Holds h
        → ((rest : Text) (n : ℕ) (o : Outcome) (k : Held) → ComesToOther o → Holds k → Met (then rest n o k))
        → Met (bundle_step rules x flags skip so_far h then)
    bundle_step_holds None flags skip so_far h then comes holds go_on = (holds, comes)
    bundle_step_holds (Some x) flags zero so_far h then comes holds go_on =
        let rest : Text = drop (length (encode_utf8 x)) flags in
        short_met_holds _ (arg_by_short rules x) rest h (then rest 0 done)
        (found (λ a. not (is_some a.index) && has_short a x) rules rules_fit) holds
        (λ k held. go_on rest 0 done k tt held)
    bundle_step_holds (Some x) flags (suc skip) so_far h then comes holds go_on =
        go_on (drop (length (encode_utf8 x)) flags) skip so_far h comes holds

    bundle_met_holds : (k : ℕ) (flags : Text) (skip : ℕ) (so_far : Outcome) (h : Held) → ComesToOther so_far → Holds h
        → Met (bundle_met rules k flags skip so_far h)
    unfolding bundle_met
    bundle_met_holds zero flags skip so_far h comes holds = (holds, comes)
    bundle_met_holds (suc k) flags skip so_far h comes holds =
        bundle_step_holds (slice_get (chars flags) 0) flags skip so_far h (bundle_met rules k) comes holds
        (λ rest n o held comes_on holds_on. bundle_met_holds k rest n o held comes_on holds_on)

    -- ---- the walk over the words

    started_other : (id : Text) (p : Option (Text × List Text)) → bytes_eq id flag ≡ false → IsOther p
        → bytes_eq (started id p).0 flag ≡ false
    started_other id None other rest = other
    started_other id (Some p) other rest = rest

    pushed_holds : (id word : Text) (h : Held) → bytes_eq id flag ≡ false → Holds h → Holds (pushed id word h)
    pushed_holds id word h other holds = (holds.0, started_other id h.pending other holds.1)

    waits_on : (b : Bool) (id : Text) → bytes_eq id flag ≡ false → WaitsForOther (cond b (option id) idle)
    waits_on true id other = other
    waits_on false id other = tt

    option_word_holds : (o : Option Rule) (id word : Text) (h : Held) → bytes_eq id flag ≡ false → Holds h
        → Holds (option_word o id word h).0 × WaitsForOther (option_word o id word h).1
    option_word_holds None id word h other holds = (holds, other)
    option_word_holds (Some a) id word h other holds = (pushed_holds id word h other holds, waits_on _ id other)

    plain_word_steps : (waiting : Waiting) (word : Text) (h : Held) → WaitsForOther waiting → Holds h
        → Stepped (plain_word rules waiting word h)
    plain_word_steps idle word h w holds = (holds, tt)
    plain_word_steps (option id) word h w holds = option_word_holds (arg_by_id rules id) id word h w holds
    plain_word_steps positional word h w holds = (holds, tt)

    after_flag_steps : (waiting : Waiting) (word : Text) (h : Held) (o : Outcome) → WaitsForOther waiting → Holds h
        → ComesToOther o
        → Stepped (after_flag rules waiting word h o)
    after_flag_steps waiting word h done w holds comes = (holds, tt)
    after_flag_steps waiting word h (waits id) w holds comes = (holds, comes)
    after_flag_steps waiting word h plain w holds comes = plain_word_steps waiting word h w holds
    after_flag_steps waiting word h refused w holds comes = plain_word_steps waiting word h w holds

    long_word_steps : (waiting : Waiting) (word name : Text) (v : Option Text) (h : Held)
        → WaitsForOther waiting → Holds h
        → Stepped (long_word rules waiting word name v h)
    long_word_steps waiting word name v h w holds =
        let met = long_met_holds _ (arg_by_long rules name) v h
        (found (λ a. not (is_some a.index) && has_long a name) rules rules_fit) holds in
        after_flag_steps waiting word _ _ w met.0 met.1

    short_or_plain_steps : (waiting : Waiting) (word : Text) (flags : Option Text) (h : Held)
        → WaitsForOther waiting → Holds h
        → Stepped (short_or_plain rules waiting word flags h)
    short_or_plain_steps waiting word None h w holds = plain_word_steps waiting word h w holds
    short_or_plain_steps waiting word (Some flags) h w holds =
        let met = bundle_met_holds (length flags) flags h.skip plain (record h { skip = 0 }) tt holds in
        after_flag_steps waiting word _ _ w met.0 met.1

    long_or_other_steps : (waiting : Waiting) (word : Text) (p : Option (Text × Option Text)) (h : Held)
        → WaitsForOther waiting → Holds h
        → Stepped (long_or_other rules waiting word p h)
    long_or_other_steps waiting word (Some p) h w holds = long_word_steps waiting word p.0 p.1 h w holds
    long_or_other_steps waiting word None h w holds = short_or_plain_steps waiting word (short_of word) h w holds

    subcommand_or_other_steps : (name : Option Text) (waiting : Waiting) (position : ℕ) (word : Text) (h : Held)
        → WaitsForOther waiting → Holds h
        → Stepped (subcommand_or_other rules name waiting position word h)
    subcommand_or_other_steps (Some name) waiting position word h w holds = (holds, tt)
    subcommand_or_other_steps None waiting position word h w holds = go (bytes_eq word (45 ∷ 45 ∷ []))
      where
        go : (b : Bool) → Stepped (cond b (h, trailing position) (long_or_other rules waiting word (long_of word) h))
        go true = (holds, tt)
        go false = long_or_other_steps waiting word (long_of word) h w holds

    word_met_steps : (names : Names) (is_trailing : Bool) (waiting : Waiting) (position : ℕ) (word : Text) (h : Held)
        → WaitsForOther waiting → Holds h
        → Stepped (word_met rules names is_trailing waiting position word h)
    word_met_steps names true waiting position word h w holds = (holds, tt)
    word_met_steps names false waiting position word h w holds =
        subcommand_or_other_steps (subcommand_met names waiting word) waiting position word h w holds

    abbrev Walks : Walk → Type 0
    Walks w = Holds w.held × WaitsForOther w.waiting

    positional_held_holds : (a : Rule) (word : Text) (h : Held) → bytes_eq a.id flag ≡ false → Holds h
        → Holds (positional_held rules a word h)
    positional_held_holds a word h other holds =
        pushed_holds a.id word (cond (is_pending a h.pending && takes_several a) h (settled rules h)) other
        (go (is_pending a h.pending && takes_several a))
      where
        go : (b : Bool) → Holds (cond b h (settled rules h))
        go true = holds
        go false = settled_holds h holds

    waits_for_place : (b : Bool) → WaitsForOther (cond b positional idle)
    waits_for_place true = tt
    waits_for_place false = tt

    placed_other : (a : Rule) (i : ℕ) (o : Option ℕ)
        → a.index ≡ o → option_map_or (λ k. k == i) o false ≡ true → is_some a.index ≡ true
    placed_other a i None e at = cc
    placed_other a i (Some k) e at = rw e refl

    to_positional_walks : (o : Option Rule) (i : ℕ) (word : Text) (w : Walk) (h : Held)
        → Found (λ a. option_map_or (λ k. k == i) a.index false) o → Holds h → Walks w
        → Walks (to_positional rules o word w h)
    to_positional_walks None i word w h f holds walks = (holds, walks.1)
    to_positional_walks (Some a) i word w h f holds walks = (
      positional_held_holds a word h (f.0.placed (placed_other a i a.index refl f.1)) holds,
      waits_for_place (is_multiple a),
    )

    after_step_walks : (word : Text) (w : Walk) (h : Held) (step : Step) → Walks w → Holds h → StepsToOther step
        → Walks (after_step rules word w h step)
    after_step_walks word w h (next waiting) walks holds steps = (holds, steps)
    after_step_walks word w h (trailing position) walks holds steps = (holds, walks.1)
    after_step_walks word w h (subcommand name) walks holds steps = (holds, walks.1)
    after_step_walks word w h value walks holds steps =
        to_positional_walks (arg_by_index rules w.position) w.position word w h
        (found (λ a. option_map_or (λ k. k == w.position) a.index false) rules rules_fit) holds walks

    walked_from_walks : (names : Names) (stopped : Option (Text × List Text)) (w : Walk) (word : Text) → Walks w
        → Walks (walked_from rules names stopped w word)
    walked_from_walks names (Some p) w word walks = walks
    walked_from_walks names None w word walks =
        let met = word_met_steps names w.is_trailing w.waiting w.position word w.held walks.1 walks.0 in
        after_step_walks word w _ _ walks met.0 met.1

    walked_walks : (names : Names) (w : Walk) (word : Text) → Walks w → Walks (walked rules names w word)
    unfolding walked
    walked_walks names w word walks = walked_from_walks names w.stopped w word walks

    fold_walks : (names : Names) (w : Walk) (words : List Text) → Walks w → Walks (fold (walked rules names) w words)
    fold_walks names w [] walks = walks
    fold_walks names w (word ∷ words) walks =
        fold_walks names (walked rules names w word) words (walked_walks names w word walks)

    walk_holds : (names : Names) (words : List Text) → Holds (walk rules names nothing_held words).held
    walk_holds names words = (fold_walks names (walk_from nothing_held) words ((inl refl, tt), tt)).0

    -- If it is read by the text of its row, the flag is read as it was given.
    flag_is_given : ((rows : List Row) → Good rows → IsSettled (fold with_default rows rules))
        → (words : List Text) (found : Bool) → (one_of flag (given words) ≡ Some (codes "true") → found ≡ true)
        → (one_of flag (given words) ≡ Some (codes "false") → found ≡ false) → found ≡ is_given flag (given words)
    flag_is_given settles words found set unset =
        let names : Names = names_of (built line) in
        let walked : Held = (walk rules names nothing_held (argument_words line words)).held in
        go (settles (settled rules walked).rows (settled_holds walked (walk_holds names (argument_words line words))).0)
      where
        go : IsSettled (given words) → found ≡ is_given flag (given words)
        go (inl one) =
            let is : find is_own (given words) ≡ Some given_row = first_own (given words)
            ∙ ap (λ (l : List Row). slice_get l 0) one in
            set (ap (option_and_then row_text) is)
            ∙ sym (ap (λ (o : Option Row). option_map_or (λ r. explicit_source r.source) o false) is)
        go (inr one) =
            let is : find is_own (given words) ≡ Some default_row = first_own (given words)
            ∙ ap (λ (l : List Row). slice_get l 0) one in
            unset (ap (option_and_then row_text) is)
            ∙ sym (ap (λ (o : Option Row). option_map_or (λ r. explicit_source r.source) o false) is)

-- ---- the flags

-- whether a flag was given, in the terms of `clap`
abbrev IsReadAsGiven : Text → Type 0
IsReadAsGiven flag = (words : List Text) (found : Bool)
    → (one_of flag (given words) ≡ Some (codes "true") → found ≡ true)
    → (one_of flag (given words) ≡ Some (codes "false") → found ≡ false) → found ≡ is_given flag (given words)

-- Number n of the rules is the flag, and no other one has its name.
by_place : (flag : Text) (n : ℕ) (short : Option ℕ) → is_option flag ≡ false
    → slice_get rules n ≡ Some (flag_rule flag short)
    → list_any (λ (a : Rule). bytes_eq a.id flag) (take n rules) ≡ false
    → list_any (λ (a : Rule). bytes_eq a.id flag) (drop (suc n) rules) ≡ false → IsReadAsGiven flag
by_place flag n short free is before after =
    flag_is_given flag (all_fit flag free)
    (λ rows good. settles flag rules rows (has_at flag n short rules is before after) good)

pub library_is_given : IsReadAsGiven (codes "library")
library_is_given = by_place (codes "library") 0 None refl refl refl refl

pub stop_is_given : IsReadAsGiven (codes "stop")
stop_is_given = by_place (codes "stop") 5 None refl refl refl refl

pub lines_is_given : IsReadAsGiven (codes "lines")
lines_is_given = by_place (codes "lines") 6 None refl refl refl refl

pub explain_is_given : IsReadAsGiven (codes "explain")
explain_is_given = by_place (codes "explain") 7 None refl refl refl refl

pub profile_is_given : IsReadAsGiven (codes "profile")
profile_is_given = by_place (codes "profile") 8 None refl refl refl refl

pub interactive_is_given : IsReadAsGiven (codes "interactive")
interactive_is_given = by_place (codes "interactive") 9 (Some 105) refl refl refl refl

pub pretty_is_given : IsReadAsGiven (codes "pretty")
pretty_is_given = by_place (codes "pretty") 13 None refl refl refl refl

pub explain_json_is_given : IsReadAsGiven (codes "explain-json")
explain_json_is_given = by_place (codes "explain-json") 14 None refl refl refl refl

pub check_is_given : IsReadAsGiven (codes "check")
check_is_given = by_place (codes "check") 15 None refl refl refl refl
