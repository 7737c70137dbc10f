use Rattle.std.proofs.Common.{List, ap, arith, codes, map, sym, ◌≡◌, ◌∙◌}
use Rattle.clap.specs.Words.{App, HasMatchesOf, Text, fault_of, first_of, found_of, is_simple, is_simple_and_free, matches_of, one_of, rows_of}
use Rattle.clap.specs.declared.parser.matches.ArgMatches.{ArgMatches}
use Rattle.clap.proofs.WalkLemmas.{first_value-rows, one_text-rows}
use Rattle.command_line.specs.Line.{are_named_all, given, line, line_fault, values}
use Rattle.command_line.proofs.FlagLemmas.{check_is_given, explain_is_given, explain_json_is_given, interactive_is_given, library_is_given, lines_is_given, pretty_is_given, profile_is_given, stop_is_given}
use Rattle.command_line.proofs.NamedLemmas.{err_fails, fault_comes, is_beyond, is_malformed, is_taken, malformed_holds, no_fault, untaken_fault}
use Rattle.command_line.proofs.NumberLemmas.{number_is, usual_most}
use Rattle.command_line.proofs.words.arguments.Goals as goal

-- the matches of the command that is made are those of the command line
rows_are : (app : App) (words : List Text) (m : ArgMatches) → HasMatchesOf app words m
    → app ≡ line → rows_of (found_of m) ≡ given words
rows_are app words m has is = (has (ap is_simple is)).0 ∙ ap (λ (a : App). matches_of a words) is

pub returns-in-Ok-clause-library : goal.returns-in-Ok-clause-library
returns-in-Ok-clause-library g c =
    let words : List Text = map g.S.AsStr.text c.args.words.now in
    let rows = rows_are _ words c.in_ok-matches.matches c.in_ok-matches.ensures.ok.2 c.in_ok-command.ensures in
    let text = one_text-rows (found_of c.in_ok-matches.matches) (codes "library")
    ∙ ap (one_of (codes "library")) rows in
    library_is_given words c.get_flag.result
    (λ e. c.get_flag.ensures.value (text ∙ e)) (λ e. c.get_flag.ensures.other (text ∙ e))

pub returns-in-Ok-clause-stop : goal.returns-in-Ok-clause-stop
returns-in-Ok-clause-stop g c =
    let words : List Text = map g.S.AsStr.text c.args.words.now in
    let rows = rows_are _ words c.in_ok-matches.matches c.in_ok-matches.ensures.ok.2 c.in_ok-command.ensures in
    let text = one_text-rows (found_of c.in_ok-matches.matches) (codes "stop") ∙ ap (one_of (codes "stop")) rows in
    stop_is_given words c.get_flag-in-Ok.result
    (λ e. c.get_flag-in-Ok.ensures.value (text ∙ e)) (λ e. c.get_flag-in-Ok.ensures.other (text ∙ e))

pub returns-in-Ok-clause-lines : goal.returns-in-Ok-clause-lines
returns-in-Ok-clause-lines g c =
    let words : List Text = map g.S.AsStr.text c.args.words.now in
    let rows = rows_are _ words c.in_ok-matches.matches c.in_ok-matches.ensures.ok.2 c.in_ok-command.ensures in
    let text = one_text-rows (found_of c.in_ok-matches.matches) (codes "lines") ∙ ap (one_of (codes "lines")) rows in
    lines_is_given words c.get_flag-in-Ok-2.result
    (λ e. c.get_flag-in-Ok-2.ensures.value (text ∙ e)) (λ e. c.get_flag-in-Ok-2.ensures.other (text ∙ e))

pub returns-in-Ok-clause-explain : goal.returns-in-Ok-clause-explain
returns-in-Ok-clause-explain g c =
    let words : List Text = map g.S.AsStr.text c.args.words.now in
    let rows = rows_are _ words c.in_ok-matches.matches c.in_ok-matches.ensures.ok.2 c.in_ok-command.ensures in
    let text = one_text-rows (found_of c.in_ok-matches.matches) (codes "explain")
    ∙ ap (one_of (codes "explain")) rows in
    explain_is_given words c.get_flag-in-Ok-3.result
    (λ e. c.get_flag-in-Ok-3.ensures.value (text ∙ e)) (λ e. c.get_flag-in-Ok-3.ensures.other (text ∙ e))

pub returns-in-Ok-clause-profile : goal.returns-in-Ok-clause-profile
returns-in-Ok-clause-profile g c =
    let words : List Text = map g.S.AsStr.text c.args.words.now in
    let rows = rows_are _ words c.in_ok-matches.matches c.in_ok-matches.ensures.ok.2 c.in_ok-command.ensures in
    let text = one_text-rows (found_of c.in_ok-matches.matches) (codes "profile")
    ∙ ap (one_of (codes "profile")) rows in
    profile_is_given words c.get_flag-in-Ok-4.result
    (λ e. c.get_flag-in-Ok-4.ensures.value (text ∙ e)) (λ e. c.get_flag-in-Ok-4.ensures.other (text ∙ e))

pub returns-in-Ok-clause-interactive : goal.returns-in-Ok-clause-interactive
returns-in-Ok-clause-interactive g c =
    let words : List Text = map g.S.AsStr.text c.args.words.now in
    let rows = rows_are _ words c.in_ok-matches.matches c.in_ok-matches.ensures.ok.2 c.in_ok-command.ensures in
    let text = one_text-rows (found_of c.in_ok-matches.matches) (codes "interactive")
    ∙ ap (one_of (codes "interactive")) rows in
    interactive_is_given words c.get_flag-in-Ok-5.result
    (λ e. c.get_flag-in-Ok-5.ensures.value (text ∙ e)) (λ e. c.get_flag-in-Ok-5.ensures.other (text ∙ e))

pub returns-in-Ok-clause-pretty : goal.returns-in-Ok-clause-pretty
returns-in-Ok-clause-pretty g c =
    let words : List Text = map g.S.AsStr.text c.args.words.now in
    let rows = rows_are _ words c.in_ok-matches.matches c.in_ok-matches.ensures.ok.2 c.in_ok-command.ensures in
    let text = one_text-rows (found_of c.in_ok-matches.matches) (codes "pretty") ∙ ap (one_of (codes "pretty")) rows in
    pretty_is_given words c.get_flag-in-Ok-6.result
    (λ e. c.get_flag-in-Ok-6.ensures.value (text ∙ e)) (λ e. c.get_flag-in-Ok-6.ensures.other (text ∙ e))

pub returns-in-Ok-clause-explain_json : goal.returns-in-Ok-clause-explain_json
returns-in-Ok-clause-explain_json g c =
    let words : List Text = map g.S.AsStr.text c.args.words.now in
    let rows = rows_are _ words c.in_ok-matches.matches c.in_ok-matches.ensures.ok.2 c.in_ok-command.ensures in
    let text = one_text-rows (found_of c.in_ok-matches.matches) (codes "explain-json")
    ∙ ap (one_of (codes "explain-json")) rows in
    explain_json_is_given words c.get_flag-in-Ok-7.result
    (λ e. c.get_flag-in-Ok-7.ensures.value (text ∙ e)) (λ e. c.get_flag-in-Ok-7.ensures.other (text ∙ e))

pub returns-in-Ok-clause-check : goal.returns-in-Ok-clause-check
returns-in-Ok-clause-check g c =
    let words : List Text = map g.S.AsStr.text c.args.words.now in
    let rows = rows_are _ words c.in_ok-matches.matches c.in_ok-matches.ensures.ok.2 c.in_ok-command.ensures in
    let text = one_text-rows (found_of c.in_ok-matches.matches) (codes "check") ∙ ap (one_of (codes "check")) rows in
    check_is_given words c.get_flag-in-Ok-8.result
    (λ e. c.get_flag-in-Ok-8.ensures.value (text ∙ e)) (λ e. c.get_flag-in-Ok-8.ensures.other (text ∙ e))

pub returns-in-Ok-clause-number : goal.returns-in-Ok-clause-number
returns-in-Ok-clause-number g c =
    let words : List Text = map g.S.AsStr.text c.args.words.now in
    let rows = rows_are _ words c.in_ok-matches.matches c.in_ok-matches.ensures.ok.2 c.in_ok-command.ensures in
    let text = one_text-rows (found_of c.in_ok-matches.matches) (codes "steps") ∙ ap (one_of (codes "steps")) rows in
    number_is 1 4000000000 100000 c.number_of-budget.result (one_of (codes "steps") (given words))
    (λ e. c.number_of-budget.ensures.none (text ∙ e)) (λ t e. c.number_of-budget.ensures.read t (text ∙ e))
    (λ t e. c.number_of-budget.ensures.other t (text ∙ e))

pub returns-in-Ok-clause-max_steps : goal.returns-in-Ok-clause-max_steps
returns-in-Ok-clause-max_steps g c =
    let words : List Text = map g.S.AsStr.text c.args.words.now in
    let rows = rows_are _ words c.in_ok-matches.matches c.in_ok-matches.ensures.ok.2 c.in_ok-command.ensures in
    let most_text = one_text-rows (found_of c.in_ok-matches.matches) (codes "max-steps")
    ∙ ap (one_of (codes "max-steps")) rows in
    let most =
    number_is 1000000 4000000000 1000000 c.number_of-max_steps.result (one_of (codes "max-steps") (given words))
    (λ e. c.number_of-max_steps.ensures.none (most_text ∙ e)) (λ t e. c.number_of-max_steps.ensures.read t
    (most_text ∙ e)) (λ t e. c.number_of-max_steps.ensures.other t (most_text ∙ e)) in
    most

pub returns-in-Ok-clause-max_terms : goal.returns-in-Ok-clause-max_terms
returns-in-Ok-clause-max_terms g c =
    let words : List Text = map g.S.AsStr.text c.args.words.now in
    let rows = rows_are _ words c.in_ok-matches.matches c.in_ok-matches.ensures.ok.2 c.in_ok-command.ensures in
    let terms_text = one_text-rows (found_of c.in_ok-matches.matches) (codes "max-terms")
    ∙ ap (one_of (codes "max-terms")) rows in
    let terms = number_is 100000 1000000000 100000 c.number_of.result (one_of (codes "max-terms") (given words))
    (λ e. c.number_of.ensures.none (terms_text ∙ e)) (λ t e. c.number_of.ensures.read t (terms_text ∙ e))
    (λ t e. c.number_of.ensures.other t (terms_text ∙ e)) in
    terms

pub returns-in-Ok-clause-max_tokens : goal.returns-in-Ok-clause-max_tokens
returns-in-Ok-clause-max_tokens g c =
    let words : List Text = map g.S.AsStr.text c.args.words.now in
    let rows = rows_are _ words c.in_ok-matches.matches c.in_ok-matches.ensures.ok.2 c.in_ok-command.ensures in
    let tokens_text = one_text-rows (found_of c.in_ok-matches.matches) (codes "max-tokens")
    ∙ ap (one_of (codes "max-tokens")) rows in
    let tokens = number_is 4000 65535 4000 c.number_of-in-Ok.result (one_of (codes "max-tokens") (given words))
    (λ e. c.number_of-in-Ok.ensures.none (tokens_text ∙ e)) (λ t e. c.number_of-in-Ok.ensures.read t (tokens_text ∙ e))
    (λ t e. c.number_of-in-Ok.ensures.other t (tokens_text ∙ e)) in
    tokens

pub returns-in-Ok-clause-file : goal.returns-in-Ok-clause-file
returns-in-Ok-clause-file g c =
    let words : List Text = map g.S.AsStr.text c.args.words.now in
    let rows = rows_are _ words c.in_ok-matches.matches c.in_ok-matches.ensures.ok.2 c.in_ok-command.ensures in
    c.get_str.ensures ∙ first_value-rows (found_of c.in_ok-matches.matches) (codes "file")
    ∙ ap (first_of (codes "file")) rows

pub returns-in-Ok-clause-modules : goal.returns-in-Ok-clause-modules
returns-in-Ok-clause-modules g c =
    let words : List Text = map g.S.AsStr.text c.args.words.now in
    let rows = rows_are _ words c.in_ok-matches.matches c.in_ok-matches.ensures.ok.2 c.in_ok-command.ensures in
    c.in-Ok.ensures.modules ∙ ap (values (codes "module")) rows

pub returns-in-Ok-clause-trees : goal.returns-in-Ok-clause-trees
returns-in-Ok-clause-trees g c =
    let words : List Text = map g.S.AsStr.text c.args.words.now in
    let rows = rows_are _ words c.in_ok-matches.matches c.in_ok-matches.ensures.ok.2 c.in_ok-command.ensures in
    c.in-Ok.ensures.trees ∙ ap (values (codes "tree")) rows

pub returns-in-Ok-clause-writes : goal.returns-in-Ok-clause-writes
returns-in-Ok-clause-writes g c =
    let words : List Text = map g.S.AsStr.text c.args.words.now in
    let rows = rows_are _ words c.in_ok-matches.matches c.in_ok-matches.ensures.ok.2 c.in_ok-command.ensures in
    c.in-Ok.ensures.writes ∙ ap (values (codes "write")) rows

pub returns-in-Ok-clause-refused : goal.returns-in-Ok-clause-refused
returns-in-Ok-clause-refused g c =
    let words : List Text = map g.S.AsStr.text c.args.words.now in
    let rows = rows_are _ words c.in_ok-matches.matches c.in_ok-matches.ensures.ok.2 c.in_ok-command.ensures in
    let budget_text = one_text-rows (found_of c.in_ok-matches.matches) (codes "steps")
    ∙ ap (one_of (codes "steps")) rows in
    let budget = number_is 1 4000000000 100000 c.number_of-budget.result (one_of (codes "steps") (given words))
    (λ e. c.number_of-budget.ensures.none (budget_text ∙ e)) (λ t e. c.number_of-budget.ensures.read t
    (budget_text ∙ e)) (λ t e. c.number_of-budget.ensures.other t (budget_text ∙ e)) in
    let most_text = one_text-rows (found_of c.in_ok-matches.matches) (codes "max-steps")
    ∙ ap (one_of (codes "max-steps")) rows in
    let most =
    number_is 1000000 4000000000 1000000 c.number_of-max_steps.result (one_of (codes "max-steps") (given words))
    (λ e. c.number_of-max_steps.ensures.none (most_text ∙ e)) (λ t e. c.number_of-max_steps.ensures.read t
    (most_text ∙ e)) (λ t e. c.number_of-max_steps.ensures.other t (most_text ∙ e)) in
    let none = sym (ap (λ (a : App). fault_of a words) c.in_ok-command.ensures)
    ∙ c.in_ok-matches.ensures.kinds (ap is_simple_and_free c.in_ok-command.ensures) in
    no_fault words none
    (is_taken words c.number_of-budget.result c.number_of-max_steps.result budget most
    (omega (arith, c.if-budget-max_steps.false)) (sym (ap are_named_all rows) ∙ c.in-Ok.ensures.named))

pub returns-in_err-matches-clause-refused : goal.returns-in_err-matches-clause-refused
returns-in_err-matches-clause-refused g c =
    let words : List Text = map g.S.AsStr.text c.args.words.now in
    err_fails c.from_residual-in_err-matches.result c.in_err-matches.field-0.0 (line_fault words)
    c.from_residual-in_err-matches.ensures.1
    (fault_comes _ words c.in_err-matches.field-0.0 c.in_ok-command.ensures
    (c.in_err-matches.ensures.kinds (ap is_simple_and_free c.in_ok-command.ensures)))

pub returns-in-Err-Malformed-clause-refused : goal.returns-in-Err-Malformed-clause-refused
returns-in-Err-Malformed-clause-refused g c =
    let words : List Text = map g.S.AsStr.text c.args.words.now in
    let rows = rows_are _ words c.in_ok-matches.matches c.in_ok-matches.ensures.ok.2 c.in_ok-command.ensures in
    let none = sym (ap (λ (a : App). fault_of a words) c.in_ok-command.ensures)
    ∙ c.in_ok-matches.ensures.kinds (ap is_simple_and_free c.in_ok-command.ensures) in
    untaken_fault words c.in_ok-malformed-in-Err-Malformed.field-0 none
    (is_malformed words (sym (ap are_named_all rows)
    ∙ malformed_holds c.in-Err-Malformed.field-0 _ _ _ c.in-Err-Malformed.field-0-is
    c.in-Err-Malformed.ensures.malformed)) c.in_ok-malformed-in-Err-Malformed.ensures

pub returns-in-Ok-clause-usual : goal.returns-in-Ok-clause-usual
returns-in-Ok-clause-usual g c =
    let words : List Text = map g.S.AsStr.text c.args.words.now in
    let rows = rows_are _ words c.in_ok-matches.matches c.in_ok-matches.ensures.ok.2 c.in_ok-command.ensures in
    let most_text = one_text-rows (found_of c.in_ok-matches.matches) (codes "max-steps")
    ∙ ap (one_of (codes "max-steps")) rows in
    let most =
    number_is 1000000 4000000000 1000000 c.number_of-max_steps.result (one_of (codes "max-steps") (given words))
    (λ e. c.number_of-max_steps.ensures.none (most_text ∙ e)) (λ t e. c.number_of-max_steps.ensures.read t
    (most_text ∙ e)) (λ t e. c.number_of-max_steps.ensures.other t (most_text ∙ e)) in
    λ none. most ∙ usual_most words none

pub returns-then-budget-max_steps-clause-refused : goal.returns-then-budget-max_steps-clause-refused
returns-then-budget-max_steps-clause-refused g c =
    let words : List Text = map g.S.AsStr.text c.args.words.now in
    let rows = rows_are _ words c.in_ok-matches.matches c.in_ok-matches.ensures.ok.2 c.in_ok-command.ensures in
    let budget_text = one_text-rows (found_of c.in_ok-matches.matches) (codes "steps")
    ∙ ap (one_of (codes "steps")) rows in
    let budget = number_is 1 4000000000 100000 c.number_of-budget.result (one_of (codes "steps") (given words))
    (λ e. c.number_of-budget.ensures.none (budget_text ∙ e)) (λ t e. c.number_of-budget.ensures.read t
    (budget_text ∙ e)) (λ t e. c.number_of-budget.ensures.other t (budget_text ∙ e)) in
    let most_text = one_text-rows (found_of c.in_ok-matches.matches) (codes "max-steps")
    ∙ ap (one_of (codes "max-steps")) rows in
    let most =
    number_is 1000000 4000000000 1000000 c.number_of-max_steps.result (one_of (codes "max-steps") (given words))
    (λ e. c.number_of-max_steps.ensures.none (most_text ∙ e)) (λ t e. c.number_of-max_steps.ensures.read t
    (most_text ∙ e)) (λ t e. c.number_of-max_steps.ensures.other t (most_text ∙ e)) in
    let none = sym (ap (λ (a : App). fault_of a words) c.in_ok-command.ensures)
    ∙ c.in_ok-matches.ensures.kinds (ap is_simple_and_free c.in_ok-command.ensures) in
    untaken_fault words c.in_ok-beyond.field-0 none
    (is_beyond words c.number_of-budget.result c.number_of-max_steps.result budget most
    (omega (arith, c.if-budget-max_steps.true))) c.in_ok-beyond.ensures
