-- The definitions, computed on worked rows.
use Rattle.std.proofs.Common.{◌≡◌, [], ◌∷◌, ◌++◌, Some, None, Ok, Err, refl, codes, true, false}
use Rattle.session_history.specs.History.{empty_history}
use Rattle.session_modules.specs.declared.refusal.Refusal.TheVariants.{Line, Name, Memory}
use Rattle.script_text.specs.declared.framing.Framing.TheVariants.{Continued, Lines}
use Rattle.script_text.specs.Script.{commands, complete}
use Rattle.script_text.specs.Handed.{handed}
use Rattle.script_text.specs.Form.{tree, show, pretty, diff, put, apply, undo, command_of, takes_no_memory}
use Rattle.script_text.specs.declared.command.Budgets.{Budgets}
use Rattle.script_text.specs.Answer.{ReplyInRun}
use Rattle.script_text.specs.Run.{Replied}

-- `a CR LF CR LF SPACE b CR` is one command of three lines; a last piece of CRs alone is no line
joined_lines : commands Continued
    (codes "a" ++ 13 ∷ (10 ∷ (13 ∷ (10 ∷ (codes " b" ++ 13 ∷ []))))) ≡ (codes "a" ++ 10 ∷ (10 ∷ codes " b")) ∷ []
joined_lines = refl

no_lines : commands Continued (10 ∷ (13 ∷ (13 ∷ []))) ≡ []
no_lines = refl

-- CRs elsewhere stay
inner_return : commands Continued
    (13 ∷ (codes "a" ++ 13 ∷ (codes "b" ++ 10 ∷ []))) ≡ (13 ∷ (codes "a" ++ 13 ∷ codes "b")) ∷ []
inner_return = refl

-- a comment is no line, wherever it is; continuation lines before the first command are dropped
comment_between : commands Continued (codes " x" ++ 10 ∷ (codes "a" ++ 10 ∷ (codes "#b" ++ 10 ∷ codes " c")))
    ≡ (codes "a" ++ 10 ∷ codes " c") ∷ []
comment_between = refl

-- the last command isn't complete
last_is_open : complete Continued (codes "a" ++ 10 ∷ (codes "b" ++ 10 ∷ [])) ≡ codes "a" ∷ []
last_is_open = refl

-- If each line is a command, blanks at its start and the CRs at its end go, and a line of these
-- alone, or a comment, is none.
own_lines : commands Lines
    (codes "a" ++ 13 ∷ (10 ∷ (codes " b" ++ 10 ∷ (9 ∷ (13 ∷ (10 ∷ (codes "  #c" ++ 10 ∷ codes "#d")))))))
    ≡ codes "a" ∷ (codes "b" ∷ [])
own_lines = refl

-- a line is complete at its line feed
last_is_ended : complete Lines (codes "a" ++ 10 ∷ (codes "b" ++ 10 ∷ [])) ≡ codes "a" ∷ (codes "b" ∷ [])
last_is_ended = refl

last_has_no_end : complete Lines (codes "a" ++ 10 ∷ codes "b") ≡ codes "a" ∷ []
last_has_no_end = refl

-- the budgets of these rows
abbrev budgets : Budgets
budgets = record { most = 1000000; usual = 100 }

reads_tree : command_of budgets (codes " tree  t  f(a) ") ≡ Ok (tree (codes "t") (codes "f(a)"))
reads_tree = refl

reads_empty_text : command_of budgets (codes "tree t ") ≡ Ok (tree (codes "t") [])
reads_empty_text = refl

reads_path : command_of budgets (codes "put t /0/007 b") ≡ Ok (put (codes "t") (0 ∷ (7 ∷ [])) (codes "b"))
reads_path = refl

reads_place : command_of budgets (codes "show t at /2") ≡ Ok (show (codes "t") (2 ∷ []))
reads_place = refl

reads_no_place : command_of budgets (codes "show t") ≡ Ok (show (codes "t") [])
reads_no_place = refl

reads_pretty : command_of budgets (codes "pretty t at /2") ≡ Ok (pretty (codes "t") (2 ∷ []))
reads_pretty = refl

reads_diff : command_of budgets (codes "diff ") ≡ Ok (diff None)
reads_diff = refl

reads_diff_of : command_of budgets (codes "diff t") ≡ Ok (diff (Some (codes "t")))
reads_diff_of = refl

reads_apply : command_of budgets (codes "apply t at /1 within 07 do id; f")
    ≡ Ok (apply (codes "t") (1 ∷ []) 7 (codes "id; f"))
reads_apply = refl

-- names aren't keywords, and the budget is that of a command that names none
reads_names : command_of budgets (codes "apply do do id") ≡ Ok (apply (codes "do") [] 100 (codes "id"))
reads_names = refl

needs_do : command_of budgets (codes "apply do id") ≡ Err Line
needs_do = refl

at_stands_first : command_of budgets (codes "apply t within 9 at / do id") ≡ Err Line
at_stands_first = refl

budget_in_range : command_of budgets (codes "apply 9 within 0 do id") ≡ Err Line
budget_in_range = refl

-- up to the greatest budget
greatest_budget : command_of (record { most = 7; usual = 100 }) (codes "apply t within 7 do id")
    ≡ Ok (apply (codes "t") [] 7 (codes "id"))
greatest_budget = refl

budget_over_it : command_of (record { most = 7; usual = 100 }) (codes "apply t within 8 do id") ≡ Err Line
budget_over_it = refl

reads_steps : command_of budgets (codes "undo 003") ≡ Ok (undo 3)
reads_steps = refl

needs_a_step : command_of budgets (codes "undo 0") ≡ Err Line
needs_a_step = refl

needs_a_name : command_of budgets (codes "tree") ≡ Err Line
needs_a_name = refl

name_comes_second : command_of budgets (codes "tree 9") ≡ Err Name
name_comes_second = refl

form_comes_first : command_of budgets (codes "show 9 at 0") ≡ Err Line
form_comes_first = refl

blanks_only : command_of budgets (codes "  ") ≡ Err Line
blanks_only = refl

undo_goes : takes_no_memory (codes " undo x") ≡ true
undo_goes = refl

commit_may_not : takes_no_memory (codes "commit") ≡ false
commit_may_not = refl

-- ---- runs

-- nothing after the refusal at which the run stops is replied to
stops_at_a_refusal : Replied true (ReplyInRun (λ name terms. None) 1)
    (handed Continued (codes "undo 0" ++ 10 ∷ codes "trees")) (false ∷ []) (empty_history [])
    (Err Line ∷ []) (empty_history [])
stops_at_a_refusal = (refl, (refl, refl, refl))

-- otherwise the next command is replied to, at the same history; or memory couldn't grow in it
goes_on_without_memory : Replied false (ReplyInRun (λ name terms. None) 1)
    (handed Continued (codes "undo 0" ++ 10 ∷ codes "trees")) (false ∷ (true ∷ [])) (empty_history [])
    (Err Line ∷ (Err Memory ∷ [])) (empty_history [])
goes_on_without_memory = (refl, ((refl, refl), refl))
