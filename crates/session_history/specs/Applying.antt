-- Applying strategies in a session: parsing and resolving their texts, and the outcome.
use Rattle.std.specs.Prelude.{ℕ, List, Some, None, Ok, Err}
use Rattle.std.specs.declared.option.Option.{Option}
use Rattle.std.specs.declared.result.Result.{Result}
use Rattle.term_core.specs.Tree.{Tree}
use Rattle.strategy_syntax.specs.Syntax.{Strategy}
use Rattle.strategy_syntax.specs.declared.resolved.Resolved.{Resolved}
use Rattle.strategy_tokens.specs.declared.TheConstants.{MAX_TOKENS}
use Rattle.strategy_parse.specs.Gives.{GivesStrategy}
use Rattle.strategy_check.specs.Faults.{Fault, Primitives, first}
use Rattle.strategy_check.specs.Programs.{Program, faults_of, resolved}
use Rattle.strategy_meaning.specs.Answer.{Stop, spent, big}
use Rattle.strategy_meaning.specs.Meaning.{World}
use Rattle.strategy_meaning.specs.Applied.{Outcome, gives, fails, stops}
use Rattle.session_modules.specs.Modules.{ReadsBy, refusal_of}
use Rattle.session_modules.specs.declared.refusal.Refusal.{Refusal}
use Rattle.session_modules.specs.declared.refusal.Refusal.TheVariants.{Fails, Spent, Big}

-- the meaning of primitives: from a name and a list of terms to a term, or to nothing
abbrev pub Meaning : Type 0
Meaning = List ℕ → List Tree → Option Tree

-- what a strategy text is parsed to, which may have 4,000 tokens
abbrev pub ReadsAsStrategy : List ℕ → Result Strategy Refusal → Type 0
ReadsAsStrategy = ReadsBy GivesStrategy MAX_TOKENS

-- this value, or the refusal that reports the fault
abbrev pub unless_faulty : {X : Type 0} → Option Fault → X → Result X Refusal
unless_faulty None x = Ok x
unless_faulty (Some fault) x = Err (refusal_of fault)

-- the strategy resolved in a program, or the refusal that reports its first fault
abbrev pub resolved_in : Program → Primitives → Strategy → Result Resolved Refusal
resolved_in program primitives s =
    unless_faulty (first (faults_of program primitives s)) (resolved program primitives s)

-- what the numbers in a resolved strategy stand for, and the room
abbrev pub world_in : Meaning → Program → Primitives → ℕ → World
world_in meaning program primitives room =
    record { bodies = program.bodies; primitives = primitives; meaning = meaning; room = room }

-- the refusal for each reason why a run stops
abbrev pub stopped_as : Stop → Refusal
stopped_as spent = Spent
stopped_as big = Big

-- the resulting tree, or why there is none
abbrev pub given_by : Outcome → Result Tree Refusal
given_by (gives tree edits) = Ok tree
given_by fails = Err Fails
given_by (stops why) = Err (stopped_as why)
