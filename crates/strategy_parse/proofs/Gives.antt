-- What the machine accepts is what the grammar gives.
use Rattle.std.proofs.Common.{◌≡◌, List, [], Some, sym, ◌∙◌, ap}
use Rattle.std.specs.declared.option.Option.{Option}
use Rattle.strategy_syntax.specs.Syntax.{Strategy}
use Rattle.strategy_tokens.specs.declared.token.Token.{Token}
use Rattle.strategy_parse.specs.declared.parser.state.Order.TheVariants.{Written}
use Rattle.strategy_parse.specs.Written.{Choice}
use Rattle.strategy_parse.specs.Grammar.{ReadsChoice}
use Rattle.strategy_parse.specs.Core.{core}
use Rattle.strategy_parse.specs.Gives.{GivesStrategy}
use Rattle.strategy_parse.specs.inside.Parser.{begin}
use Rattle.strategy_parse.proofs.Runs.{resume}
use Rattle.strategy_parse.proofs.CompleteStrategies.{reads_all, reads_in_text}

pub gives-accepted : (ts : List Token) (s : Strategy) → GivesStrategy ts s → resume (begin []) ts ≡ Some s
gives-accepted ts s h = reads_all h.0 ts h.1 ∙ ap Some h.2

pub one_given : (ts : List Token) (s r : Strategy) → GivesStrategy ts s → GivesStrategy ts r → s ≡ r
one_given ts s r h k = let same : ◌≡◌ {A = Option Strategy} (Some s) (Some r) = sym (gives-accepted ts s h)
    ∙ gives-accepted ts r k in cc

-- the same in the order of the text
pub one_written : (x : List Token) (a b : Choice) → ReadsChoice a x [] → ReadsChoice b x []
    → core Written a ≡ core Written b
one_written x a b h k = let same : ◌≡◌ {A = Option Strategy} (Some (core Written a)) (Some (core Written b)) =
    sym (reads_in_text a x h) ∙ reads_in_text b x k in cc
