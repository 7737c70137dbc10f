use Rattle.std.proofs.lemmas.Result.{IfOk-weaker}
use Rattle.strategy_parse.specs.inside.Forms.{forms}
use Rattle.strategy_parse.proofs.FrontGives.{strategy-given, strategy-only, strategy-none}
use Rattle.strategy_parse.proofs.parser.run.read_strategy.Goals as goal

pub returns-clause-none : goal.returns-clause-none
returns-clause-none c = λ e. strategy-none c.args.tokens.now (forms c.new.result) c.new.ensures (c.run.ensures.none e)

pub returns-clause-given : goal.returns-clause-given
returns-clause-given c = IfOk-weaker c.run.result _ _
    (λ read. strategy-given c.args.tokens.now (forms c.new.result) c.new.ensures read.0 read.1.now) c.run.ensures.ok

pub returns-clause-only : goal.returns-clause-only
returns-clause-only c = IfOk-weaker c.run.result _ _
    (λ read. strategy-only c.args.tokens.now (forms c.new.result) c.new.ensures read.0 read.1.now) c.run.ensures.ok
