use Rattle.std.proofs.Common.{◌<◌, ◌≤◌, length, sym, ◌∙◌, arith}
use Rattle.strategy_tokens.specs.Tokens.{tokens}
use Rattle.strategy_parse.specs.Stuck.{StuckAt}
use Rattle.strategy_parse.proofs.StuckLemmas.{found-stuck, found-none}
use Rattle.strategy_parse.proofs.StuckTexts.{bytes-begin-none}
use Rattle.strategy_parse.proofs.stuck.stuck_strategy.Goals as goal

pub returns-in-Ok-None-clause-begins : goal.returns-in-Ok-None-clause-begins
returns-in-Ok-None-clause-begins c =
    found-none c.deref.result.now (tokens c.args.text.now) c.in-Ok-None.field-0
    (c.deref.ensures.value ∙ c.in_ok-tokens.ensures.tokens) c.in-Ok-None.ensures.begins c.in-Ok-None.field-0-is

pub unreachable-requires : goal.unreachable-requires
unreachable-requires c =
    let at : StuckAt (tokens c.args.text.now) c.in-Ok-Some.token =
    found-stuck c.deref.result.now (tokens c.args.text.now) c.in-Ok-Some.field-0 c.in-Ok-Some.token
    (c.deref.ensures.value ∙ c.in_ok-tokens.ensures.tokens) c.in-Ok-Some.ensures.stuck c.in-Ok-Some.field-0-is in
    let there : c.in-Ok-Some.token < length (tokens c.args.text.now) = at.there in
    let past : length (tokens c.args.text.now) ≤ c.in-Ok-Some.token = c.in_default.ensures.none in
    omega arith

pub returns-clause-stuck : goal.returns-clause-stuck
returns-clause-stuck c =
    found-stuck c.deref.result.now (tokens c.args.text.now) c.in-Ok-Some.field-0 c.in-Ok-Some.token
    (c.deref.ensures.value ∙ c.in_ok-tokens.ensures.tokens) c.in-Ok-Some.ensures.stuck c.in-Ok-Some.field-0-is

pub returns-clause-bytes : goal.returns-clause-bytes
returns-clause-bytes c =
    let at : StuckAt (tokens c.args.text.now) c.in-Ok-Some.token =
    found-stuck c.deref.result.now (tokens c.args.text.now) c.in-Ok-Some.field-0 c.in-Ok-Some.token
    (c.deref.ensures.value ∙ c.in_ok-tokens.ensures.tokens) c.in-Ok-Some.ensures.stuck c.in-Ok-Some.field-0-is in
    bytes-begin-none c.args.text.now c.in-Ok-Some.token c.in-Some.place
    (sym c.token_place.ensures.value ∙ c.in-Some.is) at.begin_none
