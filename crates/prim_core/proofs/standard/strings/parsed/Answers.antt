use Rattle.prim_core.proofs.IntegerLemmas.{answer-some, answer-none, answer-no_text}
use Rattle.prim_core.proofs.standard.strings.parsed.Goals as goal

pub returns-in_default : goal.returns-in_default
returns-in_default c = answer-no_text c.args.bytes.now c.if-bytes-eq-PLUS.false c.in_default.ensures.cases.0

pub returns-in-Ok-parse : goal.returns-in-Ok-parse
returns-in-Ok-parse c = answer-some c.in-Ok.text.now c.args.bytes.now c.in-Ok-parse.value c.in-Ok.ensures.cases.0
    c.if-bytes-eq-PLUS.false c.in-Ok-parse.ensures.value.0

pub returns-in-Err : goal.returns-in-Err
returns-in-Err c = answer-none c.in-Ok.text.now c.args.bytes.now c.in-Ok.ensures.cases.0 c.if-bytes-eq-PLUS.false
    c.in-Err.ensures.value.0
