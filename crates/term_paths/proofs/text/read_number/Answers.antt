use Rattle.std.proofs.Common.{sym, ◌∙◌, ap}
use Rattle.term_paths.specs.PathText.{part_of}
use Rattle.term_paths.proofs.TextLemmas.{digits_utf8, part_parsed, part_refused}
use Rattle.term_paths.proofs.text.read_number.Goals as goal

pub returns-in_default : goal.returns-in_default
returns-in_default c = absurd (c.in_default.ensures.cases.0
    (digits_utf8 c.args.digits.now (sym c.are_digits.ensures ∙ c.if-not-are_digits.false)))

pub returns-in-Ok-parse : goal.returns-in-Ok-parse
returns-in-Ok-parse c =
    let same = c.in-Ok.ensures.cases.0 in
    part_parsed c.in-Ok.text.now c.parse.result c.in-Ok-parse.part
    (rw same (sym c.are_digits.ensures ∙ c.if-not-are_digits.false)) c.parse.ensures.value.0 c.in-Ok-parse.is
    ∙ ap part_of same

pub returns-in-Err : goal.returns-in-Err
returns-in-Err c =
    let same = c.in-Ok.ensures.cases.0 in
    part_refused c.in-Ok.text.now c.parse.result c.in-Err.field-0
    (rw same (sym c.are_digits.ensures ∙ c.if-not-are_digits.false)) c.parse.ensures.value.0 c.in-Err.is
    ∙ ap part_of same
