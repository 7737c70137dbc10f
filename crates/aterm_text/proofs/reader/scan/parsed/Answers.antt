use Rattle.aterm_text.proofs.ScanLemmas.{integer_utf8}
use Rattle.aterm_text.proofs.reader.scan.parsed.Goals as goal

pub returns-in_default-from_utf8-clause-none : goal.returns-in_default-from_utf8-clause-none
returns-in_default-from_utf8-clause-none c =
    λ z h. c.in_default-from_utf8.ensures.cases.0 (integer_utf8 c.args.text.now h.0)
