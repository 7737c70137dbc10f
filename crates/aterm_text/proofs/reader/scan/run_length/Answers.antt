use Rattle.std.proofs.Common.{sym, arith}
use Rattle.aterm_text.proofs.RunLemmas.{found_run, whole_run}
use Rattle.aterm_text.proofs.reader.scan.run_length.Goals as goal

pub returns-in-Some : goal.returns-in-Some
returns-in-Some c = record {
  value = sym (found_run c.args.text.now c.in-Some.place c.in-Some.ensures);
  bound = let found = c.in-Some.ensures in omega (arith, found.0.high);
}

pub returns-in-None-clause-value : goal.returns-in-None-clause-value
returns-in-None-clause-value c = sym (whole_run c.args.text.now c.in-None.ensures)
