use Rattle.script_text.proofs.DumpLemmas.{dump_read_back, dump_answered}
use Rattle.script_core.proofs.laws.dump_reads_back.Goals as goal

pub returns : goal.returns
returns c =
    let back = c.printed_text_reads_back.ensures in
    let lines = c.printed_text_is_one_line.ensures in
    let nests = c.printed_text_nests.ensures in
    let lengthy = c.printed_text_is_as_long.ensures in
    record {
      contents = dump_read_back back lines nests lengthy c.one_run.ensures;
      answered = dump_answered back lines nests lengthy;
    }
