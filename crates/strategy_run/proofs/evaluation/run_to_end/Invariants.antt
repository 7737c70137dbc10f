use Rattle.term_changes.specs.Standing.{unchanged}
use Rattle.strategy_meaning.specs.Meaning.{run_whole}
use Rattle.strategy_machine.specs.Hands.{in_hand}
use Rattle.strategy_machine.specs.Turns.{Holds, load, world_of}
use Rattle.strategy_run.proofs.evaluation.run_to_end.Given as goal

-- the answer of the focus, passed through the frames, is the whole answer
abbrev pub invariant-run : goal.invariant-run
invariant-run g l =
    Holds (world_of g.M.Meaning.meaning l.host.definitions.now l.host.primitives.now l.host.room) (unchanged l.term)
    (run_whole (world_of g.M.Meaning.meaning l.host.definitions.now l.host.primitives.now l.host.room) l.fn.m.level
    l.strategy l.fn.m.steps l.term) l.m (in_hand l.m)

abbrev pub decreases-run : goal.decreases-run
decreases-run g l = load l.m (in_hand l.m)
