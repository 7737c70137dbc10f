use Rattle.term_core.specs.Size.{height, size}
use Rattle.term_values.proofs.value.Value.original.Goals as goal

pub original_bounded-requires : goal.original_bounded-requires
original_bounded-requires c = c.unknown.ensures (size c.args.term.now) (height c.args.term.now)
