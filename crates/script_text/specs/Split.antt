-- What a splitter represents.
use Rattle.std.specs.declared.option.Option.{Option}
use Rattle.script_text.specs.declared.splitter.Unfinished.{Unfinished}
use Rattle.script_text.specs.Handed.{Handed}

-- The complete command, if there is one, which after a `Need` is the pending one; and what is
-- pending.
pub record Split : Type 0 where
  pub to_hand_out : Option Handed
  pub left : Unfinished
