-- The open forms that a stack holds.
use Rattle.std.specs.Prelude.{List, reverse}
use Rattle.strategy_parse.specs.declared.parser.state.ParserFrame.{ParserFrame}
use Rattle.strategy_parse.specs.declared.parser.stack.ParserStack.{ParserStack}

-- the innermost first
unfoldable pub forms : ParserStack → List ParserFrame
forms s = reverse s.frames.items
