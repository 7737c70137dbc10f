-- What a stack of sorts holds.
use Rattle.std.specs.Prelude.{reverse}
use Rattle.strategy_parse.specs.inside.SortStacks.{SortStack}
use Rattle.strategy_parse.specs.declared.modules.sort_stack.SortStack as code

-- the innermost open sort first
unfoldable pub stack_of : code.SortStack → SortStack
stack_of s = record { around = reverse s.around.items; sorts = s.sorts.items }
