-- The words for the kinds of faults.
use Rattle.std.specs.Prelude.{ℕ, List, codes}
use Rattle.strategy_check.specs.declared.fault.FaultKind.{FaultKind}
use Rattle.strategy_check.specs.declared.fault.FaultKind.TheVariants.{Parameter, Twice, Clash, Unknown, Undeclared, Wild, Primitive}

abbrev pub word_of : FaultKind → List ℕ
word_of Parameter = codes "parameter"
word_of Twice = codes "twice"
word_of Clash = codes "clash"
word_of Unknown = codes "unknown"
word_of Undeclared = codes "undeclared"
word_of Wild = codes "wild"
word_of Primitive = codes "primitive"
