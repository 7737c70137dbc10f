-- The root of a compound pattern or a congruence.
use Rattle.std.specs.Prelude.{Some, None}
use Rattle.std.specs.declared.option.Option.{Option}
use Rattle.term_core.specs.Tree.{Head, application, list, tuple}
use Rattle.term_core.specs.declared.kind.Kind.{Kind}
use Rattle.term_core.specs.declared.kind.Kind.TheVariants.{Integer, Application as KindApplication, List as KindList, Tuple as KindTuple}
use Rattle.strategy_syntax.specs.declared.head.Head.{Head as Above}
use Rattle.strategy_syntax.specs.declared.head.Head.TheVariants.{Application, List as AList, Tuple}

abbrev pub head_of : Above → Head
head_of (Application f) = application f
head_of AList = list
head_of Tuple = tuple

-- the head of a term of this kind; an integer has none
abbrev pub head_at : Kind → Option Head
head_at (Integer z) = None
head_at (KindApplication f) = Some (application f.now)
head_at KindList = Some list
head_at KindTuple = Some tuple
