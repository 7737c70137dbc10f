-- The law of the order on terms.
use Rattle.std.specs.Cmp.{IsTotalOrder}
use Rattle.std.specs.FinMap.{IsAntisymmetric}
use Rattle.term_order.specs.Order.{compared}

-- Terms are in a total order, in which only equal terms tie.
abbrev pub TermsAreOrdered : Type 0
TermsAreOrdered = IsTotalOrder compared × IsAntisymmetric compared
