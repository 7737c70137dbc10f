use Rattle.term_values.proofs.value.Value.original_bounded.Goals as goal

pub invariant_of-result : goal.invariant_of-result
invariant_of-result c = record { shape = tt; bounded = c.bounds_of.ensures }
