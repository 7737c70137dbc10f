use Rattle.std.proofs.Common.{arith, ◌++◌, ap, sym, ◌∙◌}
use Rattle.term_values.specs.Seen.{seen_tree}
use Rattle.term_values.proofs.SizeLemmas.{member_size}
use Rattle.term_values.proofs.owned.+owned.Goals as goal

pub all_owned-owned-requires : goal.all_owned-owned-requires
all_owned-owned-requires t c =
    let done = c.loop-seen.all.items in
    let whole = ap (λ l. done ++ l) (sym c.in-Some.ensures) ∙ c.loop-seen.invariant in
    (omega (arith, member_size done c.next.new.self c.args.elements (seen_tree c.in-Some.seen) whole, c.decreases), tt)
