use Rattle.std.proofs.Common.{sym, drop}
use Rattle.term_core.specs.Tree.{children, list_term}
use Rattle.term_core.specs.Size.{height, size}
use Rattle.term_values.proofs.SizeLemmas.{rest_size, rest_height, bounded_along}
use Rattle.term_values.proofs.value.Value.bounded_rest.Goals as goal

pub within-requires : goal.within-requires
within-requires c =
    let t = c.args.self.now in
    let k = c.args.skipped in
    let r = list_term (drop k (children t)) in
    let mine = bounded_along _ t c.self.inside.bounds c.self.view_is c.self.invariant.bounded in
    bounded_along r c.args.rest c.less.result (sym c.requires.rest)
    (c.less.ensures (size t) (height t) (size r) (height r) mine (rest_size t k c.requires.within) (rest_height t k))
