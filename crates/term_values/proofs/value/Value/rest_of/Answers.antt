use Rattle.std.proofs.Common.{arith, ap, sym, drop, length}
use Rattle.term_core.specs.Tree.{children, list_term}
use Rattle.term_core.specs.Size.{height, size}
use Rattle.term_values.proofs.SizeLemmas.{rest_size, rest_height, bounded_along}
use Rattle.term_values.proofs.value.Value.rest_of.Goals as goal

pub invariant_of-result : goal.invariant_of-result
invariant_of-result c =
    let t = c.args.self.now in
    let k = c.args.skipped in
    let r = list_term (drop k (children t)) in
    let mine = bounded_along _ t c.self.inside.bounds c.self.view_is c.self.invariant.bounded in
    let less =
    c.less.ensures (size t) (height t) (size r) (height r) mine (rest_size t k c.requires.within) (rest_height t k) in
    record {
      shape = omega (arith, ap length c.requires.same, c.requires.within);
      bounded = bounded_along r (list_term (drop k (children c.args.term.now))) c.less.result
          (ap (λ us. list_term (drop k us)) (sym c.requires.same)) less;
    }
