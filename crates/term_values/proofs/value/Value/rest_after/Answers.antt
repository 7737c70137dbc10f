use Rattle.std.proofs.Common.{arith, drop, sym}
use Rattle.term_core.specs.Tree.{children, list_term}
use Rattle.term_core.specs.Size.{height, size}
use Rattle.term_values.proofs.SizeLemmas.{rest_size, rest_height, bounded_along}
use Rattle.term_values.proofs.ListLemmas.{rest_again, rest_within}
use Rattle.term_values.proofs.value.Value.rest_after.Goals as goal

pub overflow_add-result : goal.overflow_add-result
overflow_add-result c =
    let within = rest_within (children c.args.term.now) c.args.self.now c.args.before c.args.skipped c.requires.rest
    c.requires.before c.requires.within in
    omega (arith, within, c.child_count-count.ensures)

pub invariant_of-result : goal.invariant_of-result
invariant_of-result c =
    let t = c.args.self.now in
    let k = c.args.skipped in
    let r = list_term (drop k (children t)) in
    let mine = bounded_along _ t c.self.inside.bounds c.self.view_is c.self.invariant.bounded in
    let less =
    c.less.ensures (size t) (height t) (size r) (height r) mine (rest_size t k c.requires.within) (rest_height t k) in
    let same = rest_again (children c.args.term.now) t c.args.before k c.requires.rest in
    record {
      shape =
          rest_within (children c.args.term.now) t c.args.before k c.requires.rest c.requires.before c.requires.within;
      bounded = bounded_along r _ c.less.result (sym same) less;
    }

pub returns : goal.returns
returns c = rest_again (children c.args.term.now) c.args.self.now c.args.before c.args.skipped c.requires.rest
