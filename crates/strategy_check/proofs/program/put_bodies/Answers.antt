use Rattle.std.proofs.Common.{◌≡◌, ◌+◌, take, drop, map, ap, ◌∙◌, arith}
use Rattle.std.proofs.lemmas.List.{take-take}
use Rattle.strategy_check.specs.inside.Replacing.{renumbered_definition}
use Rattle.strategy_check.proofs.program.put_bodies.Goals as goal

pub returns : goal.returns
returns c =
    let old = c.args.bodies.now.items in
    let i = c.args.first in
    let j = i + c.args.gone in
    let numbered = renumbered_definition c.args.numbers.now in
    let left : c.renumber_bodies.new.bodies.items ≡ map numbered (take i old) =
    c.renumber_bodies.ensures ∙ ap (map numbered)
    (c.truncate.ensures.items ∙ ap (take i) c.in_ok-last.ensures.items ∙ take-take i j old (omega arith)) in
    let right : c.renumber_bodies-2.new.bodies.items ≡ map numbered (drop j old) =
    c.renumber_bodies-2.ensures ∙ ap (map numbered) c.in_ok-last.ensures.tail in
    rw (left, right) at c.append_both.ensures
