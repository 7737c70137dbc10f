use Rattle.std.proofs.Common.{◌≡◌, [], ◌∷◌, ◌++◌, append_assoc, ap, sym, ◌∙◌}
use Rattle.strategy_syntax.specs.Resolved.{ResolvedStrategy, id, guard}
use Rattle.strategy_check.specs.Programs.{joined}
use Rattle.strategy_check.proofs.GroupLemmas.{joined-last}
use Rattle.strategy_check.proofs.groups.join.Goals as goal

pub loop-body-preserved : goal.loop-body-preserved
loop-body-preserved c =
    let rs = c.pop-in-loop-body.new.self.items in
    let r : ResolvedStrategy = c.in-Some-pop.body in
    let q : ResolvedStrategy = c.loop-body.whole in
    let parts = c.in_ok-parts.ensures.ok in
    let whole : c.in_ok-whole.whole ≡ guard r id q = c.in_ok-whole.ensures
    ∙ c.new-in-Some-pop-2.ensures ∙ (λ i. guard (parts i).0 (parts i).1 (parts i).2)
    ∙ ap (λ n. guard r n q) c.new-id.ensures in
    ap (λ w. joined (rs ++ w ∷ [])) whole ∙ joined-last rs r q ∙ ap joined (sym (append_assoc rs (r ∷ []) (q ∷ [])))
    ∙ ap (λ l. joined (l ++ q ∷ [])) (sym c.in-Some-pop.ensures.items) ∙ c.loop-body.invariant
