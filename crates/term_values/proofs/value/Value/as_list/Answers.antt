use Rattle.std.proofs.Common.{◌≡◌, IfOk, ap, sym, ◌∙◌, subst}
use Rattle.term_core.specs.Tree.{Tree}
use Rattle.term_values.specs.inside.ValueView.{form_tree}
use Rattle.term_values.proofs.ListLemmas.{is_list}
use Rattle.term_values.proofs.value.Value.as_list.Goals as goal

pub returns-in-Joined : goal.returns-in-Joined
returns-in-Joined c =
    let whole = ap form_tree (sym c.in-Joined.is) ∙ c.self.view_is in
    subst (λ (x : Tree). IfOk c.try_clone.result (λ value. value ≡ x)) (is_list _ c.args.self.now (sym whole))
    c.try_clone.ensures
