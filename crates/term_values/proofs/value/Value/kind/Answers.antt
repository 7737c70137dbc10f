use Rattle.std.proofs.Common.{[], ◌++◌, drop, ap, sym, ◌∙◌}
use Rattle.term_core.specs.Tree.{children}
use Rattle.term_core.specs.declared.kind.Kind.TheVariants.{List as AList}
use Rattle.term_values.specs.inside.ValueView.{form_tree, front_list}
use Rattle.term_values.proofs.KindLemmas.{kind-made_of, kind_along}
use Rattle.term_values.proofs.value.Value.kind.Goals as goal

pub returns-in-Rest : goal.returns-in-Rest
returns-in-Rest c =
    kind_along AList _ c.args.self.now (ap form_tree (sym c.in-Rest.is) ∙ c.self.view_is)
    (kind-made_of AList (drop c.in-Rest.field-1 (children c.in-Rest.field-0.now)) [])

pub returns-in-Joined : goal.returns-in-Joined
returns-in-Joined c =
    let j = c.in-Joined.field-0.value in
    kind_along AList _ c.args.self.now (ap form_tree (sym c.in-Joined.is) ∙ c.self.view_is)
    (kind-made_of AList (front_list j.front ++ children j.after) [])
