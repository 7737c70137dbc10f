use Rattle.std.proofs.Common.{ℕ, [], ◌∷◌, ◌++◌, ap, sym, ◌∙◌, subst}
use Rattle.std.specs.Option.{option_flatten}
use Rattle.term_core.specs.Tree.{Symbol}
use Rattle.strategy_names.specs.declared.binders.OpenBinder.{OpenBinder}
use Rattle.strategy_names.specs.Binders.{Binder}
use Rattle.strategy_names.specs.inside.BinderView.{IsKept, binders_of}
use Rattle.strategy_names.proofs.BinderLemmas.{opened, binders_of-last}
use Rattle.strategy_names.proofs.binders.Binders.open.Goals as goal

abbrev with_number : Symbol → ℕ → Binder
with_number x n = record { name = x; number = n }

pub invariant_of-self-2 : goal.invariant_of-self-2
invariant_of-self-2 c =
    let e : OpenBinder =
    record { name = c.in_ok-name.name; number = c.args.number; hidden = c.flatten-hidden.result } in
    subst (IsKept c.insert.new.self)
    (sym (c.push_reserved.ensures.items ∙ ap (λ l. l ++ e ∷ []) c.reserve.ensures.items))
    (opened c.self.inside.numbers c.insert.new.self c.self.inside.entries.items e c.in_ok-key.key
    c.self.invariant c.in_ok-insert.ensures.updates.0 (c.in_ok-name.ensures ∙ sym c.in_ok-key.ensures)
    (c.flatten-hidden.ensures ∙ ap option_flatten c.in_ok-insert.ensures.old))

pub returns : goal.returns
returns c =
    let e : OpenBinder =
    record { name = c.in_ok-name.name; number = c.args.number; hidden = c.flatten-hidden.result } in
    ap binders_of (c.push_reserved.ensures.items ∙ ap (λ l. l ++ e ∷ []) c.reserve.ensures.items)
    ∙ binders_of-last c.self.inside.entries.items e
    ∙ ap (λ x. with_number x c.args.number ∷ binders_of c.self.inside.entries.items) c.in_ok-name.ensures
    ∙ ap (λ bs. with_number c.args.name.now c.args.number ∷ bs) c.self.view_is
