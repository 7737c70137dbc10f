use Rattle.std.proofs.Common.{◌≡◌, [], ◌∷◌, ◌++◌, ◌<◌, drop, ap, sym, ◌∙◌, subst, IsSome, ◌↔◌}
use Rattle.std.specs.Option.{option_copied}
use Rattle.strategy_names.specs.inside.BinderView.{IsKept, binders_of}
use Rattle.strategy_names.proofs.BinderLemmas.{closed, last_is, binders_of-last}
use Rattle.strategy_names.proofs.binders.Binders.close.Goals as goal

last : (c : goal.Joined-pop) → c.self.inside.entries.items ≡ c.pop.new.self.items ++ c.in-Some.last.now ∷ []
last c =
    let es = c.deref.result.now in
    let at = ap option_copied (sym c.in-Some.is) ∙ c.last.ensures.value in
    let some = subst (λ n. IsSome c.pop.result ↔ (0 < n)) (sym c.deref.ensures.len) c.pop.ensures.variant in
    sym c.deref.ensures.value ∙ last_is es c.pop.new.self.items c.pop.result c.in-Some.last.now
    (c.deref.ensures.value ∙ c.pop.ensures.items) some at

pub invariant_of-self-2 : goal.invariant_of-self-2
invariant_of-self-2 c =
    closed c.self.inside.numbers c.insert.new.self c.pop.new.self.items c.in-Some.last.now c.in_ok-key.key
    (subst (IsKept c.self.inside.numbers) (last c) c.self.invariant) c.in_ok-insert.ensures.updates.0
    c.in_ok-key.ensures

pub returns : goal.returns
returns c =
    ap (drop 1) (sym (ap binders_of (last c) ∙ binders_of-last c.pop.new.self.items c.in-Some.last.now))
    ∙ ap (drop 1) c.self.view_is
