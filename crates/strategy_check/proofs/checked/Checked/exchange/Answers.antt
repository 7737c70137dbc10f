use Rattle.std.proofs.Common.{◌≡◌, ◌≤◌, ◌+◌, ◌++◌, length, ap, sym, ◌∙◌, subst}
use Rattle.std.proofs.lemmas.Result.{on_ok_weaker}
use Rattle.strategy_check.specs.Checking.{Checked, IsChecked}
use Rattle.strategy_check.specs.inside.Staying.{own_count, with_bodies}
use Rattle.strategy_check.proofs.CheckedLemmas.{bodies-within, exchanged}
use Rattle.strategy_check.proofs.checked.Checked.exchange.Goals as goal

pub replace_bodies-requires : goal.replace_bodies-requires
replace_bodies-requires g c =
    let ms = c.args.self.now.modules in
    let old = c.args.old.items in
    let first : c.in_ok-first.first ≡ own_count ms = c.in_ok-first.ensures
    ∙ ap own_count (c.deref.ensures.value ∙ ap (λ (k : Checked). k.modules) c.self.view_is) in
    let gone : c.in_ok-gone.gone ≡ own_count old = c.in_ok-gone.ensures ∙ ap own_count c.deref-2.ensures.value in
    let count = ap (λ (k : Checked). length k.program.bodies) c.self.view_is in
    let within = bodies-within ms old c.args.new.items c.args.after.items c.args.primitives.now c.args.self.now.program
    c.requires.checked in
    subst (λ n. c.in_ok-first.first + c.in_ok-gone.gone ≤ n) (sym count)
    (subst (λ n. n ≤ length c.args.self.now.program.bodies) (sym (λ i. first i + gone i)) within)

pub returns-clause-checked : goal.returns-clause-checked
returns-clause-checked g c =
    let ms = c.args.self.now.modules in
    let p = c.args.self.now.program in
    let old = c.args.old.items in
    let new = c.args.new.items in
    let after = c.args.after.items in
    let T = c.args.table in
    let P = c.args.primitives.now in
    let modules = ap (λ (k : Checked). k.modules) c.self.view_is in
    let first : c.in_ok-first.first ≡ own_count ms = c.in_ok-first.ensures
    ∙ ap own_count (c.deref.ensures.value ∙ modules) in
    let gone : c.in_ok-gone.gone ≡ own_count old = c.in_ok-gone.ensures ∙ ap own_count c.deref-2.ensures.value in
    let program : c.put_back.new.self.program ≡ with_bodies T P (own_count ms) (own_count old) new p =
    c.put_back.ensures.program ∙ c.in_ok-replace_bodies.ensures
    ∙ (λ i. with_bodies T P (first i) (gone i) (c.deref-3.ensures.value i) (c.self.view_is i).program) in
    on_ok_weaker c.put_back.result (λ same.
    subst (IsChecked P)
    (sym (λ i. record { modules = (same ∙ ap (λ ms. ms ++ (new ++ after)) modules) i; program = program i }))
    (exchanged ms old new after P p T c.requires.checked c.requires.table c.requires.stays)) c.put_back.ensures.modules
