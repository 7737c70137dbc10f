use Rattle.std.proofs.Common.{◌≡◌, ◌∷◌, [], ◌++◌, ℕ, List, Some, sym, ap, ◌∙◌, subst}
use Rattle.std.specs.List.{AllZip, slice_get}
use Rattle.term_sorts.specs.Sorts.{Injection, TakeNoneAlike}
use Rattle.term_sorts.specs.inside.Tables.{Table, IsNumber}
use Rattle.term_sorts.specs.inside.TableView.{IsTable}
use Rattle.term_sorts.specs.inside.Gaining.{HaveClash, Gains}
use Rattle.term_sorts.specs.declared.table.Row.{Row}
use Rattle.term_sorts.proofs.GainLemmas.{all_gained, clash_shows, still_agreed, table_gained, sorts_gained}
use Rattle.term_sorts.proofs.table.SortTable.joined.Goals as goal

pub returns-then-have_clash-clause-none : goal.returns-then-have_clash-clause-none
returns-then-have_clash-clause-none c = λ agreed.
    let rows = c.self.inside.rows.items in
    let is = c.self.inside.injections.items in
    let i = c.args.injection.now in
    let r = c.in-Some.row.now in
    let gained = c.in_ok-gained.gained.items in
    let of_from = subst (λ (t : Table). IsNumber t.sorts c.args.from i.from) (sym c.self.view_is) c.requires.from in
    let of_to = subst (λ (t : Table). IsNumber t.sorts c.args.to i.to) (sym c.self.view_is) c.requires.to in
    let read : slice_get rows c.args.from ≡ Some r =
    ap (λ (l : List Row). slice_get l c.args.from) (sym c.deref.ensures.value) ∙ sym c.in-Some.ensures in
    let all = all_gained rows is c.self.invariant i.from c.args.from r gained of_from read
    (c.in_ok-gained.ensures.items ∙ c.deref-2.ensures.value) in
    let clash = c.have_clash.ensures.0 c.if-have_clash.true in
    clash_shows rows is c.self.invariant i.from i.to c.args.from c.args.to of_from of_to gained all
    (subst (λ (l : List ℕ). HaveClash rows c.args.to l) c.deref-4.ensures.value
    (subst (λ (l : List Row). HaveClash l c.args.to c.deref-4.result.now) c.deref-3.ensures.value clash))
    (subst (λ (t : Table). TakeNoneAlike (t.injections ++ i ∷ [])) (sym c.self.view_is) agreed)

pub invariant_of-result : goal.invariant_of-result
invariant_of-result c =
    let rows = c.self.inside.rows.items in
    let is = c.self.inside.injections.items in
    let i = c.args.injection.now in
    let r = c.in-Some.row.now in
    let gained = c.in_ok-gained.gained.items in
    let of_from = subst (λ (t : Table). IsNumber t.sorts c.args.from i.from) (sym c.self.view_is) c.requires.from in
    let of_to = subst (λ (t : Table). IsNumber t.sorts c.args.to i.to) (sym c.self.view_is) c.requires.to in
    let read : slice_get rows c.args.from ≡ Some r =
    ap (λ (l : List Row). slice_get l c.args.from) (sym c.deref.ensures.value) ∙ sym c.in-Some.ensures in
    let all = all_gained rows is c.self.invariant i.from c.args.from r gained of_from read
    (c.in_ok-gained.ensures.items ∙ c.deref-2.ensures.value) in
    let new = c.gain_all.new.rows.items in
    let clear : HaveClash rows c.args.to gained → ⊥ = λ h.
    let yes = c.have_clash.ensures.1
    (subst (λ (l : List Row). HaveClash l c.args.to c.deref-4.result.now) (sym c.deref-3.ensures.value)
    (subst (λ (l : List ℕ). HaveClash rows c.args.to l) (sym c.deref-4.ensures.value) h)) in
    let not = c.if-have_clash.false in cc in
    let zip =
    subst (λ (l : List ℕ). AllZip (Gains c.args.to l) rows new) c.deref-5.ensures.value c.in_ok-gain_all.ensures in
    subst (λ (l : List Injection). IsTable new l)
    (ap (λ (j : Injection). is ++ j ∷ []) (sym c.in_ok-try_clone.ensures) ∙ sym c.in_ok-push.ensures.items)
    (table_gained rows is c.self.invariant i.from i.to c.args.from c.args.to of_from of_to gained all new zip clear)

pub returns-clause-agreed : goal.returns-clause-agreed
returns-clause-agreed c =
    let rows = c.self.inside.rows.items in
    let is = c.self.inside.injections.items in
    let i = c.args.injection.now in
    let r = c.in-Some.row.now in
    let gained = c.in_ok-gained.gained.items in
    let of_from = subst (λ (t : Table). IsNumber t.sorts c.args.from i.from) (sym c.self.view_is) c.requires.from in
    let of_to = subst (λ (t : Table). IsNumber t.sorts c.args.to i.to) (sym c.self.view_is) c.requires.to in
    let read : slice_get rows c.args.from ≡ Some r =
    ap (λ (l : List Row). slice_get l c.args.from) (sym c.deref.ensures.value) ∙ sym c.in-Some.ensures in
    let all = all_gained rows is c.self.invariant i.from c.args.from r gained of_from read
    (c.in_ok-gained.ensures.items ∙ c.deref-2.ensures.value) in
    let clear : HaveClash rows c.args.to gained → ⊥ = λ h.
    let yes = c.have_clash.ensures.1
    (subst (λ (l : List Row). HaveClash l c.args.to c.deref-4.result.now) (sym c.deref-3.ensures.value)
    (subst (λ (l : List ℕ). HaveClash rows c.args.to l) (sym c.deref-4.ensures.value) h)) in
    let not = c.if-have_clash.false in cc in
    subst (λ (l : List Injection). TakeNoneAlike l)
    (ap (λ (j : Injection). is ++ j ∷ []) (sym c.in_ok-try_clone.ensures) ∙ sym c.in_ok-push.ensures.items)
    (still_agreed rows is c.self.invariant i.from i.to c.args.from c.args.to of_from of_to gained all clear)

pub returns-clause-sorts : goal.returns-clause-sorts
returns-clause-sorts c =
    let rows = c.self.inside.rows.items in
    let gained = c.in_ok-gained.gained.items in
    let new = c.gain_all.new.rows.items in
    let zip =
    subst (λ (l : List ℕ). AllZip (Gains c.args.to l) rows new) c.deref-5.ensures.value c.in_ok-gain_all.ensures in
    sorts_gained c.args.to gained rows new zip ∙ ap (λ (t : Table). t.sorts) c.self.view_is
