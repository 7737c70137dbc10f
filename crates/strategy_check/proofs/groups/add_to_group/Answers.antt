use Rattle.std.proofs.Common.{◌≡◌, ℕ, List, Option, Some, length, slice_get, slice_set, refl, ap, sym, ◌∙◌, Result, Ok, Err, OnOk}
use Rattle.std.proofs.lemmas.Option.{slice_get_read}
use Rattle.std.proofs.lemmas.Bool.{ltb-true}
use Rattle.term_core.specs.Tree.{Symbol}
use Rattle.strategy_syntax.specs.Modules.{Definition}
use Rattle.strategy_check.specs.Tables.{Table, definition_number}
use Rattle.strategy_check.specs.inside.Grouping.{with_numbered, with_definition}
use Rattle.strategy_check.proofs.GroupLemmas.{set_member, no_member}
use Rattle.strategy_check.proofs.groups.add_to_group.Goals as goal

-- the number that was found is that of the definition
number : (T : Table) (d : Definition) (o : Option ℕ) (i : ℕ) (f : Symbol) (ss xs : List Symbol)
    → o ≡ definition_number T f (length ss) (length xs) → o ≡ Some i
    → f ≡ d.name → ss ≡ d.strategy_parameters → xs ≡ d.term_parameters → (gs : List (List Definition))
    → with_definition T gs d ≡ with_numbered (Some i) d gs
number T d o i f ss xs found is name strategies terms gs =
    ap (λ o. with_numbered o d gs)
    ((λ j. definition_number T (sym name j) (length (sym strategies j)) (length (sym terms j))) ∙ sym found ∙ is)

on_ok : {X E : Type 0} (r : Result X E) {P Q : Type 0} → (P → Q) → OnOk r P → OnOk r Q
on_ok (Ok x) f h = f h
on_ok (Err e) f h = tt

pub returns-in-Some-get_mut : goal.returns-in-Some-get_mut
returns-in-Some-get_mut c =
    let gs = c.args.groups.now.items in
    let i = c.in-Some.number in
    let d = c.args.definition.now in
    let g : List Definition = c.in-Some-get_mut.group.now in
    let there : slice_get gs i ≡ Some g = slice_get_read gs (length gs) i g refl
    (ltb-true i (length gs) (sym c.in-Some-get_mut.ensures.item.0)) c.in-Some-get_mut.ensures.value in
    on_ok c.push.result (λ e. ap (slice_set gs i) e ∙ set_member i d gs g there
    ∙ sym (number c.args.table.now d c.in_ok-number.field-0 i c.name.result.now
    c.strategy_parameters-strategies.result.now c.term_parameters-terms.result.now c.in_ok-number.ensures c.in-Some.is
    c.name.ensures c.strategy_parameters-strategies.ensures c.term_parameters-terms.ensures gs))
    c.push.ensures

pub returns-in-None : goal.returns-in-None
returns-in-None c =
    let gs = c.args.groups.now.items in
    let i = c.in-Some.number in
    let d = c.args.definition.now in
    no_member i d gs c.in-None.ensures.item.3
    ∙ sym (number c.args.table.now d c.in_ok-number.field-0 i c.name.result.now
    c.strategy_parameters-strategies.result.now c.term_parameters-terms.result.now c.in_ok-number.ensures c.in-Some.is
    c.name.ensures c.strategy_parameters-strategies.ensures c.term_parameters-terms.ensures gs)
