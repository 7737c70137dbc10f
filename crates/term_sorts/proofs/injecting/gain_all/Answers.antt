use Rattle.std.proofs.Common.{◌<◌, ◌∙◌, ℕ, sym, arith, subst, List, length, refl, take}
use Rattle.std.proofs.lemmas.List.{take_all, length-set}
use Rattle.std.specs.List.{AllZip, Contains}
use Rattle.term_sorts.specs.inside.Gaining.{Gains}
use Rattle.term_sorts.specs.declared.table.Row.{Row}
use Rattle.term_sorts.proofs.GainLemmas.{done_more, rest_more, gains_nothing, gains_all}
use Rattle.term_sorts.proofs.injecting.gain_all.Goals as goal
use Rattle.term_sorts.proofs.injecting.gain_all.Goals.{then-is_among+in_ok-add_all, else-is_among}

pub loop-i-preserved : goal.loop-i-preserved
loop-i-preserved c =
    let i = c.loop-i.i in
    let start = c.args.rows.now.items in
    let now = c.loop-i.rows.items in
    let old = c.index_mut-row.result.now in
    let gained = c.args.gained.now in
    let below : i < length now =
    omega (arith, c.loop-i-test.true, c.len-i-end.ensures, c.args.rows.now.ok.0, c.loop-i.invariant.long) in
    let read = c.index_mut-row.ensures.value in
    let among = subst (λ (l : List ℕ). Contains l c.args.to) c.deref.ensures.value in
    elim c.if-is_among.branch [
      | then-is_among+in_ok-add_all w ↦
          let new : Row = record { sort = old.sort; arguments = old.arguments; taken = w.add_all.new.numbers } in
          let gains = gains_all c.args.to gained old new refl refl (among (c.is_among.ensures.0 w.if-is_among.true))
          w.in_ok-add_all.ensures in
          rw w.rows-is record {
            long = length-set now i new ∙ c.loop-i.invariant.long;
            done = done_more c.args.to gained start now i old new c.loop-i.invariant.long below read gains
                c.loop-i.invariant.done c.loop-i.invariant.rest;
            rest = rest_more c.args.to gained start now i old new c.loop-i.invariant.long below read gains
                c.loop-i.invariant.done c.loop-i.invariant.rest;
          }
      | else-is_among w ↦
          let apart : Contains old.taken.items c.args.to → ⊥ = λ h.
          let yes = c.is_among.ensures.1 (subst (λ (l : List ℕ). Contains l c.args.to) (sym c.deref.ensures.value) h) in
          let not = w.if-is_among.false in cc in
          let gains = gains_nothing c.args.to gained old apart in
          rw w.rows-is record {
            long = length-set now i old ∙ c.loop-i.invariant.long;
            done = done_more c.args.to gained start now i old old c.loop-i.invariant.long below read gains
                c.loop-i.invariant.done c.loop-i.invariant.rest;
            rest = rest_more c.args.to gained start now i old old c.loop-i.invariant.long below read gains
                c.loop-i.invariant.done c.loop-i.invariant.rest;
          }
    ]

pub returns : goal.returns
returns c =
    let i = c.loop-i.i in
    let start = c.args.rows.now.items in
    let now = c.loop-i.rows.items in
    subst (λ (l : List Row). AllZip (Gains c.args.to c.args.gained.now) l now)
    (take_all i start (omega (arith, c.loop-i-test.false, c.len-i-end.ensures, c.args.rows.now.ok.0)))
    (subst (λ (l : List Row). AllZip (Gains c.args.to c.args.gained.now) (take i start) l)
    (take_all i now
    (omega (arith, c.loop-i-test.false, c.len-i-end.ensures, c.args.rows.now.ok.0, c.loop-i.invariant.long)))
    c.loop-i.invariant.done)
