-- `stratbench_new` writes what `make` makes into the room that it is handed.
use Rattle.std.proofs.Common.{[], ◌∷◌, ◌++◌, refl}
use Rattle.std.proofs.raw_atomic.Walks.{proved}
use base.Fraction.{full_share}
use base.Logic.{emp, ex, ex_i, sep, id⊢}
use base.Fml.{ftrue}
use borrow.Table.OneValue.{part_in}
use mir.Val.{vunit}
use contract.Monad.{fact, fact_i}
use contract.Running.{tables}
use prog.Wp.{WpFn}
use types.Logic.{sem}
use types.Kit.{‵, raw, ◌⊛◌, some, later, prop, ◌$◌, ◌∵◌, !, qed, done, move, keep, drop, use0, use1, use2, split, join, feq_i, pick, await, regoal, suffices, group}
use types.Run.{enter, of_opd, unit_lit, init, stop, no_more, and_then, assigns, returns}
use types.ByLocal.{alloc_all, pass_all, free_all, look_at, get, through, sets, lands_as}
use denote.Exit.{yes}
use denote.Laws.{Is, shows}
use denote.Memory.{part_at}
use denote.RawPtr.{Ptr, RawPtr, block_ptr, lies_at, room_at, in_a_block, rawptr_vals, rawptr_Tells}
use denote.Signature.{plain}
use denote.Steps.{nothing, peeks, heard}
use denote.Triple.Call.{calls_at}
use denote.Triple.Clauses.{Lasts, lasts}
use denote.Triple.Spec.{triple_of}
use denote.Triple.Table.{framed}
use denote.Triple.Walked.{Stays, walk_of, stay_dropped, Goes-dropped, ends_at}
use Rattle.stratbench_c.specs.Runs.{IsNew}
use Rattle.stratbench_c.specs.declared.bench.Bench.{Bench}
use Rattle.stratbench_c.specs.contracts.bench.Bench.{the_row as R}
use Rattle.stratbench_c.proofs.bench.Bench.TheLaws as laws
use Rattle.std.specs.contracts.alloc.Global.{the_row as Heap}
use Rattle.std.proofs.alloc.Global.TheLaws as heap_laws
use Rattle.stratbench_c.specs.contracts.exports.stratbench_new as f
use Rattle.stratbench_c.proofs.exports.stratbench_new.Statement.{statement}
use Rattle.stratbench_c.proofs.exports.stratbench_new.Code as code
use Rattle.stratbench_c.specs.contracts.bench.make as g
use Rattle.stratbench_c.proofs.bench.make.Met.{met}

abbrev stayed : Stays f.ended.signature.params f.ended.kept
stayed = (stay_dropped _ yes, (stay_dropped _ yes, tt))

pub stratbench_new_spec : {M : Type 1} → statement M
stratbench_new_spec 𝓤 𝓛 𝓜 𝓡 wired =
    let c = f.clauses 𝓛 𝓜.mem 𝓡.returns in let W = walk_of 𝓛 f.ended stayed c in let 𝓣 = tables 𝓤 𝓛.H 𝓜 𝓡 𝓡.env in
    proved 𝓛 f.ended stayed c 𝓜 𝓡 (
      Goes-dropped 𝓛 0 (plain (λ _. Heap)) yes (λ κs x w. refl),
      (Goes-dropped 𝓛 0 (plain (λ _. RawPtr)) yes (λ κs x w. refl), tt),
    )
    f.Key.name code.function (code.unfolded 𝓤 𝓛.H 𝓜 𝓡 wired)
    (λ κs. ((λ x. heap_laws.lowers.lowered x ∷ []), (rawptr_vals, tt)))
    (λ κs. (heap_laws.lowers.val_is, (rawptr_Tells, tt))) (λ κs qs bounds a _ are.
    let gv = heap_laws.lowers.lowered a.0 ∷ [] in
    let y : Ptr → W.Ghost = λ p. ((κs, qs, bounds, (a.0, (p, tt)), (gv, (rawptr_vals p, tt))), tt) in
    let Told = λ (new : Bench). IsNew new.work in
    qed 𝓛
    ((‵ ftrue ⊛ ‵ (Heap.own_val a.0 gv) ⊛ ‵ (RawPtr.own_val a.1.0 (rawptr_vals a.1.0)) ⊛ ‵ ftrue) ∷ ‵ (room_at R a.1.0)
    ∷ []) ∵
    split ! $ drop ! $ split ! $ keep ! (0 ∷ 2 ∷ []) $ peeks ! Heap (Is Heap) (shows 𝓛 Heap) a.0 gv
    (λ isg. move ! (1 ∷ []) $
    -- [the room; the handle]
    in_a_block ! a.1.0 (λ p. room_at R p) (id⊢ 𝓤 _) (λ b o e.
    regoal ! (λ p. prop (WpFn 𝓤 𝓛.H 𝓣.C 𝓣.Λ code.function (gv ++ (rawptr_vals p ++ [])) (W.post (y p)))) e refl $
    enter ! _ _ _ _ _
    $ alloc_all ! (λ l. pass_all ! refl (((heap_laws.the_row_laws.lawful 𝓛).typed a.0 gv isg).0, ((tt, tt), tt)) $
    sets ! (of_opd ! (get ! refl)) refl (tt, tt) $
    let G = triple_of 𝓛 g.signature (g.spec 𝓛 𝓜.mem 𝓡.returns) in
    let z : G.Ghost = ((tt, tt, tt, (a.0, tt), (gv, tt)), tt) in
    nothing ! $ move ! (2 ∷ 0 ∷ []) $ join ! $ nothing ! $ join ! $ nothing ! $ move ! (1 ∷ 0 ∷ []) $ use2 𝓛
    (raw (G.pre z)) (id⊢ 𝓤 _) $
    calls_at ! (framed 𝓤 𝓛.H 𝓜 𝓣) G (met 𝓤 𝓛 𝓜 𝓡 (code.calls-stratbench_c::bench::make 𝓡.env wired)) z
    (and_then ! (get ! refl) (no_more !)) (λ v.
    use1 𝓛 (later (some (λ (x : Bench). (‵ ftrue ⊛ ‵ (R.own_val x (v ∷ []))) ⊛ some
    (λ (ws : Lasts g.ended z.0.0 z.0.3). ‵ (lasts g.ended z.0.0 z.0.3 ws) ⊛ raw (fact 𝓤 (Told x)))))) (id⊢ 𝓤 _) $
    await ! tt $ pick
    ! (λ x. split ! $ split ! $ drop ! $ move ! (1 ∷ []) $ pick ! (λ ws. split ! $ drop ! $ heard ! (Told x) (λ told.
    -- [what the value owns; the room]
    peeks ! R (Is R) (shows 𝓛 R) x
    (v ∷ []) (λ is. let t = ((laws.the_row_laws.lawful 𝓛).typed x (v ∷ []) is).0 in lands_as ! refl refl t $
    assigns ! (of_opd ! (get ! refl)) (through ! refl (stop !)) (init ! 1 refl t) $
    sets ! (of_opd ! (unit_lit !)) refl (tt, tt) $ returns ! (look_at ! 0 refl) $ free_all ! refl $
    move ! (1 ∷ 0 ∷ []) $ use2 𝓛 (‵ (part_at R full_share x b o)) (part_in 𝓛 R refl full_share x b o v) $
    suffices ! _ (ends_at 𝓛 f.ended stayed c (y (block_ptr b o)) vunit tt (tt, (tt, tt)) (tt, (tt, tt))) $
    use0 𝓛 (raw (fact 𝓤 (Told x))) (fact_i 𝓤 (Told x) (emp 𝓤) told) $ move ! (1 ∷ 0 ∷ []) $ join ! $
    use1 𝓛 (raw (ex 𝓤 (λ (new : Bench). sep 𝓤 (sem 𝓛 (lies_at R full_share (block_ptr b o) new)) (fact 𝓤 (Told new)))))
    (ex_i 𝓤 (λ (new : Bench). sep 𝓤 (sem 𝓛 (lies_at R full_share (block_ptr b o) new)) (fact 𝓤 (Told new))) x) $
    feq_i ! _ (vunit ∷ []) _ refl
    $ nothing ! $ nothing ! $ join ! $ nothing ! $ join ! $ nothing ! $ group ! 3 $ done !)))))))))
