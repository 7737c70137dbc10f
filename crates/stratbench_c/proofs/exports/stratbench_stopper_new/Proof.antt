-- `stratbench_stopper_new` lends what lies at the handle to `make_stopper`, for a lifetime of its own, has it back, and
-- writes what was made into the room.
use Rattle.std.proofs.Common.{ℕ, [], ◌∷◌, ◌++◌, refl}
use Rattle.std.proofs.raw_atomic.Walks.{proved}
use base.Fraction.{full_share}
use base.Logic.{emp, ex, ex_i, sep, id⊢}
use base.Fml.{ftrue, flft, flent}
use borrow.Table.OneValue.{part_in}
use mir.Syntax.{named}
use mir.Val.{vptr, vunit}
use contract.Monad.{fact, fact_i}
use contract.Running.{tables}
use prog.Wp.{WpFn}
use types.Logic.{sem}
use types.Kit.{‵, raw, ◌⊛◌, some, later, prop, ◌$◌, ◌∵◌, !, qed, done, move, keep, drop, use0, use1, use2, use3, split, join, fsplit, feq_i, pick, await, regoal, suffices, group}
use types.Run.{enter, of_opd, addr, unit_lit, init, stop, no_more, and_then, assigns, returns}
use types.ByLocal.{alloc_all, pass_all, free_all, look_at, get, through, sets, lands_as}
use types.SemTy.{Body}
use types.Tokens.{lft_new, lft_end}
use denote.Exit.{yes}
use denote.Laws.{Is, shows}
use denote.Lend.{lends_ref, ref_back}
use denote.Memory.{mem, part_at}
use denote.RawPtr.{Ptr, RawPtr, block_ptr, lies_at, room_at, in_a_block, rawptr_vals, rawptr_Tells}
use denote.Ref.{MutBor, MutRef}
use denote.Signature.{plain}
use denote.Steps.{nothing, peeks, heard}
use denote.Triple.Call.{calls_at}
use denote.Triple.Clauses.{Lasts, lasts}
use denote.Triple.Spec.{triple_of}
use denote.Triple.Table.{framed}
use denote.Triple.Walked.{Stays, walk_of, stay_dropped, Goes-dropped, ends_at}
use Rattle.stratbench_c.specs.Runs.{MakesStopper}
use Rattle.stratbench_c.specs.declared.bench.Bench.{Bench}
use Rattle.stratbench_c.specs.contracts.bench.Bench.{the_row as R}
use Rattle.stratbench_c.specs.declared.stopping.Stopper.{Stopper}
use Rattle.stratbench_c.specs.contracts.stopping.Stopper.{the_row as S}
use Rattle.stratbench_c.proofs.stopping.Stopper.TheLaws as laws
use Rattle.stratbench_c.specs.contracts.exports.stratbench_stopper_new as f
use Rattle.stratbench_c.proofs.exports.stratbench_stopper_new.Statement.{statement}
use Rattle.stratbench_c.proofs.exports.stratbench_stopper_new.Code as code
use Rattle.stratbench_c.specs.contracts.stopping.make_stopper as g
use Rattle.stratbench_c.proofs.stopping.make_stopper.Met.{met}

abbrev stayed : Stays f.ended.signature.params f.ended.kept
stayed = (stay_dropped _ yes, (stay_dropped _ yes, tt))

pub stratbench_stopper_new_spec : {M : Type 1} → statement M
stratbench_stopper_new_spec 𝓤 𝓛 𝓜 𝓡 wired =
    let c = f.clauses 𝓛 𝓜.mem 𝓡.returns in let W = walk_of 𝓛 f.ended stayed c in let 𝓣 = tables 𝓤 𝓛.H 𝓜 𝓡 𝓡.env in
    proved 𝓛 f.ended stayed c 𝓜 𝓡 (
      Goes-dropped 𝓛 0 (plain (λ _. RawPtr)) yes (λ κs x w. refl),
      (Goes-dropped 𝓛 0 (plain (λ _. RawPtr)) yes (λ κs x w. refl), tt),
    )
    f.Key.name code.function (code.unfolded 𝓤 𝓛.H 𝓜 𝓡 wired)
    (λ κs. (rawptr_vals, (rawptr_vals, tt))) (λ κs. (rawptr_Tells, (rawptr_Tells, tt))) (λ κs qs bounds a old are.
    let y : Ptr → Ptr → W.Ghost = λ p s. ((κs, qs, bounds, (p, (s, tt)), (rawptr_vals p, (rawptr_vals s, tt))), old) in
    let Told = λ (made : Stopper) (new : Bench). MakesStopper made old.work new.work in
    qed 𝓛 ((‵ ftrue ⊛ ‵ (RawPtr.own_val a.0 (rawptr_vals a.0)) ⊛ ‵ (RawPtr.own_val a.1.0 (rawptr_vals a.1.0)) ⊛ ‵ ftrue)
    ∷ (‵ (lies_at R full_share a.0 old) ⊛ ‵ (room_at S a.1.0)) ∷ []) ∵
    keep ! (1 ∷ []) $ split ! $
    -- [what lies at the handle; the room]
    in_a_block ! a.0 (λ p. lies_at R full_share p old) (id⊢ 𝓤 _) (λ b o e. move ! (1 ∷ []) $
    in_a_block ! a.1.0 (λ p. room_at S p) (id⊢ 𝓤 _) (λ d k at.
    -- [the room; what lies at the handle]
    regoal ! (λ p.
    prop (WpFn 𝓤 𝓛.H 𝓣.C 𝓣.Λ code.function (rawptr_vals p ++ (rawptr_vals a.1.0 ++ [])) (W.post (y p a.1.0)))) e refl $
    regoal ! (λ p. prop (WpFn 𝓤 𝓛.H 𝓣.C 𝓣.Λ code.function
    (rawptr_vals (block_ptr b o) ++ (rawptr_vals p ++ [])) (W.post (y (block_ptr b o) p)))) at refl $
    enter ! _ _ _ _ _ $ alloc_all ! (λ l. pass_all ! refl ((tt, tt), ((tt, tt), tt)) $
    sets ! (of_opd ! (get ! refl)) refl (tt, tt) $ sets ! (of_opd ! (get ! refl)) refl (tt, tt) $
    sets ! (addr ! (through ! refl (stop !))) refl (tt, tt) $
    lft_new ! tt (λ α. move ! (2 ∷ []) $
    -- [what lies at the handle; the new token; the room]
    use1 𝓛 (later
    (some (λ (γ : ℕ). ‵ ((MutRef (named 0) (α ∷ []) R).own_val (record { ref_ptr = (b, o); ghost_name = γ; now = old })
    (vptr b o ∷ [])) ⊛ ‵ (flent (α ∷ []) (Body (mem R) b o γ)))))
    (lends_ref 𝓛 R (named 0) (α ∷ []) old b o) $ await ! tt $ pick ! (λ γ. split ! $
    -- [the loan; the lender's part; the new token; the room]
    let G = triple_of 𝓛 g.signature (g.spec 𝓛 𝓜.mem 𝓡.returns) in
    let r : MutBor Bench = record { ref_ptr = (b, o); ghost_name = γ; now = old } in
    let z : G.Ghost = (((α ∷ [], tt), (full_share, tt), tt, (r, tt), (vptr b o ∷ [], tt)), tt) in
    nothing ! $ move ! (1 ∷ 0 ∷ []) $ join ! $ nothing ! $ move ! (3 ∷ 0 ∷ []) $ join ! $ join ! $
    nothing ! $ move ! (1 ∷ 0 ∷ []) $ use2 𝓛 (raw (G.pre z)) (id⊢ 𝓤 _) $
    calls_at ! (framed 𝓤 𝓛.H 𝓜 𝓣) G (met 𝓤 𝓛 𝓜 𝓡 (code.calls-stratbench_c::stopping::make_stopper 𝓡.env wired)) z
    (and_then ! (get ! refl) (no_more !)) (λ v.
    use1 𝓛 (later (some (λ (x : Stopper). ((‵ (flft (α ∷ []) full_share) ⊛ ‵ ftrue) ⊛ ‵ (S.own_val x (v ∷ []))) ⊛
    some (λ (ws : Lasts g.ended z.0.0 z.0.3). ‵ (lasts g.ended z.0.0 z.0.3 ws) ⊛ raw (fact 𝓤 (Told x ws.0))))))
    (id⊢ 𝓤 _) $
    await ! tt $ pick ! (λ x.
    split ! $ split ! $ move ! (2 ∷ []) $ pick ! (λ ws. split ! $ move ! (1 ∷ []) $ heard ! (Told x ws.0) (λ told.
    fsplit
    ! $ fsplit ! $ move ! (1 ∷ []) $ drop ! $ move ! (1 ∷ []) $ drop ! $ move ! (1 ∷ []) $ split ! $ lft_end ! tt $
    -- [the new lifetime is over; nothing; the loan's last value; what is made; the lender's part; the room]
    move ! (0 ∷ 4 ∷ 2 ∷ []) $ use3 𝓛 (later (‵ (part_at R full_share ws.0 b o))) (ref_back 𝓛 R (α ∷ []) γ ws.0 b o)
    $ await ! tt $ move ! (2 ∷ 3 ∷ 0 ∷ []) $
    -- [what is made; the room; what lies at the handle; nothing]
    peeks ! S (Is S) (shows 𝓛 S) x
    (v ∷ []) (λ is. let t = ((laws.the_row_laws.lawful 𝓛).typed x (v ∷ []) is).0 in lands_as ! refl refl t $
    assigns ! (of_opd ! (get ! refl)) (through ! refl (stop !)) (init ! 1 refl t) $
    sets ! (of_opd ! (unit_lit !)) refl (tt, tt) $ returns ! (look_at ! 0 refl) $ free_all ! refl $
    keep ! (1 ∷ 0 ∷ 2 ∷ []) $ use2 𝓛 (‵ (part_at S full_share x d k)) (part_in 𝓛 S refl full_share x d k v) $
    -- [what lies in the room; what lies at the handle]
    suffices
    ! _ (ends_at 𝓛 f.ended stayed c (y (block_ptr b o) (block_ptr d k)) vunit tt (tt, (tt, tt)) (tt, (tt, tt))) $
    use0 𝓛 (raw (fact 𝓤 (Told x ws.0))) (fact_i 𝓤 (Told x ws.0) (emp 𝓤) told)
    $ move ! (2 ∷ 0 ∷ []) $ join ! $ move ! (1 ∷ 0 ∷ []) $ join ! $
    use1 𝓛 (raw (ex 𝓤 (λ (it : Stopper × Bench). sep 𝓤 (sem 𝓛 (lies_at S full_share (block_ptr d k) it.0))
    (sep 𝓤 (sem 𝓛 (lies_at R full_share (block_ptr b o) it.1)) (fact 𝓤 (Told it.0 it.1))))))
    (ex_i 𝓤 (λ (it : Stopper × Bench). sep 𝓤 (sem 𝓛 (lies_at S full_share (block_ptr d k) it.0))
    (sep 𝓤 (sem 𝓛 (lies_at R full_share (block_ptr b o) it.1)) (fact 𝓤 (Told it.0 it.1)))) (x, ws.0)) $
    feq_i ! _ (vunit ∷ []) _ refl
    $ nothing ! $ nothing ! $ join ! $ nothing ! $ join ! $ nothing ! $ group ! 3 $ done !)))))))))))
