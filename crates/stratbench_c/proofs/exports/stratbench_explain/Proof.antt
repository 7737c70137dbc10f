-- `stratbench_explain` lends what lies at the pointer to `explain_calls`, for a lifetime of its own, and has it back.
use Rattle.std.proofs.Common.{ℕ, [], ◌∷◌, ◌++◌, refl, w32}
use Rattle.std.proofs.raw_atomic.Walks.{proved}
use base.Fraction.{full_share}
use base.Logic.{emp, ex, ex_i, sep, id⊢}
use base.Fml.{ftrue, flft, flent}
use mir.Syntax.{named}
use mir.Val.{vint, vptr}
use contract.Monad.{fact, fact_i}
use contract.Running.{tables}
use prog.Wp.{WpFn}
use types.Logic.{sem}
use types.Kit.{‵, raw, ◌⊛◌, some, later, prop, ◌$◌, ◌∵◌, !, qed, done, move, keep, drop, use0, use1, use2, use3, split, join, fsplit, pick, await, regoal, suffices, group}
use types.Run.{enter, of_opd, addr, stop, no_more, and_then, returns}
use types.ByLocal.{alloc_all, pass_all, free_all, look_at, get, through, sets, lands_as}
use types.SemTy.{Body}
use types.Tokens.{lft_new, lft_end}
use denote.Builtin.{u32}
use denote.Exit.{yes}
use denote.Laws.{Is, shows}
use denote.Lend.{lends_ref, ref_back}
use denote.Memory.{mem, part_at}
use denote.Plain.{uint_Lawful, uint_Makes, uint_vals, uint_Tells}
use denote.RawPtr.{Ptr, RawPtr, block_ptr, lies_at, in_a_block, rawptr_vals, rawptr_Tells}
use denote.Ref.{MutBor, MutRef}
use denote.Signature.{plain}
use denote.Steps.{nothing, owned, peeks, heard}
use denote.Triple.Call.{calls_at}
use denote.Triple.Clauses.{Lasts, lasts}
use denote.Triple.Spec.{triple_of}
use denote.Triple.Table.{framed}
use denote.Triple.Walked.{Stays, walk_of, stay_dropped, Goes-dropped, ends_at}
use Rattle.stratbench_c.specs.Runs.{TellsExplained}
use Rattle.stratbench_c.specs.declared.bench.Bench.{Bench}
use Rattle.stratbench_c.specs.contracts.bench.Bench.{the_row as R}
use Rattle.stratbench_c.specs.contracts.exports.stratbench_explain as f
use Rattle.stratbench_c.proofs.exports.stratbench_explain.Statement.{statement}
use Rattle.stratbench_c.proofs.exports.stratbench_explain.Code as code
use Rattle.stratbench_c.specs.contracts.bench.explain_calls as g
use Rattle.stratbench_c.proofs.bench.explain_calls.Met.{met}

abbrev stayed : Stays f.ended.signature.params f.ended.kept
stayed = (stay_dropped _ yes, (stay_dropped _ yes, tt))

pub stratbench_explain_spec : {M : Type 1} → statement M
stratbench_explain_spec 𝓤 𝓛 𝓜 𝓡 wired =
    let c = f.clauses 𝓛 𝓜.mem 𝓡.returns in let W = walk_of 𝓛 f.ended stayed c in let 𝓣 = tables 𝓤 𝓛.H 𝓜 𝓡 𝓡.env in
    proved 𝓛 f.ended stayed c 𝓜 𝓡 (
      Goes-dropped 𝓛 0 (plain (λ _. RawPtr)) yes (λ κs x w. refl),
      (Goes-dropped 𝓛 0 (plain (λ _. u32)) yes (λ κs x w. refl), tt),
    )
    f.Key.name code.function (code.unfolded 𝓤 𝓛.H 𝓜 𝓡 wired)
    (λ κs. (rawptr_vals, (uint_vals w32, tt))) (λ κs. (rawptr_Tells, (uint_Tells w32, tt))) (λ κs qs bounds a old are.
    let k = a.1.0 in let kv = vint w32 k ∷ [] in let fits = are.1.0.1 in
    let y : Ptr → W.Ghost = λ p. ((κs, qs, bounds, (p, (k, tt)), (rawptr_vals p, (kv, tt))), old) in
    let Told = λ (new : Bench) (r : ℕ). TellsExplained r old.work new.work in
    qed 𝓛 ((‵ ftrue ⊛ ‵ (RawPtr.own_val a.0 (rawptr_vals a.0)) ⊛ ‵ (u32.own_val k kv) ⊛ ‵ ftrue)
    ∷ ‵ (lies_at R full_share a.0 old) ∷ []) ∵
    keep ! (1 ∷ []) $
    in_a_block ! a.0 (λ p. lies_at R full_share p old) (id⊢ 𝓤 _) (λ b o e.
    regoal ! (λ p. prop (WpFn 𝓤 𝓛.H 𝓣.C 𝓣.Λ code.function (rawptr_vals p ++ (kv ++ [])) (W.post (y p)))) e refl $
    enter ! _ _ _ _ _ $ alloc_all ! (λ l. pass_all ! refl ((tt, tt), ((tt, record { fits = fits }), tt)) $
    sets ! (of_opd ! (get ! refl)) refl (tt, tt) $
    sets ! (addr ! (through ! refl (stop !))) refl (tt, tt) $
    lft_new ! tt (λ α. move ! (1 ∷ []) $
    -- [what lies there; the new token]
    use1 𝓛 (later
    (some (λ (γ : ℕ). ‵ ((MutRef (named 0) (α ∷ []) R).own_val (record { ref_ptr = (b, o); ghost_name = γ; now = old })
    (vptr b o ∷ [])) ⊛ ‵ (flent (α ∷ []) (Body (mem R) b o γ)))))
    (lends_ref 𝓛 R (named 0) (α ∷ []) old b o) $ await ! tt $ pick ! (λ γ. split ! $
    -- [the loan; the lender's part; the new token]
    let G = triple_of 𝓛 g.signature (g.spec 𝓛 𝓜.mem 𝓡.returns) in
    let r : MutBor Bench = record { ref_ptr = (b, o); ghost_name = γ; now = old } in
    let z : G.Ghost = (((α ∷ [], tt), (full_share, tt), tt, (r, (k, tt)), (vptr b o ∷ [], (kv, tt))), tt) in
    nothing ! $ owned ! u32 _ (uint_Makes 𝓛 w32) k _ (refl, fits)
    $ join ! $ move ! (1 ∷ 0 ∷ []) $ join ! $ nothing ! $ move ! (3 ∷ 0 ∷ []) $ join ! $ join ! $
    nothing ! $ move ! (1 ∷ 0 ∷ []) $ use2 𝓛 (raw (G.pre z)) (id⊢ 𝓤 _) $
    calls_at ! (framed 𝓤 𝓛.H 𝓜 𝓣) G (met 𝓤 𝓛 𝓜 𝓡 (code.calls-stratbench_c::bench::explain_calls 𝓡.env wired)) z
    (and_then ! (get ! refl) (and_then ! (get ! refl) (no_more !))) (λ v.
    use1 𝓛 (later (some (λ (n : ℕ). ((‵ (flft (α ∷ []) full_share) ⊛ ‵ ftrue) ⊛ ‵ (u32.own_val n (v ∷ []))) ⊛
    some (λ (ws : Lasts g.ended z.0.0 z.0.3). ‵ (lasts g.ended z.0.0 z.0.3 ws) ⊛ raw (fact 𝓤 (Told ws.0 n))))))
    (id⊢ 𝓤 _) $
    await ! tt $ pick ! (λ n.
    split ! $ split ! $ move ! (2 ∷ []) $ pick ! (λ ws. split ! $ move ! (1 ∷ []) $ heard ! (Told ws.0 n) (λ told.
    fsplit
    ! $ fsplit ! $ move ! (1 ∷ []) $ drop ! $ move ! (1 ∷ []) $ drop ! $ move ! (1 ∷ []) $ split ! $ lft_end ! tt $
    -- [the new lifetime is over; nothing; the loan's last value; the result; the lender's part]
    move ! (0 ∷ 4 ∷ 2 ∷ []) $ use3 𝓛 (later (‵ (part_at R full_share ws.0 b o))) (ref_back 𝓛 R (α ∷ []) γ ws.0 b o)
    $ await ! tt $ move ! (2 ∷ []) $
    peeks ! u32 (Is u32) (shows 𝓛 u32) n (v ∷ []) (λ is. lands_as ! refl refl ((uint_Lawful 𝓛 w32).typed n _ is).0 $
    returns ! (look_at ! 0 refl) $ free_all ! refl $ keep ! (1 ∷ 0 ∷ []) $
    -- [what lies there; the result]
    suffices ! _ (ends_at 𝓛 f.ended stayed c (y (block_ptr b o)) v n (tt, (tt, tt)) (tt, (tt, tt))) $
    use0 𝓛 (raw (fact 𝓤 (Told ws.0 n))) (fact_i 𝓤 (Told ws.0 n) (emp 𝓤) told) $ move ! (1 ∷ 0 ∷ []) $ join ! $
    use1 𝓛
    (raw (ex 𝓤 (λ (new : Bench). sep 𝓤 (sem 𝓛 (lies_at R full_share (block_ptr b o) new)) (fact 𝓤 (Told new n)))))
    (ex_i 𝓤 (λ (new : Bench). sep 𝓤 (sem 𝓛 (lies_at R full_share (block_ptr b o) new)) (fact 𝓤 (Told new n))) ws.0) $
    -- [the `ensures`; the result]
    move ! (1 ∷ []) $ nothing ! $ nothing ! $ join ! $ nothing ! $ join ! $ nothing ! $ group ! 3 $ done !))))))))))
