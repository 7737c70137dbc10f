-- `stratbench_copy` lends what lies at the pointer to `copy_answers`, for a lifetime of its own, has it back, and gives
-- `out` up.
use Rattle.std.proofs.Common.{◌≡◌, ℕ, List, [], ◌∷◌, ◌++◌, refl, w64}
use Rattle.std.proofs.raw_atomic.Walks.{proved}
use base.Fraction.{full_share}
use base.Logic.{emp, id⊢}
use base.Fml.{ftrue, flft, flent}
use mir.Syntax.{named}
use mir.Val.{vptr}
use contract.Monad.{fact, fact_i}
use contract.Running.{tables}
use prog.Wp.{WpFn}
use types.Kit.{‵, raw, ◌⊛◌, some, later, prop, ◌$◌, ◌∵◌, !, qed, done, move, keep, drop, use0, use1, use2, use3, split, split3, join, fsplit, feq_l, pick, await, regoal, rewrite, suffices, group, fjoin}
use types.Run.{enter, of_opd, addr, from, fld, hop, stop, no_more, and_then, returns}
use types.ByLocal.{alloc_all, pass_all, free_all, look_at, look_in_at, get, get_in, through, sets, lands_as}
use types.Part.{agg, sub, whole}
use types.SemTy.{Body}
use types.Tokens.{lft_new, lft_end}
use denote.Builtin.{u8, usize}
use denote.Exit.{yes}
use denote.Laws.{Is, shows}
use denote.Lend.{lends_ref, ref_back}
use denote.Memory.{mem, part_at}
use denote.Plain.{uint_Lawful}
use denote.RawPtr.{Ptr, RawPtr, block_ptr, lies_at, in_a_block, rawptr_vals, rawptr_Tells}
use denote.Ref.{MutBor, MutRef}
use denote.Signature.{plain}
use denote.Slice.{MutSlice, mut_slice_vals, mut_slice_Tells}
use denote.Steps.{nothing, peeks, heard}
use denote.Triple.Call.{calls_at}
use denote.Triple.Clauses.{Lasts, lasts}
use denote.Triple.Spec.{triple_of}
use denote.Triple.Table.{framed}
use denote.Triple.Walked.{Stays, walk_of, stay_dropped, gave_slice, Goes-dropped, Goes-gave_slice, ends_at}
use Rattle.stratbench_c.specs.Runs.{AreCopied, answers_of}
use Rattle.stratbench_c.specs.declared.bench.Bench.{Bench}
use Rattle.stratbench_c.specs.contracts.bench.Bench.{the_row as R}
use Rattle.stratbench_c.specs.contracts.exports.stratbench_copy as f
use Rattle.stratbench_c.proofs.exports.stratbench_copy.Statement.{statement}
use Rattle.stratbench_c.proofs.exports.stratbench_copy.Code as code
use Rattle.stratbench_c.specs.contracts.bench.copy_answers as g
use Rattle.stratbench_c.proofs.bench.copy_answers.Met.{met}

abbrev stayed : Stays f.ended.signature.params f.ended.kept
stayed = (stay_dropped _ yes, (gave_slice (0 ∷ []) tt (plain (λ _. u8)), tt))

pub stratbench_copy_spec : {M : Type 1} → statement M
stratbench_copy_spec 𝓤 𝓛 𝓜 𝓡 wired =
    let c = f.clauses 𝓛 𝓜.mem 𝓡.returns in let W = walk_of 𝓛 f.ended stayed c in let 𝓣 = tables 𝓤 𝓛.H 𝓜 𝓡 𝓡.env in
    proved 𝓛 f.ended stayed c 𝓜 𝓡
    (Goes-dropped 𝓛 1 (plain (λ _. RawPtr)) yes (λ κs x w. refl), (Goes-gave_slice 𝓛 1 0 tt (plain (λ _. u8)), tt))
    f.Key.name code.function (code.unfolded 𝓤 𝓛.H 𝓜 𝓡 wired)
    (λ κs. (rawptr_vals, (mut_slice_vals, tt))) (λ κs. (rawptr_Tells, (mut_slice_Tells (named 0) κs.0 u8, tt)))
    (λ κs qs bounds a old are.
    let κ = κs.0 in let q = qs.0 in let s = a.1.0 in let sv = mut_slice_vals s in let count = are.1.0.0.1.0 in
    let y : Ptr → W.Ghost = λ p. ((κs, qs, bounds, (p, (s, tt)), (rawptr_vals p, (sv, tt))), old) in
    let xs = answers_of old.work in
    let Told = λ (last : List ℕ) (new : Bench) (r : ℕ). AreCopied xs s.now last r × (new ≡ old) in
    qed 𝓛 (((‵ (flft κ q) ⊛ ‵ ftrue) ⊛ ‵ (RawPtr.own_val a.0 (rawptr_vals a.0))
    ⊛ ‵ ((MutSlice (named 0) κ u8).own_val s sv) ⊛ ‵ ftrue) ∷ ‵ (lies_at R full_share a.0 old) ∷ []) ∵
    split ! $ split ! $ move ! (2 ∷ []) $ split3 ! $ keep ! (5 ∷ 1 ∷ 3 ∷ []) $
    -- [what lies at the pointer; the slice; the slice's token]
    in_a_block ! a.0 (λ p. lies_at R full_share p old) (id⊢ 𝓤 _) (λ b o e.
    regoal ! (λ p. prop (WpFn 𝓤 𝓛.H 𝓣.C 𝓣.Λ code.function (rawptr_vals p ++ (sv ++ [])) (W.post (y p)))) e refl $
    enter ! _ _ _ _ _ $ alloc_all ! (λ l. pass_all ! refl ((tt, tt), ((tt, (tt, (record { fits = count }, tt))), tt)) $
    sets ! (of_opd ! (get ! refl)) refl (tt, tt) $
    sets ! (addr ! (through ! refl (stop !))) refl (tt, tt) $
    sets ! (addr ! (from ! (fld ! refl (hop ! (look_in_at ! 2 (sub ! 0 refl (whole !))) (stop !))))) refl (tt, tt) $
    sets !
    (agg ! (and_then ! (get ! refl) (and_then ! (get_in ! (fld ! refl (stop !)) (sub ! 1 refl (whole !))) (no_more !))))
    refl (tt, (tt, (record { fits = count }, tt))) $
    lft_new ! tt (λ α. move ! (1 ∷ []) $
    -- [what lies there; the new token; the slice; the slice's token]
    use1 𝓛 (later
    (some (λ (γ : ℕ). ‵ ((MutRef (named 0) (α ∷ []) R).own_val (record { ref_ptr = (b, o); ghost_name = γ; now = old })
    (vptr b o ∷ [])) ⊛ ‵ (flent (α ∷ []) (Body (mem R) b o γ)))))
    (lends_ref 𝓛 R (named 0) (α ∷ []) old b o) $ await ! tt $ pick ! (λ γ. split ! $
    -- [the loan; the lender's part; the new token; the slice; the slice's token]
    let G = triple_of 𝓛 g.signature (g.spec 𝓛 𝓜.mem 𝓡.returns) in
    let r : MutBor Bench = record { ref_ptr = (b, o); ghost_name = γ; now = old } in
    let z : G.Ghost = (((α ∷ [], (κ, tt)), (full_share, (q, tt)), tt, (r, (s, tt)), (vptr b o ∷ [], (sv, tt))), tt) in
    nothing ! $ move ! (4 ∷ 0 ∷ []) $ join ! $ move ! (1 ∷ 0 ∷ []) $ join ! $
    nothing ! $ move ! (4 ∷ 0 ∷ []) $ join ! $ move ! (3 ∷ 0 ∷ []) $ join ! $ join ! $
    nothing ! $ move ! (1 ∷ 0 ∷ []) $ use2 𝓛 (raw (G.pre z)) (id⊢ 𝓤 _) $
    calls_at ! (framed 𝓤 𝓛.H 𝓜 𝓣) G (met 𝓤 𝓛 𝓜 𝓡 (code.calls-stratbench_c::bench::copy_answers 𝓡.env wired)) z
    (and_then ! (get ! refl) (and_then ! (get ! refl) (no_more !))) (λ v.
    use1 𝓛
    (later (some (λ (n : ℕ). ((‵ (flft (α ∷ []) full_share) ⊛ ‵ (flft κ q) ⊛ ‵ ftrue) ⊛ ‵ (usize.own_val n (v ∷ []))) ⊛
    some (λ (ws : Lasts g.ended z.0.0 z.0.3). ‵ (lasts g.ended z.0.0 z.0.3 ws) ⊛ raw (fact 𝓤 (Told ws.1.0 ws.0 n))))))
    (id⊢ 𝓤 _) $
    await ! tt $ pick ! (λ n. split
    ! $ split ! $ move ! (2 ∷ []) $ pick ! (λ ws. split ! $ move ! (1 ∷ []) $ heard ! (Told ws.1.0 ws.0 n) (λ told.
    fsplit ! $ fsplit ! $ move ! (1 ∷ []) $ drop ! $ move ! (1 ∷ []) $ fsplit ! $ move ! (1 ∷ []) $ drop ! $ fsplit
    ! $ fsplit ! $ move ! (1 ∷ []) $ feq_l ! (λ same_len. fjoin ! $
    -- [what is left of the slice; the loan's last value; the tokens; the result; the lender's part]
    move ! (2 ∷ []) $ split3 ! $ lft_end ! tt $
    -- [the new lifetime is over; the slice's token; nothing; what is left of the slice; the loan's last value; the
    -- result; the lender's part]
    move ! (0 ∷ 6 ∷ 4 ∷ []) $ use3 𝓛 (later (‵ (part_at R full_share ws.0 b o))) (ref_back 𝓛 R (α ∷ []) γ ws.0 b o)
    $ await ! tt $
    rewrite ! 0 (λ (x : Bench). ‵ (part_at R full_share x b o)) told.1 refl $ move ! (4 ∷ []) $
    peeks ! usize (Is usize) (shows 𝓛 usize) n
    (v ∷ []) (λ is. lands_as ! refl refl ((uint_Lawful 𝓛 w64).typed n _ is).0 $
    returns ! (look_at ! 0 refl) $ free_all ! refl $ keep ! (1 ∷ 0 ∷ 2 ∷ 4 ∷ []) $
    -- [what lies there; the result; the slice's token; what is left of the slice]
    suffices ! _ (ends_at 𝓛 f.ended stayed c (y (block_ptr b o)) v n (tt, (ws.1.0, tt)) (tt, (same_len, tt))) $
    use0 𝓛 (raw (fact 𝓤 (AreCopied xs s.now ws.1.0 n))) (fact_i 𝓤 (AreCopied xs s.now ws.1.0 n) (emp 𝓤) told.0)
    $ move ! (1 ∷ 0 ∷ []) $ join ! $
    -- [the `ensures`; the result; the slice's token; what is left of the slice]
    move ! (3 ∷ 1 ∷ 2 ∷ []) $ nothing ! $ move ! (1 ∷ 0 ∷ []) $ join ! $ nothing ! $ join ! $
    -- [the parameters; the result; the token; the `ensures`]
    nothing ! $ move ! (3 ∷ 0 ∷ []) $ join ! $ group ! 3 $ done !)))))))))))
