-- What the forms of a resolved strategy represent.
use Rattle.strategy_syntax.specs.Resolved.{resolved_patterns_of, ResolvedStrategy, id, fail, matches, builds, seq, guard, test, scope, param, call, congruence, tail_congruence, all, one, some, child, rec, prim, resolveds_of}
use Rattle.strategy_syntax.specs.Heads.{head_of}
use Rattle.strategy_syntax.specs.declared.resolved.ResolvedForm.{ResolvedForm}
use Rattle.strategy_syntax.specs.declared.resolved.ResolvedForm.TheVariants.{Id, Fail, Match, Build, Seq, Guard, Test, Scope, Param, Call, Congruence, TailCongruence, All, One, Some, Child, Rec, Prim}

abbrev pub resolved_of : ResolvedForm → ResolvedStrategy
resolved_of Id = id
resolved_of Fail = fail
resolved_of (Match p) = matches p
resolved_of (Build p) = builds p
resolved_of (Seq parts) = seq parts.value.0 parts.value.1
resolved_of (Guard parts) = guard parts.value.0 parts.value.1 parts.value.2
resolved_of (Test s) = test s.value
resolved_of (Scope n s) = scope n s.value
resolved_of (Param x) = param x
resolved_of (Call f ss ps) = call f (resolveds_of ss.items) (resolved_patterns_of ps.items)
resolved_of (Congruence h ss) = congruence (head_of h) (resolveds_of ss.items)
resolved_of (TailCongruence ss s) = tail_congruence (resolveds_of ss.items) s.value
resolved_of (All s) = all s.value
resolved_of (One s) = one s.value
resolved_of (Some s) = some s.value
resolved_of (Child i s) = child i s.value
resolved_of (Rec s) = rec s.value
resolved_of (Prim n ps) = prim n (resolved_patterns_of ps.items)
