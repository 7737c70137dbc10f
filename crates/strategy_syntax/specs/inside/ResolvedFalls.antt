-- The parts of a resolved strategy have less depth.
use Rattle.std.specs.Prelude.{◌≤◌, ◌+◌, List, [], ◌∷◌, max}
use Rattle.std.proofs.Common.{arith}
use denote.Param.Weighed.{most}
use Rattle.strategy_syntax.specs.Resolved.{ResolvedStrategy, resolveds_of}
use Rattle.strategy_syntax.specs.declared.resolved.ResolvedForm.{ResolvedForm}
use Rattle.strategy_syntax.specs.declared.resolved.ResolvedForm.TheVariants.{Id, Fail, Match, Build, Seq, Guard, Test, Scope, Param, Call, Congruence, TailCongruence, All, One, Some, Child, Rec, Prim}
use Rattle.strategy_syntax.specs.declared.resolved.ResolvedStrategy.TheDeep.{deep-ResolvedForm}
use Rattle.strategy_syntax.specs.ResolvedView.{resolved_of}
use Rattle.strategy_syntax.specs.inside.ResolvedDepth.{depth, depths}

pub most_le-resolveds : (ss : List ResolvedStrategy)
    → most (λ s. depth s + 1) ss ≤ depths (resolveds_of ss) + 1
most_le-resolveds [] = omega arith
most_le-resolveds (s ∷ ss) = omega (arith, most_le-resolveds ss)

pub depth_le-resolved : (n : ResolvedForm) → max (deep-ResolvedForm n) 0 ≤ depth (resolved_of n)
depth_le-resolved Id = omega arith
depth_le-resolved Fail = omega arith
depth_le-resolved (Match p) = omega arith
depth_le-resolved (Build p) = omega arith
depth_le-resolved (Seq parts) = omega arith
depth_le-resolved (Guard parts) = omega arith
depth_le-resolved (Test s) = omega arith
depth_le-resolved (Scope n s) = omega arith
depth_le-resolved (Param x) = omega arith
depth_le-resolved (Call f ss ps) = omega (arith, most_le-resolveds ss.items)
depth_le-resolved (Congruence h ss) = omega (arith, most_le-resolveds ss.items)
depth_le-resolved (TailCongruence ss s) = omega (arith, most_le-resolveds ss.items)
depth_le-resolved (All s) = omega arith
depth_le-resolved (One s) = omega arith
depth_le-resolved (Some s) = omega arith
depth_le-resolved (Child i s) = omega arith
depth_le-resolved (Rec s) = omega arith
depth_le-resolved (Prim n ps) = omega arith
