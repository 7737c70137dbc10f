use Rattle.std.proofs.Common.{arith, refl, ◌∙◌, ◌-◌}
use Rattle.strategy_machine.specs.Table.{scopes, scope_at}
use Rattle.strategy_machine.specs.Turns.{world_of}
use Rattle.strategy_machine.proofs.TakeLemmas.{run_step, no_steps}
use Rattle.strategy_machine.proofs.names.start_of.Goals as goal

pub through-init : goal.through-init
through-init g c = (c.requires, omega arith, λ k B t. refl)

pub returns-then-left-eq0 : goal.returns-then-left-eq0
returns-then-left-eq0 g c =
    let W =
    world_of g.M.Meaning.meaning c.args.host.now.definitions.now c.args.host.now.primitives.now c.args.host.now.room in
    λ k B t. c.through.invariant.2 k B t ∙ no_steps W (scope_at (scopes c.args.scopes.now) c.through.scope) k
    c.through.strategy.now c.through.left B t c.if-left-eq0.true

pub known_as-requires : goal.known_as-requires
known_as-requires g c = c.through.invariant.0

pub returns-in_default : goal.returns-in_default
returns-in_default g c =
    let W =
    world_of g.M.Meaning.meaning c.args.host.now.definitions.now c.args.host.now.primitives.now c.args.host.now.room in
    record {
      there = c.through.invariant.0;
      left = omega (arith, c.if-left-eq0.false, c.through.invariant.1);
      is = λ k B t. c.through.invariant.2 k B t ∙ run_step W (scope_at (scopes c.args.scopes.now) c.through.scope) k
          c.through.strategy.now c.through.left (c.through.left - 1) B t (omega (arith, c.if-left-eq0.false));
    }

pub through-preserved : goal.through-preserved
through-preserved g c =
    let W = world_of g.M.Meaning.meaning c.args.host.now.definitions.now c.args.host.now.primitives.now
    c.args.host.now.room in (
      c.in-Some.ensures.there,
      omega (arith, c.through.invariant.1),
      λ k B t. c.through.invariant.2 k B t ∙ run_step W (scope_at (scopes c.args.scopes.now) c.through.scope) k
          c.through.strategy.now c.through.left (c.through.left - 1) B t (omega (arith, c.if-left-eq0.false))
          ∙ c.in-Some.ensures.is k (c.through.left - 1) B t,
    )
