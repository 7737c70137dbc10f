use Rattle.std.proofs.Common.{length}
use Rattle.strategy_syntax.specs.Modules as syntax
use Rattle.strategy_parse.specs.declared.modules.sections.Context.TheVariants.{Outside}
use Rattle.strategy_parse.specs.inside.Sections.{Left, SectionStands, built_module}
use Rattle.strategy_parse.proofs.modules.sections.read_sections.Given as goal

-- the whole module is what was read, followed by what the rest gives
abbrev pub invariant-loop-token : goal.invariant-loop-token
invariant-loop-token l = record {
  forth : (m : syntax.Module) → Left Outside l.tokens m → SectionStands l.context (built_module l.built) l.left m;
  back : (m : syntax.Module) → SectionStands l.context (built_module l.built) l.left m → Left Outside l.tokens m;
}

abbrev pub decreases-loop-token : goal.decreases-loop-token
decreases-loop-token l = length l.left
