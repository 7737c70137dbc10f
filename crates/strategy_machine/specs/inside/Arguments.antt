-- What building several patterns returns.
use Rattle.std.specs.Prelude.{◌≡◌, ℕ, List}
use Rattle.term_core.specs.Tree.{Tree}
use Rattle.strategy_syntax.specs.Resolved.{ResolvedPatterns}
use Rattle.strategy_meaning.specs.Matching.{Bindings}
use Rattle.strategy_meaning.specs.Answer.{Answer, failed, stopped, big}
use Rattle.strategy_meaning.specs.Meaning.{built_all}
use Rattle.strategy_machine.specs.declared.arguments.BuiltAll.{BuiltAll}
use Rattle.strategy_machine.specs.declared.arguments.BuiltAll.TheVariants.{All, Nothing, Big}

-- Their instances are us, or one pattern has none, or one instance doesn't fit; each case
-- determines how the run continues.
abbrev pub AreBuilt : ℕ → ResolvedPatterns → List ℕ → Bindings → ℕ → List Tree → BuiltAll → Type 0
AreBuilt room ps E B l us All = (c : ℕ) (go : List Tree → Answer) → built_all room ps E B l c go ≡ go us
AreBuilt room ps E B l us Nothing = (c : ℕ) (go : List Tree → Answer) → built_all room ps E B l c go ≡ failed c
AreBuilt room ps E B l us Big = (c : ℕ) (go : List Tree → Answer) → built_all room ps E B l c go ≡ stopped big
