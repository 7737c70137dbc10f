-- What a resolved strategy keeps of its alternatives.
use Rattle.std.specs.Prelude.{ℕ, cond, eqb, get_or, Some, None, Box, ⊤}
use Rattle.std.specs.Global.{Global}
use Rattle.std.specs.declared.option.Option.{Option}
use Rattle.strategy_syntax.specs.Resolved.{ResolvedStrategy}
use Rattle.strategy_syntax.specs.Apart.{AreApart}
use Rattle.strategy_syntax.specs.declared.skips.Skips.{Skips}

abbrev pub by_child : Skips → ℕ → Option (ℕ × ℕ) → ℕ
by_child k a None = 0
by_child k a (Some (i, c)) = cond (eqb i a) (get_or k.counts c 0) 0

abbrev pub by_asking : Skips → Option ℕ → ℕ → Option (ℕ × ℕ) → ℕ
by_asking k None r c = get_or k.counts r 0
by_asking k (Some a) r c = cond (eqb r k.root) (by_child k a c) k.others

-- how many alternatives are skipped for a term of these classes
abbrev pub count_of : Skips → ℕ → Option (ℕ × ℕ) → ℕ
count_of k r c = by_asking k k.child r c

-- none of those that are skipped can match
pub record Skipping (k : Skips) (s : ResolvedStrategy) : Type 0 where
  pub apart : (r : ℕ) (c : Option (ℕ × ℕ)) → AreApart (count_of k r c) s r c

abbrev pub Kept : Option (Box Skips Global) → ResolvedStrategy → Type 0
Kept None s = ⊤
Kept (Some k) s = Skipping k.value s
