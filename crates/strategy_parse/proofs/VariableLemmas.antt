-- Collecting the variables of patterns.
use Rattle.std.proofs.Common.{◌≡◌, ℕ, suc, zero, ◌+◌, ◌<◌, ◌≤◌, List, [], ◌∷◌, ◌++◌, length, get_or, take, refl, sym, ap, ◌∙◌, arith, add-one, append_assoc, append-nil}
use Rattle.std.proofs.Math.Seq.{take-suc}
use Rattle.term_core.specs.Tree.{Symbol}
use Rattle.strategy_syntax.specs.Syntax.{Pattern, patterns_of}
use Rattle.strategy_syntax.specs.inside.PatternDepth.{pattern_depth, patterns_depth}
use Rattle.strategy_syntax.specs.Variables.{variables, variables_of_all}

pub after_one_name : (names : List Symbol) (x : Symbol) (rest : List Symbol)
    → (names ++ x ∷ []) ++ rest ≡ names ++ x ∷ rest
after_one_name names x rest = append_assoc names (x ∷ []) rest

-- a part of a list of patterns is at most as deep
pub item-depth : (ps : List Pattern) (i : ℕ) (p : Pattern) → i < length ps → p ≡ get_or ps i p
    → pattern_depth p ≤ patterns_depth (patterns_of ps)
item-depth [] i p lt at = absurd (omega arith)
item-depth (q ∷ ps) zero p lt at = let e : pattern_depth p ≡ pattern_depth q = ap pattern_depth at in omega arith
item-depth (q ∷ ps) (suc i) p lt at = let h = item-depth ps i p (omega arith) at in omega arith

variables-append : (ps qs : List Pattern)
    → variables_of_all (patterns_of (ps ++ qs)) ≡ variables_of_all (patterns_of ps) ++ variables_of_all (patterns_of qs)
variables-append [] qs = refl
variables-append (p ∷ ps) qs = ap (λ l. variables p ++ l) (variables-append ps qs)
    ∙ sym (append_assoc (variables p) (variables_of_all (patterns_of ps)) (variables_of_all (patterns_of qs)))

-- the variables of one more pattern
pub variables-next : (ps : List Pattern) (i : ℕ) (p : Pattern) → i < length ps → p ≡ get_or ps i p
    → variables_of_all (patterns_of (take (i + 1) ps)) ≡ variables_of_all (patterns_of (take i ps)) ++ variables p
variables-next ps i p lt at =
    rw add-one (ap (λ l. variables_of_all (patterns_of l)) (take-suc ps i p lt)
    ∙ ap (λ q. variables_of_all (patterns_of (take i ps ++ q ∷ []))) (sym at)
    ∙ variables-append (take i ps) (p ∷ [])
    ∙ ap (λ l. variables_of_all (patterns_of (take i ps)) ++ l) (append-nil (variables p)))

pub ruleset variable_rules = (after_one_name)
