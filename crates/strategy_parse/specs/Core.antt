-- The translation of a text's syntax into core forms.
use Rattle.std.specs.Prelude.{List, [], ◌∷◌, map, length, Some, None}
use Rattle.std.specs.List.{flat_map}
use Rattle.term_core.specs.Tree.{Symbol, same_name, list, tuple}
use Rattle.term_sorts.specs.Sorts as term_sorts
use Rattle.term_sorts.specs.Sorts.{Sort, sort, Sorts, no_sorts, and_sort, sort_list, plain, tuple_sort, Injection}
use Rattle.strategy_syntax.specs.Syntax.{Pattern, Patterns, no_patterns, and_pattern, Strategy, id, fail, matches, builds, seq, guard, test, scope, uses, congruence, tail_congruence, all, one, some, child as nth_child, rec, prim, Strategies, no_strategies, and_strategy}
use Rattle.strategy_syntax.specs.Modules as syntax
use Rattle.strategy_syntax.specs.Lists.{first_ones}
use Rattle.strategy_syntax.specs.Variables.{variables}
use Rattle.strategy_names.specs.Free.{free_variables}
use Rattle.strategy_parse.specs.declared.parser.state.Order.{Order}
use Rattle.strategy_parse.specs.declared.parser.state.Order.TheVariants.{Run, Written}
use Rattle.strategy_parse.specs.declared.parser.state.Operator.{Operator}
use Rattle.strategy_parse.specs.declared.parser.state.Operator.TheVariants.{All, One, Some as SomeChild, Not, Where, Test}
use Rattle.strategy_parse.specs.Written.{Choice, sequence, left_choice, guarded_choice, Seq, last, before, Arrow, arrow, Prefix, question, exclamation, application, identity, failure, operator, if_then, if_then_else, recursion, primitive, local, closure, closure_where, round, square, square_with_tail, name, call, call_with_terms, child, Choices, no_choices, and_choice, Declaration, constant, function, Header, Defined, definition, rule, rule_where, SignaturePart, sorts, constructors, Section, signature, definitions}

-- ---- core forms

-- `s => p` is Seq(s, Match(p))
abbrev pub then_matched : Strategy → Patterns → Strategy
then_matched s no_patterns = s
then_matched s (and_pattern p ps) = then_matched (seq s (matches p)) ps

abbrev pub operated : Operator → Strategy → Strategy
operated All s = all s
operated One s = one s
operated SomeChild s = some s
operated Not s = guard s fail id
operated Where s = test s
operated Test s = test s

-- `(s)` is s; any other number of strategies in round brackets is the congruence of a tuple
abbrev pub in_brackets : Strategies → Strategy
in_brackets no_strategies = congruence tuple no_strategies
in_brackets (and_strategy s no_strategies) = s
in_brackets (and_strategy s (and_strategy r ss)) =
    congruence tuple (and_strategy s (and_strategy r ss))

-- the action of a rule and of a closure without a condition
abbrev pub rewrite : Pattern → Pattern → Strategy
rewrite p q = seq (matches p) (builds q)

-- Two parts in the order in which they are run; in the text the second one stands first.
abbrev pub ordered : Order → Strategy → Strategy → Strategy
ordered Run r s = seq r s
ordered Written r s = seq s r

-- The core form has its parts in the order in which they are run. With its parts in the order of the
-- text it means something else, and only says where a variable first stands free.
module _ (o : Order) where
  abbrev pub rewrite_where : Pattern → Pattern → Strategy → Strategy
  rewrite_where p q s = seq (matches p) (ordered o (test s) (builds q))

  abbrev mutual
    pub core : Choice → Strategy
    core (sequence a) = core_seq a
    core (left_choice a b) = guard (core_seq a) id (core b)
    core (guarded_choice a b c) = guard (core_seq a) (core_seq b) (core c)

    pub core_seq : Seq → Strategy
    core_seq (last a) = core_arrow a
    core_seq (before a b) = seq (core_arrow a) (core_seq b)

    pub core_arrow : Arrow → Strategy
    core_arrow (arrow a ps) = then_matched (core_prefix a) ps

    pub core_prefix : Prefix → Strategy
    core_prefix (question p) = matches p
    core_prefix (exclamation p) = builds p
    core_prefix (application a p) = ordered o (builds p) (core a)
    core_prefix identity = id
    core_prefix failure = fail
    core_prefix (operator o a) = operated o (core a)
    core_prefix (if_then a b) = guard (test (core a)) (core b) id
    core_prefix (if_then_else a b c) = guard (test (core a)) (core b) (core c)
    core_prefix (recursion f a) = rec f (core a)
    core_prefix (primitive n ps) = prim n ps
    core_prefix (local fs a) = scope fs (core a)
    core_prefix (closure p q) = scope (first_ones same_name [] (variables p)) (rewrite p q)
    core_prefix (closure_where p q a) =
        scope (first_ones same_name [] (variables p)) (rewrite_where p q (core a))
    core_prefix (round cs) = in_brackets (core_all cs)
    core_prefix (square cs) = congruence list (core_all cs)
    core_prefix (square_with_tail cs a) = tail_congruence (core_all cs) (core a)
    core_prefix (name f) = uses f no_strategies no_patterns
    core_prefix (call f cs) = uses f (core_all cs) no_patterns
    core_prefix (call_with_terms f cs ps) = uses f (core_all cs) ps
    core_prefix (child i a) = nth_child i (core a)

    pub core_all : Choices → Strategies
    core_all no_choices = no_strategies
    core_all (and_choice a cs) = and_strategy (core a) (core_all cs)

-- ---- modules

-- `string` and `List` are other words for `str` and `list`
abbrev mutual
  pub core_sort : Sort → Sort
  core_sort (sort f ss) = sort (plain f) (core_sorts ss)

  pub core_sorts : Sorts → Sorts
  core_sorts no_sorts = no_sorts
  core_sorts (and_sort s ss) = and_sort (core_sort s) (core_sorts ss)

-- the constructor that a declaration declares, if it has a name
abbrev pub declared : Declaration → List term_sorts.Declaration
declared (constant f s) = record { name = f; arguments = []; result = core_sort s } ∷ []
declared (function None ss r) = []
declared (function (Some f) ss r) =
    record { name = f; arguments = sort_list (core_sorts ss); result = core_sort r } ∷ []

-- the same without sorts
abbrev pub constructed : Declaration → List syntax.Constructor
constructed d = map (λ c. record { name = c.name; arity = length c.arguments }) (declared d)

-- several arguments are injected as the tuple of them
abbrev pub injected_sort : List Sort → Sort
injected_sort (s ∷ []) = s
injected_sort ss = tuple_sort ss

-- the injection that a declaration without a name declares
abbrev pub injected : Declaration → List Injection
injected (constant f s) = []
injected (function None ss r) =
    record { from = injected_sort (sort_list (core_sorts ss)); to = core_sort r } ∷ []
injected (function (Some f) ss r) = []

abbrev pub defined : Header → Strategy → syntax.Definition
defined h s = record {
  name = h.name;
  strategy_parameters = h.strategies;
  term_parameters = h.terms;
  body = s;
}

-- The strategy in a scope of the variables that are free in it, except for these parameters, in the
-- order of the text.
abbrev pub closed : List Symbol → (Order → Strategy) → Strategy
closed parameters s = scope (free_variables parameters (s Written)) (s Run)

-- A rule is a definition whose body is a scope of the variables free in it, except for its term
-- parameters.
abbrev pub core_definition : Defined → syntax.Definition
core_definition (definition h a) = defined h (core Run a)
core_definition (rule h p q) = defined h (closed h.terms (λ o. rewrite p q))
core_definition (rule_where h p q a) = defined h (closed h.terms (λ o. rewrite_where o p q (core o a)))

-- what all declarations of a section declare, if one declares this
module _ {X : Type 0} (one : Declaration → List X) where
  abbrev pub in_part : SignaturePart → List X
  in_part (sorts ss) = []
  in_part (constructors ds) = flat_map one ds

  abbrev pub in_section : Section → List X
  in_section (signature parts) = flat_map in_part parts
  in_section (definitions ds) = []

abbrev pub defined_in : Section → List syntax.Definition
defined_in (signature parts) = []
defined_in (definitions ds) = map core_definition ds

-- The declarations and definitions of a module's sections, in the order of the text. Definitions of
-- the same name are kept apart here: which of them are one definition depends on all loaded modules
-- together.
abbrev pub core_module : List Section → syntax.Module
core_module ss = record {
  constructors = flat_map (in_section constructed) ss;
  declarations = flat_map (in_section declared) ss;
  injections = flat_map (in_section injected) ss;
  definitions = flat_map defined_in ss;
}
