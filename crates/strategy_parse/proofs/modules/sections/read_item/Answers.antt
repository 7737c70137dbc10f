use Rattle.std.proofs.lemmas.Result.{IfOk-weaker}
use Rattle.strategy_parse.proofs.SortLemmas.{sort_found}
use Rattle.strategy_parse.proofs.ModuleFrames.{sort_shorter}
use Rattle.strategy_parse.proofs.SectionLemmas.{sort_forth, sort_after, sort_none, no_item}
use Rattle.strategy_parse.specs.inside.Sections.{built_module}
use Rattle.strategy_parse.proofs.modules.sections.read_item.Goals as goal

pub returns-in-Sorts-clause-forth : goal.returns-in-Sorts-clause-forth
returns-in-Sorts-clause-forth c =
    rw c.in-Sorts.is (IfOk-weaker c.skip_sort.result _ _
    (λ rest found m. sort_forth (built_module c.args.built.now) c.args.tokens.now m c.requires rest.now found)
    c.skip_sort.ensures.ok)

pub returns-in-Sorts-clause-back : goal.returns-in-Sorts-clause-back
returns-in-Sorts-clause-back c =
    rw c.in-Sorts.is (IfOk-weaker c.skip_sort.result _ _
    (λ rest found m. sort_after (built_module c.args.built.now) c.args.tokens.now rest.now m found)
    c.skip_sort.ensures.ok)

pub returns-in-Sorts-clause-shorter : goal.returns-in-Sorts-clause-shorter
returns-in-Sorts-clause-shorter c =
    IfOk-weaker c.skip_sort.result _ _
    (λ rest found. let g = sort_found c.args.tokens.now rest.now found in
    sort_shorter g.0 c.args.tokens.now rest.now g.1) c.skip_sort.ensures.ok

pub returns-in-Sorts-clause-none : goal.returns-in-Sorts-clause-none
returns-in-Sorts-clause-none c =
    rw c.in-Sorts.is
    (λ e m. sort_none (built_module c.args.built.now) c.args.tokens.now m c.requires (c.skip_sort.ensures.none e))

pub returns-in-Constructors-clause-none : goal.returns-in-Constructors-clause-none
returns-in-Constructors-clause-none c = rw c.in-Constructors.is (λ e. c.add_declaration.ensures.none e)

pub returns-in-Definitions-clause-none : goal.returns-in-Definitions-clause-none
returns-in-Definitions-clause-none c = rw c.in-Definitions.is (λ e. c.add_definition.ensures.none e)

pub returns-in_default-clause-none : goal.returns-in_default-clause-none
returns-in_default-clause-none c = λ e m.
    no_item c.args.context c.in_default.not-Sorts c.in_default.not-Constructors c.in_default.not-Definitions
    (built_module c.args.built.now) c.args.tokens.now m c.requires
