use Rattle.std.proofs.Common.{◌+◌, [], length, replicate, drop, ap, ◌∙◌}
use Rattle.strategy_check.specs.Tables.{definitions_of}
use Rattle.strategy_check.specs.inside.Grouping.{with_definitions}
use Rattle.strategy_check.proofs.ListLemmas.{turn, end}
use Rattle.strategy_check.proofs.GroupLemmas.{with_definitions-append, all_grouped}
use Rattle.strategy_check.proofs.groups.group_definitions.Goals as goal

pub loop-named-preserved : goal.loop-named-preserved
loop-named-preserved c =
    let T = c.args.table.now in
    let ms = c.args.modules.now in
    ap (λ gs. with_definitions T gs (definitions_of (drop (c.loop-named.named-index + 1) ms)))
    (c.in_ok-add_to_groups.ensures ∙ ap (with_definitions T c.loop-named.groups.items)
    (c.definitions.ensures ∙ ap (λ m. m.definitions) c.module.ensures))
    ∙ turn (λ gs ms. with_definitions T gs (definitions_of ms)) (λ gs m. with_definitions T gs m.1.definitions)
    (λ gs m ms. with_definitions-append T gs m.1.definitions (definitions_of ms))
    ms c.loop-named.named-index c.loop-named.groups.items c.named-item.result
    (with_definitions T (replicate (length T.definitions) []) (definitions_of ms))
    c.loop-named-test.true c.named-item.is c.loop-named.invariant

pub returns : goal.returns
returns c =
    end (λ gs ms. with_definitions c.args.table.now gs (definitions_of ms))
    (λ gs m. with_definitions c.args.table.now gs m.1.definitions)
    (λ gs m ms. with_definitions-append c.args.table.now gs m.1.definitions (definitions_of ms))
    c.args.modules.now c.loop-named.named-index c.loop-named.groups.items
    (with_definitions c.args.table.now (replicate (length c.args.table.now.definitions) [])
    (definitions_of c.args.modules.now)) c.loop-named-test.false c.loop-named.invariant
    ∙ all_grouped c.args.table.now (definitions_of c.args.modules.now)
