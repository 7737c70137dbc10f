use Rattle.std.proofs.Common.{rules, arith, ◌<◌, length}
use Rattle.command_line.proofs.NamedLemmas.{first_malformed, second_malformed, malformed_at, module_read, module_keeps, tree_read, tree_keeps, name_read}
use Rattle.command_line.proofs.named.in_order.Goals as goal

pub returns-in-Err-clause-malformed : goal.returns-in-Err-clause-malformed
returns-in-Err-clause-malformed c =
    let inside : c.loop-next_module.next_module < length c.args.modules.now = search rules in
    first_malformed c.in-Err.untaken _ _ (malformed_at c.args.modules.now c.loop-next_module.next_module _
    c.in-Err.untaken inside c.in-Err.ensures.malformed)

pub returns-in-Err-read_named-clause-malformed : goal.returns-in-Err-read_named-clause-malformed
returns-in-Err-read_named-clause-malformed c =
    let inside : c.loop-next_module.next_tree < length c.args.trees.now = search rules in
    second_malformed c.in-Err-read_named.untaken _ _
    (malformed_at c.args.trees.now c.loop-next_module.next_tree _ c.in-Err-read_named.untaken inside
    c.in-Err-read_named.ensures.malformed)

pub loop-next_module-preserved-then-is_module : goal.loop-next_module-preserved-then-is_module
loop-next_module-preserved-then-is_module c =
    let inside : c.loop-next_module.next_module < length c.args.modules.now = search rules in
    let so_far = c.loop-next_module.invariant in
    let added = c.in_ok-push-in-Ok.ensures.items in
    let module_one = module_read c.loop-next_module.loads.items _ c.in-Ok.named c.args.modules.now
    c.loop-next_module.next_module _ added inside c.in-Ok.ensures.given so_far.2 in
    let trees = module_keeps c.loop-next_module.loads.items _ c.in-Ok.named _ added so_far.3 in
    let name = name_read c.args.modules.now c.loop-next_module.next_module _ inside so_far.4 c.in-Ok.ensures.named in
    (omega (arith, inside), so_far.1, module_one, trees, name, so_far.5)

pub loop-next_module-preserved : goal.loop-next_module-preserved
loop-next_module-preserved c =
    let inside : c.loop-next_module.next_tree < length c.args.trees.now = search rules in
    let so_far = c.loop-next_module.invariant in
    let added = c.in_ok-push-in-Ok-read_named.ensures.items in
    let modules = tree_keeps c.loop-next_module.loads.items _ c.in-Ok-read_named.named _ added so_far.2 in
    let tree_one = tree_read c.loop-next_module.loads.items _ c.in-Ok-read_named.named c.args.trees.now
    c.loop-next_module.next_tree _ added inside c.in-Ok-read_named.ensures.given so_far.3 in
    let name =
    name_read c.args.trees.now c.loop-next_module.next_tree _ inside so_far.5 c.in-Ok-read_named.ensures.named in
    (so_far.0, omega (arith, inside), modules, tree_one, so_far.4, name)
