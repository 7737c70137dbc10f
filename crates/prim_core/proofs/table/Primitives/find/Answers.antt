use Rattle.std.proofs.Common.{◌∙◌, ap}
use Rattle.prim_core.specs.Signature.{index_of}
use Rattle.prim_core.proofs.SignatureLemmas.{index_of-there}
use Rattle.prim_core.proofs.table.Primitives.find.Goals as goal

pub returns-clause-there : goal.returns-clause-there
returns-clause-there g c =
    index_of-there c.args.name.now c.args.arity c.args.self.now c.first_index.result
    (c.first_index.ensures ∙ ap (index_of c.args.name.now c.args.arity) (c.deref.ensures.value ∙ c.self.view_is))
