use Rattle.std.proofs.Common.{codes, refl, ◌∙◌}
use Rattle.clap.specs.Words.{found_of}
use Rattle.clap.proofs.WalkLemmas.{raw_values-rows}
use Rattle.command_line.proofs.NamedLemmas.{all_named, err_is, loads_malformed, strs_are, writes_malformed}
use Rattle.command_line.proofs.words.read_files.Goals as goal

pub returns-in_err-loads-clause-malformed : goal.returns-in_err-loads-clause-malformed
returns-in_err-loads-clause-malformed c =
    err_is c.from_residual.result c.in_err-loads.field-0.0 _ c.from_residual.ensures.1
    (loads_malformed c.in_err-loads.field-0.0 _ _ _ _ _
    (strs_are c.get_strs.result _ _ _ refl c.unwrap_or.ensures
    (c.get_strs.ensures ∙ raw_values-rows (found_of c.args.matches.now) (codes "module")))
    (strs_are c.get_strs-2.result _ _ _ refl c.unwrap_or-3.ensures
    (c.get_strs-2.ensures ∙ raw_values-rows (found_of c.args.matches.now) (codes "tree")))
    c.in_err-loads.ensures.malformed)

pub returns-in_err-writes-clause-malformed : goal.returns-in_err-writes-clause-malformed
returns-in_err-writes-clause-malformed c =
    err_is c.from_residual-in_err-writes.result c.in_err-writes.field-0.0 _ c.from_residual-in_err-writes.ensures.1
    (writes_malformed c.in_err-writes.field-0.0 _ _ _
    (strs_are c.get_strs-3.result _ _ _ refl c.unwrap_or-5.ensures
    (c.get_strs-3.ensures ∙ raw_values-rows (found_of c.args.matches.now) (codes "write")))
    c.in_err-writes.ensures.malformed)

pub returns-clause-modules : goal.returns-clause-modules
returns-clause-modules c =
    c.in_ok-loads.ensures.modules ∙ strs_are c.get_strs.result _ _ _ refl c.unwrap_or.ensures
    (c.get_strs.ensures ∙ raw_values-rows (found_of c.args.matches.now) (codes "module"))

pub returns-clause-trees : goal.returns-clause-trees
returns-clause-trees c =
    c.in_ok-loads.ensures.trees ∙ strs_are c.get_strs-2.result _ _ _ refl c.unwrap_or-3.ensures
    (c.get_strs-2.ensures ∙ raw_values-rows (found_of c.args.matches.now) (codes "tree"))

pub returns-clause-writes : goal.returns-clause-writes
returns-clause-writes c =
    c.in_ok-writes.ensures.given ∙ strs_are c.get_strs-3.result _ _ _ refl c.unwrap_or-5.ensures
    (c.get_strs-3.ensures ∙ raw_values-rows (found_of c.args.matches.now) (codes "write"))

pub returns-clause-named : goal.returns-clause-named
returns-clause-named c =
    all_named _ _ _ _ _ _
    (strs_are c.get_strs.result _ _ _ refl c.unwrap_or.ensures
    (c.get_strs.ensures ∙ raw_values-rows (found_of c.args.matches.now) (codes "module")))
    (strs_are c.get_strs-2.result _ _ _ refl c.unwrap_or-3.ensures
    (c.get_strs-2.ensures ∙ raw_values-rows (found_of c.args.matches.now) (codes "tree")))
    (strs_are c.get_strs-3.result _ _ _ refl c.unwrap_or-5.ensures
    (c.get_strs-3.ensures ∙ raw_values-rows (found_of c.args.matches.now) (codes "write")))
    c.in_ok-loads.ensures.named c.in_ok-writes.ensures.named
