use Rattle.std.proofs.Common.{refl, sym, ap, subst}
use Rattle.term_core.specs.Tree.{Symbol}
use Rattle.aterm_text.specs.Tokens.{ReadsItems}
use Rattle.aterm_text.proofs.ScanLemmas.{run_at_start, all_read}
use Rattle.aterm_text.proofs.reader.scan.quoted.Goals as goal

pub returns-in-Some-clause-found : goal.returns-in-Some-clause-found
returns-in-Some-clause-found c = (
  ap (λ (name : Symbol). name.is_quoted) c.in_ok-quoted.ensures,
  subst (λ (name : Symbol). ReadsItems name.text c.args.text.now c.in-Some.left.now) (sym c.in_ok-quoted.ensures)
      (all_read _ _ _ _ (run_at_start _ _ _ _ _ refl c.first_run.ensures.run c.first_run.ensures.rest refl)
      c.in-Some.ensures.some),
)
