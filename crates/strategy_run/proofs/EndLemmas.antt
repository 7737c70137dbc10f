-- The start of a run, and its end.
use Rattle.std.proofs.Common.{◌≡◌, ℕ, List, [], ◌∷◌, ◌++◌, length, replicate, reverse, refl, sym, ap, ◌∙◌, subst, None, Bor}
use Rattle.term_core.specs.Tree.{Tree}
use Rattle.term_changes.specs.Standing.{Standing, unchanged, standing_tree}
use Rattle.strategy_syntax.specs.Resolved.{ResolvedStrategy}
use Rattle.strategy_syntax.specs.declared.resolved.Resolved.{Resolved}
use Rattle.strategy_meaning.specs.Scopes.{Scope, inside, no_closures, numbers_from, with_variables}
use Rattle.strategy_meaning.specs.Answer.{Answer, with_edits}
use Rattle.strategy_meaning.specs.Meaning.{World, run, run_whole}
use Rattle.strategy_machine.specs.Table.{nowhere, scope_at}
use Rattle.term_match.specs.CellContents.{CellContents}
use Rattle.strategy_run.specs.inside.Runs.{IsEmpty}
use Rattle.strategy_machine.specs.Turns.{HoldsIn, After}
use Rattle.strategy_machine.specs.declared.machine.Machine.{Machine}
use Rattle.strategy_machine.specs.declared.frames.Turned.{Turned}
use Rattle.strategy_machine.specs.Hands.{Begin}
use Rattle.strategy_machine.specs.Leading.{Has}
use Rattle.strategy_machine.specs.Frames.{Meets}
use Rattle.term_match.specs.Marks.{mark_of}
use Rattle.strategy_machine.proofs.LeadLemmas.{leads_nothing}
use Rattle.strategy_machine.proofs.OpenLemmas.{with_edits-none}
use Rattle.strategy_machine.proofs.ScopeLemmas.{one_more_there, one_more_is}

pub starts : (W : World) (m : Machine) (D : CellContents) (bs es : List Scope) (r : Resolved) (s : Bor ResolvedStrategy)
    (t : Tree) (n : ℕ) (p : Standing)
    → IsEmpty m → D.bindings ≡ m.cells.bindings ++ replicate r.variables None → n ≡ length bs
    → es ≡ bs ++ with_variables nowhere 0 r.variables ∷ [] → p ≡ unchanged t → s.now ≡ r.strategy
    → HoldsIn W (unchanged t) (run_whole W m.level r m.steps t)
    (record { cells = D; scopes = es; trail = m.trail; level = m.level; frames = reverse m.frames; steps = m.steps })
    (Begin s n p)
starts W m D bs es r s t n p k de ne ee pe se =
    let E = inside (numbers_from 0 r.variables) no_closures in
    let there = one_more_is bs es (with_variables nowhere 0 r.variables) ne ee in
    let B : D.bindings ≡ replicate r.variables None = de ∙ ap (λ x. x ++ replicate r.variables None) k.cells in
    let a = run W (scope_at es n) m.level s.now m.steps D.bindings (standing_tree p) in
    record {
      now = p;
      edits = [];
      shows = k.trail;
      in_hand = (one_more_there bs es (with_variables nowhere 0 r.variables) ne ee, refl);
      opens = record {
        start = p;
        base = [];
        before = [];
        leads = leads_nothing p (subst Has (sym pe) tt);
        trail = refl;
        is = subst (λ fs. Meets W (unchanged t) (run_whole W m.level r m.steps t) D (mark_of D) es m.level (reverse fs)
            p [] (with_edits [] a)) (sym k.frames)
            (pe, refl, with_edits-none a ∙ (λ i. run W (there i) m.level (se i) m.steps (B i) (standing_tree (pe i))));
      };
    }

pub after_is : (W : World) (sub : Standing) (whole : Answer) (m : Machine) {x y : Turned}
    → x ≡ y → After W sub whole m x → After W sub whole m y
after_is W sub whole m e h = subst (λ (z : Turned). After W sub whole m z) e h
