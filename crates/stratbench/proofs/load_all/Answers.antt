use Rattle.std.proofs.Common.{◌≡◌, ◌+◌, ◌<◌, ◌≤◌, ℕ, suc, Bool, true, false, List, ◌∷◌, refl, sym, subst, ◌∙◌, length, drop, get_or, add-one, drop-cons}
use Rattle.std.proofs.lemmas.List.{drop_all}
use Rattle.command_line.specs.Line.{modules_of}
use Rattle.command_line.specs.declared.named.Named.{Named}
use Rattle.command_line.specs.declared.named.Load.{Load}
use Rattle.command_line.specs.declared.named.Load.TheVariants.{Module, Tree}
use Rattle.session_history.specs.History.{History}
use Rattle.stratbench.specs.Files.{LoadsFile, LoadsModules, LoadsRest}
use Rattle.stratbench.proofs.load_all.Goals.{in-Tree+in_ok-load_tree-in-Tree, in-Module, in-Module-2+in_ok-load_modules-in-Module-2}
use Rattle.stratbench.proofs.load_all.Goals as goal

module _ (modules : List Named) (loads : List Load) (i : ℕ) (load : Load) (named : Named) (lt : i < length loads)
    (is : load ≡ get_or loads i load) where
  -- the file at this place, before the others
  at : (done : Bool) (h g : History) (first : Load) → load ≡ first → LoadsRest modules done (first ∷ drop (i + 1) loads)
      h g → LoadsRest modules done (drop i loads) h g
  at done h g first same rest =
      rw (drop-cons loads i load lt)
      (subst (λ it. LoadsRest modules done (it ∷ drop (suc i) loads) h g) (sym same ∙ is) (rw add-one at rest))

  tree_next : (done : Bool) (h next g : History) → load ≡ Tree named → LoadsFile load h next
      → LoadsRest modules done (drop (i + 1) loads) next g → LoadsRest modules done (drop i loads) h g
  tree_next done h next g same loaded rest =
      at done h g (Tree named) same (next, subst (λ it. LoadsFile it h next) same loaded, rest)

  module_passed : (h g : History) → load ≡ Module named → LoadsRest modules true (drop (i + 1) loads) h g
      → LoadsRest modules true (drop i loads) h g
  module_passed h g same rest = at true h g (Module named) same rest

  modules_next : (h next g : History) → load ≡ Module named → LoadsModules modules h next
      → LoadsRest modules true (drop (i + 1) loads) next g → LoadsRest modules false (drop i loads) h g
  modules_next h next g same loaded rest = at false h g (Module named) same (next, loaded, rest)

loads_end : (modules : List Named) (done : Bool) (loads : List Load) (i : ℕ) (h : History)
    → length loads ≤ i → LoadsRest modules done (drop i loads) h h
loads_end modules done loads i h over = rw (drop_all i loads over) refl

pub loop-load-init : goal.loop-load-init
loop-load-init g c = λ h p. p

pub loop-load-preserved : goal.loop-load-preserved
loop-load-preserved g c = λ h rest.
    let items = c.deref-load-items.result.now in
    let i = c.loop-load.load-index in
    let load = c.load-item.result in
    c.loop-load.invariant h (elim c.match-load.branch [
      | in-Tree+in_ok-load_tree-in-Tree w ↦
          tree_next (modules_of items) items i load _ c.loop-load-test.true c.load-item.is c.loop-load.done
          c.loop-load.session _ h w.in-Tree.is w.in_ok-load_tree-in-Tree.ensures
          (rw (w.done-is, w.session-is) at rest)
      | in-Module w ↦
          rw w.if-done.true (module_passed (modules_of items) items i load _ c.loop-load-test.true c.load-item.is
          c.loop-load.session h w.in-Module.is
          (rw (w.done-is, w.session-is, w.if-done.true) at rest))
      | in-Module-2+in_ok-load_modules-in-Module-2 w ↦
          rw w.if-done.false (modules_next (modules_of items) items i load _ c.loop-load-test.true c.load-item.is
          c.loop-load.session _ h w.in-Module.is
          (subst (λ (l : List Load). LoadsModules (modules_of l) c.loop-load.session w.load_modules.new.session)
          (sym c.deref-load-items.ensures.value) w.in_ok-load_modules-in-Module-2.ensures)
          (rw (w.done-is, w.session-is) at rest))
    ])

pub returns : goal.returns
returns g c =
    let all = c.loop-load.invariant c.loop-load.session (loads_end (modules_of c.deref-load-items.result.now)
    c.loop-load.done c.deref-load-items.result.now c.loop-load.load-index c.loop-load.session c.loop-load-test.false) in
    rw c.deref-load-items.ensures.value at all
