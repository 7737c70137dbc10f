use Rattle.std.proofs.Common.{◌≡◌, ◌+◌, ◌<◌, ◌≤◌, ℕ, suc, List, ◌∷◌, refl, sym, subst, ◌∙◌, length, drop, get_or, add-one, drop-cons}
use Rattle.std.proofs.lemmas.List.{drop_all}
use Rattle.command_line.specs.Line.{modules_of}
use Rattle.command_line.specs.declared.named.Named.{Named}
use Rattle.command_line.specs.declared.named.Load.{Load}
use Rattle.command_line.specs.declared.named.Load.TheVariants.{Module, Tree}
use Rattle.session_history.specs.History.{History}
use Rattle.stratbench.specs.Files.{LoadsFile, SetsAll}
use Rattle.stratbench.proofs.set_modules.Goals.{in-Module+in_ok-set_module-in-Module, in-Tree}
use Rattle.stratbench.proofs.set_modules.Goals as goal

module _ (loads : List Load) (i : ℕ) (load : Load) (named : Named) (lt : i < length loads)
    (is : load ≡ get_or loads i load) where
  at : (h g : History) (first : Load) → load ≡ first → SetsAll (modules_of (first ∷ drop (i + 1) loads)) h g
      → SetsAll (modules_of (drop i loads)) h g
  at h g first same rest =
      rw (drop-cons loads i load lt)
      (subst (λ it. SetsAll (modules_of (it ∷ drop (suc i) loads)) h g) (sym same ∙ is) (rw add-one at rest))

  set_next : (h next g : History) → load ≡ Module named → LoadsFile load h next
      → SetsAll (modules_of (drop (i + 1) loads)) next g → SetsAll (modules_of (drop i loads)) h g
  set_next h next g same loaded rest =
      at h g (Module named) same (next, subst (λ it. LoadsFile it h next) same loaded, rest)

  tree_passed : (h g : History) → load ≡ Tree named → SetsAll (modules_of (drop (i + 1) loads)) h g
      → SetsAll (modules_of (drop i loads)) h g
  tree_passed h g same rest = at h g (Tree named) same rest

loads_end : (loads : List Load) (i : ℕ) (h : History) → length loads ≤ i → SetsAll (modules_of (drop i loads)) h h
loads_end loads i h over = rw (drop_all i loads over) refl

pub loop-load-init : goal.loop-load-init
loop-load-init g c = λ h p. p

pub loop-load-preserved : goal.loop-load-preserved
loop-load-preserved g c = λ h rest.
    let items = c.deref-load-items.result.now in
    let i = c.loop-load.load-index in
    let load = c.load-item.result in
    c.loop-load.invariant h (elim c.match-load.branch [
      | in-Module+in_ok-set_module-in-Module w ↦
          set_next items i load _ c.loop-load-test.true c.load-item.is c.loop-load.session w.set_module.new.session h
          w.in-Module.is w.in_ok-set_module-in-Module.ensures (rw w.session-is at rest)
      | in-Tree w ↦ tree_passed items i load _ c.loop-load-test.true c.load-item.is c.loop-load.session h w.in-Tree.is
          (rw w.session-is at rest)
    ])

pub returns : goal.returns
returns g c =
    let all = c.loop-load.invariant c.loop-load.session
    (loads_end c.deref-load-items.result.now c.loop-load.load-index c.loop-load.session c.loop-load-test.false) in
    rw c.deref-load-items.ensures.value at all
