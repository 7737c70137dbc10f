use Rattle.std.proofs.Common.{sym, ◌∙◌, refl}
use Rattle.term_core.proofs.TermLemmas.{same_root, same_children, same_annotations, same_term}
use Rattle.term_core.proofs.term.+equals.Goals as goal

pub Term::equals-returns-then-not-equals : goal.Term::equals-returns-then-not-equals
Term::equals-returns-then-not-equals t c =
    let a = c.self.inside in
    let b = c.other.inside in (
      λ no. (cc),
      λ same. c.if-not-equals.ensures.1 (same_root a.node b.node a.children.items b.children.items a.annotations.items
          b.annotations.items (c.self.view_is ∙ same ∙ sym c.other.view_is)),
    )

pub Term::equals-returns-then-not-all_equal : goal.Term::equals-returns-then-not-all_equal
Term::equals-returns-then-not-all_equal t c =
    let a = c.self.inside in
    let b = c.other.inside in (
      λ no. (cc),
      λ same. c.if-not-all_equal.ensures.1 (c.deref.ensures.value
          ∙ same_children a.node b.node a.children.items b.children.items a.annotations.items b.annotations.items
          c.self.invariant c.other.invariant (c.self.view_is ∙ same ∙ sym c.other.view_is)
          ∙ sym c.deref-2.ensures.value),
    )

pub Term::equals-returns : goal.Term::equals-returns
Term::equals-returns t c =
    let a = c.self.inside in
    let b = c.other.inside in (
      λ yes. sym c.self.view_is
          ∙ same_term a.node b.node a.children.items b.children.items a.annotations.items b.annotations.items
          (c.if-not-equals.ensures.0 refl)
          (sym c.deref.ensures.value ∙ c.if-not-all_equal.ensures.0 refl ∙ c.deref-2.ensures.value)
          (sym c.deref-3.ensures.value ∙ c.all_equal-2.ensures.0 yes ∙ c.deref-4.ensures.value)
          ∙ c.other.view_is,
      λ same. c.all_equal-2.ensures.1 (c.deref-3.ensures.value
          ∙ same_annotations a.node b.node a.children.items b.children.items a.annotations.items b.annotations.items
          (c.self.view_is ∙ same ∙ sym c.other.view_is)
          ∙ sym c.deref-4.ensures.value),
    )
