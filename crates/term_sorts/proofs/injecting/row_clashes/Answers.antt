use Rattle.std.proofs.Common.{ℕ, List, subst, sym}
use Rattle.std.specs.List.{Contains}
use Rattle.term_sorts.specs.inside.Gaining.{HasClash}
use Rattle.term_sorts.specs.inside.TableView.{sorts_in}
use Rattle.term_sorts.proofs.injecting.row_clashes.Goals as goal

pub returns-then-is_among : goal.returns-then-is_among
returns-then-is_among c =
    let rows = c.args.rows.now in
    let gained = c.args.gained.now in (
      λ h. (
        subst (λ (l : List ℕ). Contains l c.args.to) c.deref.ensures.value (c.is_among.ensures.0 c.if-is_among.true),
        subst (λ (l : List ℕ). HasClash (sorts_in rows) l gained) c.deref-then-is_among.ensures.value
            (c.has_clash.ensures.0 h),
      ),
      λ h. c.has_clash.ensures.1
          (subst (λ (l : List ℕ). HasClash (sorts_in rows) l gained) (sym c.deref-then-is_among.ensures.value) h.1),
    )
