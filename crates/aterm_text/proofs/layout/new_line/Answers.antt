use Rattle.std.proofs.Common.{◌≡◌, ◌-◌, ◌++◌, sym, ap, ◌∙◌, arith, take, replicate}
use Rattle.std.proofs.lemmas.Grind.{common_steps}
use Rattle.aterm_text.proofs.PrintLemmas.{extends-append, extends-trans}
use Rattle.aterm_text.proofs.LayoutLemmas.{blanks-step}
use Rattle.aterm_text.proofs.layout.new_line.Goals as goal

pub loop-left-preserved : goal.loop-left-preserved
loop-left-preserved c =
    let appended : c.extend_from_slice.new.self.items
    ≡ c.loop-left.out.items ++ take c.min-blanks.result (replicate 64 32) = grind (arith, common_steps) in
    record {
      text = c.loop-left.invariant.text ∙ blanks-step c.loop-left.out.items c.loop-left.left c.min-blanks.result
          (omega (arith, c.min-blanks.ensures)) (omega (arith, c.min-blanks.ensures))
          ∙ ap (λ l. l ++ replicate (c.loop-left.left - c.min-blanks.result) 32) (sym appended);
      grows = extends-trans _ _ _ c.loop-left.invariant.grows (extends-append _ _ _ appended);
      room = omega (arith, c.loop-left.invariant.room, c.in_ok-extend_from_slice.ensures.capacity);
    }
