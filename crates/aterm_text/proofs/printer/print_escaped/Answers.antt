use Rattle.std.proofs.Common.{◌≡◌, ◌++◌, sym, ap, ◌∙◌, arith, length, take}
use Rattle.std.specs.List.{flat_map}
use Rattle.std.proofs.lemmas.List.Sums.{prefix_len-le-length}
use Rattle.aterm_text.specs.Printed.{escaped}
use Rattle.aterm_text.specs.inside.Printing.{is_plain}
use Rattle.aterm_text.proofs.PrintLemmas.{escaped-all, escaped-split, escape-after, extends-append, extends-trans}
use Rattle.aterm_text.proofs.printer.print_escaped.Goals as goal

pub split_at-requires : goal.split_at-requires
split_at-requires c = omega (arith, c.plain_run_len.ensures, prefix_len-le-length is_plain c.loop-rest.rest.now)

pub returns-in_default-clause-ok : goal.returns-in_default-clause-ok
returns-in_default-clause-ok c =
    c.in_ok-extend_from_slice.ensures.items ∙ ap (λ l. c.loop-rest.out.items ++ l) c.split_at.ensures.front
    ∙ escaped-all _ c.loop-rest.out.items c.loop-rest.rest.now c.plain_run_len.result c.plain_run_len.ensures
    (sym (ap length c.split_at.ensures.back) ∙ c.in_default.ensures.cases) c.loop-rest.invariant.text

pub print_escape-requires : goal.print_escape-requires
print_escape-requires c =
    escape-after c.loop-rest.rest.now c.plain_run_len.result c.in-Some.byte.now c.in-Some.next.now
    c.plain_run_len.ensures (sym c.split_at.ensures.back ∙ c.in-Some.ensures.cases.0)

pub loop-rest-preserved : goal.loop-rest-preserved
loop-rest-preserved c =
    let run = c.in_ok-extend_from_slice.ensures.items ∙ ap (λ l. c.loop-rest.out.items ++ l) c.split_at.ensures.front in
    let done : c.print_escape.new.out.items
    ≡ (c.loop-rest.out.items ++ take c.plain_run_len.result c.loop-rest.rest.now) ++ escaped c.in-Some.byte.now =
    c.in_ok-print_escape.ensures.ok ∙ ap (λ l. l ++ escaped c.in-Some.byte.now) run in
    record {
      text = escaped-split _ c.loop-rest.out.items c.loop-rest.rest.now c.in-Some.next.now c.plain_run_len.result
          c.in-Some.byte.now c.plain_run_len.ensures
          (sym c.split_at.ensures.back ∙ c.in-Some.ensures.cases.0) c.loop-rest.invariant.text
          ∙ ap (λ l. l ++ flat_map escaped c.in-Some.next.now) (sym done);
      grows = extends-trans _ _ _ c.loop-rest.invariant.grows
          (extends-trans _ _ _ (extends-append _ _ _ run) (extends-append _ _ _ c.in_ok-print_escape.ensures.ok));
      room = omega (
        arith,
        c.loop-rest.invariant.room,
        c.in_ok-extend_from_slice.ensures.capacity,
        c.in_ok-print_escape.ensures.room,
      );
    }
