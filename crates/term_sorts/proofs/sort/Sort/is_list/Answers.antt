use Rattle.std.proofs.Common.{ap, ◌∙◌, sym, length, arith}
use Rattle.term_sorts.proofs.FormLemmas.{list_sort_of, list_sort_name, list_sort_short, name_read, arguments_read}
use Rattle.term_sorts.proofs.sort.Sort.is_list.Goals as goal

pub returns-then-len-gt1 : goal.returns-then-len-gt1
returns-then-len-gt1 c =
    let s = c.args.self.now in (
      λ h. absurd (cc),
      λ h. absurd (omega (
        arith,
        list_sort_short s h,
        ap length (arguments_read c.self.inside s c.self.view_is),
        c.len.ensures,
        c.self.inside.arguments.ok.0,
        c.if-len-gt1.true,
      )),
    )

pub returns : goal.returns
returns c =
    let s = c.args.self.now in
    let name = name_read c.self.inside s c.self.view_is in (
      λ h. list_sort_of s (name ∙ c.is_named.ensures.same.0 h)
          (omega (
            arith,
            ap length (arguments_read c.self.inside s c.self.view_is),
            c.len.ensures,
            c.self.inside.arguments.ok.0,
            c.if-len-gt1.false,
          )),
      λ h. c.is_named.ensures.same.1 (sym name ∙ list_sort_name s h),
    )
