use Rattle.std.proofs.Common.{ap, ◌∙◌, sym}
use Rattle.term_sorts.specs.Sorts.{name_of}
use Rattle.term_sorts.proofs.FormLemmas.{tuple_sort_of, name_read}
use Rattle.term_sorts.proofs.sort.Sort.is_tuple.Goals as goal

pub returns : goal.returns
returns c =
    let s = c.args.self.now in
    let name = name_read c.self.inside s c.self.view_is in (
      λ h. tuple_sort_of s (name ∙ c.is_named.ensures.same.0 h),
      λ h. c.is_named.ensures.same.1 (sym name ∙ ap name_of h),
    )
