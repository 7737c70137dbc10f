use Rattle.std.proofs.Common.{◌≡◌, inl, inr, ap, ◌∙◌, sym, length, arith, IsTrue, nat_eq, eqb-true, eq-eqb}
use Rattle.term_sorts.specs.Sorts.{arguments_of}
use Rattle.term_sorts.proofs.FormLemmas.{list_no_tuple, tuple_is, arguments_read}
use Rattle.term_sorts.proofs.sort.Sort.is_like.Goals as goal

pub returns-then-is_list : goal.returns-then-is_list
returns-then-is_list c =
    let s = c.args.self.now in
    let list = c.is_list.ensures.0 c.if-is_list.true in (
      λ h. inl (list, c.is_list-then-is_list.ensures.0 h),
      λ h. elim h as (λ _. IsTrue c.is_list-then-is_list.result) [
        | inl a ↦ c.is_list-then-is_list.ensures.1 a.1
        | inr t ↦ absurd (list_no_tuple s t.0 list t.1)
      ],
    )

pub returns : goal.returns
returns c =
    let s = c.args.self.now in
    let q = c.args.other.now in
    let m : c.len.result ≡ length (arguments_of s) =
    omega
    (arith, ap length (arguments_read c.self.inside s c.self.view_is), c.len.ensures, c.self.inside.arguments.ok.0) in
    let n : c.len-2.result ≡ length (arguments_of q) =
    omega
    (arith, ap length (arguments_read c.other.inside q c.other.view_is), c.len-2.ensures, c.other.inside.arguments.ok.0)
    in (
      λ h. inr (
        c.len-2.result,
        (arguments_of s, c.is_tuple.ensures.0 c.if-not-is_tuple.false, sym m ∙ eqb-true c.len.result c.len-2.result h),
        (arguments_of q, c.is_tuple-else-not-is_tuple.ensures.0 c.if-not-is_tuple-2.false, sym n),
      ),
      λ h. elim h as (λ _. IsTrue (nat_eq c.len.result c.len-2.result)) [
        | inl a ↦ let yes = c.is_list.ensures.1 a.0 in absurd (cc)
        | inr t ↦ eq-eqb c.len.result c.len-2.result (m ∙ (tuple_is s t.0 t.1).1 ∙ sym (n ∙ (tuple_is q t.0 t.2).1))
      ],
    )
