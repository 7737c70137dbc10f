use Rattle.std.proofs.Common.{◌∷◌, [], ◌++◌, sym, subst}
use Rattle.std.specs.declared.option.Option.{Option}
use Rattle.std.specs.Option.{IfNone, IfSome}
use Rattle.term_sorts.specs.Sorts.{AreAgreed, TakeNoneAlike}
use Rattle.term_sorts.specs.Signatures.{Signature, and_injection}
use Rattle.term_sorts.specs.inside.Tables.{Table, KeepNumbers}
use Rattle.term_sorts.proofs.TableLemmas.{numbers_kept}
use Rattle.term_sorts.proofs.signature.Signature.with_injection.Goals as goal

pub returns-in_default-clause-none : goal.returns-in_default-clause-none
returns-in_default-clause-none c = λ agreed.
    let clash = subst
    (λ (o : Option Table). IfNone o (TakeNoneAlike (c.self.inside.table.injections ++ c.args.injection.now ∷ []) → ⊥))
    c.in_default.is c.in_ok-table.ensures.none in
    clash
    (subst (λ (s : Signature). AreAgreed (and_injection s.declared c.args.injection.now)) (sym c.self.view_is) agreed).1

pub invariant_of-result : goal.invariant_of-result
invariant_of-result c =
    let old = c.self.inside.table.sorts in
    let new = c.in-Some.table.sorts in
    let keep = subst (λ (o : Option Table). IfSome o (λ table. KeepNumbers old table.sorts)) c.in-Some.is
    c.in_ok-table.ensures.numbers in
    let inv = c.self.invariant in record {
      forms = λ k f e. let h = inv.forms k f e in (
        numbers_kept old new keep f.arguments.items f.declaration.arguments h.0,
        keep f.given f.declaration.result h.1,
      );
      listed = inv.listed;
      buckets = inv.buckets;
      agreed = (
        inv.agreed.0,
        subst (λ (o : Option Table). IfSome o (λ table. TakeNoneAlike table.injections)) c.in-Some.is
            c.in_ok-table.ensures.agreed,
      );
      integers = keep c.self.inside.integers _ inv.integers;
      strings = keep c.self.inside.strings _ inv.strings;
    }
