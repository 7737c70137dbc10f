-- How the logic stores signatures: as their fields.
use Rattle.std.specs.Prelude.{List, refl}
use Rattle.std.specs.Coded.{Coded, code_by, coded×, coded_list}
use Rattle.term_sorts.specs.Sorts.{Sort, Declaration, Injection}
use Rattle.term_sorts.specs.Signatures.{Signature}
use Rattle.term_sorts.specs.inside.SortCode.{sort_code, declaration_code, injection_code}

abbrev pub signature_code : Coded Signature
signature_code =
    code_by (List Declaration × (List Injection × List Sort))
    (coded× (coded_list declaration_code) (coded× (coded_list injection_code) (coded_list sort_code)))
    (λ s. (s.declared.constructors, (s.declared.injections, s.sorts)))
    (λ p. record { declared = record { constructors = p.0; injections = p.1.0 }; sorts = p.1.1 }) (λ _. refl)
