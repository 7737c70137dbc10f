-- How the logic stores modules: as their fields.
use Rattle.std.specs.Prelude.{ℕ, List, refl}
use Rattle.std.specs.Coded.{Coded, code_by, coded×, coded_ℕ, coded_list}
use Rattle.term_core.specs.Tree.{Symbol}
use Rattle.term_core.specs.inside.TreeCode.{symbol_code}
use Rattle.term_sorts.specs.Sorts.{Declaration, Injection}
use Rattle.term_sorts.specs.inside.SortCode.{declaration_code, injection_code}
use Rattle.strategy_syntax.specs.Syntax.{Strategy}
use Rattle.strategy_syntax.specs.inside.Codes.{strategy_code}
use Rattle.strategy_syntax.specs.Modules.{Constructor, Definition, Module}

abbrev pub constructor_code : Coded Constructor
constructor_code =
    code_by (Symbol × ℕ) (coded× symbol_code coded_ℕ) (λ c. (c.name, c.arity))
    (λ p. record { name = p.0; arity = p.1 }) (λ _. refl)

abbrev pub definition_code : Coded Definition
definition_code =
    code_by (Symbol × (List Symbol × (List Symbol × Strategy)))
    (coded× symbol_code
    (coded× (coded_list symbol_code) (coded× (coded_list symbol_code) strategy_code)))
    (λ d. (d.name, (d.strategy_parameters, (d.term_parameters, d.body))))
    (λ p. record {
      name = p.0;
      strategy_parameters = p.1.0;
      term_parameters = p.1.1.0;
      body = p.1.1.1;
    })
    (λ _. refl)

abbrev pub module_code : Coded Module
module_code =
    code_by (List Constructor × (List Declaration × (List Injection × List Definition)))
    (coded× (coded_list constructor_code)
    (coded× (coded_list declaration_code)
    (coded× (coded_list injection_code) (coded_list definition_code))))
    (λ m. (m.constructors, (m.declarations, (m.injections, m.definitions))))
    (λ p. record {
      constructors = p.0;
      declarations = p.1.0;
      injections = p.1.1.0;
      definitions = p.1.1.1;
    })
    (λ _. refl)
