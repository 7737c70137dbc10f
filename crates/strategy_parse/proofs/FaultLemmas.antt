-- The faults of a text and of its tokens.
use Rattle.std.proofs.Common.{◌≡◌, refl}
use Rattle.strategy_parse.specs.declared.parser.fault.SyntaxFault.{SyntaxFault}
use Rattle.strategy_parse.specs.declared.parser.fault.SyntaxFault.TheVariants.{Syntax, Memory}
use Rattle.strategy_parse.specs.declared.fault.ParseFault.TheVariants as of_text
use Rattle.strategy_parse.specs.Faults.{text_fault}

pub syntax_back : (f : SyntaxFault) → of_text.Syntax ≡ text_fault f → f ≡ Syntax
syntax_back Syntax e = refl
syntax_back Memory e = absurd (cc)
