-- The faults of a text, from those of reading its tokens and of parsing them.
use Rattle.strategy_tokens.specs.declared.fault.TokensFault.{TokensFault}
use Rattle.strategy_tokens.specs.declared.fault.TokensFault.TheVariants as of_tokens
use Rattle.strategy_parse.specs.declared.parser.fault.SyntaxFault.{SyntaxFault}
use Rattle.strategy_parse.specs.declared.parser.fault.SyntaxFault.TheVariants.{Syntax, Memory}
use Rattle.strategy_parse.specs.declared.fault.ParseFault.{ParseFault}
use Rattle.strategy_parse.specs.declared.fault.ParseFault.TheVariants as of_text

abbrev pub text_fault : SyntaxFault → ParseFault
text_fault Syntax = of_text.Syntax
text_fault Memory = of_text.Memory

abbrev pub unread_fault : TokensFault → ParseFault
unread_fault of_tokens.Deep = of_text.Deep
unread_fault of_tokens.Memory = of_text.Memory
