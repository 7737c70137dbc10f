-- How a refusal is written: a number and a word.
use Rattle.std.specs.Prelude.{ℕ, List, codes}
use Rattle.term_core.specs.declared.label.LabelFault.{LabelFault}
use Rattle.term_core.specs.declared.label.LabelFault.TheVariants.{Name as NoLabel, Memory as NoLabelMemory}
use Rattle.strategy_parse.specs.declared.fault.ParseFault.{ParseFault}
use Rattle.strategy_parse.specs.declared.fault.ParseFault.TheVariants.{Deep as TooDeep, Syntax as NoSyntax, Memory as NoParseMemory}
use Rattle.strategy_check.specs.declared.fault.CheckFault.{CheckFault}
use Rattle.strategy_check.specs.declared.fault.CheckFault.TheVariants.{Memory as NoCheckMemory, Fault as Told}
use Rattle.session_modules.specs.declared.refusal.Refusal.{Refusal}
use Rattle.session_modules.specs.declared.refusal.Refusal.TheVariants.{Memory, Line, Long, Name, NoTree, NoModule, Term, Deep, Path, Syntax, Check, Fails, Spent, Big, NoUndo, NoRedo, Group, NoGroup}

-- the number and the word of each refusal
abbrev pub known_as : Refusal → ℕ × List ℕ
known_as Memory = (1, codes "memory")
known_as Line = (2, codes "line")
known_as Long = (3, codes "long")
known_as Name = (4, codes "name")
known_as NoTree = (5, codes "notree")
known_as NoModule = (6, codes "nomodule")
known_as Term = (7, codes "term")
known_as Deep = (8, codes "deep")
known_as Path = (9, codes "path")
known_as Syntax = (10, codes "syntax")
known_as (Check kind name n m) = (11, codes "check")
known_as Fails = (12, codes "fails")
known_as Spent = (13, codes "spent")
known_as Big = (14, codes "big")
known_as NoUndo = (15, codes "noundo")
known_as NoRedo = (16, codes "noredo")
known_as Group = (17, codes "group")
known_as NoGroup = (18, codes "nogroup")

abbrev pub number_of : Refusal → ℕ
number_of refusal = (known_as refusal).0

abbrev pub word_of : Refusal → List ℕ
word_of refusal = (known_as refusal).1

-- the refusal for a text that is no label
abbrev pub label_refusal : LabelFault → Refusal
label_refusal NoLabel = Name
label_refusal NoLabelMemory = Memory

-- the refusal for a text that isn't parsed
abbrev pub parse_refusal : ParseFault → Refusal
parse_refusal TooDeep = Deep
parse_refusal NoSyntax = Syntax
parse_refusal NoParseMemory = Memory

-- the refusal for what the checker found
abbrev pub check_refusal : CheckFault → Refusal
check_refusal NoCheckMemory = Memory
check_refusal (Told kind name first second) = Check kind name first second
