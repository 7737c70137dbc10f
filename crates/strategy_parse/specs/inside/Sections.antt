-- What the rest of a module gives, depending on what was read last.
use Rattle.std.specs.Prelude.{◌≡◌, List, [], ◌∷◌, ◌++◌, Some, None, map}
use Rattle.std.specs.declared.option.Option.{Option}
use Rattle.std.specs.List.{flat_map}
use Rattle.term_sorts.specs.Sorts.{Sort}
use Rattle.strategy_syntax.specs.Modules.{Module, Definition}
use Rattle.strategy_tokens.specs.declared.token.Token.{Token}
use Rattle.strategy_tokens.specs.declared.token.Token.TheVariants.{Reserved}
use Rattle.strategy_tokens.specs.declared.token.Keyword.{Keyword}
use Rattle.strategy_tokens.specs.declared.token.Keyword.TheVariants.{Signature as KSignature, Sorts as KSorts, Constructors as KConstructors, Rules, Strategies}
use Rattle.strategy_parse.specs.declared.modules.sections.Context.{Context}
use Rattle.strategy_parse.specs.declared.modules.sections.Context.TheVariants.{Outside, Signature as InSignature, Sorts, Constructors, Definitions}
use Rattle.strategy_parse.specs.declared.modules.sections.Built.{Built}
use Rattle.strategy_parse.specs.Written.{Declaration, Defined, SignaturePart, Section}
use Rattle.strategy_parse.specs.GrammarModules.{ReadsSection, ReadsSort, ReadsDeclaration, ReadsDefined, ReadsSignaturePart, ReadsAll}
use Rattle.strategy_parse.specs.Core.{declared, constructed, injected, in_part, core_module, core_definition}

-- ---- words

-- a word that begins a part of a signature
abbrev pub in_signature : Context → Context → Option Context
in_signature Outside q = None
in_signature Definitions q = None
in_signature p q = Some q

-- the context after a reserved word that begins a part of a module, if it may come here
abbrev pub next_context : Context → Keyword → Option Context
next_context p KSignature = Some InSignature
next_context p Rules = Some Definitions
next_context p Strategies = Some Definitions
next_context p KSorts = in_signature p Sorts
next_context p KConstructors = in_signature p Constructors
next_context p w = None

-- a token comes next, which is no reserved word
abbrev pub IsItem : List Token → Type 0
IsItem [] = ⊥
IsItem (Reserved w ∷ ts) = ⊥
IsItem (t ∷ ts) = Unit {0}

-- ---- the rest

abbrev pub nothing : Module
nothing = record { constructors = []; declarations = []; injections = []; definitions = [] }

-- what was read before, followed by what the rest gives
abbrev pub joined : Module → Module → Module
joined before after = record {
  constructors = before.constructors ++ after.constructors;
  declarations = before.declarations ++ after.declarations;
  injections = before.injections ++ after.injections;
  definitions = before.definitions ++ after.definitions;
}

-- what was read
abbrev pub built_module : Built → Module
built_module b = record {
  constructors = b.constructors.items;
  declarations = b.declarations.items;
  injections = b.injections.items;
  definitions = b.definitions.items;
}

-- the module of this declaration alone
abbrev pub declaring_one : Declaration → Module
declaring_one d = record {
  constructors = constructed d;
  declarations = declared d;
  injections = injected d;
  definitions = [];
}

-- ... of these declarations
abbrev pub declaring : List Declaration → Module
declaring ds = record {
  constructors = flat_map constructed ds;
  declarations = flat_map declared ds;
  injections = flat_map injected ds;
  definitions = [];
}

-- ... of these parts of a signature
abbrev pub signing : List SignaturePart → Module
signing parts = record {
  constructors = flat_map (in_part constructed) parts;
  declarations = flat_map (in_part declared) parts;
  injections = flat_map (in_part injected) parts;
  definitions = [];
}

-- ... of these definitions
abbrev pub defining : List Definition → Module
defining ds = record { constructors = []; declarations = []; injections = []; definitions = ds }

-- sections to the end of the text
abbrev pub ReadsSections : List Section → List Token → Type 0
ReadsSections [] x = x ≡ []
ReadsSections (s ∷ ss) x = (y : List Token) × ReadsSection s x y × ReadsSections ss y

-- sections, up to the end of the text
pub record SectionsLeft (x : List Token) (m : Module) : Type 0 where
  pub sections : List Section
  pub reads : ReadsSections sections x
  pub gives : core_module sections ≡ m

-- parts of a signature, followed by sections
pub record SignatureLeft (x : List Token) (m : Module) : Type 0 where
  pub parts : List SignaturePart
  pub rest : List Token
  pub reads : ReadsAll ReadsSignaturePart parts x rest
  pub after : Module
  pub left : SectionsLeft rest after
  pub gives : joined (signing parts) after ≡ m

-- sorts, followed by the rest as in a signature
pub record SortsLeft (x : List Token) (m : Module) : Type 0 where
  pub sorts : List Sort
  pub rest : List Token
  pub reads : ReadsAll ReadsSort sorts x rest
  pub left : SignatureLeft rest m

-- declarations, followed by the rest as in a signature
pub record DeclarationsLeft (x : List Token) (m : Module) : Type 0 where
  pub declarations : List Declaration
  pub rest : List Token
  pub reads : ReadsAll ReadsDeclaration declarations x rest
  pub after : Module
  pub left : SignatureLeft rest after
  pub gives : joined (declaring declarations) after ≡ m

-- definitions, followed by sections
pub record DefinitionsLeft (x : List Token) (m : Module) : Type 0 where
  pub definitions : List Defined
  pub rest : List Token
  pub reads : ReadsAll ReadsDefined definitions x rest
  pub after : Module
  pub left : SectionsLeft rest after
  pub gives : joined (defining (map core_definition definitions)) after ≡ m

abbrev pub Left : Context → List Token → Module → Type 0
Left Outside x m = SectionsLeft x m
Left InSignature x m = SignatureLeft x m
Left Sorts x m = SortsLeft x m
Left Constructors x m = DeclarationsLeft x m
Left Definitions x m = DefinitionsLeft x m

-- the module is what was read, followed by what the rest gives
pub record SectionStands (p : Context) (before : Module) (x : List Token) (m : Module) : Type 0 where
  pub after : Module
  pub left : Left p x after
  pub gives : joined before after ≡ m
