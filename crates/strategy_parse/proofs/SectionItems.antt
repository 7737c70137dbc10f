-- What a module gives after a sort, a declaration or a definition, and what may come after these.
use Rattle.std.proofs.Common.{◌≡◌, false, refl, sym, ap, ◌∙◌, subst, inl, inr, List, [], ◌∷◌}
use Rattle.std.specs.Prelude.{◌⊎◌, map}
use Rattle.term_sorts.specs.Sorts.{Sort}
use Rattle.strategy_syntax.specs.Modules.{Module}
use Rattle.strategy_tokens.specs.declared.token.Token.{Token}
use Rattle.strategy_tokens.specs.declared.token.Token.TheVariants.{Reserved}
use Rattle.strategy_tokens.specs.declared.token.Keyword.{Keyword}
use Rattle.strategy_tokens.specs.declared.token.Keyword.TheVariants.{Signature as KSignature, Sorts as KSorts, Constructors as KConstructors, Rules, Strategies, Where}
use Rattle.strategy_parse.specs.Written.{Declaration, Defined, SignaturePart, sorts, constructors, Section, signature, definitions}
use Rattle.strategy_parse.specs.GrammarModules.{ReadsSort, ReadsDeclaration, ReadsDefined, ReadsSignaturePart, ReadsAll}
use Rattle.strategy_parse.specs.Core.{core_definition}
use Rattle.strategy_tokens.specs.Marks.{is_word}
use Rattle.strategy_parse.specs.inside.Definitions.{DefinitionEnds}
use Rattle.strategy_parse.specs.inside.Sections.{IsItem, joined, declaring, declaring_one, defining, ReadsSections, SectionsLeft, SignatureLeft, SortsLeft, DeclarationsLeft, DefinitionsLeft}
use Rattle.strategy_parse.proofs.DeclarationLemmas.{DeclarationEnds}
use Rattle.strategy_parse.proofs.SectionWords.{joined-joined, Named, NamedOrColon, defined_named, sort_named, declaration_front, item_is}

-- where sections have to begin, no item comes
sections_item : (ss : List Section) (x : List Token) → ReadsSections ss x → IsItem x → ⊥
sections_item [] x r i = subst IsItem r i
sections_item (signature ps ∷ ss) x r i = item_is x r.1.0 KSignature r.1.1 i
sections_item (definitions ds ∷ ss) x (v, (a, (inl k), reads), rest) i = item_is x a Rules k i
sections_item (definitions ds ∷ ss) x (v, (a, (inr k), reads), rest) i = item_is x a Strategies k i

pub outside_item : (x : List Token) (m : Module) → SectionsLeft x m → IsItem x → ⊥
outside_item x m l i = sections_item l.sections x l.reads i

signatures_item : (ps : List SignaturePart) (x y : List Token) (m : Module) → ReadsAll ReadsSignaturePart ps x y
    → SectionsLeft y m → IsItem x → ⊥
signatures_item [] x y m r l i = outside_item y m l (subst IsItem (sym r) i)
signatures_item (sorts ss ∷ ps) x y m r l i = item_is x r.1.0 KSorts r.1.1 i
signatures_item (constructors ds ∷ ps) x y m r l i = item_is x r.1.0 KConstructors r.1.1 i

pub signature_item : (x : List Token) (m : Module) → SignatureLeft x m → IsItem x → ⊥
signature_item x m l i = signatures_item l.parts x l.rest l.after l.reads l.left i

-- what comes next in a module: an identifier, a reserved word that begins a part, or the end
abbrev WordOrEnd : List Token → Type 0
WordOrEnd x =
    ((w : Keyword) × (z : List Token) × (x ≡ Reserved w ∷ z) × (is_word Where (Reserved w) ≡ false)) ⊎ (x ≡ [])

sections_front : (ss : List Section) (x : List Token) → ReadsSections ss x → WordOrEnd x
sections_front [] x r = inr r
sections_front (signature ps ∷ ss) x r = inl (KSignature, r.1.0, r.1.1, refl)
sections_front (definitions ds ∷ ss) x (v, (a, (inl k), reads), rest) = inl (Rules, a, k, refl)
sections_front (definitions ds ∷ ss) x (v, (a, (inr k), reads), rest) = inl (Strategies, a, k, refl)

signature_front : (ps : List SignaturePart) (x y : List Token) (m : Module) → ReadsAll ReadsSignaturePart ps x y
    → SectionsLeft y m → WordOrEnd x
signature_front [] x y m r l = subst WordOrEnd r (sections_front l.sections y l.reads)
signature_front (sorts ss ∷ ps) x y m r l = inl (KSorts, r.1.0, r.1.1, refl)
signature_front (constructors ds ∷ ps) x y m r l = inl (KConstructors, r.1.0, r.1.1, refl)

named_ends : (x : List Token) → Named x → DefinitionEnds x
named_ends x n = subst DefinitionEnds (sym n.is) (record { stops = refl; no_condition = refl })

end_ends : (x : List Token) → WordOrEnd x → DefinitionEnds x
end_ends x (inl h) = subst DefinitionEnds (sym h.2) (record { stops = refl; no_condition = h.3 })
end_ends x (inr h) = subst DefinitionEnds (sym h) (record { stops = tt; no_condition = refl })

definitions_end_at : (ds : List Defined) (x y : List Token) (m : Module) → ReadsAll ReadsDefined ds x y
    → SectionsLeft y m → DefinitionEnds x
definitions_end_at [] x y m r l = subst DefinitionEnds r (end_ends y (sections_front l.sections y l.reads))
definitions_end_at (d ∷ ds) x y m r l = named_ends x (defined_named d x r.0 r.1)

apart_named : (x : List Token) → Named x → DeclarationEnds x
apart_named x n = subst DeclarationEnds (sym n.is) (record { round = refl; star = refl; arrow = refl })

apart_colon : (x : List Token) → NamedOrColon x → DeclarationEnds x
apart_colon x (inl n) = apart_named x n
apart_colon x (inr n) = subst DeclarationEnds (sym n.1) (record { round = refl; star = refl; arrow = refl })

apart_end : (x : List Token) → WordOrEnd x → DeclarationEnds x
apart_end x (inl h) = subst DeclarationEnds (sym h.2) (record { round = refl; star = refl; arrow = refl })
apart_end x (inr h) = subst DeclarationEnds (sym h) (record { round = refl; star = refl; arrow = refl })

declarations_apart : (ds : List Declaration) (x y : List Token) (m : Module) → ReadsAll ReadsDeclaration ds x y
    → SignatureLeft y m → DeclarationEnds x
declarations_apart [] x y m r l =
    subst DeclarationEnds r (apart_end y (signature_front l.parts y l.rest l.after l.reads l.left))
declarations_apart (d ∷ ds) x y m r l = apart_colon x (declaration_front d x r.0 r.1)

sorts_apart : (ss : List Sort) (x y : List Token) (m : Module) → ReadsAll ReadsSort ss x y → SignatureLeft y m
    → DeclarationEnds x
sorts_apart [] x y m r l =
    subst DeclarationEnds r (apart_end y (signature_front l.parts y l.rest l.after l.reads l.left))
sorts_apart (s ∷ ss) x y m r l = apart_named x (sort_named s x r.0 r.1)

-- an item comes: the item and the rest after it
pub record DefinitionStep (x : List Token) (m : Module) : Type 0 where
  pub definition : Defined
  pub rest : List Token
  pub reads : ReadsDefined definition x rest
  pub ends : DefinitionEnds rest
  pub after : Module
  pub left : DefinitionsLeft rest after
  pub gives : joined (defining (core_definition definition ∷ [])) after ≡ m

definitions_items : (ds : List Defined) (x y : List Token) (m : Module) → ReadsAll ReadsDefined ds x y → (k : Module)
    → SectionsLeft y k → joined (defining (map core_definition ds)) k ≡ m → IsItem x → DefinitionStep x m
definitions_items [] x y m r k l e i = absurd (outside_item y k l (subst IsItem (sym r) i))
definitions_items (d ∷ ds) x y m r k l e i = record {
  definition = d;
  rest = r.0;
  reads = r.1;
  ends = definitions_end_at ds r.0 y k r.2 l;
  after = joined (defining (map core_definition ds)) k;
  left = record { definitions = ds; rest = y; reads = r.2; after = k; left = l; gives = refl };
  gives = e;
}

pub definition_step : (x : List Token) (m : Module) → DefinitionsLeft x m → IsItem x → DefinitionStep x m
definition_step x m l i = definitions_items l.definitions x l.rest m l.reads l.after l.left l.gives i

pub definition_back : (d : Defined) (x y : List Token) (m : Module) → ReadsDefined d x y → DefinitionsLeft y m
    → DefinitionsLeft x (joined (defining (core_definition d ∷ [])) m)
definition_back d x y m r l = record {
  definitions = d ∷ l.definitions;
  rest = l.rest;
  reads = (y, r, l.reads);
  after = l.after;
  left = l.left;
  gives = ap (joined (defining (core_definition d ∷ []))) l.gives;
}

pub record DeclarationStep (x : List Token) (m : Module) : Type 0 where
  pub declaration : Declaration
  pub rest : List Token
  pub reads : ReadsDeclaration declaration x rest
  pub ends : DeclarationEnds rest
  pub after : Module
  pub left : DeclarationsLeft rest after
  pub gives : joined (declaring_one declaration) after ≡ m

declarations_items : (ds : List Declaration) (x y : List Token) (m : Module) → ReadsAll ReadsDeclaration ds x y
    → (k : Module) → SignatureLeft y k → joined (declaring ds) k ≡ m → IsItem x → DeclarationStep x m
declarations_items [] x y m r k l e i = absurd (signature_item y k l (subst IsItem (sym r) i))
declarations_items (d ∷ ds) x y m r k l e i = record {
  declaration = d;
  rest = r.0;
  reads = r.1;
  ends = declarations_apart ds r.0 y k r.2 l;
  after = joined (declaring ds) k;
  left = record { declarations = ds; rest = y; reads = r.2; after = k; left = l; gives = refl };
  gives = joined-joined (declaring_one d) (declaring ds) k ∙ e;
}

pub declaration_step : (x : List Token) (m : Module) → DeclarationsLeft x m → IsItem x → DeclarationStep x m
declaration_step x m l i = declarations_items l.declarations x l.rest m l.reads l.after l.left l.gives i

pub declaration_back : (d : Declaration) (x y : List Token) (m : Module) → ReadsDeclaration d x y → DeclarationsLeft y m
    → DeclarationsLeft x (joined (declaring_one d) m)
declaration_back d x y m r l = record {
  declarations = d ∷ l.declarations;
  rest = l.rest;
  reads = (y, r, l.reads);
  after = l.after;
  left = l.left;
  gives = sym (joined-joined (declaring_one d) (declaring l.declarations) l.after)
      ∙ ap (joined (declaring_one d)) l.gives;
}

pub record SortStep (x : List Token) (m : Module) : Type 0 where
  pub sort : Sort
  pub rest : List Token
  pub reads : ReadsSort sort x rest
  pub ends : DeclarationEnds rest
  pub left : SortsLeft rest m

sorts_items : (ss : List Sort) (x y : List Token) (m : Module) → ReadsAll ReadsSort ss x y → SignatureLeft y m
    → IsItem x → SortStep x m
sorts_items [] x y m r l i = absurd (signature_item y m l (subst IsItem (sym r) i))
sorts_items (s ∷ ss) x y m r l i = record {
  sort = s;
  rest = r.0;
  reads = r.1;
  ends = sorts_apart ss r.0 y m r.2 l;
  left = record { sorts = ss; rest = y; reads = r.2; left = l };
}

pub sort_step : (x : List Token) (m : Module) → SortsLeft x m → IsItem x → SortStep x m
sort_step x m l i = sorts_items l.sorts x l.rest m l.reads l.left i

pub sort_back : (s : Sort) (x y : List Token) (m : Module) → ReadsSort s x y → SortsLeft y m → SortsLeft x m
sort_back s x y m r l = record { sorts = s ∷ l.sorts; rest = l.rest; reads = (y, r, l.reads); left = l.left }
