-- What a module gives after a word that begins a part of it, and at the end of its text.
use Rattle.std.proofs.Common.{◌≡◌, refl, sym, ap, ◌∙◌, subst, inl, inr, List, [], ◌∷◌, Some, None, append_assoc}
use Rattle.std.specs.Prelude.{◌⊎◌, map}
use Rattle.std.specs.declared.option.Option.{Option}
use Rattle.term_core.specs.Tree.{Symbol}
use Rattle.term_sorts.specs.Sorts.{Sort, sort, no_sorts, and_sort}
use Rattle.strategy_syntax.specs.Modules.{Module}
use Rattle.strategy_tokens.specs.declared.token.Token.{Token}
use Rattle.strategy_tokens.specs.declared.token.Token.TheVariants.{Ident, Reserved, Sign as ASign}
use Rattle.strategy_tokens.specs.declared.token.Keyword.{Keyword}
use Rattle.strategy_tokens.specs.declared.token.Keyword.TheVariants.{Signature as KSignature, Sorts as KSorts, Constructors as KConstructors, Rules, Strategies}
use Rattle.strategy_tokens.specs.declared.token.Sign.TheVariants.{Colon}
use Rattle.strategy_parse.specs.declared.modules.sections.Context.{Context}
use Rattle.strategy_parse.specs.declared.modules.sections.Context.TheVariants.{Outside, Signature as InSignature, Sorts, Constructors, Definitions}
use Rattle.strategy_parse.specs.Written.{Declaration, constant, function, Defined, definition, rule, rule_where, SignaturePart, sorts, constructors, Section, signature, definitions}
use Rattle.strategy_parse.specs.GrammarModules.{ReadsSort, ReadsDeclaration, ReadsDefined, ReadsSignaturePart, ReadsAll}
use Rattle.strategy_parse.specs.Core.{core_module, core_definition}
use Rattle.strategy_parse.specs.inside.Sections.{in_signature, next_context, IsItem, nothing, joined, declaring, signing, defining, ReadsSections, SectionsLeft, SignatureLeft, SortsLeft, DeclarationsLeft, DefinitionsLeft, Left}

pub joined-joined : (a b m : Module) → joined a (joined b m) ≡ joined (joined a b) m
joined-joined a b m = λ i. record {
  constructors = sym (append_assoc a.constructors b.constructors m.constructors) i;
  declarations = sym (append_assoc a.declarations b.declarations m.declarations) i;
  injections = sym (append_assoc a.injections b.injections m.injections) i;
  definitions = sym (append_assoc a.definitions b.definitions m.definitions) i;
}

-- ---- the beginnings of items

pub record Named (x : List Token) : Type 0 where
  pub name : Symbol
  pub rest : List Token
  pub is : x ≡ Ident name ∷ rest

pub defined_named : (d : Defined) (x y : List Token) → ReadsDefined d x y → Named x
defined_named (definition h a) x y r = record { name = h.name; rest = r.1.0; is = r.1.1 }
defined_named (rule h p q) x y r = record { name = h.name; rest = r.1.0; is = r.1.1 }
defined_named (rule_where h p q a) x y r = record { name = h.name; rest = r.1.0; is = r.1.1 }

pub sort_named : (s : Sort) (x y : List Token) → ReadsSort s x y → Named x
sort_named (sort f no_sorts) x y r = record { name = f; rest = y; is = r }
sort_named (sort f (and_sort s ss)) x y r = record { name = f; rest = r.0; is = r.1 }

abbrev pub NamedOrColon : List Token → Type 0
NamedOrColon x = Named x ⊎ ((z : List Token) × (x ≡ ASign Colon ∷ z))

pub declaration_front : (d : Declaration) (x y : List Token) → ReadsDeclaration d x y → NamedOrColon x
declaration_front (constant f s) x y r = inl (record { name = f; rest = r.0; is = r.1 })
declaration_front (function f no_sorts s) x y r = absurd r
declaration_front (function (Some f) (and_sort s ss) t) x y r = inl (record { name = f; rest = r.0; is = r.1 })
declaration_front (function None (and_sort s ss) t) x y r = inr (r.2.0, sym r.1 ∙ r.2.1)

no_name : (x ts : List Token) (w : Keyword) → x ≡ Reserved w ∷ ts → Named x → ⊥
no_name x ts w e n = let no : Reserved w ∷ ts ≡ Ident n.name ∷ n.rest = sym e ∙ n.is in cc

no_name_or_colon : (x ts : List Token) (w : Keyword) → x ≡ Reserved w ∷ ts → NamedOrColon x → ⊥
no_name_or_colon x ts w e (inl n) = no_name x ts w e n
no_name_or_colon x ts w e (inr n) = let no : Reserved w ∷ ts ≡ ASign Colon ∷ n.0 = sym e ∙ n.1 in cc

no_end : (x : List Token) → x ≡ [] → Named x → ⊥
no_end x e n = let no : ◌≡◌ {A = List Token} [] (Ident n.name ∷ n.rest) = sym e ∙ n.is in cc

no_end_or_colon : (x : List Token) → x ≡ [] → NamedOrColon x → ⊥
no_end_or_colon x e (inl n) = no_end x e n
no_end_or_colon x e (inr n) = let no : ◌≡◌ {A = List Token} [] (ASign Colon ∷ n.0) = sym e ∙ n.1 in cc

pub item_is : (x ts : List Token) (w : Keyword) → x ≡ Reserved w ∷ ts → IsItem x → ⊥
item_is x ts w e h = subst IsItem e h

-- ---- a word that begins a part

-- where a word leads to, from the context p
pub record WordStep (p : Context) (w : Keyword) (x : List Token) (m : Module) : Type 0 where
  pub context : Context
  pub is : next_context p w ≡ Some context
  pub left : Left context x m

-- ... from anywhere
record AnyStep (w : Keyword) (x : List Token) (m : Module) : Type 0 where
  pub context : Context
  pub is : (p : Context) → next_context p w ≡ Some context
  pub left : Left context x m

word-is : (w k : Keyword) (x a : List Token) → Reserved w ∷ x ≡ Reserved k ∷ a → w ≡ k
word-is w k x a e = cc

rest-is : (w k : Keyword) (x a : List Token) → Reserved w ∷ x ≡ Reserved k ∷ a → x ≡ a
rest-is w k x a e = cc

to_part : (k : Keyword) (q : Context) (w : Keyword) (x a : List Token) (m : Module)
    → ((p : Context) → next_context p k ≡ Some q) → Reserved w ∷ x ≡ Reserved k ∷ a → Left q a m → AnyStep w x m
to_part k q w x a m is e left = record {
  context = q;
  is = λ p. ap (next_context p) (word-is w k x a e) ∙ is p;
  left = subst (λ l. Left q l m) (sym (rest-is w k x a e)) left;
}

outside_step : (ss : List Section) (w : Keyword) (x : List Token) (m : Module)
    → ReadsSections ss (Reserved w ∷ x) → core_module ss ≡ m → AnyStep w x m
outside_step [] w x m r e = absurd (cc)
outside_step (signature ps ∷ ss) w x m r e =
    to_part KSignature InSignature w x r.1.0 m (λ p. refl) r.1.1
    (record {
      parts = ps;
      rest = r.0;
      reads = r.1.2;
      after = core_module ss;
      left = record { sections = ss; reads = r.2; gives = refl };
      gives = e;
    })
outside_step (definitions ds ∷ ss) w x m (v, (a, (inl k), reads), rest) e =
    to_part Rules Definitions w x a m (λ p. refl) k
    (record {
      definitions = ds;
      rest = v;
      reads = reads;
      after = core_module ss;
      left = record { sections = ss; reads = rest; gives = refl };
      gives = e;
    })
outside_step (definitions ds ∷ ss) w x m (v, (a, (inr k), reads), rest) e =
    to_part Strategies Definitions w x a m (λ p. refl) k
    (record {
      definitions = ds;
      rest = v;
      reads = reads;
      after = core_module ss;
      left = record { sections = ss; reads = rest; gives = refl };
      gives = e;
    })

from_any : (p : Context) (w : Keyword) (x : List Token) (m : Module) → AnyStep w x m → WordStep p w x m
from_any p w x m s = record { context = s.context; is = s.is p; left = s.left }

sections_step : (p : Context) (w : Keyword) (x y : List Token) (m : Module) → y ≡ Reserved w ∷ x → SectionsLeft y m
    → WordStep p w x m
sections_step p w x y m e l =
    from_any p w x m (outside_step l.sections w x m (subst (λ z. ReadsSections l.sections z) e l.reads) l.gives)

-- in a signature
abbrev IsInSignature : Context → Type 0
IsInSignature p = (q : Context) → in_signature p q ≡ Some q

signature_step : (p : Context) → IsInSignature p → (ps : List SignaturePart) (w : Keyword) (x y : List Token)
    (m : Module) → ReadsAll ReadsSignaturePart ps (Reserved w ∷ x) y → (k : Module) → SectionsLeft y k
    → joined (signing ps) k ≡ m → WordStep p w x m
signature_step p h [] w x y m r k l e = sections_step p w x y m r (subst (SectionsLeft y) e l)
signature_step p h (sorts ss ∷ ps) w x y m r k l e = record {
  context = Sorts;
  is = ap (next_context p) (word-is w KSorts x r.1.0 r.1.1) ∙ h Sorts;
  left = subst (λ z. SortsLeft z m) (sym (rest-is w KSorts x r.1.0 r.1.1))
      (record {
        sorts = ss;
        rest = r.0;
        reads = r.1.2;
        left = record { parts = ps; rest = y; reads = r.2; after = k; left = l; gives = e };
      });
}
signature_step p h (constructors ds ∷ ps) w x y m r k l e = record {
  context = Constructors;
  is = ap (next_context p) (word-is w KConstructors x r.1.0 r.1.1) ∙ h Constructors;
  left = subst (λ z. DeclarationsLeft z m) (sym (rest-is w KConstructors x r.1.0 r.1.1))
      (record {
        declarations = ds;
        rest = r.0;
        reads = r.1.2;
        after = joined (signing ps) k;
        left = record { parts = ps; rest = y; reads = r.2; after = k; left = l; gives = refl };
        gives = joined-joined (declaring ds) (signing ps) k ∙ e;
      });
}

in_signature_step : (p : Context) → IsInSignature p → (w : Keyword) (x y : List Token) (m : Module)
    → y ≡ Reserved w ∷ x → SignatureLeft y m → WordStep p w x m
in_signature_step p h w x y m e l = signature_step p h l.parts w x l.rest m
    (subst (λ z. ReadsAll ReadsSignaturePart l.parts z l.rest) e l.reads) l.after l.left l.gives

sorts_step : (ss : List Sort) (w : Keyword) (x y : List Token) (m : Module) → ReadsAll ReadsSort ss (Reserved w ∷ x) y
    → SignatureLeft y m → WordStep Sorts w x m
sorts_step [] w x y m r l = in_signature_step Sorts (λ q. refl) w x y m r l
sorts_step (s ∷ ss) w x y m r l = absurd (no_name (Reserved w ∷ x) x w refl (sort_named s (Reserved w ∷ x) r.0 r.1))

declarations_step : (ds : List Declaration) (w : Keyword) (x y : List Token) (m : Module) → ReadsAll ReadsDeclaration ds
    (Reserved w ∷ x) y → (k : Module) → SignatureLeft y k → joined (declaring ds) k ≡ m → WordStep Constructors w x m
declarations_step [] w x y m r k l e =
    in_signature_step Constructors (λ q. refl) w x y m r (subst (SignatureLeft y) e l)
declarations_step (d ∷ ds) w x y m r k l e =
    absurd (no_name_or_colon (Reserved w ∷ x) x w refl (declaration_front d (Reserved w ∷ x) r.0 r.1))

definitions_step : (ds : List Defined) (w : Keyword) (x y : List Token) (m : Module)
    → ReadsAll ReadsDefined ds (Reserved w ∷ x) y → (k : Module) → SectionsLeft y k
    → joined (defining (map core_definition ds)) k ≡ m → WordStep Definitions w x m
definitions_step [] w x y m r k l e = sections_step Definitions w x y m r (subst (SectionsLeft y) e l)
definitions_step (d ∷ ds) w x y m r k l e =
    absurd (no_name (Reserved w ∷ x) x w refl (defined_named d (Reserved w ∷ x) r.0 r.1))

pub word_step : (p : Context) (w : Keyword) (x : List Token) (m : Module) → Left p (Reserved w ∷ x) m → WordStep p w x m
word_step Outside w x m l = sections_step Outside w x (Reserved w ∷ x) m refl l
word_step InSignature w x m l = in_signature_step InSignature (λ q. refl) w x (Reserved w ∷ x) m refl l
word_step Sorts w x m l = sorts_step l.sorts w x l.rest m l.reads l.left
word_step Constructors w x m l = declarations_step l.declarations w x l.rest m l.reads l.after l.left l.gives
word_step Definitions w x m l = definitions_step l.definitions w x l.rest m l.reads l.after l.left l.gives

-- ... and back
outside_signature : (x : List Token) (m : Module) → SignatureLeft x m → SectionsLeft (Reserved KSignature ∷ x) m
outside_signature x m l = record {
  sections = signature l.parts ∷ l.left.sections;
  reads = (l.rest, (x, refl, l.reads), l.left.reads);
  gives = ap (joined (signing l.parts)) l.left.gives ∙ l.gives;
}

outside_rules : (x : List Token) (m : Module) → DefinitionsLeft x m → SectionsLeft (Reserved Rules ∷ x) m
outside_rules x m l = record {
  sections = definitions l.definitions ∷ l.left.sections;
  reads = (l.rest, (x, inl refl, l.reads), l.left.reads);
  gives = ap (joined (defining (map core_definition l.definitions))) l.left.gives ∙ l.gives;
}

outside_strategies : (x : List Token) (m : Module) → DefinitionsLeft x m → SectionsLeft (Reserved Strategies ∷ x) m
outside_strategies x m l = record {
  sections = definitions l.definitions ∷ l.left.sections;
  reads = (l.rest, (x, inr refl, l.reads), l.left.reads);
  gives = ap (joined (defining (map core_definition l.definitions))) l.left.gives ∙ l.gives;
}

signature_of : (x : List Token) (m : Module) → SectionsLeft x m → SignatureLeft x m
signature_of x m l = record { parts = []; rest = x; reads = refl; after = m; left = l; gives = refl }

from_outside : (p : Context) (x : List Token) (m : Module) → SectionsLeft x m → Left p x m
from_outside Outside x m l = l
from_outside InSignature x m l = signature_of x m l
from_outside Sorts x m l = record { sorts = []; rest = x; reads = refl; left = signature_of x m l }
from_outside Constructors x m l =
    record { declarations = []; rest = x; reads = refl; after = m; left = signature_of x m l; gives = refl }
from_outside Definitions x m l = record { definitions = []; rest = x; reads = refl; after = m; left = l; gives = refl }

signature_sorts : (x : List Token) (m : Module) → SortsLeft x m → SignatureLeft (Reserved KSorts ∷ x) m
signature_sorts x m l = record {
  parts = sorts l.sorts ∷ l.left.parts;
  rest = l.left.rest;
  reads = (l.rest, (x, refl, l.reads), l.left.reads);
  after = l.left.after;
  left = l.left.left;
  gives = l.left.gives;
}

signature_constructors : (x : List Token) (m : Module) → DeclarationsLeft x m
    → SignatureLeft (Reserved KConstructors ∷ x) m
signature_constructors x m l = record {
  parts = constructors l.declarations ∷ l.left.parts;
  rest = l.left.rest;
  reads = (l.rest, (x, refl, l.reads), l.left.reads);
  after = l.left.after;
  left = l.left.left;
  gives =
      sym (joined-joined (declaring l.declarations) (signing l.left.parts) l.left.after)
      ∙ ap (joined (declaring l.declarations)) l.left.gives ∙ l.gives;
}

from_signature : (p q : Context) (x : List Token) (m : Module) → in_signature p q ≡ Some q → SignatureLeft x m
    → Left p x m
from_signature Outside q x m e l = absurd (cc)
from_signature InSignature q x m e l = l
from_signature Sorts q x m e l = record { sorts = []; rest = x; reads = refl; left = l }
from_signature Constructors q x m e l =
    record { declarations = []; rest = x; reads = refl; after = m; left = l; gives = refl }
from_signature Definitions q x m e l = absurd (cc)

in_signature-is : (p q r : Context) → in_signature p q ≡ Some r → q ≡ r
in_signature-is Outside q r e = absurd (cc)
in_signature-is InSignature q r e = cc
in_signature-is Sorts q r e = cc
in_signature-is Constructors q r e = cc
in_signature-is Definitions q r e = absurd (cc)

pub some-is : (q r : Context) → ◌≡◌ {A = Option Context} (Some q) (Some r) → q ≡ r
some-is q r e = cc

pub word_back : (p : Context) (w : Keyword) (q : Context) (x : List Token) (m : Module) → next_context p w ≡ Some q
    → Left q x m → Left p (Reserved w ∷ x) m
word_back p KSignature q x m e l = from_outside p (Reserved KSignature ∷ x) m
    (outside_signature x m (subst (λ r. Left r x m) (sym (some-is InSignature q e)) l))
word_back p Rules q x m e l = from_outside p (Reserved Rules ∷ x) m
    (outside_rules x m (subst (λ r. Left r x m) (sym (some-is Definitions q e)) l))
word_back p Strategies q x m e l = from_outside p (Reserved Strategies ∷ x) m
    (outside_strategies x m (subst (λ r. Left r x m) (sym (some-is Definitions q e)) l))
word_back p KSorts q x m e l =
    let same : Sorts ≡ q = in_signature-is p Sorts q e in
    from_signature p Sorts (Reserved KSorts ∷ x) m (e ∙ ap Some (sym same))
    (signature_sorts x m (subst (λ r. Left r x m) (sym same) l))
word_back p KConstructors q x m e l =
    let same : Constructors ≡ q = in_signature-is p Constructors q e in
    from_signature p Constructors (Reserved KConstructors ∷ x) m (e ∙ ap Some (sym same))
    (signature_constructors x m (subst (λ r. Left r x m) (sym same) l))
word_back p w q x m e l = absurd (cc)

-- ---- the end of the text

sections_end : (ss : List Section) (m : Module) → ReadsSections ss [] → core_module ss ≡ m → nothing ≡ m
sections_end [] m r e = e
sections_end (signature ps ∷ ss) m r e = let no : ◌≡◌ {A = List Token} [] (Reserved KSignature ∷ r.1.0) = r.1.1 in
    absurd (cc)
sections_end (definitions ds ∷ ss) m (v, (a, (inl k), reads), rest) e = absurd (cc)
sections_end (definitions ds ∷ ss) m (v, (a, (inr k), reads), rest) e = absurd (cc)

sections_done : (x : List Token) (m : Module) → x ≡ [] → SectionsLeft x m → nothing ≡ m
sections_done x m e l = sections_end l.sections m (subst (λ z. ReadsSections l.sections z) e l.reads) l.gives

signature_end : (ps : List SignaturePart) (y : List Token) (m : Module) → ReadsAll ReadsSignaturePart ps [] y
    → (k : Module) → SectionsLeft y k → joined (signing ps) k ≡ m → nothing ≡ m
signature_end [] y m r k l e = sections_done y m r (subst (SectionsLeft y) e l)
signature_end (sorts ss ∷ ps) y m r k l e = let no : ◌≡◌ {A = List Token} [] (Reserved KSorts ∷ r.1.0) = r.1.1 in
    absurd (cc)
signature_end (constructors ds ∷ ps) y m r k l e = let no : ◌≡◌ {A = List Token} [] (Reserved KConstructors ∷ r.1.0) =
    r.1.1 in absurd (cc)

signature_done : (x : List Token) (m : Module) → x ≡ [] → SignatureLeft x m → nothing ≡ m
signature_done x m e l = signature_end l.parts l.rest m
    (subst (λ z. ReadsAll ReadsSignaturePart l.parts z l.rest) e l.reads) l.after l.left l.gives

sorts_end : (ss : List Sort) (y : List Token) (m : Module) → ReadsAll ReadsSort ss [] y → SignatureLeft y m
    → nothing ≡ m
sorts_end [] y m r l = signature_done y m r l
sorts_end (s ∷ ss) y m r l = absurd (no_end [] refl (sort_named s [] r.0 r.1))

declarations_end : (ds : List Declaration) (y : List Token) (m : Module) → ReadsAll ReadsDeclaration ds [] y
    → (k : Module) → SignatureLeft y k → joined (declaring ds) k ≡ m → nothing ≡ m
declarations_end [] y m r k l e = signature_done y m r (subst (SignatureLeft y) e l)
declarations_end (d ∷ ds) y m r k l e = absurd (no_end_or_colon [] refl (declaration_front d [] r.0 r.1))

definitions_end : (ds : List Defined) (y : List Token) (m : Module) → ReadsAll ReadsDefined ds [] y → (k : Module)
    → SectionsLeft y k → joined (defining (map core_definition ds)) k ≡ m → nothing ≡ m
definitions_end [] y m r k l e = sections_done y m r (subst (SectionsLeft y) e l)
definitions_end (d ∷ ds) y m r k l e = absurd (no_end [] refl (defined_named d [] r.0 r.1))

pub left_end : (p : Context) (m : Module) → Left p [] m → nothing ≡ m
left_end Outside m l = sections_end l.sections m l.reads l.gives
left_end InSignature m l = signature_end l.parts l.rest m l.reads l.after l.left l.gives
left_end Sorts m l = sorts_end l.sorts l.rest m l.reads l.left
left_end Constructors m l = declarations_end l.declarations l.rest m l.reads l.after l.left l.gives
left_end Definitions m l = definitions_end l.definitions l.rest m l.reads l.after l.left l.gives

pub left_nothing : (p : Context) → Left p [] nothing
left_nothing p = from_outside p [] nothing (record { sections = []; reads = refl; gives = refl })
