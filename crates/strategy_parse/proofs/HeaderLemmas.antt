-- The headers of definitions, by the grammar and as the functions find them.
use Rattle.std.proofs.Common.{◌≡◌, Bool, true, false, refl, sym, ap, ◌∙◌, subst, inl, inr, List, [], ◌∷◌, ◌++◌, Some, None, append_assoc, append-nil}
use Rattle.std.specs.Prelude.{if◌then◌else◌, ◌⊎◌}
use Rattle.std.specs.declared.option.Option.{Option}
use Rattle.term_core.specs.Tree.{Symbol}
use Rattle.strategy_tokens.specs.declared.token.Token.{Token}
use Rattle.strategy_tokens.specs.declared.token.Token.TheVariants.{Ident, Wildcard, Reserved, Integer, Text, Sign as ASign, Bad}
use Rattle.strategy_tokens.specs.declared.token.Sign.{Sign}
use Rattle.strategy_tokens.specs.declared.token.Sign.TheVariants.{OpenRound, CloseRound, Comma, Bar}
use Rattle.strategy_tokens.specs.Marks.{is_mark}
use Rattle.strategy_parse.specs.Written.{Header}
use Rattle.aterm_text.specs.Grammar.{◌▸◌}
use Rattle.strategy_parse.specs.Grammar.{Mark, ReadsNames, ReadsMoreNames}
use Rattle.strategy_parse.specs.GrammarModules.{ReadsParameters, ReadsHeader}
use Rattle.strategy_parse.specs.inside.ModuleFronts.{after_mark, NamesLeft, more_names, names_at, HeaderLeft, make_header, close_header, after_terms, after_bar, without_terms, after_strategies, parameters_at, after_name, header_at}
use Rattle.strategy_tokens.proofs.MarkLemmas.{mark_self, mark_is}
use Rattle.strategy_parse.specs.inside.NextToken.{NoMark}

-- ---- a sign that comes first

pub after_found : (m : Sign) (y : List Token) → after_mark m (ASign m ∷ y) ≡ Some y
after_found m y = rw (mark_self m) refl

pub after_none : (m : Sign) (x : List Token) → NoMark m x → after_mark m x ≡ None
after_none m [] e = refl
after_none m (t ∷ ts) e = rw e refl

some-is : (x y : List Token) → ◌≡◌ {A = Option (List Token)} (Some x) (Some y) → x ≡ y
some-is x y e = cc

by_test : (m : Sign) (t : Token) (ts y : List Token) (b : Bool)
    → is_mark m t ≡ b → ◌≡◌ {A = Option (List Token)} (if b then Some ts else None) (Some y) → t ∷ ts ≡ ASign m ∷ y
by_test m t ts y true e h = λ i. mark_is m t e i ∷ some-is ts y h i
by_test m t ts y false e h = absurd (cc)

pub mark_found : (m : Sign) (x y : List Token) → after_mark m x ≡ Some y → x ≡ ASign m ∷ y
mark_found m [] y h = absurd (cc)
mark_found m (t ∷ ts) y h = by_test m t ts y (is_mark m t) refl h

-- ---- names

more_named : (fs done : List Symbol) (m : Sign) (x y : List Token)
    → is_mark Comma (ASign m) ≡ false → ReadsMoreNames fs m x y → more_names done x ≡ Some (done ++ fs, ASign m ∷ y)
more_named [] done m x y e h = subst (λ l. more_names done l ≡ Some (done ++ [], ASign m ∷ y)) (sym h) (end y) where
  end : (y : List Token) → more_names done (ASign m ∷ y) ≡ Some (done ++ [], ASign m ∷ y)
  end [] = rw e (ap (λ l. Some (l, ASign m ∷ [])) (sym (append-nil done)))
  end (Ident f ∷ ts) = rw e (ap (λ l. Some (l, ASign m ∷ (Ident f ∷ ts))) (sym (append-nil done)))
  end (Wildcard ∷ ts) = rw e (ap (λ l. Some (l, ASign m ∷ (Wildcard ∷ ts))) (sym (append-nil done)))
  end (Reserved w ∷ ts) = rw e (ap (λ l. Some (l, ASign m ∷ (Reserved w ∷ ts))) (sym (append-nil done)))
  end (Integer z ∷ ts) = rw e (ap (λ l. Some (l, ASign m ∷ (Integer z ∷ ts))) (sym (append-nil done)))
  end (Text f ∷ ts) = rw e (ap (λ l. Some (l, ASign m ∷ (Text f ∷ ts))) (sym (append-nil done)))
  end (ASign s ∷ ts) = rw e (ap (λ l. Some (l, ASign m ∷ (ASign s ∷ ts))) (sym (append-nil done)))
  end (Bad ∷ ts) = rw e (ap (λ l. Some (l, ASign m ∷ (Bad ∷ ts))) (sym (append-nil done)))
more_named (f ∷ fs) done m x y e h =
    rw h.1 (rw h.2.1 (more_named fs (done ++ f ∷ []) m h.2.0 y e h.2.2
    ∙ ap (λ l. Some (l, ASign m ∷ y)) (append_assoc done (f ∷ []) fs)))

pub names_named : (fs : List Symbol) (m : Sign) (x y : List Token)
    → is_mark Comma (ASign m) ≡ false → ReadsNames fs m x y → names_at x ≡ Some (fs, ASign m ∷ y)
names_named [] m x y e h = rw h refl
names_named (f ∷ fs) m x y e h = rw h.1 (more_named fs (f ∷ []) m h.0 y e h.2)

-- names up to a sign
record MoreFound (done : List Symbol) (x : List Token) (found : List Symbol) (y : List Token) : Type 0 where
  pub names : List Symbol
  pub is : found ≡ done ++ names
  pub reads : (m : Sign) (z : List Token) → y ≡ ASign m ∷ z → ReadsMoreNames names m x z

pair-left : (a b : List Symbol) (x y : List Token) → ◌≡◌ {A = NamesLeft} (Some (a, x)) (Some (b, y)) → a ≡ b
pair-left a b x y e = let pair : ◌≡◌ {A = List Symbol × List Token} (a, x) (b, y) = cc in
    ap (λ (q : List Symbol × List Token). q.0) pair

pair-right : (a b : List Symbol) (x y : List Token) → ◌≡◌ {A = NamesLeft} (Some (a, x)) (Some (b, y)) → x ≡ y
pair-right a b x y e = let pair : ◌≡◌ {A = List Symbol × List Token} (a, x) (b, y) = cc in
    ap (λ (q : List Symbol × List Token). q.1) pair

no_more : (done found : List Symbol) (x y : List Token) → ◌≡◌ {A = NamesLeft} (Some (done, x)) (Some (found, y))
    → MoreFound done x found y
no_more done found x y e = record {
  names = [];
  is = sym (pair-left done found x y e) ∙ sym (append-nil done);
  reads = λ m z h. pair-right done found x y e ∙ h;
}

and_name : (done found : List Symbol) (f : Symbol) (t : Token) (ts y : List Token) → t ≡ ASign Comma
    → MoreFound (done ++ f ∷ []) ts found y → MoreFound done (t ∷ (Ident f ∷ ts)) found y
and_name done found f t ts y e more = record {
  names = f ∷ more.names;
  is = more.is ∙ append_assoc done (f ∷ []) more.names;
  reads = λ m z h. (Ident f ∷ ts, ap (λ u. u ∷ (Ident f ∷ ts)) e, (ts, refl, more.reads m z h));
}

none_is : (b : Bool) (done found : List Symbol) (x y : List Token)
    → ◌≡◌ {A = NamesLeft} (if b then None else Some (done, x)) (Some (found, y)) → MoreFound done x found y
none_is true done found x y h = absurd (cc)
none_is false done found x y h = no_more done found x y h

by_comma : (b : Bool) (done found : List Symbol) (f : Symbol) (t : Token) (ts y : List Token) → is_mark Comma t ≡ b
    → (more_names (done ++ f ∷ []) ts ≡ Some (found, y) → MoreFound (done ++ f ∷ []) ts found y)
    → (if b then more_names (done ++ f ∷ []) ts else Some (done, t ∷ (Ident f ∷ ts))) ≡ Some (found, y)
    → MoreFound done (t ∷ (Ident f ∷ ts)) found y
by_comma true done found f t ts y e k h = and_name done found f t ts y (mark_is Comma t e) (k h)
by_comma false done found f t ts y e k h = no_more done found (t ∷ (Ident f ∷ ts)) y h

more_found : (done : List Symbol) (x : List Token) (found : List Symbol) (y : List Token)
    → more_names done x ≡ Some (found, y) → MoreFound done x found y
more_found done [] found y h = no_more done found [] y h
more_found done (t ∷ []) found y h = none_is (is_mark Comma t) done found (t ∷ []) y h
more_found done (t ∷ (Ident f ∷ ts)) found y h =
    by_comma (is_mark Comma t) done found f t ts y refl (more_found (done ++ f ∷ []) ts found y) h
more_found done (t ∷ (Wildcard ∷ ts)) found y h = none_is (is_mark Comma t) done found (t ∷ (Wildcard ∷ ts)) y h
more_found done (t ∷ (Reserved w ∷ ts)) found y h = none_is (is_mark Comma t) done found (t ∷ (Reserved w ∷ ts)) y h
more_found done (t ∷ (Integer z ∷ ts)) found y h = none_is (is_mark Comma t) done found (t ∷ (Integer z ∷ ts)) y h
more_found done (t ∷ (Text f ∷ ts)) found y h = none_is (is_mark Comma t) done found (t ∷ (Text f ∷ ts)) y h
more_found done (t ∷ (ASign s ∷ ts)) found y h = none_is (is_mark Comma t) done found (t ∷ (ASign s ∷ ts)) y h
more_found done (t ∷ (Bad ∷ ts)) found y h = none_is (is_mark Comma t) done found (t ∷ (Bad ∷ ts)) y h

no_names : (x : List Token) (fs : List Symbol) (y z : List Token) (m : Sign)
    → ◌≡◌ {A = NamesLeft} (Some ([], x)) (Some (fs, y)) → y ≡ ASign m ∷ z → ReadsNames fs m x z
no_names x fs y z m h e = subst (λ l. ReadsNames l m x z) (pair-left [] fs x y h) (pair-right [] fs x y h ∙ e)

first_name : (f : Symbol) (ts : List Token) (fs : List Symbol) (y z : List Token) (m : Sign)
    → y ≡ ASign m ∷ z → MoreFound (f ∷ []) ts fs y → ReadsNames fs m (Ident f ∷ ts) z
first_name f ts fs y z m e more =
    subst (λ l. ReadsNames l m (Ident f ∷ ts) z) (sym more.is) (ts, refl, more.reads m z e)

pub names_found : (x : List Token) (fs : List Symbol) (y z : List Token) (m : Sign) → names_at x ≡ Some (fs, y)
    → y ≡ ASign m ∷ z → ReadsNames fs m x z
names_found [] fs y z m h e = no_names [] fs y z m h e
names_found (Ident f ∷ ts) fs y z m h e = first_name f ts fs y z m e (more_found (f ∷ []) ts fs y h)
names_found (Wildcard ∷ ts) fs y z m h e = no_names (Wildcard ∷ ts) fs y z m h e
names_found (Reserved w ∷ ts) fs y z m h e = no_names (Reserved w ∷ ts) fs y z m h e
names_found (Integer i ∷ ts) fs y z m h e = no_names (Integer i ∷ ts) fs y z m h e
names_found (Text f ∷ ts) fs y z m h e = no_names (Text f ∷ ts) fs y z m h e
names_found (ASign s ∷ ts) fs y z m h e = no_names (ASign s ∷ ts) fs y z m h e
names_found (Bad ∷ ts) fs y z m h e = no_names (Bad ∷ ts) fs y z m h e

-- ---- headers

-- from the grammar to the functions
parameters_named : (h : Header) (x y : List Token) → ReadsParameters h.strategies h.terms x y
    → parameters_at h.name x ≡ Some (h, y)
parameters_named h x y (inl (none, reads)) =
    ap (after_strategies h.name) (names_named h.strategies CloseRound x y refl reads)
    ∙ ap (without_terms h.name h.strategies (ASign CloseRound ∷ y)) (after_found CloseRound y)
    ∙ ap (λ l. Some (make_header h.name h.strategies l, y)) (sym none)
parameters_named h x y (inr r) =
    ap (after_strategies h.name) (names_named h.strategies Bar x r.0 refl r.1)
    ∙ ap (without_terms h.name h.strategies (ASign Bar ∷ r.0)) (after_none CloseRound (ASign Bar ∷ r.0) refl)
    ∙ ap (after_bar h.name h.strategies) (after_found Bar r.0)
    ∙ ap (after_terms h.name h.strategies) (names_named h.terms CloseRound r.0 y refl r.2)
    ∙ ap (close_header (make_header h.name h.strategies h.terms)) (after_found CloseRound y)

pub header_named : (h : Header) (x y : List Token) → ReadsHeader h x y → NoMark OpenRound y → header_at x ≡ Some (h, y)
header_named h x y r e = rw r.1 (after r.2) where
  after : ((Mark OpenRound ▸ ReadsParameters h.strategies h.terms) r.0 y
      ⊎ ((y ≡ r.0) × (h.strategies ≡ []) × (h.terms ≡ []))) → after_name h.name r.0 (after_mark OpenRound r.0)
      ≡ Some (h, y)
  after (inl p) =
      ap (λ l. after_name h.name l (after_mark OpenRound l)) p.1
      ∙ ap (after_name h.name (ASign OpenRound ∷ p.0)) (after_found OpenRound p.0)
      ∙ parameters_named h p.0 y p.2
  after (inr p) =
      ap (after_name h.name r.0) (after_none OpenRound r.0 (subst (NoMark OpenRound) p.0 e))
      ∙ (λ i. Some (make_header h.name (sym p.1 i) (sym p.2 i), sym p.0 i))

-- from the functions to the grammar
header-left : (h k : Header) (x y : List Token) → ◌≡◌ {A = HeaderLeft} (Some (h, x)) (Some (k, y)) → h ≡ k
header-left h k x y e = let pair : ◌≡◌ {A = Header × List Token} (h, x) (k, y) = cc in
    ap (λ (q : Header × List Token). q.0) pair

header-right : (h k : Header) (x y : List Token) → ◌≡◌ {A = HeaderLeft} (Some (h, x)) (Some (k, y)) → x ≡ y
header-right h k x y e = let pair : ◌≡◌ {A = Header × List Token} (h, x) (k, y) = cc in
    ap (λ (q : Header × List Token). q.1) pair

-- the parameters of a header, with a name before them
record ParametersFound (f : Symbol) (x : List Token) (h : Header) (y : List Token) : Type 0 where
  pub name : f ≡ h.name
  pub reads : ReadsParameters h.strategies h.terms x y

terms_closed : (f : Symbol) (ss ts : List Symbol) (x a b : List Token) (h : Header) (y : List Token)
    → ReadsNames ss Bar x a → names_at a ≡ Some (ts, b)
    → (c : Option (List Token)) → after_mark CloseRound b ≡ c → close_header (make_header f ss ts) c ≡ Some (h, y)
    → ParametersFound f x h y
terms_closed f ss ts x a b h y reads e None m k = absurd (cc)
terms_closed f ss ts x a b h y reads e (Some z) m k =
    let same : make_header f ss ts ≡ h = header-left (make_header f ss ts) h z y k in
    let end : z ≡ y = header-right (make_header f ss ts) h z y k in
    subst (λ l. ParametersFound f x l y) same (record {
      name = refl;
      reads = inr (
        a,
        reads,
        names_found a ts b y CloseRound e (mark_found CloseRound b z m ∙ ap (λ l. ASign CloseRound ∷ l) end),
      );
    })

terms_found : (f : Symbol) (ss : List Symbol) (x a : List Token) (h : Header) (y : List Token) → ReadsNames ss Bar x a
    → (n : NamesLeft) → names_at a ≡ n → after_terms f ss n ≡ Some (h, y) → ParametersFound f x h y
terms_found f ss x a h y reads None e k = absurd (cc)
terms_found f ss x a h y reads (Some (ts, b)) e k =
    terms_closed f ss ts x a b h y reads e (after_mark CloseRound b) refl k

bar_found : (f : Symbol) (ss : List Symbol) (x b : List Token) (h : Header) (y : List Token) → names_at x ≡ Some (ss, b)
    → (c : Option (List Token)) → after_mark Bar b ≡ c → after_bar f ss c ≡ Some (h, y) → ParametersFound f x h y
bar_found f ss x b h y e None m k = absurd (cc)
bar_found f ss x b h y e (Some z) m k =
    terms_found f ss x z h y (names_found x ss b z Bar e (mark_found Bar b z m)) (names_at z) refl k

closed_found : (f : Symbol) (ss : List Symbol) (x b : List Token) (h : Header) (y : List Token)
    → names_at x ≡ Some (ss, b)
    → (c : Option (List Token)) → after_mark CloseRound b ≡ c → without_terms f ss b c ≡ Some (h, y)
    → ParametersFound f x h y
closed_found f ss x b h y e (Some z) m k =
    let same : make_header f ss [] ≡ h = header-left (make_header f ss []) h z y k in
    let end : z ≡ y = header-right (make_header f ss []) h z y k in
    subst (λ l. ParametersFound f x l y) same (record {
      name = refl;
      reads = inl
          (refl, names_found x ss b y CloseRound e (mark_found CloseRound b z m ∙ ap (λ l. ASign CloseRound ∷ l) end));
    })
closed_found f ss x b h y e None m k = bar_found f ss x b h y e (after_mark Bar b) refl k

parameters_found : (f : Symbol) (x : List Token) (h : Header) (y : List Token) → (n : NamesLeft)
    → names_at x ≡ n → after_strategies f n ≡ Some (h, y) → ParametersFound f x h y
parameters_found f x h y None e k = absurd (cc)
parameters_found f x h y (Some (ss, b)) e k = closed_found f ss x b h y e (after_mark CloseRound b) refl k

name_found : (f : Symbol) (ts : List Token) (h : Header) (y : List Token) → (c : Option (List Token))
    → after_mark OpenRound ts ≡ c → after_name f ts c ≡ Some (h, y) → ReadsHeader h (Ident f ∷ ts) y
name_found f ts h y (Some z) m k =
    let found : ParametersFound f z h y = parameters_found f z h y (names_at z) refl k in
    (ts, ap (λ l. Ident l ∷ ts) found.name, inl (z, mark_found OpenRound ts z m, found.reads))
name_found f ts h y None m k =
    let same : make_header f [] [] ≡ h = header-left (make_header f [] []) h ts y k in
    let end : ts ≡ y = header-right (make_header f [] []) h ts y k in
    subst (λ l. ReadsHeader l (Ident f ∷ ts) y) same (ts, refl, inr (sym end, refl, refl))

pub header_found : (x : List Token) (h : Header) (y : List Token) → header_at x ≡ Some (h, y) → ReadsHeader h x y
header_found [] h y k = absurd (cc)
header_found (Ident f ∷ ts) h y k = name_found f ts h y (after_mark OpenRound ts) refl k
header_found (Wildcard ∷ ts) h y k = absurd (cc)
header_found (Reserved w ∷ ts) h y k = absurd (cc)
header_found (Integer z ∷ ts) h y k = absurd (cc)
header_found (Text f ∷ ts) h y k = absurd (cc)
header_found (ASign s ∷ ts) h y k = absurd (cc)
header_found (Bad ∷ ts) h y k = absurd (cc)

-- one more name after a comma
pub more_step : (done : List Symbol) (x rest : List Token) (f : Symbol) (ts : List Token)
    → after_mark Comma x ≡ Some rest → rest ≡ Ident f ∷ ts → more_names (done ++ f ∷ []) ts ≡ more_names done x
more_step done x rest f ts e h = sym (ap (more_names done) (mark_found Comma x rest e ∙ ap (λ l. ASign Comma ∷ l) h))

-- no name after a comma
pub more_stop : (done : List Symbol) (x rest : List Token) → after_mark Comma x ≡ Some rest
    → ((f : Symbol) (ts : List Token) → rest ≡ Ident f ∷ ts → ⊥) → more_names done x ≡ None
more_stop done x rest e h = ap (more_names done) (mark_found Comma x rest e) ∙ stop rest h where
  stop : (rest : List Token)
      → ((f : Symbol) (ts : List Token) → rest ≡ Ident f ∷ ts → ⊥) → more_names done (ASign Comma ∷ rest) ≡ None
  stop [] h = refl
  stop (Ident f ∷ ts) h = absurd (h f ts refl)
  stop (Wildcard ∷ ts) h = refl
  stop (Reserved w ∷ ts) h = refl
  stop (Integer z ∷ ts) h = refl
  stop (Text f ∷ ts) h = refl
  stop (ASign s ∷ ts) h = refl
  stop (Bad ∷ ts) h = refl

-- no comma
pub more_end : (done : List Symbol) (x : List Token) → after_mark Comma x ≡ None → more_names done x ≡ Some (done, x)
more_end done [] e = refl
more_end done (t ∷ ts) e = at_end (is_mark Comma t) refl e ts where
  at_end : (b : Bool) → is_mark Comma t ≡ b → ◌≡◌ {A = Option (List Token)} (if b then Some ts else None) None
      → (us : List Token) → more_names done (t ∷ us) ≡ Some (done, t ∷ us)
  at_end true h e us = absurd (cc)
  at_end false h e [] = rw h refl
  at_end false h e (Ident f ∷ us) = rw h refl
  at_end false h e (Wildcard ∷ us) = rw h refl
  at_end false h e (Reserved w ∷ us) = rw h refl
  at_end false h e (Integer z ∷ us) = rw h refl
  at_end false h e (Text f ∷ us) = rw h refl
  at_end false h e (ASign s ∷ us) = rw h refl
  at_end false h e (Bad ∷ us) = rw h refl

pub ruleset header_rules = (more_step, more_stop, more_end)
