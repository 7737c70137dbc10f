-- What the machine finds from its start is what the grammar says.
use Rattle.std.proofs.Common.{◌≡◌, ◌≢◌, ℕ, ◌<◌, Err, inl, inr, List, [], ◌∷◌, length, Some, None, Bor, refl, sym, ap, ◌∙◌, subst}
use Rattle.term_core.specs.Tree.{Tree, to_list, of_list, list_term, annotations, with_annotations}
use Rattle.term_core.proofs.TreeLemmas.{to_list-of_list, of_list-to_list}
use Rattle.aterm_text.specs.Tokens.{NextSign, without_blanks}
use Rattle.aterm_text.specs.Grammar.{Reads, ReadsUntil, Spells, SpellsAnnotations}
use Rattle.aterm_text.specs.inside.TermStack.{TermStack, no_terms, with_top}
use Rattle.aterm_text.specs.inside.Unread.{Reading, expected, base, Unread, ReaderStands, Continues, GoesOn, Goes, ReaderLeads, IsLost, IsStuck, IsEnd}
use Rattle.aterm_text.specs.inside.Level.{Level}
use Rattle.aterm_text.specs.declared.reader.machine.ReaderState.{ReaderState}
use Rattle.aterm_text.specs.declared.reader.machine.ReaderState.TheVariants.{Expected, Base}
use Rattle.aterm_text.specs.declared.reader.machine.Progress.{Progress}
use Rattle.aterm_text.specs.declared.reader.machine.Progress.TheVariants.{More, Done}
use Rattle.std.specs.declared.option.Option.{Option}
use Rattle.std.specs.declared.result.Result.{Result}
use Rattle.aterm_text.specs.declared.reader.ReadFault.{ReadFault}
use Rattle.aterm_text.specs.declared.reader.ReadFault.TheVariants.{Deep, Term}
use Rattle.aterm_text.proofs.TrimLemmas.{trimmed}
use Rattle.aterm_text.proofs.StepLemmas.{continues_on, stuck_after, end_after}

pub spells-unread : (x : List ℕ) (t : Tree) → Spells x t → Unread expected [] x t
spells-unread x t h = (t, h.0, h.1, (h.2, refl))

pub unread-spells : (x : List ℕ) (t : Tree) → Unread expected [] x t → Spells x t
unread-spells x t k = (k.1, subst (λ u. Reads u x k.1) (sym k.3.1) k.2, k.3.0)

pub stands-expected : (s : TermStack) → s ≡ no_terms → ReaderStands expected [] Expected s
stands-expected s e = (refl, e)

pub stands-bearer : (s s0 : TermStack) (t : Tree) (us : List Tree) → s0 ≡ no_terms → t ≡ list_term us
    → us ≡ [] → s ≡ with_top t s0 → ReaderStands (base (list_term [])) [] Base s
stands-bearer s s0 t us e made empty same =
    (no_terms, refl, same ∙ (λ i. with_top ((made ∙ ap list_term empty) i) (e i)), refl, refl)

-- the annotations of a term that was read after an empty list
module _ (x text : List ℕ) (trim : text ≡ without_blanks x) where
  from_text : (a : List ℕ) → text ≡ 123 ∷ a → NextSign 123 x a
  from_text a h = sym trim ∙ h

  to_text : (a : List ℕ) → NextSign 123 x a → NextSign 123 text a
  to_text a h = ap without_blanks trim ∙ trimmed x ∙ h

  from_blanks : (a : List ℕ) → NextSign 123 text a → NextSign 123 x a
  from_blanks a h = sym (ap without_blanks trim ∙ trimmed x) ∙ h

  pub unread-spells_annotations : (a : List ℕ) → text ≡ 123 ∷ a → (all : Tree)
      → Unread (base (list_term [])) [] text all → SpellsAnnotations x (annotations all)
  unread-spells_annotations a next all k = elim k.2 [
    | inl opened ↦ (
      k.1,
      (
        opened.0,
        from_blanks opened.0 opened.1,
        subst (λ ts. ReadsUntil ts 125 opened.0 k.1) (sym (of_list-to_list k.0)
            ∙ ap of_list (sym (to_list-of_list (to_list k.0)) ∙ ap annotations (sym k.3.1))) opened.2,
      ),
      k.3.0,
    )
    | inr bare ↦ absurd (bare.0 a (to_text a (from_text a next)))
  ]

  pub spells_annotations-unread : (notes : List Tree) → SpellsAnnotations x notes
      → Unread (base (list_term [])) [] text (with_annotations (list_term []) notes)
  spells_annotations-unread notes h = (
    of_list notes,
    h.0,
    inl (h.1.0, to_text h.1.0 h.1.1, h.1.2),
    (h.2, ap (with_annotations (list_term [])) (sym (to_list-of_list notes))),
  )

  pub only_annotations : (found : Tree)
      → ((all : Tree) → Unread (base (list_term [])) [] text all → all ≡ found) → (notes : List Tree)
      → SpellsAnnotations x notes → notes ≡ annotations found
  only_annotations found only notes h = sym (to_list-of_list notes)
      ∙ ap annotations (only _ (spells_annotations-unread notes h))

-- reading from r, with no bracket open, has reached this state, this stack and this rest
pub record IsUnderWay (r : Reading) (x : List ℕ) (state : ReaderState) (s : TermStack) (rest : List ℕ) : Type 0 where
  pub reading : Reading
  pub levels : List Level
  pub stands : ReaderStands reading levels state s
  pub continues : Continues r [] x reading levels rest

same_end : (r : Reading) (x : List ℕ) (t u : Tree) → Some u ≡ Some t → IsEnd r [] x t → IsEnd r [] x u
same_end r x t u e h = let same : u ≡ t = cc in subst (IsEnd r [] x) (sym same) h

module _ (r : Reading) (x : List ℕ) (state : ReaderState) (s : TermStack) (rest : List ℕ)
    (way : IsUnderWay r x state s rest) where
  pub way_on : (state' : ReaderState) (s' : TermStack) (left : Bor (List ℕ)) (step : Progress) → step ≡ More state' left
      → ReaderLeads state s rest step s' → IsUnderWay r x state' s' left.now
  way_on state' s' left step e leads =
      let g : GoesOn way.reading way.levels rest state' s' left.now =
      subst (λ k. Goes way.reading way.levels rest k s') e (leads way.reading way.levels way.stands) in
      record {
        reading = g.reading;
        levels = g.levels';
        stands = g.stands;
        continues =
            continues_on r way.reading g.reading [] way.levels g.levels' x rest left.now way.continues g.continues;
      }

  pub way_shorter : (state' : ReaderState) (s' : TermStack) (left : Bor (List ℕ)) (step : Progress)
      → step ≡ More state' left → ReaderLeads state s rest step s' → length left.now < length rest
  way_shorter state' s' left step e leads =
      let g : GoesOn way.reading way.levels rest state' s' left.now =
      subst (λ k. Goes way.reading way.levels rest k s') e (leads way.reading way.levels way.stands) in
      g.shorter

  pub way_stuck : IsLost state s rest → IsStuck r [] x
  way_stuck lost = stuck_after r way.reading [] way.levels x rest way.continues (lost way.reading way.levels way.stands)

  pub way_ends : (s' : TermStack) (step : Progress) → step ≡ Done → ReaderLeads state s rest step s'
      → (t : Tree) × (s' ≡ with_top t no_terms) × IsEnd r [] x t
  way_ends s' step e leads =
      let end : (t : Tree) × (s' ≡ with_top t no_terms) × IsEnd way.reading way.levels rest t =
      subst (λ k. Goes way.reading way.levels rest k s') e (leads way.reading way.levels way.stands) in
      (end.0, end.1, end_after r way.reading [] way.levels x rest end.0 way.continues end.2)

-- the term that is on the stack at the end
module _ (r : Reading) (x : List ℕ) (state : ReaderState) (s : TermStack) (rest : List ℕ)
    (way : IsUnderWay r x state s rest) (s' : TermStack) (step : Progress)
    (done : step ≡ Done) (leads : ReaderLeads state s rest step s') where
  pub end-is : (found : Option Tree) → ((t : Tree) → s' ≡ with_top t no_terms → found ≡ Some t) → (u : Tree)
      → found ≡ Some u → IsEnd r [] x u
  end-is found only u e =
      let end = way_ends r x state s rest way s' step done leads in
      same_end r x end.0 u (sym e ∙ only end.0 end.1) end.2

  pub no-end : (found : Option Tree) → ((t : Tree) → s' ≡ with_top t no_terms → found ≡ Some t) → found ≡ None → ⊥
  no-end found only e =
      let end = way_ends r x state s rest way s' step done leads in
      let no : ◌≡◌ {A = Option Tree} None (Some end.0) = sym e ∙ only end.0 end.1 in
      cc

-- the returned fault is the one that was met, unless it is `Deep`
pub met_term : {X : Type 0} (answered met : ReadFault)
    → (answered ≢ Deep → answered ≡ met) → ◌≡◌ {A = Result X ReadFault} (Err answered) (Err Term)
    → ◌≡◌ {A = Result X ReadFault} (Err met) (Err Term)
met_term answered met other e =
    let term : answered ≡ Term = cc in
    ap Err (sym (other (λ deep. (cc))) ∙ term)
