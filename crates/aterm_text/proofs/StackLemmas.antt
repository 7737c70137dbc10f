-- The reader's stack: its terms, split at the brackets.
use Rattle.std.proofs.Common.{◌≡◌, ℕ, ◌+◌, ◌<◌, List, [], ◌∷◌, ◌++◌, ◌-◌, min, length, take, drop, get_or, refl, sym, ap, ◌∙◌, subst, arith, append_assoc, length-append, Some, option_map}
use Rattle.std.specs.declared.option.Option.{Option}
use Rattle.std.proofs.Math.ListN.{set}
use Rattle.std.proofs.Math.Seq.{set-append_seam, get_or-append_seam, take-append_seam, drop-append_seam, take-length}
use Rattle.std.proofs.lemmas.List.{take-append-le, drop-append-le, take-append-drop, length-take, length-take-le, drop_all}
use Rattle.term_core.specs.Tree.{Tree}
use Rattle.aterm_text.specs.inside.TermStack.{TermStack, OpenBracket, no_terms, on_top, with_top, inside, closes, closes_first}
use Rattle.aterm_text.specs.inside.BracketsView.{innermost_of}
use Rattle.aterm_text.specs.inside.StackView.{cut, IsCut}
use Rattle.aterm_text.specs.declared.reader.open_brackets.Bracket.{Bracket}

-- ---- one more term

pub cut-push : (bs : List Bracket) (ts : List Tree) (t : Tree) → IsCut bs ts
    → cut bs (ts ++ t ∷ []) ≡ with_top t (cut bs ts)
cut-push [] ts t h = refl
cut-push (b ∷ bs) ts t h = λ i.
    inside b.opening (drop-append-le b.before ts (t ∷ []) h.0 i) (cut bs (take-append-le b.before ts (t ∷ []) h.0 i))

pub is_cut-push : (bs : List Bracket) (ts : List Tree) (t : Tree) → IsCut bs ts → IsCut bs (ts ++ t ∷ [])
is_cut-push [] ts t h = tt
is_cut-push (b ∷ bs) ts t h = (
  omega (arith, h.0, length-append ts (t ∷ [])),
  subst (IsCut bs) (sym (take-append-le b.before ts (t ∷ []) h.0)) h.1,
)

-- ---- one more bracket

pub cut-enter : (b : Bracket) (bs : List Bracket) (ts : List Tree) → b.before ≡ length ts
    → cut (b ∷ bs) ts ≡ inside b.opening [] (cut bs ts)
cut-enter b bs ts e =
    let whole : take b.before ts ≡ ts = ap (λ n. take n ts) e ∙ take-length ts in
    let nothing : drop b.before ts ≡ [] = drop_all b.before ts (omega (arith, e)) in
    λ i. inside b.opening (nothing i) (cut bs (whole i))

pub is_cut-enter : (b : Bracket) (bs : List Bracket) (ts : List Tree) → b.before ≡ length ts → IsCut bs ts
    → IsCut (b ∷ bs) ts
is_cut-enter b bs ts e h = (omega (arith, e), subst (IsCut bs) (sym (ap (λ n. take n ts) e ∙ take-length ts)) h)

-- ---- one bracket less

pub is_cut-longer : (bs : List Bracket) (ts : List Tree) (k : ℕ) → IsCut bs (take k ts) → IsCut bs ts
is_cut-longer [] ts k h = tt
is_cut-longer (b ∷ bs) ts k h =
    let same : take b.before ts ≡ take b.before (take k ts) =
    ap (take b.before) (sym (take-append-drop k ts)) ∙ take-append-le b.before (take k ts) (drop k ts) h.0 in (
      omega (arith, h.0, length-take k ts),
      subst (IsCut bs) (sym same) h.1,
    )

-- the remaining brackets come within all terms
pub still_cut : (bs bs' : List Bracket) (b : Bracket) (ts : List Tree) → IsCut bs ts → bs ≡ b ∷ bs' → IsCut bs' ts
still_cut bs bs' b ts h e =
    let whole : IsCut (b ∷ bs') ts = subst (λ l. IsCut l ts) e h in
    is_cut-longer bs' ts b.before whole.1

-- ---- the term on top

on_top-bare : (ts outside : List Tree) (open_brackets : List OpenBracket) (t : Tree)
    → ◌≡◌ {A = TermStack} (record { outside = ts; open_brackets = [] }) (on_top t outside open_brackets)
    → (ts ≡ outside ++ t ∷ []) × (open_brackets ≡ [])
on_top-bare ts outside [] t e = (ap (λ (s : TermStack). s.outside) e, refl)
on_top-bare ts outside (g ∷ gs) t e = let no : ◌≡◌ {A = List OpenBracket} []
    (record { opening = g.opening; terms = g.terms ++ t ∷ [] } ∷ gs) = ap (λ (s : TermStack). s.open_brackets) e in
    absurd (cc)

-- the terms below the one on top
pub record Below (bs : List Bracket) (ts : List Tree) (t : Tree) (below : TermStack) : Type 0 where
  pub front : List Tree
  pub is : ts ≡ front ++ t ∷ []
  pub is_cut : IsCut bs front
  pub is_below : cut bs front ≡ below

bracket-below : (b : Bracket) (bs : List Bracket) (ts outside : List Tree) (open_brackets : List OpenBracket) (t : Tree)
    → IsCut (b ∷ bs) ts
    → inside b.opening (drop b.before ts) (cut bs (take b.before ts)) ≡ on_top t outside open_brackets
    → Below (b ∷ bs) ts t (record { outside = outside; open_brackets = open_brackets })
bracket-below b bs ts outside [] t h e =
    let no : ◌≡◌ {A = List OpenBracket}
    (record { opening = b.opening; terms = drop b.before ts } ∷ (cut bs (take b.before ts)).open_brackets) [] =
    ap (λ (s : TermStack). s.open_brackets) e in absurd (cc)
bracket-below b bs ts outside (g ∷ gs) t h e =
    let before = take b.before ts in
    let open_brackets : ◌≡◌ {A = List OpenBracket}
    (record { opening = b.opening; terms = drop b.before ts } ∷ (cut bs before).open_brackets)
    (record { opening = g.opening; terms = g.terms ++ t ∷ [] } ∷ gs)
    = ap (λ (s : TermStack). s.open_brackets) e in
    let first : ◌≡◌ {A = OpenBracket} (record { opening = b.opening; terms = drop b.before ts })
    (record { opening = g.opening; terms = g.terms ++ t ∷ [] }) = cc in
    let others : (cut bs before).open_brackets ≡ gs = cc in
    let count : length before ≡ b.before = length-take-le b.before ts h.0 in
    let again : take b.before (before ++ g.terms) ≡ before =
    subst (λ n. take n (before ++ g.terms) ≡ before) count (take-append_seam before g.terms) in
    let rest : drop b.before (before ++ g.terms) ≡ g.terms =
    subst (λ n. drop n (before ++ g.terms) ≡ g.terms) count (drop-append_seam before g.terms) in
    record {
      front = before ++ g.terms;
      is = sym (take-append-drop b.before ts) ∙ ap (λ l. before ++ l) (ap (λ (k : OpenBracket). k.terms) first)
          ∙ sym (append_assoc before g.terms (t ∷ []));
      is_cut = (omega (arith, count, length-append before g.terms), subst (IsCut bs) (sym again) h.1);
      is_below = (λ i. inside b.opening (rest i) (cut bs (again i)))
          ∙ (λ i. record {
            outside = (ap (λ (s : TermStack). s.outside) e) i;
            open_brackets =
                record { opening = (ap (λ (k : OpenBracket). k.opening) first) i; terms = g.terms } ∷ others i;
          });
    }

pub below-top : (bs : List Bracket) (ts : List Tree) (t : Tree) (below : TermStack) → IsCut bs ts
    → cut bs ts ≡ with_top t below → Below bs ts t below
below-top [] ts t below h e =
    let parts = on_top-bare ts below.outside below.open_brackets t e in
    record {
      front = below.outside;
      is = parts.0;
      is_cut = tt;
      is_below = λ i. record { outside = below.outside; open_brackets = sym parts.1 i };
    }
below-top (b ∷ bs) ts t below h e = bracket-below b bs ts below.outside below.open_brackets t h e

pub is_cut-same_length : (bs : List Bracket) (ts us : List Tree) → length ts ≡ length us → IsCut bs ts → IsCut bs us
is_cut-same_length [] ts us e h = tt
is_cut-same_length (b ∷ bs) ts us e h = (
  omega (arith, e, h.0),
  is_cut-same_length bs (take b.before ts) (take b.before us)
      (length-take b.before ts ∙ ap (λ n. min b.before n) e ∙ sym (length-take b.before us)) h.1,
)

pub cut-change : (change : Tree → Tree) (bs : List Bracket) (ts : List Tree) (n : ℕ) (x x' t : Tree) (below : TermStack)
    → IsCut bs ts → n + 1 ≡ length ts → x ≡ get_or ts n x
    → x' ≡ change x → cut bs ts ≡ with_top t below → cut bs (set ts n x') ≡ with_top (change t) below
cut-change change bs ts n x x' t below h len got made e =
    let b = below-top bs ts t below h e in
    let at : length b.front ≡ n = omega (arith, len, length-append b.front (t ∷ []), ap length b.is) in
    let was : x ≡ t = got ∙ ap (λ l. get_or l n x) b.is
    ∙ subst (λ k. get_or (b.front ++ t ∷ []) k x ≡ t) at (get_or-append_seam b.front t [] x) in
    let written : set ts n x' ≡ b.front ++ change t ∷ [] =
    ap (λ l. set l n x') b.is
    ∙ subst (λ k. set (b.front ++ t ∷ []) k x' ≡ b.front ++ x' ∷ []) at (set-append_seam b.front t [] x')
    ∙ ap (λ u. b.front ++ u ∷ []) (made ∙ ap change was) in
    ap (cut bs) written ∙ cut-push bs b.front (change t) b.is_cut ∙ ap (with_top (change t)) b.is_below

-- if there is no term, none is on top
pub no_top : (bs : List Bracket) (ts : List Tree) (t : Tree) (below : TermStack) → IsCut bs ts
    → cut bs ts ≡ with_top t below → length ts ≡ 0 → ⊥
no_top bs ts t below h e len =
    let b = below-top bs ts t below h e in
    omega (arith, len, length-append b.front (t ∷ []), ap length b.is)

-- the only term, if no bracket is open
pub only_term : (bs : List Bracket) (ts : List Tree) (t : Tree) (n : ℕ) (popped : Option Tree) → IsCut bs ts
    → cut bs ts ≡ with_top t no_terms → n ≡ length ts
    → ((d : Tree) → 0 < n → popped ≡ Some (get_or ts (n - 1) d)) → popped ≡ Some t
only_term bs ts t n popped h e len last =
    let b = below-top bs ts t no_terms h e in
    let count : n ≡ length b.front + 1 = len ∙ ap length b.is ∙ length-append b.front (t ∷ []) in
    let at : n - 1 ≡ length b.front = omega (arith, count) in
    last t (omega (arith, count)) ∙ ap Some
    (ap (λ k. get_or ts k t) at ∙ ap (λ l. get_or l (length b.front) t) b.is ∙ get_or-append_seam b.front t [] t)

pub depth-cut : (bs : List Bracket) (ts : List Tree) → length (cut bs ts).open_brackets ≡ length bs
depth-cut [] ts = refl
depth-cut (b ∷ bs) ts = omega (arith, depth-cut bs (take b.before ts))

-- the innermost bracket closes first
pub closes_innermost : (bs : List Bracket) (ts : List Tree)
    → closes_first (cut bs ts).open_brackets ≡ option_map (λ (b : Bracket). closes b.opening) (innermost_of bs)
closes_innermost [] ts = refl
closes_innermost (b ∷ bs) ts = refl

pub ruleset stack_parts = (cut-push, is_cut-push, closes_innermost)
