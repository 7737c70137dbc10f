-- The sorts at the start of a list of tokens, by the grammar and as the functions count and keep them.
use Rattle.std.proofs.Common.{◌≡◌, ℕ, zero, suc, ◌+◌, Bool, true, false, refl, sym, ap, ◌∙◌, subst, List, [], ◌∷◌, ◌++◌, length, Some, None, ◌≤◌, append-nil, append_assoc, arith}
use Rattle.std.specs.Prelude.{if◌then◌else◌}
use Rattle.std.specs.declared.option.Option.{Option}
use Rattle.term_core.specs.Tree.{Symbol}
use Rattle.strategy_tokens.specs.declared.token.Token.{Token}
use Rattle.strategy_tokens.specs.declared.token.Token.TheVariants.{Ident, Wildcard, Reserved, Integer, Text, Sign as ASign, Bad}
use Rattle.strategy_tokens.specs.declared.token.Sign.{Sign}
use Rattle.strategy_tokens.specs.declared.token.Sign.TheVariants.{OpenRound, CloseRound, Comma, Arrow as RightArrow, Star}
use Rattle.strategy_parse.specs.declared.modules.sorts.SortState.{SortState}
use Rattle.strategy_parse.specs.declared.modules.sorts.SortState.TheVariants.{Begins, Named, Closed}
use Rattle.strategy_parse.specs.declared.modules.sorts.Turn.{Turn}
use Rattle.strategy_parse.specs.declared.modules.sorts.Turn.TheVariants.{Reads, Ends, Stuck}
use Rattle.strategy_tokens.specs.Marks.{is_mark}
use Rattle.term_sorts.specs.Sorts.{Sort, sort, Sorts, no_sorts, and_sort, sort_list, plain}
use Rattle.term_sorts.proofs.SortLemmas.{sorts_of-sort_list}
use Rattle.strategy_parse.specs.Grammar.{Reading, Mark}
use Rattle.strategy_parse.specs.GrammarModules.{ReadsSort, ReadsMoreSorts}
use Rattle.strategy_parse.specs.Core.{core_sort, core_sorts}
use Rattle.strategy_parse.specs.inside.SortStacks.{OpenSort, SortStack, no_stack}
use Rattle.strategy_parse.specs.inside.ModuleFronts.{SortsLeft, after_sort, begin_sort, sort_step, sort_goes, sorts_from, sorts_at, sort_at, one_sort, with_sort, opened, closed, stacked, KeptLeft, keep_goes, kept_from, kept_at, one_kept}
use Rattle.strategy_tokens.proofs.MarkLemmas.{mark_is}
use Rattle.strategy_parse.specs.inside.NextToken.{next_token, NoMark}

-- the tokens are unchanged
abbrev pub Nothing : Reading
Nothing u v = v ≡ u

abbrev pub sort_count : Sorts → ℕ
sort_count no_sorts = 0
sort_count (and_sort s ss) = suc (sort_count ss)

-- the sorts in their core forms
abbrev pub core_list : Sorts → List Sort
core_list ss = sort_list (core_sorts ss)

-- ---- from the grammar to the count

no_mark : (m k : Sign) (y z : List Token) → y ≡ ASign k ∷ z → is_mark m (ASign k) ≡ false → NoMark m y
no_mark m k y z h e = ap (λ l. is_mark m (next_token l)) h ∙ e

named_closed : (d n : ℕ) (y : List Token) → NoMark OpenRound y → sorts_from Named d n y ≡ sorts_from Closed d n y
named_closed d n [] e = refl
named_closed d n (t ∷ ts) e = rw e refl

more_end : (ss : Sorts) (x y : List Token) → ReadsMoreSorts ss Comma (Mark CloseRound) x y → NoMark OpenRound x
more_end no_sorts x y h = no_mark OpenRound CloseRound x y h refl
more_end (and_sort s ss) x y h = no_mark OpenRound Comma x h.0 h.1 refl

mutual
  pub sort_counted : (s : Sort) (d n : ℕ) (x y : List Token) → ReadsSort s x y → NoMark OpenRound y
      → sorts_from Begins d n x ≡ sorts_from Closed d n y
  sort_counted (sort f no_sorts) d n x y h e = rw h (named_closed d n y e)
  sort_counted (sort f (and_sort s ss)) d n x y h e =
      rw h.1 (rw h.2.1 (sort_counted s (suc d) n h.2.0 h.2.2.0 h.2.2.1 (more_end ss h.2.2.0 y h.2.2.2)
      ∙ more_counted ss d n h.2.2.0 y h.2.2.2))

  more_counted : (ss : Sorts) (d n : ℕ) (x y : List Token) → ReadsMoreSorts ss Comma (Mark CloseRound) x y
      → sorts_from Closed (suc d) n x ≡ sorts_from Closed d n y
  more_counted no_sorts d n x y h = rw h refl
  more_counted (and_sort s ss) d n x y h =
      rw h.1 (sort_counted s (suc d) n h.0 h.2.0 h.2.1 (more_end ss h.2.0 y h.2.2) ∙ more_counted ss d n h.2.0 y h.2.2)

star_end : (ss : Sorts) (x y : List Token) → ReadsMoreSorts ss Star Nothing x y → NoMark OpenRound y
    → NoMark OpenRound x
star_end no_sorts x y h e = subst (NoMark OpenRound) h e
star_end (and_sort s ss) x y h e = no_mark OpenRound Star x h.0 h.1 refl

ended : (n : ℕ) (y : List Token) → NoMark Star y → sorts_from Closed 0 n y ≡ Some (n, y)
ended n [] e = refl
ended n (t ∷ ts) e = rw e refl

pub stars_counted : (ss : Sorts) (n : ℕ) (x y : List Token) → ReadsMoreSorts ss Star Nothing x y → NoMark OpenRound y
    → NoMark Star y → sorts_from Closed 0 n x ≡ Some (sort_count ss + n, y)
stars_counted no_sorts n x y h e f =
    let same : n ≡ 0 + n = omega arith in
    rw (sym h) (ended n y f ∙ ap (λ k. Some (k, y)) same)
stars_counted (and_sort s ss) n x y h e f =
    let same : sort_count ss + suc n ≡ suc (sort_count ss) + n = omega arith in
    rw h.1 (sort_counted s 0 (suc n) h.0 h.2.0 h.2.1 (star_end ss h.2.0 y h.2.2 e)
    ∙ stars_counted ss (suc n) h.2.0 y h.2.2 e f ∙ ap (λ k. Some (k, y)) same)

-- the sorts of a declaration, separated by `*`
pub sorts_counted : (s : Sort) (ss : Sorts) (x a y : List Token) → ReadsSort s x a → ReadsMoreSorts ss Star Nothing a y
    → NoMark OpenRound y → NoMark Star y → sorts_at x ≡ Some (sort_count (and_sort s ss), y)
sorts_counted s ss x a y h k e f =
    let same : sort_count ss + 1 ≡ suc (sort_count ss) = omega arith in
    sort_counted s 0 1 x a h (star_end ss a y k e) ∙ stars_counted ss 1 a y k e f ∙ ap (λ c. Some (c, y)) same

pub sort_alone : (s : Sort) (x y : List Token) → ReadsSort s x y → NoMark OpenRound y → NoMark Star y
    → sort_at x ≡ Some y
sort_alone s x y h e f = ap one_sort (sorts_counted s no_sorts x y y h refl e f)

-- ---- from the grammar to the sorts that are kept

abbrev with_core : SortStack → Sort → SortStack
with_core k s = record { around = k.around; sorts = k.sorts ++ core_sort s ∷ [] }

with_core-brackets : (k : SortStack) (f : Symbol) (s : Sort) (ss : Sorts)
    → with_sort k f (core_sort s ∷ core_list ss) ≡ with_core k (sort f (and_sort s ss))
with_core-brackets k f s ss =
    ap (λ qs. record { around = k.around; sorts = k.sorts ++ sort (plain f) (and_sort (core_sort s) qs) ∷ [] })
    (sorts_of-sort_list (core_sorts ss))

named-kept : (d : ℕ) (k : SortStack) (y : List Token) → NoMark OpenRound y
    → kept_from Named d k y ≡ kept_from Closed d k y
named-kept d k [] e = refl
named-kept d k (t ∷ ts) e = rw e refl

name_kept : (k : SortStack) (f : Symbol) (y : List Token) → NoMark OpenRound y
    → stacked k (Ident f) (next_token y) ≡ with_sort k f []
name_kept k f y e = rw e refl

mutual
  pub sort_kept : (s : Sort) (d : ℕ) (k : SortStack) (x y : List Token) → ReadsSort s x y → NoMark OpenRound y
      → kept_from Begins d k x ≡ kept_from Closed d (with_core k s) y
  sort_kept (sort f no_sorts) d k x y h e =
      ap (kept_from Begins d k) h ∙ ap (λ j. kept_from Named d j y) (name_kept k f y e)
      ∙ named-kept d (with_sort k f []) y e
  sort_kept (sort f (and_sort s ss)) d k x y h e =
      ap (kept_from Begins d k) (h.1 ∙ ap (λ z. Ident f ∷ z) h.2.1)
      ∙ sort_kept s (suc d) (opened k f) h.2.0 h.2.2.0 h.2.2.1 (more_end ss h.2.2.0 y h.2.2.2)
      ∙ more_kept ss d (record { name = f; before = k.sorts }) k.around (core_sort s ∷ []) h.2.2.0 y h.2.2.2
      ∙ ap (λ j. kept_from Closed d j y) (with_core-brackets k f s ss)

  more_kept : (ss : Sorts) (d : ℕ) (o : OpenSort) (os : List OpenSort) (cs : List Sort) (x y : List Token)
      → ReadsMoreSorts ss Comma (Mark CloseRound) x y
      → kept_from Closed (suc d) (record { around = o ∷ os; sorts = cs }) x
      ≡ kept_from Closed d (with_sort (record { around = os; sorts = o.before }) o.name (cs ++ core_list ss)) y
  more_kept no_sorts d o os cs x y h =
      ap (kept_from Closed (suc d) (record { around = o ∷ os; sorts = cs })) h
      ∙ ap (λ l. kept_from Closed d (with_sort (record { around = os; sorts = o.before }) o.name l) y)
      (sym (append-nil cs))
  more_kept (and_sort s ss) d o os cs x y h =
      ap (kept_from Closed (suc d) (record { around = o ∷ os; sorts = cs })) h.1
      ∙ sort_kept s (suc d) (record { around = o ∷ os; sorts = cs }) h.0 h.2.0 h.2.1 (more_end ss h.2.0 y h.2.2)
      ∙ more_kept ss d o os (cs ++ core_sort s ∷ []) h.2.0 y h.2.2
      ∙ ap (λ l. kept_from Closed d (with_sort (record { around = os; sorts = o.before }) o.name l) y)
      (append_assoc cs (core_sort s ∷ []) (core_list ss))

ended-kept : (cs : List Sort) (y : List Token) → NoMark Star y
    → kept_from Closed 0 (record { around = []; sorts = cs }) y ≡ Some (cs, y)
ended-kept cs [] e = refl
ended-kept cs (t ∷ ts) e = rw e refl

stars_kept : (ss : Sorts) (cs : List Sort) (x y : List Token) → ReadsMoreSorts ss Star Nothing x y → NoMark OpenRound y
    → NoMark Star y
    → kept_from Closed 0 (record { around = []; sorts = cs }) x ≡ Some (cs ++ core_list ss, y)
stars_kept no_sorts cs x y h e f =
    ap (kept_from Closed 0 (record { around = []; sorts = cs })) (sym h) ∙ ended-kept cs y f
    ∙ ap (λ l. Some (l, y)) (sym (append-nil cs))
stars_kept (and_sort s ss) cs x y h e f =
    ap (kept_from Closed 0 (record { around = []; sorts = cs })) h.1
    ∙ sort_kept s 0 (record { around = []; sorts = cs }) h.0 h.2.0 h.2.1 (star_end ss h.2.0 y h.2.2 e)
    ∙ stars_kept ss (cs ++ core_sort s ∷ []) h.2.0 y h.2.2 e f
    ∙ ap (λ l. Some (l, y)) (append_assoc cs (core_sort s ∷ []) (core_list ss))

pub sorts_kept : (s : Sort) (ss : Sorts) (x a y : List Token) → ReadsSort s x a → ReadsMoreSorts ss Star Nothing a y
    → NoMark OpenRound y → NoMark Star y → kept_at x ≡ Some (core_list (and_sort s ss), y)
sorts_kept s ss x a y h k e f =
    sort_kept s 0 no_stack x a h (star_end ss a y k e) ∙ stars_kept ss (core_sort s ∷ []) a y k e f

pub sort_kept_alone : (s : Sort) (x y : List Token) → ReadsSort s x y → NoMark OpenRound y → NoMark Star y
    → one_kept (kept_at x) ≡ Some (core_sort s, y)
sort_kept_alone s x y h e f = ap one_kept (sorts_kept s no_sorts x y y h refl e f)

-- up to an arrow
pub to_arrow : (ss : Sorts) (x y : List Token) → ReadsMoreSorts ss Star (Mark RightArrow) x y
    → ReadsMoreSorts ss Star Nothing x (ASign RightArrow ∷ y)
to_arrow no_sorts x y h = sym h
to_arrow (and_sort s ss) x y h = (h.0, h.1, (h.2.0, h.2.1, to_arrow ss h.2.0 y h.2.2))

pub at_arrow : (ss : Sorts) (x y : List Token)
    → ReadsMoreSorts ss Star Nothing x (ASign RightArrow ∷ y) → ReadsMoreSorts ss Star (Mark RightArrow) x y
at_arrow no_sorts x y h = sym h
at_arrow (and_sort s ss) x y h = (h.0, h.1, (h.2.0, h.2.1, at_arrow ss h.2.0 y h.2.2))

-- ---- from the functions to the grammar

-- the count and the sorts at once
abbrev BothLeft : Type 0
BothLeft = Option ((ℕ × List Sort) × List Token)

abbrev both_goes : (SortState → ℕ → BothLeft) → BothLeft → Turn → BothLeft
both_goes k end (Reads p d) = k p d
both_goes k end Ends = end
both_goes k end Stuck = None

abbrev both_from : SortState → ℕ → ℕ → SortStack → List Token → BothLeft
both_from p d n k [] = both_goes (λ q e. None) (Some ((n, k.sorts), [])) (sort_step p d Bad)
both_from p d n k (t ∷ ts) =
    both_goes (λ q e. both_from q e n (stacked k t (next_token ts)) ts)
    (if (is_mark Star t) then both_from Begins 0 (suc n) k ts else Some ((n, k.sorts), t ∷ ts))
    (sort_step p d t)

abbrev Both : ℕ → List Sort → List Token → BothLeft
Both n ss y = Some ((n, ss), y)

-- the same of two machines: they end at the same place, with these
abbrev Agree : BothLeft → SortsLeft → KeptLeft → Type 0
Agree None s k = (s ≡ None) × (k ≡ None)
Agree (Some ((n, ss), y)) s k = (s ≡ Some (n, y)) × (k ≡ Some (ss, y))

agree_end : (n : ℕ) (ss : List Sort) (u : Turn)
    → Agree (both_goes (λ q e. None) (Some ((n, ss), [])) u) (sort_goes (λ q e. None) (Some (n, [])) u)
    (keep_goes (λ q e. None) (Some (ss, [])) u)
agree_end n ss (Reads q e) = (refl, refl)
agree_end n ss Ends = (refl, refl)
agree_end n ss Stuck = (refl, refl)

abbrev AllAgree : List Token → Type 0
AllAgree x = (p : SortState) (d n : ℕ) (k : SortStack)
    → Agree (both_from p d n k x) (sorts_from p d n x) (kept_from p d k x)

agree_next : (t : Token) (ts : List Token) → AllAgree ts → (n : ℕ) (k j : SortStack) (u : Turn) (b : Bool)
    → Agree (both_goes (λ q e. both_from q e n j ts)
    (if b then both_from Begins 0 (suc n) k ts else Some ((n, k.sorts), t ∷ ts)) u)
    (sort_goes (λ q e. sorts_from q e n ts) (if b then sorts_from Begins 0 (suc n) ts else Some (n, t ∷ ts)) u)
    (keep_goes (λ q e. kept_from q e j ts) (if b then kept_from Begins 0 k ts else Some (k.sorts, t ∷ ts)) u)
agree_next t ts all n k j (Reads q e) b = all q e n j
agree_next t ts all n k j Ends true = all Begins 0 (suc n) k
agree_next t ts all n k j Ends false = (refl, refl)
agree_next t ts all n k j Stuck b = (refl, refl)

all_agree : (x : List Token) → AllAgree x
all_agree [] p d n k = agree_end n k.sorts (sort_step p d Bad)
all_agree (t ∷ ts) p d n k =
    agree_next t ts (all_agree ts) n k (stacked k t (next_token ts)) (sort_step p d t) (is_mark Star t)

-- this many brackets are closed, which makes a stack of another one
abbrev Closes : ℕ → SortStack → SortStack → Reading
Closes zero k j u v = (v ≡ u) × (j ≡ k)
Closes (suc d) k j u v =
    (a : List Token) × (ss : Sorts) × ReadsMoreSorts ss Comma (Mark CloseRound) u a
    × Closes d (closed k.around (k.sorts ++ core_list ss)) j a v

record After (d n : ℕ) (k : SortStack) (x : List Token) (m : ℕ) (cs : List Sort) (y : List Token) : Type 0 where
  pub rest : List Token
  pub stack : SortStack
  pub closes : Closes d k stack x rest
  pub sorts : Sorts
  pub reads : ReadsMoreSorts sorts Star Nothing rest y
  pub count : m ≡ sort_count sorts + n
  pub kept : cs ≡ stack.sorts ++ core_list sorts

record Begun (d n : ℕ) (k : SortStack) (x : List Token) (m : ℕ) (cs : List Sort) (y : List Token) : Type 0 where
  pub sort : Sort
  pub rest : List Token
  pub reads : ReadsSort sort x rest
  pub after : After d n (with_core k sort) rest m cs y

record Sound (x : List Token) : Type 0 where
  pub begins : (d n : ℕ) (k : SortStack) (m : ℕ) (cs : List Sort) (y : List Token)
      → both_from Begins d n k x ≡ Both m cs y → Begun d n k x m cs y
  pub named : (f : Symbol) (d n : ℕ) (k : SortStack) (m : ℕ) (cs : List Sort) (y : List Token)
      → both_from Named d n (stacked k (Ident f) (next_token x)) x ≡ Both m cs y → Begun d n k (Ident f ∷ x) m cs y
  pub closed : (d n : ℕ) (k : SortStack) (m : ℕ) (cs : List Sort) (y : List Token)
      → both_from Closed d n k x ≡ Both m cs y → After d n k x m cs y

-- the parts of what was found
record Same (n m : ℕ) (ss cs : List Sort) (x y : List Token) : Type 0 where
  pub count : n ≡ m
  pub kept : ss ≡ cs
  pub rest : x ≡ y

same_parts : (n m : ℕ) (ss cs : List Sort) (x y : List Token) → Both n ss x ≡ Both m cs y → Same n m ss cs x y
same_parts n m ss cs x y e =
    let pair : ◌≡◌ {A = (ℕ × List Sort) × List Token} ((n, ss), x) ((m, cs), y) = cc in record {
      count = ap (λ (q : (ℕ × List Sort) × List Token). q.0.0) pair;
      kept = ap (λ (q : (ℕ × List Sort) × List Token). q.0.1) pair;
      rest = ap (λ (q : (ℕ × List Sort) × List Token). q.1) pair;
    }

nothing_more : (n m : ℕ) (k : SortStack) (cs : List Sort) (x y : List Token) → Both n k.sorts x ≡ Both m cs y
    → After 0 n k x m cs y
nothing_more n m k cs x y e =
    let s : Same n m k.sorts cs x y = same_parts n m k.sorts cs x y e in
    let same : n ≡ m = s.count in
    record {
      rest = x;
      stack = k;
      closes = (refl, refl);
      sorts = no_sorts;
      reads = sym s.rest;
      count = omega arith;
      kept = sym s.kept ∙ sym (append-nil k.sorts);
    }

one_more : (n m : ℕ) (k : SortStack) (cs : List Sort) (ts y : List Token) → Begun 0 (suc n) k ts m cs y
    → After 0 n k (ASign Star ∷ ts) m cs y
one_more n m k cs ts y h =
    let b : After 0 (suc n) (with_core k h.sort) h.rest m cs y = h.after in
    let c : m ≡ sort_count b.sorts + suc n = b.count in
    record {
      rest = ASign Star ∷ ts;
      stack = k;
      closes = (refl, refl);
      sorts = and_sort h.sort b.sorts;
      reads = (ts, refl, (h.rest, h.reads, subst (λ l. ReadsMoreSorts b.sorts Star Nothing l y) b.closes.0 b.reads));
      count = omega arith;
      kept =
          b.kept ∙ ap (λ (j : SortStack). j.sorts ++ core_list b.sorts) b.closes.1
          ∙ append_assoc k.sorts (core_sort h.sort ∷ []) (core_list b.sorts);
    }

and_comma : (d n m : ℕ) (k : SortStack) (cs : List Sort) (ts y : List Token) → Begun (suc d) n k ts m cs y
    → After (suc d) n k (ASign Comma ∷ ts) m cs y
and_comma d n m k cs ts y h =
    let b : After (suc d) n (with_core k h.sort) h.rest m cs y = h.after in
    record {
      rest = b.rest;
      stack = b.stack;
      closes = (
        b.closes.0,
        and_sort h.sort b.closes.1,
        (ts, refl, (h.rest, h.reads, b.closes.2)),
        subst (λ l. Closes d (closed k.around l) b.stack b.closes.0 b.rest)
            (append_assoc k.sorts (core_sort h.sort ∷ []) (core_list b.closes.1)) b.closes.3,
      );
      sorts = b.sorts;
      reads = b.reads;
      count = b.count;
      kept = b.kept;
    }

and_close : (d n m : ℕ) (k : SortStack) (cs : List Sort) (ts y : List Token)
    → After d n (closed k.around k.sorts) ts m cs y → After (suc d) n k (ASign CloseRound ∷ ts) m cs y
and_close d n m k cs ts y b = record {
  rest = b.rest;
  stack = b.stack;
  closes = (
    ts,
    no_sorts,
    refl,
    subst (λ l. Closes d (closed k.around l) b.stack ts b.rest) (sym (append-nil k.sorts)) b.closes,
  );
  sorts = b.sorts;
  reads = b.reads;
  count = b.count;
  kept = b.kept;
}

and_named : (f : Symbol) (d n m : ℕ) (k : SortStack) (cs : List Sort) (x y : List Token)
    → After d n (with_sort k f []) x m cs y → Begun d n k (Ident f ∷ x) m cs y
and_named f d n m k cs x y b = record { sort = sort f no_sorts; rest = x; reads = refl; after = b }

and_open : (f : Symbol) (d n m : ℕ) (k : SortStack) (cs : List Sort) (ts y : List Token)
    → Begun (suc d) n (opened k f) ts m cs y → Begun d n k (Ident f ∷ (ASign OpenRound ∷ ts)) m cs y
and_open f d n m k cs ts y h =
    let b : After (suc d) n (with_core (opened k f) h.sort) h.rest m cs y = h.after in
    record {
      sort = sort f (and_sort h.sort b.closes.1);
      rest = b.closes.0;
      reads = (ASign OpenRound ∷ ts, refl, (ts, refl, (h.rest, h.reads, b.closes.2)));
      after = record {
        rest = b.rest;
        stack = b.stack;
        closes =
            subst (λ j. Closes d j b.stack b.closes.0 b.rest) (with_core-brackets k f h.sort b.closes.1) b.closes.3;
        sorts = b.sorts;
        reads = b.reads;
        count = b.count;
        kept = b.kept;
      };
    }

module _ (t : Token) (ts : List Token) (more : Sound ts) where
  at_star : (b : Bool) (n m : ℕ) (k : SortStack) (cs : List Sort) (y : List Token)
      → is_mark Star t ≡ b → (if b then both_from Begins 0 (suc n) k ts else Both n k.sorts (t ∷ ts)) ≡ Both m cs y
      → After 0 n k (t ∷ ts) m cs y
  at_star true n m k cs y e h = subst (λ u. After 0 n k (u ∷ ts) m cs y) (sym (mark_is Star t e))
      (one_more n m k cs ts y (more.begins 0 (suc n) k m cs y h))
  at_star false n m k cs y e h = nothing_more n m k cs (t ∷ ts) y h

  abbrev Goes : ℕ → SortStack → Turn → BothLeft
  Goes n k u = both_goes (λ q e. both_from q e n (stacked k t (next_token ts)) ts)
      (if (is_mark Star t) then both_from Begins 0 (suc n) k ts else Both n k.sorts (t ∷ ts)) u

  at_close : (b : Bool) (d n m : ℕ) (k : SortStack) (cs : List Sort) (y : List Token) → is_mark CloseRound t
      ≡ b → Goes n k (if b then Reads Closed d else Stuck) ≡ Both m cs y → After (suc d) n k (t ∷ ts) m cs y
  at_close true d n m k cs y e h =
      subst (λ u. After (suc d) n k (u ∷ ts) m cs y) (sym (mark_is CloseRound t e))
      (and_close d n m k cs ts y (more.closed d n (closed k.around k.sorts) m cs y
      (subst (λ u. both_from Closed d n (stacked k u (next_token ts)) ts ≡ Both m cs y) (mark_is CloseRound t e) h)))
  at_close false d n m k cs y e h = absurd (cc)

  at_comma : (b : Bool) (d n m : ℕ) (k : SortStack) (cs : List Sort) (y : List Token) → is_mark Comma t ≡ b → Goes n k
      (if b then Reads Begins (suc d) else (if (is_mark CloseRound t) then Reads Closed d else Stuck)) ≡ Both m cs y
      → After (suc d) n k (t ∷ ts) m cs y
  at_comma true d n m k cs y e h =
      subst (λ u. After (suc d) n k (u ∷ ts) m cs y) (sym (mark_is Comma t e))
      (and_comma d n m k cs ts y (more.begins (suc d) n k m cs y
      (subst (λ u. both_from Begins (suc d) n (stacked k u (next_token ts)) ts ≡ Both m cs y) (mark_is Comma t e) h)))
  at_comma false d n m k cs y e h = at_close (is_mark CloseRound t) d n m k cs y refl h

  after_is : (d n m : ℕ) (k : SortStack) (cs : List Sort) (y : List Token) → Goes n k (after_sort d t) ≡ Both m cs y
      → After d n k (t ∷ ts) m cs y
  after_is zero n m k cs y h = at_star (is_mark Star t) n m k cs y refl h
  after_is (suc d) n m k cs y h = at_comma (is_mark Comma t) d n m k cs y refl h

  at_open : (f : Symbol) (b : Bool) (d n m : ℕ) (k : SortStack) (cs : List Sort) (y : List Token)
      → is_mark OpenRound t ≡ b
      → Goes n (if b then opened k f else with_sort k f []) (if b then Reads Begins (suc d) else after_sort d t)
      ≡ Both m cs y → Begun d n k (Ident f ∷ (t ∷ ts)) m cs y
  at_open f true d n m k cs y e h =
      subst (λ u. Begun d n k (Ident f ∷ (u ∷ ts)) m cs y) (sym (mark_is OpenRound t e))
      (and_open f d n m k cs ts y (more.begins (suc d) n (opened k f) m cs y (subst (λ u.
      both_from Begins (suc d) n (stacked (opened k f) u (next_token ts)) ts ≡ Both m cs y) (mark_is OpenRound t e) h)))
  at_open f false d n m k cs y e h = and_named f d n m k cs (t ∷ ts) y (after_is d n m (with_sort k f []) cs y h)

begins_is : (t : Token) (ts : List Token) → Sound ts → (d n : ℕ) (k : SortStack) (m : ℕ) (cs : List Sort)
    (y : List Token) → both_from Begins d n k (t ∷ ts) ≡ Both m cs y → Begun d n k (t ∷ ts) m cs y
begins_is (Ident f) ts more d n k m cs y h = more.named f d n k m cs y h
begins_is Wildcard ts more d n k m cs y h = absurd (cc)
begins_is (Reserved w) ts more d n k m cs y h = absurd (cc)
begins_is (Integer z) ts more d n k m cs y h = absurd (cc)
begins_is (Text f) ts more d n k m cs y h = absurd (cc)
begins_is (ASign s) ts more d n k m cs y h = absurd (cc)
begins_is Bad ts more d n k m cs y h = absurd (cc)

end_is : (d n : ℕ) (k : SortStack) (m : ℕ) (cs : List Sort) (y : List Token) → both_from Closed d n k [] ≡ Both m cs y
    → After d n k [] m cs y
end_is zero n k m cs y h = nothing_more n m k cs [] y h
end_is (suc d) n k m cs y h = absurd (cc)

end_named : (d n : ℕ) (k : SortStack) (m : ℕ) (cs : List Sort) (y : List Token) → both_from Named d n k [] ≡ Both m cs y
    → After d n k [] m cs y
end_named zero n k m cs y h = nothing_more n m k cs [] y h
end_named (suc d) n k m cs y h = absurd (cc)

sound : (x : List Token) → Sound x
sound [] = record {
  begins = λ d n k m cs y h. absurd (cc);
  named = λ f d n k m cs y h. and_named f d n m k cs [] y (end_named d n (with_sort k f []) m cs y h);
  closed = λ d n k m cs y h. end_is d n k m cs y h;
}
sound (t ∷ ts) = record {
  begins = λ d n k m cs y h. begins_is t ts (sound ts) d n k m cs y h;
  named = λ f d n k m cs y h. at_open t ts (sound ts) f (is_mark OpenRound t) d n m k cs y refl h;
  closed = λ d n k m cs y h. after_is t ts (sound ts) d n m k cs y h;
}

-- sorts separated by `*`
pub record SortsFound (x : List Token) (n : ℕ) (cs : List Sort) (y : List Token) : Type 0 where
  pub first : Sort
  pub after : List Token
  pub reads : ReadsSort first x after
  pub more : Sorts
  pub reads_more : ReadsMoreSorts more Star Nothing after y
  pub count : n ≡ sort_count (and_sort first more)
  pub kept : cs ≡ core_list (and_sort first more)

both_found : (x : List Token) (n : ℕ) (cs : List Sort) (y : List Token) → both_from Begins 0 1 no_stack x ≡ Both n cs y
    → SortsFound x n cs y
both_found x n cs y h =
    let b : Begun 0 1 no_stack x n cs y = (sound x).begins 0 1 no_stack n cs y h in
    let r : After 0 1 (with_core no_stack b.sort) b.rest n cs y = b.after in
    let c : n ≡ sort_count r.sorts + 1 = r.count in
    record {
      first = b.sort;
      after = b.rest;
      reads = b.reads;
      more = r.sorts;
      reads_more = subst (λ l. ReadsMoreSorts r.sorts Star Nothing l y) r.closes.0 r.reads;
      count = omega arith;
      kept = r.kept ∙ ap (λ (j : SortStack). j.sorts ++ core_list r.sorts) r.closes.1;
    }

-- by their number
some-left : (a b : ℕ) (x y : List Token) → ◌≡◌ {A = SortsLeft} (Some (a, x)) (Some (b, y)) → a ≡ b
some-left a b x y e = let pair : ◌≡◌ {A = ℕ × List Token} (a, x) (b, y) = cc in ap (λ (q : ℕ × List Token). q.0) pair

some-right : (a b : ℕ) (x y : List Token) → ◌≡◌ {A = SortsLeft} (Some (a, x)) (Some (b, y)) → x ≡ y
some-right a b x y e = let pair : ◌≡◌ {A = ℕ × List Token} (a, x) (b, y) = cc in ap (λ (q : ℕ × List Token). q.1) pair

counted_both : (r : BothLeft) (s : SortsLeft) (k : KeptLeft) (n : ℕ) (y : List Token) → Agree r s k → s ≡ Some (n, y)
    → (cs : List Sort) × (r ≡ Both n cs y)
counted_both None s k n y a e = let no : ◌≡◌ {A = SortsLeft} None (Some (n, y)) = sym a.0 ∙ e in absurd (cc)
counted_both (Some ((m, ss), z)) s k n y a e =
    let same : ◌≡◌ {A = SortsLeft} (Some (m, z)) (Some (n, y)) = sym a.0 ∙ e in
    (ss, λ i. Both (some-left m n z y same i) ss (some-right m n z y same i))

pub sorts_found : (x : List Token) (n : ℕ) (y : List Token) → sorts_at x ≡ Some (n, y)
    → (cs : List Sort) × SortsFound x n cs y
sorts_found x n y h =
    let b =
    counted_both (both_from Begins 0 1 no_stack x) (sorts_at x) (kept_at x) n y (all_agree x Begins 0 1 no_stack) h in
    (b.0, both_found x n b.0 y b.1)

-- ... or as they are kept
kept_both : (r : BothLeft) (s : SortsLeft) (k : KeptLeft) (cs : List Sort) (y : List Token) → Agree r s k
    → k ≡ Some (cs, y) → (n : ℕ) × (r ≡ Both n cs y)
kept_both None s k cs y a e = let no : ◌≡◌ {A = KeptLeft} None (Some (cs, y)) = sym a.1 ∙ e in absurd (cc)
kept_both (Some ((m, ss), z)) s k cs y a e =
    let same : ◌≡◌ {A = KeptLeft} (Some (ss, z)) (Some (cs, y)) = sym a.1 ∙ e in
    let pair : ◌≡◌ {A = List Sort × List Token} (ss, z) (cs, y) = cc in
    (m, ap (λ (q : List Sort × List Token). Both m q.0 q.1) pair)

pub kept_found : (x : List Token) (cs : List Sort) (y : List Token) → kept_at x ≡ Some (cs, y)
    → (n : ℕ) × SortsFound x n cs y
kept_found x cs y h =
    let b =
    kept_both (both_from Begins 0 1 no_stack x) (sorts_at x) (kept_at x) cs y (all_agree x Begins 0 1 no_stack) h in
    (b.0, both_found x b.0 cs y b.1)

-- one sort
pub one_is : (r : SortsLeft) (y : List Token) → one_sort r ≡ Some y → r ≡ Some (1, y)
one_is None y h = absurd (cc)
one_is (Some (zero, x)) y h = absurd (cc)
one_is (Some (suc zero, x)) y h = let same : x ≡ y = cc in ap (λ l. Some (1, l)) same
one_is (Some (suc (suc n), x)) y h = absurd (cc)

pub only_first : (s : Sort) (ss : Sorts) (x a y : List Token) → 1 ≡ sort_count (and_sort s ss) → ReadsSort s x a
    → ReadsMoreSorts ss Star Nothing a y → ReadsSort s x y
only_first s no_sorts x a y c h k = subst (λ l. ReadsSort s x l) (sym k) h
only_first s (and_sort r ss) x a y c h k = absurd (omega arith)

pub sort_found : (x y : List Token) → sort_at x ≡ Some y → (s : Sort) × ReadsSort s x y
sort_found x y h =
    let all = sorts_found x 1 y (one_is (sorts_at x) y h) in
    let found : SortsFound x 1 all.0 y = all.1 in
    (found.first, only_first found.first found.more x found.after y found.count found.reads found.reads_more)

pub one_kept-is : (r : KeptLeft) (s : Sort) (y : List Token) → one_kept r ≡ Some (s, y) → r ≡ Some (s ∷ [], y)
one_kept-is None s y h = absurd (cc)
one_kept-is (Some ([], x)) s y h = absurd (cc)
one_kept-is (Some (q ∷ [], x)) s y h =
    let pair : ◌≡◌ {A = Sort × List Token} (q, x) (s, y) = cc in
    ap (λ (p : Sort × List Token). Some (p.0 ∷ [], p.1)) pair
one_kept-is (Some (q ∷ (r ∷ rs), x)) s y h = absurd (cc)

-- the sort that is read, if only one is kept
abbrev pub KeptAlone : Sort → List Token → List Token → Type 0
KeptAlone s x y = (w : Sort) × ReadsSort w x y × (core_sort w ≡ s)

kept_first : (w : Sort) (ws : Sorts) (s : Sort) (x a y : List Token) → s ∷ [] ≡ core_list (and_sort w ws)
    → ReadsSort w x a → ReadsMoreSorts ws Star Nothing a y → KeptAlone s x y
kept_first w no_sorts s x a y e h k = let same : core_sort w ≡ s = cc in
    (w, subst (λ l. ReadsSort w x l) (sym k) h, same)
kept_first w (and_sort q ws) s x a y e h k = absurd (cc)

pub kept_alone : (x : List Token) (cs : List Sort) (s : Sort) (y : List Token) → cs ≡ s ∷ [] → kept_at x ≡ Some (cs, y)
    → KeptAlone s x y
kept_alone x cs s y e h =
    let all = kept_found x cs y h in
    let found : SortsFound x all.0 cs y = all.1 in
    kept_first found.first found.more s x found.after y (sym e ∙ found.kept) found.reads found.reads_more

-- no sort that was counted is taken back
pub sorts_least : (n k : ℕ) (x y : List Token) → sorts_from Begins 0 n x ≡ Some (k, y) → n ≤ k
sorts_least n k x y h =
    let r = counted_both (both_from Begins 0 n no_stack x) (sorts_from Begins 0 n x) (kept_at x) k y
    (all_agree x Begins 0 n no_stack) h in
    let b : Begun 0 n no_stack x k r.0 y = (sound x).begins 0 n no_stack k r.0 y r.1 in
    let a : After 0 n (with_core no_stack b.sort) b.rest k r.0 y = b.after in
    let c : k ≡ sort_count a.sorts + n = a.count in
    omega arith

-- ---- one sort more

abbrev one_more_of : SortsLeft → SortsLeft
one_more_of None = None
one_more_of (Some (k, y)) = Some (suc k, y)

more_of_end : (n : ℕ) (u : Turn)
    → sort_goes (λ q e. None) (Some (suc n, [])) u ≡ one_more_of (sort_goes (λ q e. None) (Some (n, [])) u)
more_of_end n (Reads q e) = refl
more_of_end n Ends = refl
more_of_end n Stuck = refl

abbrev More : List Token → Type 0
More x = (p : SortState) (d n : ℕ) → sorts_from p d (suc n) x ≡ one_more_of (sorts_from p d n x)

more_of_next : (t : Token) (ts : List Token) → More ts → (n : ℕ) (u : Turn) (b : Bool)
    → sort_goes (λ q e. sorts_from q e (suc n) ts)
    (if b then sorts_from Begins 0 (suc (suc n)) ts else Some (suc n, t ∷ ts)) u
    ≡ one_more_of
    (sort_goes (λ q e. sorts_from q e n ts) (if b then sorts_from Begins 0 (suc n) ts else Some (n, t ∷ ts)) u)
more_of_next t ts more n (Reads q e) b = more q e n
more_of_next t ts more n Ends true = more Begins 0 (suc n)
more_of_next t ts more n Ends false = refl
more_of_next t ts more n Stuck b = refl

more_of : (x : List Token) → More x
more_of [] p d n = more_of_end n (sort_step p d Bad)
more_of (t ∷ ts) p d n = more_of_next t ts (more_of ts) n (sort_step p d t) (is_mark Star t)

pub star_more : (n k : ℕ) (x y : List Token) → sorts_from Begins 0 n x ≡ Some (k, y)
    → sorts_from Begins 0 (suc n) x ≡ Some (suc k, y)
star_more n k x y h = more_of x Begins 0 n ∙ ap one_more_of h

-- the number without one sort
abbrev pub OneLess : SortsLeft → ℕ → List Token → Type 0
OneLess r c y = (k : ℕ) × (c ≡ suc k) × (r ≡ Some (k, y))

one_less : (r : SortsLeft) (c : ℕ) (y : List Token) → one_more_of r ≡ Some (c, y) → OneLess r c y
one_less None c y e = absurd (cc)
one_less (Some (k, z)) c y e = (k, sym (some-left (suc k) c z y e), ap (λ l. Some (k, l)) (some-right (suc k) c z y e))

pub star_less : (n c : ℕ) (x y : List Token) → sorts_from Begins 0 (suc n) x ≡ Some (c, y)
    → OneLess (sorts_from Begins 0 n x) c y
star_less n c x y h = one_less (sorts_from Begins 0 n x) c y (sym (more_of x Begins 0 n) ∙ h)

-- ---- the loop over sorts

pub sorts_reads : (p : SortState) (d n : ℕ) (x : List Token) (t : Token) (ts : List Token) (q : SortState) (e : ℕ)
    → x ≡ t ∷ ts → Reads q e ≡ sort_step p d t → sorts_from q e n ts ≡ sorts_from p d n x
sorts_reads p d n x t ts q e h k = sym (ap (sorts_from p d n) h ∙ ap (sort_goes (λ r f. sorts_from r f n ts)
    (if (is_mark Star t) then sorts_from Begins 0 (suc n) ts else Some (n, t ∷ ts))) (sym k))

pub sorts_end : (p : SortState) (d n : ℕ) (x : List Token) (t : Token) (ts : List Token)
    → x ≡ t ∷ ts → Ends ≡ sort_step p d t → is_mark Star t ≡ false → sorts_from p d n x ≡ Some (n, x)
sorts_end p d n x t ts h k m =
    ap (sorts_from p d n) h
    ∙ ap (sort_goes (λ r f. sorts_from r f n ts)
    (if (is_mark Star t) then sorts_from Begins 0 (suc n) ts else Some (n, t ∷ ts))) (sym k)
    ∙ rw m (ap (λ l. Some (n, l)) (sym h))

pub sorts_stuck : (p : SortState) (d n : ℕ) (x : List Token) (t : Token) (ts : List Token)
    → x ≡ t ∷ ts → Stuck ≡ sort_step p d t → sorts_from p d n x ≡ None
sorts_stuck p d n x t ts h k =
    ap (sorts_from p d n) h
    ∙ ap (sort_goes (λ r f. sorts_from r f n ts)
    (if (is_mark Star t) then sorts_from Begins 0 (suc n) ts else Some (n, t ∷ ts))) (sym k)

ends_after : (d : ℕ) (t : Token) → Ends ≡ after_sort d t → d ≡ 0
ends_after zero t e = refl
ends_after (suc d) t e = absurd (at_comma (is_mark Comma t) (is_mark CloseRound t) e) where
  at_comma : (b c : Bool) → Ends ≡ (if b then Reads Begins (suc d) else (if c then Reads Closed d else Stuck)) → ⊥
  at_comma true c e = cc
  at_comma false true e = cc
  at_comma false false e = cc

begin-ends : (d : ℕ) (t : Token) → Ends ≡ begin_sort d t → ⊥
begin-ends d (Ident f) e = cc
begin-ends d Wildcard e = cc
begin-ends d (Reserved w) e = cc
begin-ends d (Integer z) e = cc
begin-ends d (Text f) e = cc
begin-ends d (ASign s) e = cc
begin-ends d Bad e = cc

pub ends-at : (p : SortState) (d : ℕ) (t : Token) → Ends ≡ sort_step p d t → d ≡ 0
ends-at Begins d t e = absurd (begin-ends d t e)
ends-at Closed d t e = ends_after d t e
ends-at Named d t e = at_open (is_mark OpenRound t) e where
  at_open : (b : Bool) → Ends ≡ (if b then Reads Begins (suc d) else after_sort d t) → d ≡ 0
  at_open true e = absurd (cc)
  at_open false e = ends_after d t e

pub sorts_star : (p : SortState) (d n k : ℕ) (x : List Token) (t : Token) (ts : List Token)
    → x ≡ t ∷ ts → Ends ≡ sort_step p d t
    → is_mark Star t ≡ true → k ≡ n + 1 → sorts_from Begins d k ts ≡ sorts_from p d n x
sorts_star p d n k x t ts h e m s =
    let up : k ≡ suc n = omega arith in
    sym (ap (sorts_from p d n) h
    ∙ ap (sort_goes (λ r f. sorts_from r f n ts)
    (if (is_mark Star t) then sorts_from Begins 0 (suc n) ts else Some (n, t ∷ ts))) (sym e)
    ∙ rw m
    (ap (λ c. sorts_from Begins c (suc n) ts) (sym (ends-at p d t e)) ∙ ap (λ c. sorts_from Begins d c ts) (sym up)))

pub sorts_last : (p : SortState) (d n : ℕ) (x : List Token) → x ≡ [] → Ends ≡ sort_step p d Bad
    → sorts_from p d n x ≡ Some (n, x)
sorts_last p d n x h k =
    ap (sorts_from p d n) h ∙ ap (sort_goes (λ r f. None) (Some (n, []))) (sym k) ∙ ap (λ l. Some (n, l)) (sym h)

pub sorts_over : (p : SortState) (d n : ℕ) (x : List Token)
    → x ≡ [] → (sort_step p d Bad ≡ Ends → ⊥) → sorts_from p d n x ≡ None
sorts_over p d n x h k = ap (sorts_from p d n) h ∙ over (sort_step p d Bad) k where
  over : (u : Turn) → (u ≡ Ends → ⊥) → sort_goes (λ r f. None) (Some (n, [])) u ≡ None
  over (Reads q e) k = refl
  over Ends k = absurd (k refl)
  over Stuck k = refl

depth_after : (d e : ℕ) (q : SortState) (t : Token) → Reads q e ≡ after_sort d t → e ≤ d
depth_after zero e q t h = absurd (cc)
depth_after (suc d) e q t h = at_comma (is_mark Comma t) (is_mark CloseRound t) h where
  depth-of : (p r : SortState) (a b : ℕ) → Reads p a ≡ Reads r b → a ≡ b
  depth-of p r a b h = cc

  at_comma : (b c : Bool) → Reads q e ≡ (if b then Reads Begins (suc d) else (if c then Reads Closed d else Stuck))
      → e ≤ suc d
  at_comma true c h = let same : e ≡ suc d = depth-of q Begins e (suc d) h in omega arith
  at_comma false true h = let same : e ≡ d = depth-of q Closed e d h in omega arith
  at_comma false false h = absurd (cc)

pub sorts_depth : (p q : SortState) (d e : ℕ) (t : Token) → Reads q e ≡ sort_step p d t → e ≤ d + 1
sorts_depth Closed q d e t h = let less : e ≤ d = depth_after d e q t h in omega arith
sorts_depth Begins q d e (Ident f) h = let same : e ≡ d = cc in omega arith
sorts_depth Begins q d e Wildcard h = absurd (cc)
sorts_depth Begins q d e (Reserved w) h = absurd (cc)
sorts_depth Begins q d e (Integer z) h = absurd (cc)
sorts_depth Begins q d e (Text f) h = absurd (cc)
sorts_depth Begins q d e (ASign s) h = absurd (cc)
sorts_depth Begins q d e Bad h = absurd (cc)
sorts_depth Named q d e t h = at_open (is_mark OpenRound t) h where
  at_open : (b : Bool) → Reads q e ≡ (if b then Reads Begins (suc d) else after_sort d t) → e ≤ d + 1
  at_open true h = let same : e ≡ suc d = cc in omega arith
  at_open false h = let less : e ≤ d = depth_after d e q t h in omega arith

pub one_sort-is : (r : SortsLeft) (n : ℕ) (y : List Token) → r ≡ Some (n, y) → n ≡ 1 → one_sort r ≡ Some y
one_sort-is r n y e h = ap one_sort (e ∙ ap (λ k. Some (k, y)) h)

pub one_sort-none : (r : SortsLeft) → r ≡ None → one_sort r ≡ None
one_sort-none r e = ap one_sort e

pub one_sort-more : (r : SortsLeft) (n : ℕ) (y : List Token) → r ≡ Some (n, y) → (n ≡ 1 → ⊥) → one_sort r ≡ None
one_sort-more r zero y e h = ap one_sort e
one_sort-more r (suc zero) y e h = absurd (h refl)
one_sort-more r (suc (suc n)) y e h = ap one_sort e

-- ---- the loop that keeps sorts

pub kept_reads : (p : SortState) (d : ℕ) (k : SortStack) (x : List Token) (t : Token) (ts : List Token) (q : SortState)
    (e : ℕ) (j : SortStack) → x ≡ t ∷ ts → Reads q e ≡ sort_step p d t → j ≡ stacked k t (next_token ts)
    → kept_from q e j ts ≡ kept_from p d k x
kept_reads p d k x t ts q e j h s m =
    ap (λ i. kept_from q e i ts) m
    ∙ sym (ap (kept_from p d k) h ∙ ap (keep_goes (λ r f. kept_from r f (stacked k t (next_token ts)) ts)
    (if (is_mark Star t) then kept_from Begins 0 k ts else Some (k.sorts, t ∷ ts))) (sym s))

pub kept_end : (p : SortState) (d : ℕ) (k : SortStack) (x : List Token) (t : Token) (ts : List Token)
    → x ≡ t ∷ ts → Ends ≡ sort_step p d t → is_mark Star t ≡ false → kept_from p d k x ≡ Some (k.sorts, x)
kept_end p d k x t ts h s m =
    ap (kept_from p d k) h
    ∙ ap (keep_goes (λ r f. kept_from r f (stacked k t (next_token ts)) ts)
    (if (is_mark Star t) then kept_from Begins 0 k ts else Some (k.sorts, t ∷ ts))) (sym s)
    ∙ rw m (ap (λ l. Some (k.sorts, l)) (sym h))

pub kept_stuck : (p : SortState) (d : ℕ) (k : SortStack) (x : List Token) (t : Token) (ts : List Token)
    → x ≡ t ∷ ts → Stuck ≡ sort_step p d t → kept_from p d k x ≡ None
kept_stuck p d k x t ts h s =
    ap (kept_from p d k) h
    ∙ ap (keep_goes (λ r f. kept_from r f (stacked k t (next_token ts)) ts)
    (if (is_mark Star t) then kept_from Begins 0 k ts else Some (k.sorts, t ∷ ts))) (sym s)

pub kept_star : (p : SortState) (d : ℕ) (k : SortStack) (x : List Token) (t : Token) (ts : List Token)
    → x ≡ t ∷ ts → Ends ≡ sort_step p d t → is_mark Star t ≡ true → kept_from Begins d k ts ≡ kept_from p d k x
kept_star p d k x t ts h e m =
    sym (ap (kept_from p d k) h
    ∙ ap (keep_goes (λ r f. kept_from r f (stacked k t (next_token ts)) ts)
    (if (is_mark Star t) then kept_from Begins 0 k ts else Some (k.sorts, t ∷ ts))) (sym e)
    ∙ rw m (ap (λ c. kept_from Begins c k ts) (sym (ends-at p d t e))))

pub kept_last : (p : SortState) (d : ℕ) (k : SortStack) (x : List Token) → x ≡ [] → Ends ≡ sort_step p d Bad
    → kept_from p d k x ≡ Some (k.sorts, x)
kept_last p d k x h s =
    ap (kept_from p d k) h ∙ ap (keep_goes (λ r f. None) (Some (k.sorts, []))) (sym s)
    ∙ ap (λ l. Some (k.sorts, l)) (sym h)

pub kept_over : (p : SortState) (d : ℕ) (k : SortStack) (x : List Token)
    → x ≡ [] → (sort_step p d Bad ≡ Ends → ⊥) → kept_from p d k x ≡ None
kept_over p d k x h s = ap (kept_from p d k) h ∙ over (sort_step p d Bad) s where
  over : (u : Turn) → (u ≡ Ends → ⊥) → keep_goes (λ r f. None) (Some (k.sorts, [])) u ≡ None
  over (Reads q e) s = refl
  over Ends s = absurd (s refl)
  over Stuck s = refl

pub one_kept-some : (r : KeptLeft) (cs : List Sort) (s : Sort) (y : List Token) → r ≡ Some (cs, y)
    → cs ≡ s ∷ [] → one_kept r ≡ Some (s, y)
one_kept-some r cs s y e h = ap one_kept (e ∙ ap (λ l. Some (l, y)) h)

pub one_kept-none : (r : KeptLeft) → r ≡ None → one_kept r ≡ None
one_kept-none r e = ap one_kept e

pub one_kept-more : (r : KeptLeft) (cs : List Sort) (y : List Token) → r ≡ Some (cs, y)
    → (length cs ≡ 1 → ⊥) → one_kept r ≡ None
one_kept-more r [] y e h = ap one_kept e
one_kept-more r (s ∷ []) y e h = absurd (h refl)
one_kept-more r (s ∷ (q ∷ qs)) y e h = ap one_kept e

pub ruleset kept_rules = (
  kept_reads,
  kept_end,
  kept_stuck,
  kept_star,
  kept_last,
  kept_over,
  sorts_depth,
  one_kept-some,
  one_kept-none,
  one_kept-more,
)

pub ruleset sort_rules = (
  sorts_reads,
  sorts_end,
  sorts_stuck,
  sorts_star,
  sorts_last,
  sorts_over,
  sorts_depth,
  one_sort-is,
  one_sort-none,
  one_sort-more,
)
