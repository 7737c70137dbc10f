-- The scopes of a table after entries are added and after they are cut off.
use Rattle.std.proofs.Common.{◌≡◌, ℕ, ◌+◌, ◌≤◌, ◌<◌, List, [], ◌∷◌, ◌++◌, length, take, get_or, map, zero, suc, refl, sym, ap, ◌∙◌, subst, arith, Some, None}
use Rattle.std.specs.declared.option.Option.{Option}
use Rattle.std.proofs.lemmas.List.{append-nil, append_assoc, length-append, length-map, map-append, take-map, get_or_append_left, get_or_past}
use Rattle.strategy_meaning.specs.Scopes.{Scope, cells_in, with_name}
use Rattle.strategy_machine.specs.Table.{Widening, nowhere, scope_at, scope_from, with_addition, widened, scopes_after, scopes, IsThere}
use Rattle.strategy_machine.specs.declared.scopes.Adds.{Adds}
use Rattle.strategy_machine.specs.declared.scopes.Adds.TheVariants.{Variables, Name}
use Rattle.strategy_machine.specs.declared.scopes.ScopeEntry.{ScopeEntry}
use Rattle.strategy_machine.specs.inside.Entries.{names_in, closure_count, addition_of, widening_of, AddsFit, RestsOnOlder, RestOnOlder}

pub length-scopes : (known : List Scope) (ws : List Widening) → length (scopes_after known ws) ≡ length ws
length-scopes known [] = refl
length-scopes known (w ∷ ws) = ap suc (length-scopes (known ++ widened known w ∷ []) ws)

pub scopes-append : (known : List Scope) (ws : List Widening) (w : Widening)
    → scopes_after known (ws ++ w ∷ []) ≡ scopes_after known ws ++ widened (known ++ scopes_after known ws) w ∷ []
scopes-append known [] w = ap (λ l. widened l w ∷ []) (sym (append-nil known))
scopes-append known (v ∷ ws) w =
    let more : List Scope = known ++ widened known v ∷ [] in
    ap (λ l. widened known v ∷ l) (scopes-append more ws w
    ∙ ap (λ l. scopes_after more ws ++ widened l w ∷ [])
    (append_assoc known (widened known v ∷ []) (scopes_after more ws)))

pub scopes-take : (known : List Scope) (n : ℕ) (ws : List Widening)
    → scopes_after known (take n ws) ≡ take n (scopes_after known ws)
scopes-take known zero ws = refl
scopes-take known (suc n) [] = refl
scopes-take known (suc n) (w ∷ ws) = ap (λ l. widened known w ∷ l) (scopes-take (known ++ widened known w ∷ []) n ws)

-- ---- more scopes at the end

scope_from-append : (known more : List Scope) (o : Option ℕ) → IsThere (length known) o
    → scope_from (known ++ more) o ≡ scope_from known o
scope_from-append known more None h = refl
scope_from-append known more (Some n) h = get_or_append_left known more nowhere n h

addition-more : (known more : List Scope) (a : Adds) (E : Scope) → AddsFit (length known) a
    → with_addition (known ++ more) (addition_of a) E ≡ with_addition known (addition_of a) E
addition-more known more (Variables first n) E h = refl
addition-more known more (Name k) E h =
    ap (with_name E k.strategy.now) (get_or_append_left known more nowhere k.written_in h)

widened-more : (known more : List Scope) (e : ScopeEntry) → RestsOnOlder known (length known) e
    → widened (known ++ more) (widening_of e) ≡ widened known (widening_of e)
widened-more known more e s =
    ap (with_addition (known ++ more) (addition_of e.adds)) (scope_from-append known more e.outer s.outer)
    ∙ addition-more known more e.adds (scope_from known e.outer) s.adds

sound-more : (known more : List Scope) (e : ScopeEntry) → RestsOnOlder known (length known) e
    → RestsOnOlder (known ++ more) (length known) e
sound-more known more e s =
    let same : scope_from (known ++ more) e.outer ≡ scope_from known e.outer =
    scope_from-append known more e.outer s.outer in
    record {
      outer = s.outer;
      variables = s.variables ∙ ap (λ E. length (cells_in E)) (sym same);
      names = s.names ∙ ap (λ E. closure_count (names_in E)) (sym same);
      adds = s.adds;
    }

-- ---- an entry of the table

-- entry e is the n-th, and its invariant holds
pub record IsAt (all : List Scope) (b : ℕ) (E : Scope) (e : ScopeEntry) : Type 0 where
  pub sound : RestsOnOlder all b e
  pub scope : E ≡ widened all (widening_of e)

at_first : (known more : List Scope) (b : ℕ) (e : ScopeEntry) → b ≡ length known → RestsOnOlder known (length known) e
    → IsAt (known ++ more) b (widened known (widening_of e)) e
at_first known more b e i s =
    record { sound = rw i (sound-more known more e s); scope = sym (widened-more known more e s) }

pub at : (known : List Scope) (es : List ScopeEntry) (n b : ℕ) (e : ScopeEntry) → RestOnOlder known es → n < length es
    → e ≡ get_or es n e → b ≡ length known + n
    → IsAt (known ++ scopes_after known (map widening_of es)) b (scope_at (scopes_after known (map widening_of es)) n) e
at known [] n b e o h is i = absurd (omega (arith, h))
at known (f ∷ es) zero b e o h is i =
    let more : List Scope = scopes_after known (map widening_of (f ∷ es)) in
    subst (λ (x : ScopeEntry). IsAt (known ++ more) b (widened known (widening_of f)) x) (sym is)
    (at_first known more b f (omega (arith, i)) o.0)
at known (f ∷ es) (suc n) b e o h is i =
    let more : List Scope = known ++ widened known (widening_of f) ∷ [] in
    let l : length more ≡ length known + 1 = length-append known (widened known (widening_of f) ∷ []) in
    subst (λ (all : List Scope). IsAt all b (scope_at (scopes_after more (map widening_of es)) n) e)
    (append_assoc known (widened known (widening_of f) ∷ []) (scopes_after more (map widening_of es)))
    (at more es n b e o.1 (omega (arith, h)) is (omega (arith, i, l)))

pub sound-take : (known : List Scope) (n : ℕ) (es : List ScopeEntry) → RestOnOlder known es
    → RestOnOlder known (take n es)
sound-take known zero es o = tt
sound-take known (suc n) [] o = tt
sound-take known (suc n) (e ∷ es) o = (o.0, sound-take (known ++ widened known (widening_of e) ∷ []) n es o.1)

pub sound-append : (known all : List Scope) (es : List ScopeEntry) (e : ScopeEntry) → RestOnOlder known es
    → all ≡ known ++ scopes_after known (map widening_of es) → RestsOnOlder all (length all) e
    → RestOnOlder known (es ++ e ∷ [])
sound-append known all [] e o i s =
    let same : all ≡ known = i ∙ append-nil known in
    (subst (λ (l : List Scope). RestsOnOlder l (length l) e) same s, tt)
sound-append known all (f ∷ es) e o i s =
    let more : List Scope = known ++ widened known (widening_of f) ∷ [] in (
      o.0,
      sound-append more all es e o.1
          (i ∙ sym (append_assoc known (widened known (widening_of f) ∷ []) (scopes_after more (map widening_of es))))
          s,
    )

-- ---- by the vector

pub length-table : (es : List ScopeEntry) (ws : List Widening)
    → map widening_of es ≡ ws → length (scopes ws) ≡ length es
length-table es ws v = ap (λ l. length (scopes l)) (sym v) ∙ length-scopes [] (map widening_of es)
    ∙ length-map es widening_of

pub at_vector : (es : List ScopeEntry) (ws : List Widening) (n : ℕ) (e : ScopeEntry)
    → map widening_of es ≡ ws → RestOnOlder [] es
    → n < length es → e ≡ get_or es n e → IsAt (scopes ws) n (scope_at (scopes ws) n) e
at_vector es ws n e v o h is =
    subst (λ (l : List Widening). IsAt (scopes l) n (scope_at (scopes l) n) e) v (at [] es n n e o h is (omega arith))

pub past_vector : (es : List ScopeEntry) (ws : List Widening) (n : ℕ)
    → map widening_of es ≡ ws → length es ≤ n → scope_at (scopes ws) n ≡ nowhere
past_vector es ws n v h = get_or_past (scopes ws) n nowhere (omega (arith, h, length-table es ws v))

pub sound_vector : (es : List ScopeEntry) (ws : List Widening) (e : ScopeEntry)
    → map widening_of es ≡ ws → RestOnOlder [] es
    → RestsOnOlder (scopes ws) (length (scopes ws)) e → RestOnOlder [] (es ++ e ∷ [])
sound_vector es ws e v o s = sound-append [] (scopes ws) es e o (ap scopes (sym v)) s

pub added : (es new : List ScopeEntry) (ws : List Widening) (e : ScopeEntry)
    → map widening_of es ≡ ws → new ≡ es ++ e ∷ []
    → scopes (map widening_of new) ≡ scopes ws ++ widened (scopes ws) (widening_of e) ∷ []
added es new ws e v i =
    ap (λ l. scopes (map widening_of l)) i
    ∙ ap scopes (map-append widening_of es (e ∷ []) ∙ ap (λ l. l ++ widening_of e ∷ []) v)
    ∙ scopes-append [] ws (widening_of e)

pub cut : (es new : List ScopeEntry) (ws : List Widening) (n : ℕ) → map widening_of es ≡ ws → new ≡ take n es
    → scopes (map widening_of new) ≡ take n (scopes ws)
cut es new ws n v i =
    ap (λ l. scopes (map widening_of l)) i ∙ ap scopes (sym (take-map widening_of n es))
    ∙ scopes-take [] n (map widening_of es)
    ∙ ap (λ l. take n (scopes l)) v

-- ---- the extended scope

below : (b : ℕ) (o : Option ℕ) (n : ℕ) → IsThere b o → o ≡ Some n → n < b
below b o n h e = subst (IsThere b) e h

pub outer_below : (all : List Scope) (b : ℕ) (E : Scope) (e : ScopeEntry) (n : ℕ) → IsAt all b E e
    → e.outer ≡ Some n → n < b
outer_below all b E e n h i = below b e.outer n h.sound.outer i

pub there_below : {k l : ℕ} (o : Option ℕ) (n : ℕ) → IsThere l o → o ≡ Some n → {m : ℕ} → k ≡ m → l ≡ m → n < k
there_below {k = k} {l = l} o n h e {m = m} v t = let lt : n < l = below l o n h e in omega (arith, lt, v, t)
