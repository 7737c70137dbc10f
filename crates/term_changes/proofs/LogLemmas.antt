-- Entries whose paths are concatenated.
use Rattle.std.proofs.Common.{◌≡◌, ℕ, zero, suc, ◌+◌, ◌-◌, ◌<◌, ◌≤◌, List, [], ◌∷◌, ◌++◌, length, take, drop, set, slice_get, min, Some, refl, sym, ap, subst, ◌∙◌, arith}
use Rattle.std.proofs.lemmas.List.{drop-drop, drop-take, length-set, take-take, take_all, take-set, length-take, length-drop, length-append, take-append-le, drop-append-le, take-append-drop}
use Rattle.std.proofs.Math.Seq.{take-append_seam, drop-append_seam}
use Rattle.term_changes.specs.Slots.{Store}
use Rattle.term_changes.specs.Entries.{Entry, put, found, before, after, flipped_back, flipped_forward}
use Rattle.term_changes.specs.LogView.{entry_of}
use Rattle.term_changes.specs.inside.LogView.{entries, depths}
use Rattle.term_changes.proofs.EntryLemmas.{before-append}
use Rattle.term_changes.specs.declared.entry.Kept.{Kept}
use Rattle.term_changes.specs.declared.plan.Replaced.{Replaced}

pub length-entries : (rs : List Replaced) (ps : List ℕ) → length (entries rs ps) ≡ length rs
length-entries [] ps = refl
length-entries (r ∷ rs) ps = ap suc (length-entries rs (drop r.depth ps))

-- ---- concatenated entries

pub depths-both : (rs qs : List Replaced) → depths (rs ++ qs) ≡ depths rs + depths qs
depths-both [] qs = omega arith
depths-both (r ∷ rs) qs = let rest = depths-both rs qs in omega (arith, rest)

pub entries-both : (rs qs : List Replaced) (ps ts : List ℕ) → depths rs ≡ length ps
    → entries (rs ++ qs) (ps ++ ts) ≡ entries rs ps ++ entries qs ts
entries-both [] qs [] ts h = refl
entries-both [] qs (p ∷ ps) ts h = absurd (omega (arith, h))
entries-both (r ∷ rs) qs ps ts h =
    let inside : r.depth ≤ length ps = omega (arith, h) in
    let rest : depths rs ≡ length (drop r.depth ps) = omega (arith, h, length-drop r.depth ps) in
    λ i. entry_of r.slot (take-append-le r.depth ps ts inside i) r.kept
    ∷ (ap (entries (rs ++ qs)) (drop-append-le r.depth ps ts inside) ∙ entries-both rs qs (drop r.depth ps) ts rest) i

module _ (rs qs now all : List Replaced) (ps ts us : List ℕ) (h : depths rs ≡ length ps) (k : depths qs ≡ length ts)
    (d : depths now ≡ depths qs)
    (a : all ≡ rs ++ now) (u : us ≡ ps ++ ts) where
  pub made_depths : depths all ≡ length us
  made_depths = ap depths a ∙ depths-both rs now ∙ (λ i. h i + (d ∙ k) i) ∙ sym (length-append ps ts)
      ∙ sym (ap length u)

  pub made_entries : (es : List Entry) → entries now ts ≡ es → entries all us ≡ entries rs ps ++ es
  made_entries es e = (λ i. entries (a i) (u i)) ∙ entries-both rs now ps ts h ∙ ap (λ l. entries rs ps ++ l) e

-- ---- the newest entry

pub depths-append : (rs : List Replaced) (r : Replaced) → depths (rs ++ r ∷ []) ≡ depths rs + r.depth
depths-append [] r = omega arith
depths-append (x ∷ rs) r = let rest = depths-append rs r in omega (arith, rest)

pub entries-append : (rs : List Replaced) (r : Replaced) (ps q : List ℕ) → depths rs ≡ length ps → length q ≡ r.depth
    → entries (rs ++ r ∷ []) (ps ++ q) ≡ entries rs ps ++ entry_of r.slot q r.kept ∷ []
entries-append [] r [] q h l =
    ap (λ p. entry_of r.slot p r.kept ∷ []) (ap (λ n. take n q) (sym l) ∙ take_all (length q) q (omega arith))
entries-append [] r (p ∷ ps) q h l = absurd (omega (arith, h))
entries-append (x ∷ rs) r ps q h l =
    let inside : x.depth ≤ length ps = omega (arith, h) in
    let rest : depths rs ≡ length (drop x.depth ps) = omega (arith, h, length-drop x.depth ps) in
    λ i. entry_of x.slot (take-append-le x.depth ps q inside i) x.kept
    ∷ (ap (entries (rs ++ r ∷ [])) (drop-append-le x.depth ps q inside)
    ∙ entries-append rs r (drop x.depth ps) q rest l) i

-- one more entry
pub pushed_depths : (rs all : List Replaced) (r : Replaced) (ps path qs : List ℕ) → depths rs ≡ length ps
    → r.depth ≡ length path
    → all ≡ rs ++ r ∷ [] → qs ≡ ps ++ path → depths all ≡ length qs
pushed_depths rs all r ps path qs h d a q = ap depths a ∙ depths-append rs r ∙ (λ i. h i + d i)
    ∙ sym (length-append ps path) ∙ sym (ap length q)

pub pushed_entries : (rs all : List Replaced) (r : Replaced) (ps path qs : List ℕ) → depths rs ≡ length ps
    → r.depth ≡ length path
    → all ≡ rs ++ r ∷ [] → qs ≡ ps ++ path → entries all qs ≡ entries rs ps ++ entry_of r.slot path r.kept ∷ []
pushed_entries rs all r ps path qs h d a q = (λ i. entries (a i) (q i)) ∙ entries-append rs r ps path h (sym d)

-- one entry less
pub popped_depth : (rs all : List Replaced) (r : Replaced) (ps : List ℕ) → all ≡ rs ++ r ∷ [] → depths all ≡ length ps
    → r.depth ≤ length ps
popped_depth rs all r ps a h = omega (arith, ap depths a, depths-append rs r, h)

pub popped_depths : (rs all : List Replaced) (r : Replaced) (ps : List ℕ) → all ≡ rs ++ r ∷ [] → depths all ≡ length ps
    → depths rs ≡ length (take (length ps - r.depth) ps)
popped_depths rs all r ps a h = omega (arith, ap depths a, depths-append rs r, h, length-take (length ps - r.depth) ps)

pub popped_entries : (rs all : List Replaced) (r : Replaced) (ps : List ℕ) → all ≡ rs ++ r ∷ [] → depths all ≡ length ps
    → entries all ps
    ≡ entries rs (take (length ps - r.depth) ps) ++ entry_of r.slot (drop (length ps - r.depth) ps) r.kept ∷ []
popped_entries rs all r ps a h =
    let begin = length ps - r.depth in
    let l : length (drop begin ps) ≡ r.depth = omega (arith, popped_depth rs all r ps a h, length-drop begin ps) in
    (λ i. entries (a i) (sym (take-append-drop begin ps) i))
    ∙ entries-append rs r (take begin ps) (drop begin ps) (popped_depths rs all r ps a h) l

front : (es : List Entry) (e : Entry) → take (length (es ++ e ∷ []) - 1) (es ++ e ∷ []) ≡ es
front es e = ap (λ n. take n (es ++ e ∷ [])) (omega (arith, length-append es (e ∷ []))) ∙ take-append_seam es (e ∷ [])

back : (es : List Entry) (e : Entry) → drop (length (es ++ e ∷ []) - 1) (es ++ e ∷ []) ≡ e ∷ []
back es e = ap (λ n. drop n (es ++ e ∷ [])) (omega (arith, length-append es (e ∷ []))) ∙ drop-append_seam es (e ∷ [])

pub all_but_newest : (log es : List Entry) (e : Entry) → log ≡ es ++ e ∷ [] → es ≡ take (length log - 1) log
all_but_newest log es e h = sym (ap (λ l. take (length l - 1) l) h ∙ front es e)

pub before_newest : (log es : List Entry) (e : Entry) (s : Store)
    → log ≡ es ++ e ∷ [] → put e s ≡ before (drop (length log - 1) log) s
before_newest log es e s h = sym (ap (λ l. before (drop (length l - 1) l) s) h ∙ ap (λ l. before l s) (back es e))

-- ---- rolling back

-- rolling back one more entry
pub rolled_one : (n : ℕ) (all log : List Entry) (start s : Store) → n < length all → log ≡ take (suc n) all
    → s ≡ before (drop (suc n) all) start
    → (take (length log - 1) log ≡ take n all) × (before (drop (length log - 1) log) s ≡ before (drop n all) start)
rolled_one n all log start s l h k =
    let count : length log - 1 ≡ n = omega (arith, l, ap length h, length-take (suc n) all) in
    let whole : drop n (take (suc n) all) ++ drop (suc n) all ≡ drop n all =
    sym (drop-append-le n (take (suc n) all) (drop (suc n) all) (omega (arith, l, length-take (suc n) all)))
    ∙ ap (drop n) (take-append-drop (suc n) all) in (
      (λ i. take (count i) (h i)) ∙ take-take n (suc n) all (omega arith),
      (λ i. before (drop (count i) (h i)) (k i))
          ∙ sym (before-append (drop n (take (suc n) all)) (drop (suc n) all) start) ∙ ap (λ l. before l start) whole,
    )

pub rolled_once : (mark : ℕ) (all log next : List Entry) (start s t : Store) → mark < length log
    → (min mark (length all) ≤ length log) × (log ≡ take (length log) all) × (s ≡ before (drop (length log) all) start)
    → next ≡ take (length log - 1) log → t ≡ before (drop (length log - 1) log) s
    → (min mark (length all) ≤ length next) × (next ≡ take (length next) all)
    × (t ≡ before (drop (length next) all) start)
rolled_once mark all log next start s t l h k e =
    let n = length log - 1 in
    let one : suc n ≡ length log = omega (arith, l) in
    let within : length log ≤ length all = omega (arith, ap length h.1, length-take (length log) all) in
    let rolled = rolled_one n all log start s (omega (arith, l, within)) (h.1 ∙ ap (λ m. take m all) (sym one))
    (h.2 ∙ ap (λ m. before (drop m all) start) (sym one)) in
    let count : length next ≡ n = ap length k ∙ length-take n log ∙ omega (arith, l) in (
      omega (arith, l, count),
      k ∙ rolled.0 ∙ ap (λ m. take m all) (sym count),
      e ∙ rolled.1 ∙ ap (λ m. before (drop m all) start) (sym count),
    )

-- ---- where paths begin

-- where the path of entry n begins
abbrev pub path_begin : ℕ → List Replaced → ℕ
path_begin n rs = depths (take n rs)

pub path_begin_all : (rs : List Replaced) → path_begin (length rs) rs ≡ depths rs
path_begin_all rs = ap depths (take_all (length rs) rs (omega arith))

pub next_begin : (n : ℕ) (rs : List Replaced) (r : Replaced) → slice_get rs n ≡ Some r
    → path_begin (suc n) rs ≡ path_begin n rs + r.depth
next_begin n [] r g = absurd (cc)
next_begin zero (x ∷ rs) r g = let same : x ≡ r = cc in omega (arith, ap (λ t. t.depth) same)
next_begin (suc n) (x ∷ rs) r g = let rest = next_begin n rs r g in omega (arith, rest)

pub path_ends : (n : ℕ) (rs : List Replaced) (r : Replaced) → slice_get rs n ≡ Some r
    → path_begin n rs + r.depth ≤ depths rs
path_ends n [] r g = absurd (cc)
path_ends zero (x ∷ rs) r g = let same : x ≡ r = cc in omega (arith, ap (λ t. t.depth) same)
path_ends (suc n) (x ∷ rs) r g = let rest = path_ends n rs r g in omega (arith, rest)

pub same_begin : (n : ℕ) (rs : List Replaced) (q : Replaced) → path_begin n (set rs n q) ≡ path_begin n rs
same_begin n rs q = ap depths (take-set rs n q)

pub same_depths : (n : ℕ) (rs : List Replaced) (r q : Replaced) → slice_get rs n ≡ Some r
    → q.depth ≡ r.depth → depths (set rs n q) ≡ depths rs
same_depths n [] r q g d = refl
same_depths zero (x ∷ rs) r q g d = let same : x ≡ r = cc in ap (λ n. n + depths rs) (d ∙ ap (λ t. t.depth) (sym same))
same_depths (suc n) (x ∷ rs) r q g d = ap (λ n. x.depth + n) (same_depths n rs r q g d)

pub next_begin_set : (n : ℕ) (rs : List Replaced) (r q : Replaced) → slice_get rs n ≡ Some r
    → q.depth ≡ r.depth → path_begin (suc n) (set rs n q) ≡ path_begin n rs + r.depth
next_begin_set n [] r q g d = absurd (cc)
next_begin_set zero (x ∷ rs) r q g d = omega (arith, d)
next_begin_set (suc n) (x ∷ rs) r q g d = let rest = next_begin_set n rs r q g d in omega (arith, rest)

-- ---- flipping back, the newest entry first

-- Of the entries with these paths all but the first n are flipped back.
abbrev pub FlippedFrom : ℕ → List Replaced → List Replaced → List ℕ → Store → Store → Type 0
FlippedFrom zero old now ps start s =
    (entries now ps ≡ flipped_back (entries old ps) start) × (s ≡ before (entries old ps) start)
    × (depths now ≡ depths old)
FlippedFrom (suc n) [] now ps start s = (now ≡ []) × (s ≡ start)
FlippedFrom (suc n) (r ∷ old) [] ps start s = ⊥
FlippedFrom (suc n) (r ∷ old) (q ∷ now) ps start s = (q ≡ r) × FlippedFrom n old now (drop r.depth ps) start s

pub none_flipped_back : (rs : List Replaced) (ps : List ℕ) (s : Store) → FlippedFrom (length rs) rs rs ps s s
none_flipped_back [] ps s = (refl, refl, refl)
none_flipped_back (r ∷ rs) ps s = (refl, none_flipped_back rs (drop r.depth ps) s)

-- one more entry
pub flipped_one_back : (n : ℕ) (old now : List Replaced) (ps path : List ℕ) (start s next : Store) (r q : Replaced)
    → FlippedFrom (suc n) old now ps start s
    → slice_get now n ≡ Some r
    → path ≡ take r.depth (drop (path_begin n now) ps)
    → q.depth ≡ r.depth
    → entry_of q.slot path q.kept ≡ found (entry_of r.slot path r.kept) s
    → next ≡ put (entry_of r.slot path r.kept) s
    → FlippedFrom n old (set now n q) ps start next
flipped_one_back zero [] now ps path start s next r q h g p d k e =
    absurd (let none = ap (λ l. slice_get l 0) h.0 in cc)
flipped_one_back zero (x ∷ old) [] ps path start s next r q h g p d k e = absurd h
flipped_one_back zero (x ∷ old) (y ∷ now) ps path start s next r q h g p d k e =
    let same : y ≡ r = cc in
    let is : r ≡ x = sym same ∙ h.0 in
    let rest = drop x.depth ps in
    let b = before (entries old rest) start in
    let entry : entry_of r.slot path r.kept ≡ entry_of x.slot (take x.depth ps) x.kept =
    ap (λ l. entry_of r.slot l r.kept) p ∙ (λ i. entry_of ((is i).slot) (take ((is i).depth) ps) ((is i).kept)) in
    let head : entry_of q.slot (take q.depth ps) q.kept ≡ found (entry_of x.slot (take x.depth ps) x.kept) b =
    ap (λ l. entry_of q.slot l q.kept) (ap (λ m. take m ps) d ∙ sym p) ∙ k ∙ (λ i. found (entry i) (h.1.1 i)) in
    let depth : q.depth ≡ x.depth = d ∙ ap (λ t. t.depth) is in (
      (λ i. head i ∷ (ap (λ m. entries now (drop m ps)) depth ∙ h.1.0) i),
      e ∙ (λ i. put (entry i) (h.1.1 i)),
      (λ i. depth i + h.1.2 i),
    )
flipped_one_back (suc n) [] now ps path start s next r q h g p d k e =
    absurd (let none = ap (λ l. slice_get l (suc n)) h.0 in cc)
flipped_one_back (suc n) (x ∷ old) [] ps path start s next r q h g p d k e = absurd h
flipped_one_back (suc n) (x ∷ old) (y ∷ now) ps path start s next r q h g p d k e =
    let deeper : drop (path_begin (suc n) (y ∷ now)) ps ≡ drop (path_begin n now) (drop x.depth ps) =
    ap (λ m. drop (m + path_begin n now) ps) (ap (λ t. t.depth) h.0) ∙ sym (drop-drop (path_begin n now) x.depth ps) in
    (h.0, flipped_one_back n old now (drop x.depth ps) path start s next r q h.1 g (p ∙ ap (take r.depth) deeper) d k e)

-- ---- flipping forward, the oldest entry first

-- Of the entries with these paths the first n are flipped forward.
abbrev pub FlippedTo : ℕ → List Replaced → List Replaced → List ℕ → Store → Store → Type 0
FlippedTo zero old now ps start s = (now ≡ old) × (s ≡ start)
FlippedTo (suc n) [] now ps start s = (now ≡ []) × (s ≡ start)
FlippedTo (suc n) (r ∷ old) [] ps start s = ⊥
FlippedTo (suc n) (r ∷ old) (q ∷ now) ps start s =
    (q.depth ≡ r.depth)
    × (entry_of q.slot (take r.depth ps) q.kept ≡ found (entry_of r.slot (take r.depth ps) r.kept) start)
    × FlippedTo n old now (drop r.depth ps) (put (entry_of r.slot (take r.depth ps) r.kept) start) s

pub flipped_one_forward : (n : ℕ) (old now : List Replaced) (ps path : List ℕ) (start s next : Store) (r q : Replaced)
    → FlippedTo n old now ps start s
    → slice_get now n ≡ Some r
    → path ≡ take r.depth (drop (path_begin n now) ps)
    → q.depth ≡ r.depth
    → entry_of q.slot path q.kept ≡ found (entry_of r.slot path r.kept) s
    → next ≡ put (entry_of r.slot path r.kept) s
    → FlippedTo (suc n) old (set now n q) ps start next
flipped_one_forward zero [] now ps path start s next r q h g p d k e =
    absurd (let none = ap (λ l. slice_get l 0) h.0 in cc)
flipped_one_forward zero (x ∷ old) [] ps path start s next r q h g p d k e = absurd (cc)
flipped_one_forward zero (x ∷ old) (y ∷ now) ps path start s next r q h g p d k e =
    let same : y ≡ r = cc in
    let lists : y ∷ now ≡ x ∷ old = h.0 in
    let first : y ≡ x = cc in
    let rest : now ≡ old = cc in
    let is : r ≡ x = sym same ∙ first in
    let entry : entry_of r.slot path r.kept ≡ entry_of x.slot (take x.depth ps) x.kept =
    ap (λ l. entry_of r.slot l r.kept) p ∙ (λ i. entry_of ((is i).slot) (take ((is i).depth) ps) ((is i).kept)) in
    let depth : q.depth ≡ x.depth = d ∙ ap (λ t. t.depth) is in (
      depth,
      ap (λ l. entry_of q.slot l q.kept) (ap (λ t. take t.depth ps) (sym is) ∙ sym p)
          ∙ k ∙ (λ i. found (entry i) (h.1 i)),
      (rest, e ∙ (λ i. put (entry i) (h.1 i))),
    )
flipped_one_forward (suc n) [] now ps path start s next r q h g p d k e =
    absurd (let none = ap (λ l. slice_get l (suc n)) h.0 in cc)
flipped_one_forward (suc n) (x ∷ old) [] ps path start s next r q h g p d k e = absurd h
flipped_one_forward (suc n) (x ∷ old) (y ∷ now) ps path start s next r q h g p d k e =
    let deeper : drop (path_begin (suc n) (y ∷ now)) ps ≡ drop (path_begin n now) (drop x.depth ps) =
    ap (λ m. drop (m + path_begin n now) ps) h.0 ∙ sym (drop-drop (path_begin n now) x.depth ps) in (
      h.0,
      h.1,
      flipped_one_forward n old now (drop x.depth ps) path _ s next r q h.2 g (p ∙ ap (take r.depth) deeper) d k e,
    )

pub all_flipped_forward : (n : ℕ) (old now : List Replaced) (ps : List ℕ) (start s : Store)
    → length old ≤ n → FlippedTo n old now ps start s
    → (entries now ps ≡ flipped_forward (entries old ps) start) × (s ≡ after (entries old ps) start)
    × (depths now ≡ depths old)
all_flipped_forward zero [] now ps start s l h = (ap (λ rs. entries rs ps) h.0, h.1, ap depths h.0)
all_flipped_forward zero (x ∷ old) now ps start s l h = absurd (omega arith)
all_flipped_forward (suc n) [] now ps start s l h = (ap (λ rs. entries rs ps) h.0, h.1, ap depths h.0)
all_flipped_forward (suc n) (x ∷ old) [] ps start s l h = absurd h
all_flipped_forward (suc n) (x ∷ old) (y ∷ now) ps start s l h =
    let next = put (entry_of x.slot (take x.depth ps) x.kept) start in
    let rest = all_flipped_forward n old now (drop x.depth ps) next s (omega arith) h.2 in (
      (λ i.
          (ap (λ m. entry_of y.slot (take m ps) y.kept) h.0 ∙ h.1) i
          ∷ (ap (λ m. entries now (drop m ps)) h.0 ∙ rest.0) i),
      rest.1,
      (λ i. h.0 i + rest.2 i),
    )

-- ---- one iteration of each loop

module _ (ps : List ℕ) (old now : List Replaced) (start s next : Store) (r : Replaced) (kept : Kept)
    (path : List ℕ) where
  abbrev exchanged : Replaced
  exchanged = record { slot = r.slot; depth = r.depth; kept = kept }

  abbrev pub IsFlippedFrom : ℕ → List ℕ → List Replaced → Store → Type 0
  IsFlippedFrom left rest rs s =
      (left ≤ length rs) × (rest ≡ take (path_begin left rs) ps) × (path_begin left rs ≤ length ps)
      × FlippedFrom left old rs ps start s

  pub turn_back : (n left : ℕ) (rest front : List ℕ) → left ≡ suc n → IsFlippedFrom left rest now s
      → slice_get now n ≡ Some r
      → front ≡ take (length rest - r.depth) rest → path ≡ drop (length rest - r.depth) rest
      → entry_of r.slot path kept ≡ found (entry_of r.slot path r.kept) s → next ≡ put (entry_of r.slot path r.kept) s
      → IsFlippedFrom n front (set now n exchanged) next
  turn_back n left rest front l h g f p k e =
      let b = path_begin n now in
      let ends : path_begin left now ≡ b + r.depth = ap (λ m. path_begin m now) l ∙ next_begin n now r g in
      let is : rest ≡ take (b + r.depth) ps = h.1 ∙ ap (λ m. take m ps) ends in
      let begins : length rest - r.depth ≡ b = omega (arith, ends, h.2, ap length is, length-take (b + r.depth) ps) in
      let parted : drop b (take (b + r.depth) ps) ≡ take r.depth (drop b ps) = drop-take b r.depth ps in (
        omega (arith, h.0, l, length-set now n exchanged),
        f ∙ (λ i. take (begins i) (is i)) ∙ take-take b (b + r.depth) ps (omega arith)
            ∙ ap (λ m. take m ps) (sym (same_begin n now exchanged)),
        omega (arith, h.2, ends, same_begin n now exchanged),
        flipped_one_back n old now ps path start s next r exchanged
            (subst (λ m. FlippedFrom m old now ps start s) l h.3) g
            (p ∙ (λ i. drop (begins i) (is i)) ∙ parted) refl k e,
      )

  abbrev pub IsFlippedTo : ℕ → List ℕ → List Replaced → Store → Type 0
  IsFlippedTo n rest rs s = (length rs ≡ length old) × (depths rs ≡ length ps) × (rest ≡ drop (path_begin n rs) ps)
      × FlippedTo n old rs ps start s

  pub turn_forward : (n : ℕ) (rest later : List ℕ) → IsFlippedTo n rest now s → slice_get now n ≡ Some r
      → path ≡ take r.depth rest → later ≡ drop r.depth rest
      → entry_of r.slot path kept ≡ found (entry_of r.slot path r.kept) s → next ≡ put (entry_of r.slot path r.kept) s
      → IsFlippedTo (n + 1) later (set now n exchanged) next
  turn_forward n rest later h g p b k e =
      let more : suc n ≡ n + 1 = omega arith in
      let done =
      flipped_one_forward n old now ps path start s next r exchanged h.3 g (p ∙ ap (take r.depth) h.2) refl k e in (
        length-set now n exchanged ∙ h.0,
        same_depths n now r exchanged g refl ∙ h.1,
        b ∙ ap (drop r.depth) h.2 ∙ drop-drop r.depth (path_begin n now) ps ∙ ap (λ m. drop m ps)
            (sym (next_begin_set n now r exchanged g refl) ∙ ap (λ m. path_begin m (set now n exchanged)) more),
        subst (λ m. FlippedTo m old (set now n exchanged) ps start next) more done,
      )

-- the path of the next entry remains
pub path_left_back : (n left : ℕ) (rs : List Replaced) (r : Replaced) (ps rest : List ℕ) → left ≡ suc n
    → slice_get rs n ≡ Some r
    → rest ≡ take (path_begin left rs) ps → path_begin left rs ≤ length ps → r.depth ≤ length rest
path_left_back n left rs r ps rest l g e h =
    let ends : path_begin left rs ≡ path_begin n rs + r.depth = ap (λ m. path_begin m rs) l ∙ next_begin n rs r g in
    omega (arith, ends, h, ap length e, length-take (path_begin left rs) ps)

pub path_left_forward : (n : ℕ) (rs : List Replaced) (r : Replaced) (ps rest : List ℕ) → slice_get rs n ≡ Some r
    → rest ≡ drop (path_begin n rs) ps → depths rs ≡ length ps → r.depth ≤ length rest
path_left_forward n rs r ps rest g e h =
    omega (arith, path_ends n rs r g, h, ap length e, length-drop (path_begin n rs) ps)
