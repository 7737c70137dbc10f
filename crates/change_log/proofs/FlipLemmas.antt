-- What flips keep: the places of entries, and which of them hold module texts.
use Rattle.std.proofs.Common.{◌≡◌, ℕ, zero, suc, ◌+◌, ◌-◌, ◌≤◌, List, [], ◌∷◌, ◌++◌, length, take, drop, slice_get, Some, false, refl, ap, ◌∙◌, arith}
use Rattle.std.specs.List.{All}
use Rattle.std.proofs.lemmas.Bool.{ltb-false}
use Rattle.term_changes.specs.Slots.{Store}
use Rattle.term_changes.specs.Entries.{Entry, slot_tree, subterm, subterm_annotations, slot_text, put, found, before, after, flipped_back, flipped_forward, text_count, texts, has_text}
use Rattle.term_changes.specs.Compact.{LiesWithin, EntriesAreApart, IsCompact}
use Rattle.term_changes.specs.Laws.{FlippedBackIsCompact, FlippedForwardIsCompact, BeforeKeepsTexts, AfterKeepsTexts}
use Rattle.term_changes.specs.LogView.{entry_of}
use Rattle.term_changes.specs.inside.LogView.{entries}
use Rattle.term_changes.specs.declared.plan.Replaced.{Replaced}
use Rattle.change_log.proofs.MergeLemmas.{ApartFrom}
use Rattle.change_log.proofs.ChosenLemmas.{AllApart, compact_if_apart}

-- ---- places

within_found : (d e : Entry) (s t : Store) → LiesWithin (found d s) (found e t) → LiesWithin d e
within_found (slot_tree i c) (slot_tree j b) s t w = w
within_found (slot_tree i c) (subterm j q v) s t w = w
within_found (slot_tree i c) (subterm_annotations j q vs) s t w = w
within_found (slot_tree i c) (slot_text j b) s t w = w
within_found (subterm i p u) (slot_tree j b) s t w = w
within_found (subterm i p u) (subterm j q v) s t w = w
within_found (subterm i p u) (subterm_annotations j q vs) s t w = w
within_found (subterm i p u) (slot_text j b) s t w = w
within_found (subterm_annotations i p us) (slot_tree j b) s t w = w
within_found (subterm_annotations i p us) (subterm j q v) s t w = w
within_found (subterm_annotations i p us) (subterm_annotations j q vs) s t w = w
within_found (subterm_annotations i p us) (slot_text j b) s t w = w
within_found (slot_text i c) (slot_tree j b) s t w = w
within_found (slot_text i c) (subterm j q v) s t w = w
within_found (slot_text i c) (subterm_annotations j q vs) s t w = w
within_found (slot_text i c) (slot_text j b) s t w = w

apart_found : (d e : Entry) (s t : Store) → EntriesAreApart d e → EntriesAreApart (found d s) (found e t)
apart_found d e s t h = (λ w. h.0 (within_found d e s t w), λ w. h.1 (within_found e d t s w))

pub apart_if_compact : (es : List Entry) → IsCompact es → AllApart es
apart_if_compact [] h = tt
apart_if_compact (e ∷ es) h = (
  apart_from e es (λ k d l. h 0 (suc k) d (omega arith) (omega (arith, l))),
  apart_if_compact es (λ i j d lt within. h (suc i) (suc j) d (omega (arith, lt)) (omega (arith, within))),
)
  where
    apart_from : (e : Entry) (es : List Entry) → All (EntriesAreApart e) es → ApartFrom e es
    apart_from e [] h = tt
    apart_from e (x ∷ es) h = (h 0 x (omega arith), apart_from e es (λ k d l. h (suc k) d (omega (arith, l))))

apart_back : (d : Entry) (t : Store) (es : List Entry) (s : Store) → ApartFrom d es
    → ApartFrom (found d t) (flipped_back es s)
apart_back d t [] s h = tt
apart_back d t (e ∷ es) s h = (apart_found d e t (before es s) h.0, apart_back d t es s h.1)

all_apart_back : (es : List Entry) (s : Store) → AllApart es → AllApart (flipped_back es s)
all_apart_back [] s h = tt
all_apart_back (e ∷ es) s h = (apart_back e (before es s) es s h.0, all_apart_back es s h.1)

apart_forward : (d : Entry) (t : Store) (es : List Entry) (s : Store) → ApartFrom d es
    → ApartFrom (found d t) (flipped_forward es s)
apart_forward d t [] s h = tt
apart_forward d t (e ∷ es) s h = (apart_found d e t s h.0, apart_forward d t es (put e s) h.1)

all_apart_forward : (es : List Entry) (s : Store) → AllApart es → AllApart (flipped_forward es s)
all_apart_forward [] s h = tt
all_apart_forward (e ∷ es) s h = (apart_forward e s es (put e s) h.0, all_apart_forward es (put e s) h.1)

pub flipped_back_is_compact : FlippedBackIsCompact
flipped_back_is_compact log s h = compact_if_apart (flipped_back log s) (all_apart_back log s (apart_if_compact log h))

pub flipped_forward_is_compact : FlippedForwardIsCompact
flipped_forward_is_compact log s h =
    compact_if_apart (flipped_forward log s) (all_apart_forward log s (apart_if_compact log h))

-- ---- module texts

pub text_found : (e : Entry) (s : Store) → text_count (found e s) ≡ text_count e
text_found (slot_tree i c) s = refl
text_found (subterm i p u) s = refl
text_found (subterm_annotations i p us) s = refl
text_found (slot_text i c) s = refl

pub texts-append : (es fs : List Entry) → texts (es ++ fs) ≡ texts es + texts fs
texts-append [] fs = omega arith
texts-append (e ∷ es) fs = let rest = texts-append es fs in omega (arith, rest)

pub texts_back : (es : List Entry) (s : Store) → texts (flipped_back es s) ≡ texts es
texts_back [] s = refl
texts_back (e ∷ es) s = λ k. text_found e (before es s) k + texts_back es s k

pub texts_forward : (es : List Entry) (s : Store) → texts (flipped_forward es s) ≡ texts es
texts_forward [] s = refl
texts_forward (e ∷ es) s = λ k. text_found e s k + texts_forward es (put e s) k

pub few_texts : (es : List Entry) → texts es ≤ length es
few_texts [] = omega arith
few_texts (e ∷ es) = let rest = few_texts es in let one = at_most_one e in omega (arith, rest, one)
  where
    at_most_one : (e : Entry) → text_count e ≤ 1
    at_most_one (slot_tree i c) = omega arith
    at_most_one (subterm i p u) = omega arith
    at_most_one (subterm_annotations i p us) = omega arith
    at_most_one (slot_text i c) = omega arith

modules_kept : (e : Entry) (s : Store) → text_count e ≡ 0 → (put e s).modules ≡ s.modules
modules_kept (slot_tree i c) s h = refl
modules_kept (subterm i p u) s h = refl
modules_kept (subterm_annotations i p us) s h = refl
modules_kept (slot_text i c) s h = absurd (omega (arith, h))

without_texts : (es : List Entry) → has_text es ≡ false → texts es ≡ 0
without_texts es h = omega (arith, ltb-false 0 (texts es) h)

before_kept : (es : List Entry) (s : Store) → texts es ≡ 0 → (before es s).modules ≡ s.modules
before_kept [] s h = refl
before_kept (e ∷ es) s h = modules_kept e (before es s) (omega (arith, h)) ∙ before_kept es s (omega (arith, h))

after_kept : (es : List Entry) (s : Store) → texts es ≡ 0 → (after es s).modules ≡ s.modules
after_kept [] s h = refl
after_kept (e ∷ es) s h = after_kept es (put e s) (omega (arith, h)) ∙ modules_kept e s (omega (arith, h))

pub before_keeps_texts : BeforeKeepsTexts
before_keeps_texts log s h = before_kept log s (without_texts log h)

pub after_keeps_texts : AfterKeepsTexts
after_keeps_texts log s h = after_kept log s (without_texts log h)

-- ---- counting the entries that hold module texts

-- the first entries and one more
pub one_counted : (rs : List Replaced) (ps : List ℕ) (i n m : ℕ) (r : Replaced) → slice_get rs i ≡ Some r
    → n ≡ texts (entries (take i rs) ps)
    → ((j : ℕ) (p : List ℕ) → m ≡ text_count (entry_of j p r.kept)) → n + m ≡ texts (entries (take (i + 1) rs) ps)
one_counted rs ps i n m r g h k =
    let on : i + 1 ≡ suc i = omega arith in
    let step = counted_more rs ps i r g (k r.slot) in
    omega (arith, h, step, ap (λ n. texts (entries (take n rs) ps)) on)
  where
    counted_more : (rs : List Replaced) (ps : List ℕ) (i : ℕ) (r : Replaced) → slice_get rs i ≡ Some r
        → ((p : List ℕ) → m ≡ text_count (entry_of r.slot p r.kept))
        → texts (entries (take (suc i) rs) ps) ≡ texts (entries (take i rs) ps) + m
    counted_more [] ps i r g k = absurd (cc)
    counted_more (x ∷ rs) ps zero r g k =
        let same : x ≡ r = cc in
        let first = k (take r.depth ps) in
        let is : text_count (entry_of x.slot (take x.depth ps) x.kept)
        ≡ text_count (entry_of r.slot (take r.depth ps) r.kept) =
        ap (λ r. text_count (entry_of r.slot (take r.depth ps) r.kept)) same in
        omega (arith, is, first)
    counted_more (x ∷ rs) ps (suc i) r g k = let rest = counted_more rs (drop x.depth ps) i r g k in omega (arith, rest)

-- one more entry, which holds what was found
pub text_pushed : (es fs : List Entry) (e : Entry) (s : Store) (n m : ℕ) → n ≡ texts es
    → fs ≡ es ++ found e s ∷ [] → m ≡ text_count e → n + m ≡ texts fs
text_pushed es fs e s n m h a k = omega (arith, h, ap texts a, texts-append es (found e s ∷ []), text_found e s, k)

-- one entry less
pub text_popped : (es fs : List Entry) (e : Entry) (n m : ℕ) → n ≡ texts es → es ≡ fs ++ e ∷ [] → m ≡ text_count e
    → (m ≤ n) × (n - m ≡ texts fs)
text_popped es fs e n m h a k =
    let all = texts-append fs (e ∷ []) in (omega (arith, h, ap texts a, all, k), omega (arith, h, ap texts a, all, k))
