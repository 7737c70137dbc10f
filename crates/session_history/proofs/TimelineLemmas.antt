-- What logs unfold to as steps are appended, undone and redone.
use Rattle.std.proofs.Common.{◌≡◌, ℕ, suc, ◌+◌, ◌<◌, ◌≤◌, List, [], ◌∷◌, ◌++◌, length, take, drop, set, slice_get, Some, refl, sym, ap, subst, ◌∙◌, arith}
use Rattle.std.proofs.lemmas.List.{length-append, length-take, drop_all, drop_more, drop-set, drop-set-lt, take_all, take_more, take_more_set, take-set}
use Rattle.std.proofs.lemmas.Option.{slice_get_within, get_or_from_slice_get}
use Rattle.term_changes.specs.Slots.{Store, contents, with_tree_slot, with_module_slot}
use Rattle.term_changes.specs.Entries.{Entry, HasPlace, before, after, flipped_back, flipped_forward, Fits, FitsForward}
use Rattle.term_changes.proofs.EntryLemmas.{before-append, store_from_after, store_from_before, flipped_back_fits, flipped_forward_fits}
use Rattle.term_changes.proofs.ContentsLemmas.{new_slots_are_empty, fits_with_more, fits_forward_with_more, fits_with_more_modules, fits_forward_with_more_modules}
use Rattle.session_history.specs.Unfolded.{rewound, past_of, later_of, FitBack, FitForward}

-- ---- one log more

pub rewound-append : (ls : List (List Entry)) (l : List Entry) (s : Store)
    → rewound (ls ++ l ∷ []) s ≡ rewound ls (before l s)
rewound-append [] l s = refl
rewound-append (k ∷ ls) l s = ap (before k) (rewound-append ls l s)

pub past_of-append : (ls : List (List Entry)) (l : List Entry) (s : Store)
    → past_of (ls ++ l ∷ []) s ≡ contents (before l s) ∷ past_of ls (before l s)
past_of-append [] l s = refl
past_of-append (k ∷ ls) l s = λ i. past_of-append ls l s i ++ contents (before k (rewound-append ls l s i)) ∷ []

pub FitBack-append : (ls : List (List Entry)) (l : List Entry) (s : Store) → FitBack ls (before l s) → Fits l s
    → FitBack (ls ++ l ∷ []) s
FitBack-append [] l s h f = (f, tt)
FitBack-append (k ∷ ls) l s h f = (subst (Fits k) (sym (rewound-append ls l s)) h.0, FitBack-append ls l s h.1 f)

pub FitBack-split : (ls : List (List Entry)) (l : List Entry) (s : Store) → FitBack (ls ++ l ∷ []) s
    → FitBack ls (before l s) × Fits l s
FitBack-split [] l s h = (tt, h.0)
FitBack-split (k ∷ ls) l s h = let rest = FitBack-split ls l s h.1 in
    ((subst (Fits k) (rewound-append ls l s) h.0, rest.0), rest.1)

-- ---- concatenated entries

pub fits-append : (es fs : List Entry) (s : Store) → Fits es (before fs s) → Fits fs s → Fits (es ++ fs) s
fits-append [] fs s h f = f
fits-append (e ∷ es) fs s h f = (subst (HasPlace e) (sym (before-append es fs s)) h.0, fits-append es fs s h.1 f)

-- ---- lists of logs

module _ {A : Type 0} where
  pub take_pushed : (p : ℕ) (ls : List A) (l : A) → p ≤ length ls
      → take (p + 1) (take p ls ++ l ∷ []) ≡ take p ls ++ l ∷ []
  take_pushed p ls l h =
      take_all (p + 1) (take p ls ++ l ∷ []) (omega (arith, h, length-append (take p ls) (l ∷ []), length-take p ls))

  pub drop_pushed : (p : ℕ) (ls : List A) (l : A) → p ≤ length ls → drop (p + 1) (take p ls ++ l ∷ []) ≡ []
  drop_pushed p ls l h =
      drop_all (p + 1) (take p ls ++ l ∷ []) (omega (arith, h, length-append (take p ls) (l ∷ []), length-take p ls))

  pub take_next : (q : ℕ) (ls : List A) (l : A) → slice_get ls q ≡ Some l → take (q + 1) ls ≡ take q ls ++ l ∷ []
  take_next q ls l e = take_more ls q l (slice_get_within ls q l e)
      ∙ ap (λ x. take q ls ++ x ∷ []) (get_or_from_slice_get ls q l l e)

  pub drop_next : (q : ℕ) (ls : List A) (l : A) → slice_get ls q ≡ Some l → drop q ls ≡ l ∷ drop (q + 1) ls
  drop_next q ls l e = drop_more ls q l (slice_get_within ls q l e)
      ∙ ap (λ x. x ∷ drop (q + 1) ls) (get_or_from_slice_get ls q l l e)

-- ---- the number of contents

pub length-past_of : (ls : List (List Entry)) (s : Store) → length (past_of ls s) ≡ length ls
length-past_of [] s = refl
length-past_of (l ∷ ls) s =
    omega (arith, length-past_of ls s, length-append (past_of ls s) (contents (before l (rewound ls s)) ∷ []))

pub length-later_of : (ls : List (List Entry)) (s : Store) → length (later_of ls s) ≡ length ls
length-later_of [] s = refl
length-later_of (l ∷ ls) s = ap suc (length-later_of ls (after l s))

-- ---- one more empty slot

-- how a store gets a slot: its contents stay the same, and logs fit it as before
pub record IsGrowth (grow : Store → Store) : Type 0 where
  pub same : (s : Store) → contents (grow s) ≡ contents s
  pub fits : (log : List Entry) (s : Store) → Fits log s
      → Fits log (grow s) × (before log (grow s) ≡ grow (before log s))
  pub fits_forward : (log : List Entry) (s : Store) → FitsForward log s
      → FitsForward log (grow s) × (after log (grow s) ≡ grow (after log s))

pub tree_growth : (name : List ℕ) → IsGrowth (λ s. with_tree_slot s name)
tree_growth name = record {
  same = λ s. (new_slots_are_empty s name).0;
  fits = λ log s h. fits_with_more log s name h;
  fits_forward = λ log s h. fits_forward_with_more log s name h;
}

pub module_growth : (name : List ℕ) → IsGrowth (λ s. with_module_slot s name)
module_growth name = record {
  same = λ s. (new_slots_are_empty s name).1;
  fits = λ log s h. fits_with_more_modules log s name h;
  fits_forward = λ log s h. fits_forward_with_more_modules log s name h;
}

module _ (grow : Store → Store) (is : IsGrowth grow) where
  pub rewound_grown : (ls : List (List Entry)) (s : Store) → FitBack ls s
      → FitBack ls (grow s) × (rewound ls (grow s) ≡ grow (rewound ls s))
  rewound_grown [] s h = (tt, refl)
  rewound_grown (l ∷ ls) s h =
      let rest = rewound_grown ls s h.1 in
      let here = is.fits l (rewound ls s) h.0 in
      ((subst (Fits l) (sym rest.1) here.0, rest.0), ap (before l) rest.1 ∙ here.1)

  pub past_grown : (ls : List (List Entry)) (s : Store) → FitBack ls s → past_of ls (grow s) ≡ past_of ls s
  past_grown [] s h = refl
  past_grown (l ∷ ls) s h =
      λ i.
      past_grown ls s h.1 i ++ (ap contents ((rewound_grown (l ∷ ls) s h).1) ∙ is.same (before l (rewound ls s))) i ∷ []

  pub later_grown : (ls : List (List Entry)) (s : Store) → FitForward ls s
      → FitForward ls (grow s) × (later_of ls (grow s) ≡ later_of ls s)
  later_grown [] s h = (tt, refl)
  later_grown (l ∷ ls) s h =
      let here = is.fits_forward l s h.0 in
      let rest = later_grown ls (after l s) h.1 in (
        (here.0, subst (FitForward ls) (sym here.1) rest.0),
        (λ i. (ap contents here.1 ∙ is.same (after l s)) i ∷ (ap (later_of ls) here.1 ∙ rest.1) i),
      )

-- ---- a group as a step

module _ (ls : List (List Entry)) (p : ℕ) (s : Store) (log : List Entry) (inside : p ≤ length ls) where
  pub grouped_past : past_of (take (p + 1) (take p ls ++ log ∷ [])) s
      ≡ contents (before log s) ∷ past_of (take p ls) (before log s)
  grouped_past = ap (λ l. past_of l s) (take_pushed p ls log inside) ∙ past_of-append (take p ls) log s

  pub grouped_later : later_of (drop (p + 1) (take p ls ++ log ∷ [])) s ≡ []
  grouped_later = ap (λ l. later_of l s) (drop_pushed p ls log inside)

  pub grouped_back : Fits log s → FitBack (take p ls) (before log s) → FitBack (take (p + 1) (take p ls ++ log ∷ [])) s
  grouped_back f h = subst (λ l. FitBack l s) (sym (take_pushed p ls log inside)) (FitBack-append (take p ls) log s h f)

  pub grouped_forward : FitForward (drop (p + 1) (take p ls ++ log ∷ [])) s
  grouped_forward = subst (λ l. FitForward l s) (sym (drop_pushed p ls log inside)) tt

  pub grouped_within : p + 1 ≤ length (take p ls ++ log ∷ [])
  grouped_within = omega (arith, inside, length-append (take p ls) (log ∷ []), length-take p ls)

-- ---- one step back

module _ (ls : List (List Entry)) (q : ℕ) (s : Store) (log : List Entry) (at : slice_get ls q ≡ Some log)
    (inside : q < length ls) where
  -- the log that redoes the step
  abbrev pub flipped : List Entry
  flipped = flipped_back log s

  pub back_past : past_of (take (q + 1) ls) s
      ≡ contents (before log s) ∷ past_of (take q (set ls q flipped)) (before log s)
  back_past =
      ap (λ l. past_of l s) (take_next q ls log at) ∙ past_of-append (take q ls) log s
      ∙ ap (λ l. contents (before log s) ∷ past_of l (before log s)) (sym (take-set ls q flipped))

  pub back_later : later_of (drop q (set ls q flipped)) (before log s) ≡ contents s ∷ later_of (drop (q + 1) ls) s
  back_later =
      ap (λ l. later_of l (before log s)) (drop-set ls q flipped inside)
      ∙ ap (λ t. contents t ∷ later_of (drop (q + 1) ls) t) (store_from_after log s)

  fitted : FitBack (take (q + 1) ls) s → FitBack (take q ls) (before log s) × Fits log s
  fitted h = FitBack-split (take q ls) log s (subst (λ l. FitBack l s) (take_next q ls log at) h)

  pub back_back : FitBack (take (q + 1) ls) s → FitBack (take q (set ls q flipped)) (before log s)
  back_back h = subst (λ l. FitBack l (before log s)) (sym (take-set ls q flipped)) (fitted h).0

  pub back_forward : FitBack (take (q + 1) ls) s → FitForward (drop (q + 1) ls) s
      → FitForward (drop q (set ls q flipped)) (before log s)
  back_forward h f =
      subst (λ l. FitForward l (before log s)) (sym (drop-set ls q flipped inside))
      (flipped_back_fits log s (fitted h).1, subst (FitForward (drop (q + 1) ls)) (sym (store_from_after log s)) f)

-- ---- one step forward

module _ (ls : List (List Entry)) (q : ℕ) (s : Store) (log : List Entry) (at : slice_get ls q ≡ Some log)
    (inside : q < length ls) where
  -- the log that undoes the step
  abbrev pub returned : List Entry
  returned = flipped_forward log s

  pub forward_later : later_of (drop q ls) s
      ≡ contents (after log s) ∷ later_of (drop (q + 1) (set ls q returned)) (after log s)
  forward_later =
      ap (λ l. later_of l s) (drop_next q ls log at) ∙ ap (λ l. contents (after log s) ∷ later_of l (after log s))
      (sym (drop-set-lt (q + 1) ls q returned (omega arith)))

  pub forward_past : past_of (take (q + 1) (set ls q returned)) (after log s) ≡ contents s ∷ past_of (take q ls) s
  forward_past =
      ap (λ l. past_of l (after log s)) (take_more_set ls q returned inside)
      ∙ past_of-append (take q ls) returned (after log s)
      ∙ ap (λ t. contents t ∷ past_of (take q ls) t) (store_from_before log s)

  led : FitForward (drop q ls) s → FitsForward log s × FitForward (drop (q + 1) ls) (after log s)
  led f = subst (λ l. FitForward l s) (drop_next q ls log at) f

  pub forward_back : FitBack (take q ls) s → FitForward (drop q ls) s
      → FitBack (take (q + 1) (set ls q returned)) (after log s)
  forward_back h f =
      subst (λ l. FitBack l (after log s)) (sym (take_more_set ls q returned inside))
      (FitBack-append (take q ls) returned (after log s) (subst (FitBack (take q ls)) (sym (store_from_before log s)) h)
      (flipped_forward_fits log s (led f).0))

  pub forward_forward : FitForward (drop q ls) s → FitForward (drop (q + 1) (set ls q returned)) (after log s)
  forward_forward f =
      subst (λ l. FitForward l (after log s)) (sym (drop-set-lt (q + 1) ls q returned (omega arith))) (led f).1
