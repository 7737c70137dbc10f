-- Putting back what was found undoes a put, so the two flips of a log are inverse.
use Rattle.std.proofs.Common.{◌≡◌, zero, suc, ◌<◌, List, [], ◌∷◌, ◌++◌, refl, sym, ap, subst, ◌∙◌}
use Rattle.term_changes.specs.Slots.{Store}
use Rattle.term_changes.specs.Entries.{Entry, slot_tree, subterm, subterm_annotations, slot_text, HasPlace, put, found, before, after, flipped_back, flipped_forward, FitsForward}
use Rattle.term_changes.specs.Laws.{StoreFromAfter, FlipsForward, StoreFromBefore, FlipsBack, FlippedBackFits, FlippedForwardFits, PushedFits, RolledBackFits, PushedLeadsBack, RolledBackLeadsBack}
use Rattle.term_changes.proofs.SlotLemmas.{length-with_content, slot_twice, slot_found_twice, subterm_twice, subterm_found_twice, annotations_twice, annotations_found_twice, subterm_stays, annotated_stays}

-- ---- one entry

pub put_back : (e : Entry) (s : Store) → put (found e s) (put e s) ≡ s
put_back (slot_tree i c) s = λ j. record s { trees = slot_twice s.trees i c j }
put_back (subterm i p u) s = λ j. record s { trees = subterm_twice p s.trees i u j }
put_back (subterm_annotations i p us) s = λ j. record s { trees = annotations_twice p s.trees i us j }
put_back (slot_text i c) s = λ j. record s { modules = slot_twice s.modules i c j }

pub found_back : (e : Entry) (s : Store) → found (found e s) (put e s) ≡ e
found_back (slot_tree i c) s = ap (slot_tree i) (slot_found_twice s.trees i c)
found_back (subterm i p u) s = ap (subterm i p) (subterm_found_twice p s.trees i u)
found_back (subterm_annotations i p us) s = ap (subterm_annotations i p) (annotations_found_twice p s.trees i us)
found_back (slot_text i c) s = ap (slot_text i) (slot_found_twice s.modules i c)

-- the place of an entry exists after a put there
pub place_stays : (e : Entry) (s : Store) → HasPlace e s → HasPlace (found e s) (put e s)
place_stays (slot_tree i c) s h = subst (λ n. i < n) (sym (length-with_content s.trees i c)) h
place_stays (subterm i p u) s h = subterm_stays p s.trees i u h
place_stays (subterm_annotations i p us) s h = annotated_stays p s.trees i us h
place_stays (slot_text i c) s h = subst (λ n. i < n) (sym (length-with_content s.modules i c)) h

-- ---- flips

pub store_from_after : StoreFromAfter
store_from_after [] s = refl
store_from_after (e ∷ es) s =
    let b = before es s in
    ap (after (flipped_back es s)) (put_back e b) ∙ store_from_after es s

pub flips_forward : FlipsForward
flips_forward [] s = refl
flips_forward (e ∷ es) s =
    let b = before es s in
    λ j. found_back e b j ∷ (ap (flipped_forward (flipped_back es s)) (put_back e b) ∙ flips_forward es s) j

pub store_from_before : StoreFromBefore
store_from_before [] s = refl
store_from_before (e ∷ es) s = ap (put (found e s)) (store_from_before es (put e s)) ∙ put_back e s

pub flips_back : FlipsBack
flips_back [] s = refl
flips_back (e ∷ es) s =
    let next = put e s in
    λ j. (ap (found (found e s)) (store_from_before es next) ∙ found_back e s) j ∷ flips_back es next j

pub flipped_back_fits : FlippedBackFits
flipped_back_fits [] s h = tt
flipped_back_fits (e ∷ es) s h =
    let b = before es s in
    (place_stays e b h.0, subst (FitsForward (flipped_back es s)) (sym (put_back e b)) (flipped_back_fits es s h.1))

pub flipped_forward_fits : FlippedForwardFits
flipped_forward_fits [] s h = tt
flipped_forward_fits (e ∷ es) s h =
    let next = put e s in (
      subst (HasPlace (found e s)) (sym (store_from_before es next)) (place_stays e s h.0),
      flipped_forward_fits es next h.1,
    )

-- ---- concatenated logs

pub before-append : (es fs : List Entry) (s : Store) → before (es ++ fs) s ≡ before es (before fs s)
before-append [] fs s = refl
before-append (e ∷ es) fs s = ap (put e) (before-append es fs s)

pub pushed_leads_back : PushedLeadsBack
pushed_leads_back log e s = before-append log (found e s ∷ []) (put e s) ∙ ap (before log) (put_back e s)

pub rolled_back_leads_back : RolledBackLeadsBack
rolled_back_leads_back zero es s = refl
rolled_back_leads_back (suc m) [] s = refl
rolled_back_leads_back (suc m) (e ∷ es) s = ap (put e) (rolled_back_leads_back m es s)

pub pushed_fits : PushedFits
pushed_fits [] e s h place = (place_stays e s place, tt)
pushed_fits (d ∷ ds) e s h place =
    (subst (HasPlace d) (sym (pushed_leads_back ds e s)) h.0, pushed_fits ds e s h.1 place)

pub rolled_back_fits : RolledBackFits
rolled_back_fits zero es s h = tt
rolled_back_fits (suc m) [] s h = tt
rolled_back_fits (suc m) (e ∷ es) s h =
    (subst (HasPlace e) (sym (rolled_back_leads_back m es s)) h.0, rolled_back_fits m es s h.1)
