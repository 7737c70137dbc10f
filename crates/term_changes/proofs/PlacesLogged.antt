-- Changes made one after the other.
use Rattle.std.proofs.Common.{[], ◌∷◌, ◌++◌, List, ◌≡◌, refl, sym, ap, subst, ◌∙◌, append_assoc}
use Rattle.term_changes.specs.Entries.{Entry, put, found, before, after, flipped_forward, Fits}
use Rattle.term_changes.proofs.EntryLemmas.{before-append, pushed_fits, store_from_before}
use Rattle.term_changes.specs.Putting.{AllLeadBack, AllFit}

pub all_lead_back : AllLeadBack
all_lead_back log es s = before-append log (flipped_forward es s) (after es s)
    ∙ ap (before log) (store_from_before es s)

append_none : (log : List Entry) → log ++ [] ≡ log
append_none [] = refl
append_none (e ∷ log) = ap (λ l. e ∷ l) (append_none log)

pub all_fit : AllFit
all_fit log [] s h g = subst (λ l. Fits l s) (sym (append_none log)) h
all_fit log (e ∷ es) s h g =
    subst (λ l. Fits l (after es (put e s))) (append_assoc log (found e s ∷ []) (flipped_forward es (put e s)))
    (all_fit (log ++ found e s ∷ []) es (put e s) (pushed_fits log e s h g.0) g.1)
