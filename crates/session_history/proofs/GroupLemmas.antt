-- Compacting the changes of an open group, and what the last step began with.
use Rattle.std.proofs.Common.{◌≡◌, ℕ, ◌+◌, ◌-◌, ◌≤◌, Bool, true, false, List, [], ◌∷◌, ◌++◌, length, take, drop, slice_get, Some, None, Ok, Err, ok_or, option_map, refl, sym, ap, ◌∙◌, subst, arith}
use Rattle.std.specs.declared.option.Option.{Option}
use Rattle.std.specs.Bool.{OnFalse}
use Rattle.std.specs.Option.{option_map_or}
use Rattle.prim_core.specs.Signature.{Signature}
use Rattle.term_changes.specs.Slots.{Store, contents}
use Rattle.term_changes.specs.Entries.{Entry, before, Fits}
use Rattle.session_modules.specs.declared.refusal.Refusal.TheVariants.{NoUndo}
use Rattle.session_history.specs.Differences.{base_of}
use Rattle.session_history.specs.Leading.{LeadsToBase}
use Rattle.session_history.specs.History.{HistoryGroup}
use Rattle.session_history.specs.Moving.{KeepsHistory}
use Rattle.session_history.specs.Unfolded.{Logged, past_of, later_of, FitBack, FitForward, IsCurrent, IsPlaced, unfolded}
use Rattle.session_history.specs.declared.timeline.OpenGroup.{OpenGroup}
use Rattle.session_history.proofs.TimelineLemmas.{past_of-append, FitBack-split, take_next}

no_longer : {X : Type 0} (xs ys : List X) → length ys ≤ length xs → xs ≡ [] → ys ≡ []
no_longer xs [] h e = refl
no_longer xs (y ∷ ys) h e = absurd (omega (arith, h, ap length e))

false_weaker : (b : Bool) (P Q : Type 0) → (P → Q) → OnFalse b P → OnFalse b Q
false_weaker true P Q f h = tt
false_weaker false P Q f h = f h

still_current : (group : Option OpenGroup) (log new : List Entry) → length new ≤ length log → IsCurrent group log
    → IsCurrent group new
still_current None log new h c = no_longer log new h c
still_current (Some g) log new h c = false_weaker g.changed (log ≡ []) (new ≡ []) (no_longer log new h) c

-- Other entries that lead back to the same store, and are no more.
module _ (t : Logged) (new : List Entry) (placed : IsPlaced t) (leads : (s : Store) → before new s ≡ before t.current s)
    (fits : (s : Store) → Fits t.current s → Fits new s) (count : length new ≤ length t.current) where
  pub compacted_placed : IsPlaced (record t { current = new })
  compacted_placed = record {
    within = placed.within;
    back = subst (FitBack (take t.position t.logs)) (sym (leads t.store)) placed.back;
    forward = subst (FitForward (drop t.position t.logs)) (sym (leads t.store)) placed.forward;
    compact = placed.compact;
    fits = fits t.store placed.fits;
    current = still_current t.group t.current new count placed.current;
    room = placed.room;
  }

  pub compacted_keeps : KeepsHistory t (record t { current = new })
  compacted_keeps = record {
    same = λ ps k. record {
      primitives = ps;
      limits = t.limits;
      past = past_of (take t.position t.logs) (leads t.store k);
      now = contents t.store;
      later = later_of (drop t.position t.logs) (leads t.store k);
      group = option_map (λ g. record { begun = contents (leads t.store k); changed = g.changed }) t.group;
    };
  }

-- ---- the last step

-- outside a group, the store before the last step
module _ (t : Logged) (placed : IsPlaced t) (outside : t.group ≡ None) where
  nothing_current : t.current ≡ []
  nothing_current = subst (λ g. IsCurrent g t.current) outside placed.current

  begins : before t.current t.store ≡ t.store
  begins = ap (λ l. before l t.store) nothing_current

  module _ (log : List Entry) (q : ℕ) (at : q + 1 ≡ t.position) (is : slice_get t.logs q ≡ Some log) where
    logs_are : take t.position t.logs ≡ take q t.logs ++ log ∷ []
    logs_are = ap (λ n. take n t.logs) (sym at) ∙ take_next q t.logs log is

    pub last_fits : Fits log t.store
    last_fits =
        (FitBack-split (take q t.logs) log t.store (subst (λ s. FitBack (take q t.logs ++ log ∷ []) s) begins
        (subst (λ l. FitBack l (before t.current t.store)) logs_are placed.back))).1

    pub last_base : (ps : List Signature) → base_of (unfolded ps t) ≡ Ok (contents (before log t.store))
    last_base ps =
        (λ k. option_map_or (λ (g : HistoryGroup). Ok g.begun)
        (option_map (λ g. record { begun = contents (before t.current t.store); changed = g.changed }) (outside k))
        (ok_or (slice_get (past_of (logs_are k) (begins k)) 0) NoUndo))
        ∙ ap (λ l. ok_or (slice_get l 0) NoUndo) (past_of-append (take q t.logs) log t.store)

    pub last_leads : LeadsToBase log t
    last_leads = record { base = last_base; fits = last_fits }

  pub no_base : t.position ≡ 0 → (ps : List Signature) → base_of (unfolded ps t) ≡ Err NoUndo
  no_base none ps =
      λ k. option_map_or (λ (g : HistoryGroup). Ok g.begun)
      (option_map (λ g. record { begun = contents (before t.current t.store); changed = g.changed }) (outside k))
      (ok_or (slice_get (past_of (take (none k) t.logs) (before t.current t.store)) 0) NoUndo)

pub group_base : (t : Logged) (g : OpenGroup) → t.group ≡ Some g → (ps : List Signature)
    → base_of (unfolded ps t) ≡ Ok (contents (before t.current t.store))
group_base t g inside ps =
    ap (λ o. option_map_or (λ (g : HistoryGroup). Ok g.begun)
    (option_map (λ g. record { begun = contents (before t.current t.store); changed = g.changed }) o)
    (ok_or (slice_get (past_of (take t.position t.logs) (before t.current t.store)) 0) NoUndo)) inside

pub group_leads : (t : Logged) → IsPlaced t → (g : OpenGroup) → t.group ≡ Some g → LeadsToBase t.current t
group_leads t placed g inside = record { base = group_base t g inside; fits = placed.fits }

-- ---- what an open group gives

pub inside_group : (o : Option OpenGroup) (l log : List Entry) → Some log ≡ option_map (λ g. l) o
    → (g : OpenGroup) × (o ≡ Some g) × (log ≡ l)
inside_group None l log e = absurd (cc)
inside_group (Some g) l log e = (g, refl, (let is : log ≡ l = cc in is))
