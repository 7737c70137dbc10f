-- What each call on a timeline leaves: a well-placed timeline, and the history that it represents.
use Rattle.std.proofs.Common.{◌≡◌, ℕ, ◌+◌, ◌-◌, ◌<◌, ◌≤◌, Bool, true, false, cond, List, [], ◌∷◌, ◌++◌, length, take, drop, set, slice_get, Option, Some, None, IsSome, Result, Ok, Err, IfOk, OnOk, OnErr, option_map, option_and_then, refl, sym, ap, subst, subst₂, ◌∙◌, arith}
use Rattle.std.specs.Bool.{OnFalse}
use Rattle.std.proofs.lemmas.List.{length-drop, length-set, length-take-le}
use Rattle.std.proofs.lemmas.Bool.Decides.{nat_tests}
use Rattle.std.specs.Option.{option_map_or}
use Rattle.std.specs.Prelude.{IsSomeAnd}
use Rattle.prim_core.specs.Signature.{Signature}
use Rattle.std.specs.FinMap as finmap
use Rattle.term_core.specs.Tree.{Tree}
use Rattle.term_changes.specs.Slots.{Slots, Store, HaveDistinctLabels, contents, content, slot_of}
use Rattle.term_changes.specs.Compact.{IsCompact}
use Rattle.term_changes.specs.Entries.{Entry, HasPlace, put, found, before, after, flipped_back, flipped_forward, Fits}
use Rattle.term_changes.proofs.ContentsLemmas.{tree_of_name}
use Rattle.term_changes.proofs.EntryLemmas.{before-append, pushed_fits, pushed_leads_back}
use Rattle.change_log.proofs.FlipLemmas.{flipped_back_is_compact, flipped_forward_is_compact}
use Rattle.session_modules.proofs.ReadingLemmas.{no_text, text_in}
use Rattle.session_history.specs.History.{HistoryGroup, History, stepped, changed, back_to, forward_to, step_back, step_forward}
use Rattle.session_history.specs.Acts.{committed}
use Rattle.session_history.specs.Moving.{KeepsHistory, Changes, Puts, Commits}
use Rattle.session_history.specs.Unfolded.{Logged, past_contents, later_contents, past_of, later_of, FitBack, FitForward, AllCompact, unfolded, IsCurrent, IsPlaced}
use Rattle.session_history.specs.inside.Adding.{AddsEntries}
use Rattle.session_history.specs.inside.Adding.{AddsStep}
use Rattle.session_history.specs.declared.timeline.OpenGroup.{OpenGroup}
use Rattle.session_history.proofs.AllLemmas.{all_and, all_take, all_set, all_at}
use Rattle.session_history.proofs.TimelineLemmas.{fits-append, IsGrowth, rewound_grown, past_grown, later_grown, length-past_of, length-later_of, grouped_past, grouped_later, grouped_back, grouped_forward, grouped_within, back_past, back_later, back_back, back_forward, forward_later, forward_past, forward_back, forward_forward}
use Rattle.session_history.proofs.StepLemmas.{some_there}

-- ---- slots

pub slot_within : {X : Type 0} (ss : Slots X) (name : List ℕ) (i : ℕ) → slot_of ss name ≡ Some i → i < length ss
slot_within [] name i e = absurd (cc)
slot_within (s ∷ ss) name i e = grind (arith, nat_tests, slot_within ss name)

-- what stands under a name, by its slot, if it has one
module _ (s : Store) (name : List ℕ) where
  module _ (apart : HaveDistinctLabels s.trees) where
    pub no_tree : None ≡ slot_of s.trees name → None ≡ finmap.get (contents s).trees name
    no_tree none = sym (tree_of_name s name apart ∙ ap (option_and_then (content s.trees)) (sym none))

    pub tree_in : (i : ℕ) (x : Option Tree) → Some i ≡ slot_of s.trees name → x ≡ content s.trees i
        → x ≡ finmap.get (contents s).trees name
    tree_in i x here is = is ∙ sym (tree_of_name s name apart ∙ ap (option_and_then (content s.trees)) (sym here))

pub ruleset finding = (slot_within, no_tree, tree_in, no_text, text_in)

module _ (grow : Store → Store) (is : IsGrowth grow) where
  placed_grown : (t : Logged) → IsPlaced t → IsPlaced (record t { store = grow t.store })
  placed_grown t h =
      let here = is.fits t.current t.store h.fits in
      let past = rewound_grown grow is (take t.position t.logs) (before t.current t.store) h.back in
      let later = later_grown grow is (drop t.position t.logs) (before t.current t.store) h.forward in
      record {
        within = h.within;
        back = subst (FitBack (take t.position t.logs)) (sym here.1) past.0;
        forward = subst (FitForward (drop t.position t.logs)) (sym here.1) later.0;
        compact = h.compact;
        fits = here.0;
        current = h.current;
        room = h.room;
      }

  unfolded_grown : (t : Logged) (ps : List Signature) → IsPlaced t
      → unfolded ps (record t { store = grow t.store }) ≡ unfolded ps t
  unfolded_grown t ps h =
      let start = before t.current t.store in
      let here : before t.current (grow t.store) ≡ grow start = (is.fits t.current t.store h.fits).1 in
      let begun : contents (before t.current (grow t.store)) ≡ contents start = ap contents here ∙ is.same start in
      λ i. record {
        primitives = ps;
        limits = t.limits;
        past =
            (ap (past_of (take t.position t.logs)) here ∙ past_grown grow is (take t.position t.logs) start h.back) i;
        now = is.same t.store i;
        later =
            (ap (later_of (drop t.position t.logs)) here
            ∙ (later_grown grow is (drop t.position t.logs) start h.forward).1) i;
        group = option_map (λ g. record { begun = begun i; changed = g.changed }) t.group;
      }

module _ {E : Type 0} where
  pub all_within : {X : Type 0} (ss : Slots X) (name : List ℕ) (r : Result ℕ E) → IfOk r (λ i. slot_of ss name ≡ Some i)
      → IfOk r (λ i. i < length ss)
  all_within ss name (Ok i) h = slot_within ss name i h
  all_within ss name (Err e) h = tt

  grown_or_same : (r : Result ℕ E) (s t u : Store) → OnOk r (s ≡ t) → OnErr r (s ≡ u) → (P : Store → Type 0) → P t
      → P u → P s
  grown_or_same (Ok i) s t u ok err P p q = subst P (sym ok) p
  grown_or_same (Err e) s t u ok err P p q = subst P (sym err) q

  -- a slot that was found or made
  module _ (grow : Store → Store) (is : IsGrowth grow) (t : Logged) (s : Store) (r : Result ℕ E)
      (ok : OnOk r (s ≡ grow t.store)) (err : OnErr r (s ≡ t.store)) (h : IsPlaced t) where
    pub slot_placed : IsPlaced (record t { store = s })
    slot_placed = grown_or_same r s (grow t.store) t.store ok err (λ s. IsPlaced (record t { store = s }))
        (placed_grown grow is t h) h

    pub slot_same : KeepsHistory t (record t { store = s })
    slot_same = record {
      same = λ ps. grown_or_same r s (grow t.store) t.store ok err
          (λ s. unfolded ps (record t { store = s }) ≡ unfolded ps t) (unfolded_grown grow is t ps h) refl;
    }

-- ---- counts

pub past_count : (t : Logged) → IsPlaced t → length (past_contents t) ≡ t.position
past_count t h = length-past_of (take t.position t.logs) (before t.current t.store)
    ∙ length-take-le t.position t.logs h.within

pub later_count : (t : Logged) → length (later_contents t) ≡ length t.logs - t.position
later_count t = length-later_of (drop t.position t.logs) (before t.current t.store) ∙ length-drop t.position t.logs

-- ---- outside a group

-- outside a group the current log is empty
none_current : (g : Option OpenGroup) (log : List Entry) → g ≡ None → IsCurrent g log → log ≡ []
none_current g log e h = subst (λ g. IsCurrent g log) e h

-- ---- an entry that is added

pub puts : (t n : Logged) (e : Entry) → n.store ≡ put e t.store → Changes t n → Puts e t n
puts t n e store change = record { made = λ ps. change.made ps ∙ ap (λ s. changed (contents s) (unfolded ps t)) store }

pub adds_one : (e : Entry) (s t : Store) (l m : List Entry) → HasPlace e s → t ≡ put e s
    → m ≡ l ++ found e s ∷ [] → AddsEntries s l t m
adds_one e s t l m place store log = record {
  added = found e s ∷ [];
  after = log;
  back = ap (before (found e s ∷ [])) store ∙ pushed_leads_back [] e s;
  fits = subst (Fits (found e s ∷ [])) (sym store) (pushed_fits [] e s tt place);
}

-- a single entry is a compact step
pub adds_alone : (logs new : List (List Entry)) (step : List Entry) (e : Entry)
    → new ≡ logs ++ step ∷ [] → step ≡ e ∷ [] → AddsStep logs step new
adds_alone logs new step e all one = record {
  left = step;
  all = all;
  back = λ s. refl;
  fits = λ s h. h;
  compact = subst IsCompact (sym one) (λ i j d before within. absurd (omega (arith, before, within)));
}

-- ---- a change of several entries in a group

module _ (t : Logged) (s : Store) (log : List Entry) (adds : AddsEntries t.store t.current s log) (h : IsPlaced t) where
  begin_stays : before log s ≡ before t.current t.store
  begin_stays = ap (λ l. before l s) adds.after ∙ before-append t.current adds.added s ∙ ap (before t.current) adds.back

  pub grown_placed : (g : OpenGroup)
      → g.changed ≡ true → IsPlaced (record t { store = s; group = Some g; current = log })
  grown_placed g was = record {
    within = h.within;
    back = subst (FitBack (take t.position t.logs)) (sym begin_stays) h.back;
    forward = subst (FitForward (drop t.position t.logs)) (sym begin_stays) h.forward;
    compact = h.compact;
    fits = subst (λ l. Fits l s) (sym adds.after)
        (fits-append t.current adds.added s (subst (Fits t.current) (sym adds.back) h.fits) adds.fits);
    current = subst (λ b. OnFalse b (log ≡ [])) (sym was) tt;
    room = h.room;
  }

  pub grown_changes : (g : OpenGroup) → g.changed ≡ true → IsSome t.group
      → Changes t (record t { store = s; group = Some g; current = log })
  grown_changes g was there = record { made = λ ps. rw ((some_there t.group there).1, begin_stays, was) refl }

-- ---- a change of several entries as a step of its own

module _ (t : Logged) (s : Store) (logs : List (List Entry)) (log new : List Entry)
    (closed : t.group ≡ None) (none : new ≡ []) (adds : AddsEntries t.store new s log)
    (step : AddsStep (take t.position t.logs) log logs) (q : ℕ) (next : q ≡ t.position + 1) (h : IsPlaced t) where
  bare_log : t.current ≡ []
  bare_log = none_current t.group t.current closed h.current

  bare_then : before t.current t.store ≡ t.store
  bare_then = ap (λ l. before l t.store) bare_log

  bare_now : before t.current s ≡ s
  bare_now = ap (λ l. before l s) bare_log

  log_is : log ≡ adds.added
  log_is = adds.after ∙ ap (λ l. l ++ adds.added) none

  leads_back : before step.left s ≡ t.store
  leads_back = step.back s ∙ ap (λ l. before l s) log_is ∙ adds.back

  pub many_placed : IsPlaced (record t { store = s; logs = logs; position = q })
  many_placed = subst (λ (q : ℕ). IsPlaced (record t { store = s; logs = logs; position = q })) (sym next) (record {
    within = subst (λ (l : List (List Entry)). t.position + 1 ≤ length l) (sym step.all)
        (grouped_within t.logs t.position s step.left h.within);
    back = subst₂ (λ l s. FitBack (take (t.position + 1) l) s) (sym step.all) (sym bare_now)
        (grouped_back t.logs t.position s step.left h.within
        (step.fits s (subst (λ l. Fits l s) (sym log_is) adds.fits))
        (subst (FitBack (take t.position t.logs)) (bare_then ∙ sym leads_back) h.back));
    forward = subst₂ (λ l s. FitForward (drop (t.position + 1) l) s) (sym step.all) (sym bare_now)
        (grouped_forward t.logs t.position s step.left h.within);
    compact = subst AllCompact (sym step.all) (all_and IsCompact (take t.position t.logs) step.left
        (all_take IsCompact t.position t.logs h.compact) step.compact);
    fits = subst (λ l. Fits l s) (sym bare_log) tt;
    current = h.current;
    room = h.room;
  })

  many_unfolded : (ps : List Signature)
      → unfolded ps (record t { store = s; logs = logs; position = q }) ≡ changed (contents s) (unfolded ps t)
  many_unfolded ps =
      let past : past_of (take q logs) (before t.current s)
      ≡ contents t.store ∷ past_of (take t.position t.logs) (before t.current t.store) =
      (λ i. past_of (take (next i) (step.all i)) (bare_now i)) ∙ grouped_past t.logs t.position s step.left h.within
      ∙ (λ i. contents (leads_back i) ∷ past_of (take t.position t.logs) ((leads_back ∙ sym bare_then) i)) in
      let later : later_of (drop q logs) (before t.current s) ≡ [] =
      (λ i. later_of (drop (next i) (step.all i)) (bare_now i))
      ∙ grouped_later t.logs t.position s step.left h.within in
      rw closed (cc (past, later))

  pub many_changes : Changes t (record t { store = s; logs = logs; position = q })
  many_changes = record { made = many_unfolded }

-- ---- the same store, and room for a step

module _ (t : Logged) (s : Store) (logs : List (List Entry))
    (same : s ≡ t.store) (all : logs ≡ t.logs) (h : IsPlaced t) where
  pub roomier_placed : IsPlaced (record t { store = s; logs = logs })
  roomier_placed = record {
    within = subst (λ (l : List (List Entry)). t.position ≤ length l) (sym all) h.within;
    back = subst₂ (λ l s. FitBack (take t.position l) (before t.current s)) (sym all) (sym same) h.back;
    forward = subst₂ (λ l s. FitForward (drop t.position l) (before t.current s)) (sym all) (sym same) h.forward;
    compact = subst AllCompact (sym all) h.compact;
    fits = subst (Fits t.current) (sym same) h.fits;
    current = h.current;
    room = h.room;
  }

  pub roomier_same : KeepsHistory t (record t { store = s; logs = logs })
  roomier_same = record { same = λ ps i. unfolded ps (record t { store = same i; logs = all i }) }

-- ---- a change that was rolled back

module _ (t : Logged) (e : Entry) (pushed s : Store) (logs : List (List Entry)) (log : List Entry)
    (is : pushed ≡ put e t.store) (one : log ≡ [] ++ found e t.store ∷ []) (back : s ≡ before (drop 0 log) pushed)
    (all : logs ≡ t.logs) (h : IsPlaced t) where
  rolled_store : s ≡ t.store
  rolled_store = back ∙ (λ i. before (drop 0 (one i)) (is i)) ∙ pushed_leads_back [] e t.store

  pub rolled_placed : IsPlaced (record t { store = s; logs = logs })
  rolled_placed = roomier_placed t s logs rolled_store all h

  pub rolled_same : KeepsHistory t (record t { store = s; logs = logs })
  rolled_same = roomier_same t s logs rolled_store all h

-- ---- one step back and forward

module _ (t : Logged) (q : ℕ) (s : Store) (logs : List (List Entry)) (log : List Entry)
    (closed : t.group ≡ None) (inside : q < length t.logs) (at : slice_get t.logs q ≡ Some log) (h : IsPlaced t) where
  bare : t.current ≡ []
  bare = none_current t.group t.current closed h.current

  start : (s : Store) → before t.current s ≡ s
  start s = ap (λ l. before l s) bare

  module _ (back : q + 1 ≡ t.position) (is : s ≡ before log t.store)
      (all : logs ≡ set t.logs q (flipped_back log t.store)) where
    fit_back : FitBack (take (q + 1) t.logs) t.store
    fit_back = subst₂ (λ n s. FitBack (take n t.logs) s) (sym back) (start t.store) h.back

    fit_forward : FitForward (drop (q + 1) t.logs) t.store
    fit_forward = subst₂ (λ n s. FitForward (drop n t.logs) s) (sym back) (start t.store) h.forward

    now_is : before t.current s ≡ before log t.store
    now_is = start s ∙ is

    pub placed_back : IsPlaced (record t { store = s; logs = logs; position = q })
    placed_back = record {
      within = omega (arith, inside, ap length all, length-set t.logs q (flipped_back log t.store));
      back = subst₂ (λ l s. FitBack (take q l) s) (sym all) (sym now_is)
          (back_back t.logs q t.store log at inside fit_back);
      forward = subst₂ (λ l s. FitForward (drop q l) s) (sym all) (sym now_is)
          (back_forward t.logs q t.store log at inside fit_back fit_forward);
      compact = subst AllCompact (sym all) (all_set IsCompact t.logs q (flipped_back log t.store) h.compact
          (flipped_back_is_compact log t.store (all_at IsCompact t.logs q log at h.compact)));
      fits = subst (λ l. Fits l s) (sym bare) tt;
      current = h.current;
      room = h.room;
    }

    pub unfolded_back : (ps : List Signature)
        → step_back (unfolded ps t) ≡ Some (unfolded ps (record t { store = s; logs = logs; position = q }))
    unfolded_back ps =
        let past : past_of (take t.position t.logs) (before t.current t.store)
        ≡ contents s ∷ past_of (take q logs) (before t.current s) =
        (λ i. past_of (take (sym back i) t.logs) (start t.store i)) ∙ back_past t.logs q t.store log at inside
        ∙ (λ i. contents (sym is i) ∷ past_of (take q (sym all i)) (sym now_is i)) in
        let later : contents t.store ∷ later_of (drop t.position t.logs) (before t.current t.store)
        ≡ later_of (drop q logs) (before t.current s) =
        (λ i. contents t.store ∷ later_of (drop (sym back i) t.logs) (start t.store i))
        ∙ sym (back_later t.logs q t.store log at inside)
        ∙ (λ i. later_of (drop q (sym all i)) (sym now_is i)) in
        ap (back_to (unfolded ps t)) past ∙ rw closed (cc later)

  module _ (forth : q ≡ t.position) (is : s ≡ after log t.store)
      (all : logs ≡ set t.logs q (flipped_forward log t.store)) where
    fit_after : FitBack (take q t.logs) t.store
    fit_after = subst₂ (λ n s. FitBack (take n t.logs) s) (sym forth) (start t.store) h.back

    fit_ahead : FitForward (drop q t.logs) t.store
    fit_ahead = subst₂ (λ n s. FitForward (drop n t.logs) s) (sym forth) (start t.store) h.forward

    then_is : before t.current s ≡ after log t.store
    then_is = start s ∙ is

    pub placed_forward : IsPlaced (record t { store = s; logs = logs; position = q + 1 })
    placed_forward = record {
      within = omega (arith, inside, ap length all, length-set t.logs q (flipped_forward log t.store));
      back = subst₂ (λ l s. FitBack (take (q + 1) l) s) (sym all) (sym then_is)
          (forward_back t.logs q t.store log at inside fit_after fit_ahead);
      forward = subst₂ (λ l s. FitForward (drop (q + 1) l) s) (sym all) (sym then_is)
          (forward_forward t.logs q t.store log at inside fit_ahead);
      compact = subst AllCompact (sym all) (all_set IsCompact t.logs q (flipped_forward log t.store) h.compact
          (flipped_forward_is_compact log t.store (all_at IsCompact t.logs q log at h.compact)));
      fits = subst (λ l. Fits l s) (sym bare) tt;
      current = h.current;
      room = h.room;
    }

    pub unfolded_forward : (ps : List Signature)
        → step_forward (unfolded ps t) ≡ Some (unfolded ps (record t { store = s; logs = logs; position = q + 1 }))
    unfolded_forward ps =
        let later : later_of (drop t.position t.logs) (before t.current t.store)
        ≡ contents s ∷ later_of (drop (q + 1) logs) (before t.current s) =
        (λ i. later_of (drop (sym forth i) t.logs) (start t.store i)) ∙ forward_later t.logs q t.store log at inside
        ∙ (λ i. contents (sym is i) ∷ later_of (drop (q + 1) (sym all i)) (sym then_is i)) in
        let past : contents t.store ∷ past_of (take t.position t.logs) (before t.current t.store)
        ≡ past_of (take (q + 1) logs) (before t.current s) =
        (λ i. contents t.store ∷ past_of (take (sym forth i) t.logs) (start t.store i))
        ∙ sym (forward_past t.logs q t.store log at inside)
        ∙ (λ i. past_of (take (q + 1) (sym all i)) (sym then_is i)) in
        ap (forward_to (unfolded ps t)) later ∙ rw closed (cc past)

-- ---- the end of a group

module _ (t : Logged) (changed : Bool) (there : IsSome t.group)
    (flag : changed ≡ option_map_or (λ g. g.changed) t.group false) (h : IsPlaced t) where
  opened : OpenGroup
  opened = (some_there t.group there).0

  is_open : t.group ≡ Some opened
  unfolding opened
  is_open = (some_there t.group there).1

  flagged : opened.changed ≡ changed
  flagged = sym (flag ∙ ap (λ o. option_map_or (λ g. g.changed) o false) is_open)

  -- what closing the group leaves, depending on the flag
  abbrev closing : List Signature → Bool → History
  closing ps b = cond b (record (stepped (contents (before t.current t.store)) (unfolded ps t)) { group = None })
      (record (unfolded ps t) { group = None })

  -- what closing the group leaves is the group as a step
  committing : (ps : List Signature) (g : History)
      → closing ps changed ≡ g → IsSomeAnd (unfolded ps t).group (λ k. g ≡ committed k (unfolded ps t))
  committing ps g e =
      let seen = ap
      (option_map {U = HistoryGroup} (λ g. record { begun = contents (before t.current t.store); changed = g.changed }))
      is_open in
      subst (λ (o : Option HistoryGroup). IsSomeAnd o (λ k. g ≡ committed k (unfolded ps t))) (sym seen)
      (sym (ap (closing ps) flagged ∙ e))

  pub kept_placed : changed ≡ false → IsPlaced (record t { group = None })
  kept_placed none = record {
    within = h.within;
    back = h.back;
    forward = h.forward;
    compact = h.compact;
    fits = h.fits;
    current =
        subst (λ b. OnFalse b (t.current ≡ [])) (flagged ∙ none) (subst (λ g. IsCurrent g t.current) is_open h.current);
    room = h.room;
  }

  pub kept_commits : changed ≡ false → Commits t (record t { group = None })
  kept_commits none =
      record { made = λ ps. committing ps (unfolded ps (record t { group = None })) (ap (closing ps) none) }

  module _ (logs : List (List Entry)) (log new : List Entry) (taken : log ≡ t.current) (empty : new ≡ [])
      (step : AddsStep (take t.position t.logs) log logs) (q : ℕ) (next : q ≡ t.position + 1) where
    left_back : before step.left t.store ≡ before t.current t.store
    left_back = step.back t.store ∙ ap (λ l. before l t.store) taken

    left_fits : Fits step.left t.store
    left_fits = step.fits t.store (subst (λ l. Fits l t.store) (sym taken) h.fits)

    begins : before new t.store ≡ t.store
    begins = ap (λ l. before l t.store) empty

    pub committed_placed : IsPlaced (record t { logs = logs; position = q; group = None; current = new })
    committed_placed = subst (λ (q : ℕ). IsPlaced (record t { logs = logs; position = q; group = None; current = new }))
        (sym next) (record {
          within = subst (λ (l : List (List Entry)). t.position + 1 ≤ length l) (sym step.all)
              (grouped_within t.logs t.position t.store step.left h.within);
          back = subst₂ (λ l s. FitBack (take (t.position + 1) l) s) (sym step.all) (sym begins)
              (grouped_back t.logs t.position t.store step.left h.within left_fits
              (subst (FitBack (take t.position t.logs)) (sym left_back) h.back));
          forward = subst₂ (λ l s. FitForward (drop (t.position + 1) l) s) (sym step.all) (sym begins)
              (grouped_forward t.logs t.position t.store step.left h.within);
          compact = subst AllCompact (sym step.all) (all_and IsCompact (take t.position t.logs) step.left
              (all_take IsCompact t.position t.logs h.compact) step.compact);
          fits = subst (λ l. Fits l t.store) (sym empty) tt;
          current = empty;
          room = h.room;
        })

    committed_unfolded : changed ≡ true → (ps : List Signature)
        → IsSomeAnd (unfolded ps t).group (λ k.
        unfolded ps (record t { logs = logs; position = q; group = None; current = new }) ≡ committed k (unfolded ps t))
    committed_unfolded some ps =
        let past : contents (before t.current t.store) ∷ past_of (take t.position t.logs) (before t.current t.store)
        ≡ past_of (take q logs) (before new t.store) =
        (λ i. contents (sym left_back i) ∷ past_of (take t.position t.logs) (sym left_back i))
        ∙ sym (grouped_past t.logs t.position t.store step.left h.within)
        ∙ (λ i. past_of (take (sym next i) (sym step.all i)) (sym begins i)) in
        let later : [] ≡ later_of (drop q logs) (before new t.store) =
        sym (grouped_later t.logs t.position t.store step.left h.within)
        ∙ (λ i. later_of (drop (sym next i) (sym step.all i)) (sym begins i)) in
        committing ps (unfolded ps (record t { logs = logs; position = q; group = None; current = new }))
        (ap (closing ps) some ∙ (λ i. record {
          primitives = ps;
          limits = t.limits;
          past = past i;
          now = contents t.store;
          later = later i;
          group = None;
        }))

    pub commits : changed ≡ true → Commits t (record t { logs = logs; position = q; group = None; current = new })
    commits some = record { made = committed_unfolded some }
