-- Lemmas on runs: one command, several in order, and a run that fails partway.
use Rattle.std.proofs.Common.{◌≡◌, ◌<◌, ◌+◌, ℕ, Bool, cond, true, false, not, ◌&&◌, List, [], ◌∷◌, ◌++◌, Some, None, Ok, Err, refl, sym, ap, ◌∙◌, subst, append_assoc, append-nil, arith}
use Rattle.std.specs.declared.option.Option.{Option}
use Rattle.std.specs.Prelude.{is_ok, is_err, count_by}
use Rattle.std.specs.Io.KnownBytes.{Appends, Keeps}
use Rattle.std.proofs.KnownBytes.{Appends-trans, Appends-kept}
use Rattle.std.proofs.lemmas.List.Concat.{flat_map-append}
use Rattle.std.proofs.lemmas.List.Sums.{sum_by-append, sum_by-cons}
use Rattle.std.specs.Bool.{MatchBool}
use Rattle.session_history.specs.History.{History}
use Rattle.script_text.specs.Handed.{Handed}
use Rattle.script_text.specs.Replies.{Reply, Replying, history_after, written}
use Rattle.script_text.specs.Answer.{Answered}
use Rattle.script_text.specs.Run.{Replied, out, last_answer, Completes, WritesFront, BreaksOff}
use Rattle.script_text.specs.inside.Counting.{one_if}
use Rattle.script_text.proofs.WriteLemmas.{Appends-none}

-- ---- lists of replies

-- a run that doesn't stop at these replies
abbrev pub GoesAfter : Bool → List Reply → Type 0
GoesAfter stop rs = stop ≡ true → count_by is_err rs ≡ 0

some_refused : (r : Reply) (rs : List Reply) → count_by is_err (r ∷ rs) ≡ 0 → is_err r ≡ true → ⊥
some_refused (Ok x) rs e err = absurd (cc)
some_refused (Err x) rs e err = omega (arith, e, sum_by-cons (λ r. cond (is_err r) 1 0) (Err x) rs)

goes-first : (stop : Bool) (r : Reply) (rs : List Reply) → GoesAfter stop (r ∷ rs) → (stop && is_err r) ≡ false
goes-first false r rs g = refl
goes-first true (Ok x) rs g = refl
goes-first true (Err x) rs g = absurd (some_refused (Err x) rs (g refl) refl)

goes-rest : (stop : Bool) (r : Reply) (rs : List Reply) → GoesAfter stop (r ∷ rs) → GoesAfter stop rs
goes-rest stop (Ok x) rs g e = g e
goes-rest stop (Err x) rs g e = absurd (some_refused (Err x) rs (g e) refl)

-- the replies after which the run goes on, followed by those to the later commands
Replied-append : (stop : Bool) (Rule : Replying) (cs ds : List Handed) (h g k : History) (fs gs : List Bool)
    (rs ss : List Reply) → GoesAfter stop rs → Replied stop Rule cs fs h rs g →
    Replied stop Rule ds gs g ss k → Replied stop Rule (cs ++ ds) (fs ++ gs) h (rs ++ ss) k
Replied-append stop Rule [] ds h g k [] gs [] ss goes p q = subst (λ (x : History). Replied stop Rule ds gs x ss k) p q
Replied-append stop Rule (c ∷ cs) ds h g k (f ∷ fs) gs (r ∷ rs) ss goes p q =
    let on = goes-first stop r rs goes in
    let rest : Replied stop Rule cs fs (history_after h r) rs g = subst (λ (b : Bool). MatchBool b
    ((fs ≡ []) × (rs ≡ []) × (g ≡ history_after h r)) (Replied stop Rule cs fs (history_after h r) rs g)) on p.1 in (
      p.0,
      subst (λ (b : Bool). MatchBool b ((fs ++ gs ≡ []) × (rs ++ ss ≡ []) × (k ≡ history_after h r))
          (Replied stop Rule (cs ++ ds) (fs ++ gs) (history_after h r) (rs ++ ss) k)) (sym on)
          (Replied-append stop Rule cs ds (history_after h r) g k fs gs rs ss (goes-rest stop r rs goes) rest q),
    )
Replied-append stop Rule cs ds h g k fs gs rs ss goes p q = absurd p

-- if the run stopped, no later command is replied to
Replied-stopped : (stop : Bool) (Rule : Replying) (cs ds : List Handed) (fs : List Bool) (h g : History)
    (rs : List Reply) → stop ≡ true → 0 < count_by is_err rs → Replied stop Rule cs fs h rs g →
    Replied stop Rule (cs ++ ds) fs h rs g
Replied-stopped stop Rule [] ds [] h g [] e some p = absurd (omega (arith, some))
Replied-stopped stop Rule (c ∷ cs) ds (f ∷ fs) h g (Ok x ∷ rs) e some p =
    let After : Bool → List Handed → Type 0 =
    λ b commands. MatchBool (b && false) ((fs ≡ []) × (rs ≡ []) × (g ≡ history_after h (Ok x)))
    (Replied stop Rule commands fs (history_after h (Ok x)) rs g) in
    let rest = Replied-stopped stop Rule cs ds fs (history_after h (Ok x)) g rs e some
    (subst (λ (b : Bool). After b cs) e p.1) in (
      p.0,
      subst (λ (b : Bool). After b (cs ++ ds)) (sym e) rest,
    )
Replied-stopped stop Rule (c ∷ cs) ds (f ∷ fs) h g (Err x ∷ rs) e some p =
    let After : Bool → List Handed → Type 0 =
    λ b commands. MatchBool (b && true) ((fs ≡ []) × (rs ≡ []) × (g ≡ history_after h (Err x)))
    (Replied stop Rule commands fs (history_after h (Err x)) rs g) in
    let ends = subst (λ (b : Bool). After b cs) e p.1 in (p.0, subst (λ (b : Bool). After b (cs ++ ds)) (sym e) ends)
Replied-stopped stop Rule cs ds fs h g rs e some p = absurd p

last_answer-append : (rs : List Reply) (s : Reply) (ss : List Reply)
    → last_answer (rs ++ (s ∷ ss)) ≡ last_answer (s ∷ ss)
last_answer-append [] s ss = refl
last_answer-append (r ∷ []) s ss = refl
last_answer-append (r ∷ (t ∷ rs)) s ss = last_answer-append (t ∷ rs) s ss

append-empty : {A : Type 0} (xs ys : List A) → [] ≡ xs ++ ys → ys ≡ []
append-empty [] ys e = sym e
append-empty (x ∷ xs) ys e = absurd (cc)

count_by-append : (p : Reply → Bool) (rs ss : List Reply) → count_by p (rs ++ ss) ≡ count_by p rs + count_by p ss
count_by-append p rs ss = sum_by-append (λ r. cond (p r) 1 0) rs ss

pub one_if-total : (b : Bool) → one_if b + one_if (not b) ≡ 1
one_if-total true = refl
one_if-total false = refl

-- ---- one command

-- whether or not the run stops at it, nothing is left
pub end_of_one : (b : Bool) (g k : History)
    → g ≡ k → MatchBool b ((◌≡◌ {A = List Bool} [] []) × (◌≡◌ {A = List Reply} [] []) × (g ≡ k)) (g ≡ k)
end_of_one true g k e = (refl, refl, e)
end_of_one false g k e = e

Replied-one : (stop : Bool) (Rule : Replying) (command : Handed) (h g : History) (answer : List ℕ) (verdict : Bool)
    (a : Answered Rule command h g answer verdict) →
    Replied stop Rule (command ∷ []) (a.flag ∷ []) h (a.reply ∷ []) g
Replied-one stop Rule command h g answer verdict a =
    (a.replied, end_of_one (stop && is_err a.reply) g (history_after h a.reply) a.history)

one_ok : (verdict : Bool) (reply : Reply) → verdict ≡ is_ok reply
    → (one_if verdict ≡ count_by is_ok (reply ∷ [])) × (one_if (not verdict) ≡ count_by is_err (reply ∷ []))
one_ok verdict reply e = (grind arith, grind arith)

-- a command whose answer is written
pub Completes-one : (stop : Bool) (Rule : Replying) (command : Handed) (h g : History) (answer sent : List ℕ)
    (verdict : Bool) (old new : Option (List ℕ)) →
    sent ≡ answer → Answered Rule command h g answer verdict → Appends old new sent
    → Completes stop Rule (command ∷ []) h g old new (one_if verdict) (one_if (not verdict))
Completes-one stop Rule command h g answer sent verdict old new e a w = record {
  flags = a.flag ∷ [];
  replies = a.reply ∷ [];
  replied = Replied-one stop Rule command h g answer verdict a;
  written = subst (λ (xs : List ℕ). Appends old new xs) (e ∙ a.written ∙ sym (append-nil (written a.reply))) w;
  accepted = (one_ok verdict a.reply a.accepted).0;
  refused = (one_ok verdict a.reply a.accepted).1;
}

pub BreaksOff-one : (stop : Bool) (Rule : Replying) (command : Handed) (h g : History) (answer sent : List ℕ)
    (verdict : Bool) (old new : Option (List ℕ)) (lost : List ℕ) →
    sent ≡ answer → Answered Rule command h g answer verdict → WritesFront old new sent lost
    → BreaksOff stop Rule (command ∷ []) h g old new
BreaksOff-one stop Rule command h g answer sent verdict old new lost e a w = record {
  first = command ∷ [];
  others = [];
  split = refl;
  flags = a.flag ∷ [];
  replies = a.reply ∷ [];
  replied = Replied-one stop Rule command h g answer verdict a;
  lost = lost;
  written =
      record { kept = w.kept; all = append-nil (written a.reply) ∙ sym a.written ∙ sym e ∙ w.all; written = w.written };
  front = w.kept;
  last = sym a.written ∙ sym e ∙ w.all;
}

-- ---- several in order

pub Completes-none : (stop : Bool) (Rule : Replying) (h : History) (a : Option (List ℕ))
    → Completes stop Rule [] h h a a 0 0
Completes-none stop Rule h a = record {
  flags = [];
  replies = [];
  replied = refl;
  written = Appends-none a a (kept a);
  accepted = refl;
  refused = refl;
}
  where
    kept : (o : Option (List ℕ)) → Keeps o o
    kept None = tt
    kept (Some xs) = refl

goes_from : (stop : Bool) (n : ℕ) (rs : List Reply) → n ≡ count_by is_err rs → (stop ≡ true → n ≡ 0) → GoesAfter stop rs
goes_from stop n rs e goes s = sym e ∙ goes s

pub Completes-append : (stop : Bool) (Rule : Replying) (cs ds : List Handed) (h g k : History) (a b c : Option (List ℕ))
    (y n z m : ℕ) → (stop ≡ true → n ≡ 0) → Completes stop Rule cs h g a b y n → Completes stop Rule ds g k b c z m →
    Completes stop Rule (cs ++ ds) h k a c (y + z) (n + m)
Completes-append stop Rule cs ds h g k a b c y n z m goes p q = record {
  flags = p.flags ++ q.flags;
  replies = p.replies ++ q.replies;
  replied = Replied-append stop Rule cs ds h g k p.flags q.flags p.replies q.replies
      (goes_from stop n p.replies p.refused goes) p.replied q.replied;
  written = subst (λ (xs : List ℕ). Appends a c xs) (sym (flat_map-append written p.replies q.replies))
      (Appends-trans a b c _ _ p.written q.written);
  accepted = omega (arith, p.accepted, q.accepted, count_by-append is_ok p.replies q.replies);
  refused = omega (arith, p.refused, q.refused, count_by-append is_err p.replies q.replies);
}

-- a run that stopped answers no later command
pub Completes-stopped : (stop : Bool) (Rule : Replying) (cs ds : List Handed) (h g : History) (a b : Option (List ℕ))
    (y n : ℕ) → stop ≡ true → 0 < n → Completes stop Rule cs h g a b y n → Completes stop Rule (cs ++ ds) h g a b y n
Completes-stopped stop Rule cs ds h g a b y n e some p = record {
  flags = p.flags;
  replies = p.replies;
  replied = Replied-stopped stop Rule cs ds p.flags h g p.replies e (omega (arith, some, p.refused)) p.replied;
  written = p.written;
  accepted = p.accepted;
  refused = p.refused;
}

pub BreaksOff-append : (stop : Bool) (Rule : Replying) (cs ds : List Handed) (h g k : History) (a b c : Option (List ℕ))
    (y n : ℕ) → (stop ≡ true → n ≡ 0) → Completes stop Rule cs h g a b y n → BreaksOff stop Rule ds g k b c →
    BreaksOff stop Rule (cs ++ ds) h k a c
BreaksOff-append stop Rule cs ds h g k a b c y n goes p q = record {
  first = cs ++ q.first;
  others = q.others;
  split = ap (λ (xs : List Handed). cs ++ xs) q.split ∙ sym (append_assoc cs q.first q.others);
  flags = p.flags ++ q.flags;
  replies = p.replies ++ q.replies;
  replied = Replied-append stop Rule cs q.first h g k p.flags q.flags p.replies q.replies
      (goes_from stop n p.replies p.refused goes) p.replied q.replied;
  lost = q.lost;
  written = record {
    kept = out p.replies ++ q.written.kept;
    all = flat_map-append written p.replies q.replies ∙ ap (λ (xs : List ℕ). out p.replies ++ xs) q.written.all
        ∙ sym (append_assoc (out p.replies) q.written.kept q.lost);
    written = Appends-trans a b c _ _ p.written q.written.written;
  };
  front = (last p.replies q.replies q.front q.lost q.last).0;
  last = (last p.replies q.replies q.front q.lost q.last).1;
}
  where
    last : (rs ss : List Reply) (front lost : List ℕ)
        → last_answer ss ≡ front ++ lost → (f : List ℕ) × (last_answer (rs ++ ss) ≡ f ++ lost)
    last rs [] front lost e = (
      last_answer (rs ++ []),
      sym (append-nil _) ∙ ap (λ (xs : List ℕ). last_answer (rs ++ []) ++ xs) (sym (append-empty front lost e)),
    )
    last rs (s ∷ ss) front lost e = (front, last_answer-append rs s ss ∙ e)

-- the commands after those at which a run failed aren't answered
pub BreaksOff-longer : (stop : Bool) (Rule : Replying) (cs ds : List Handed) (h g : History) (a b : Option (List ℕ))
    → BreaksOff stop Rule cs h g a b → BreaksOff stop Rule (cs ++ ds) h g a b
BreaksOff-longer stop Rule cs ds h g a b p = record {
  first = p.first;
  others = p.others ++ ds;
  split = ap (λ (xs : List Handed). xs ++ ds) p.split ∙ append_assoc p.first p.others ds;
  flags = p.flags;
  replies = p.replies;
  replied = p.replied;
  lost = p.lost;
  written = p.written;
  front = p.front;
  last = p.last;
}

-- ---- a flush

-- what is written, as another writer's state has it
pub Completes-by : (stop : Bool) (Rule : Replying) (cs : List Handed) (h g : History) (a b c d : Option (List ℕ))
    (y n : ℕ) → ((bytes : List ℕ) → Appends a b bytes → Appends c d bytes) → Completes stop Rule cs h g a b y n
    → Completes stop Rule cs h g c d y n
Completes-by stop Rule cs h g a b c d y n writes p = record {
  flags = p.flags;
  replies = p.replies;
  replied = p.replied;
  written = writes _ p.written;
  accepted = p.accepted;
  refused = p.refused;
}

pub BreaksOff-flush : (stop : Bool) (Rule : Replying) (cs : List Handed) (h g : History) (a b c : Option (List ℕ))
    (y n : ℕ) → Completes stop Rule cs h g a b y n → Keeps b c → BreaksOff stop Rule cs h g a c
BreaksOff-flush stop Rule cs h g a b c y n p k = record {
  first = cs;
  others = [];
  split = sym (append-nil cs);
  flags = p.flags;
  replies = p.replies;
  replied = p.replied;
  lost = [];
  written = record { kept = out p.replies; all = sym (append-nil _); written = Appends-kept a b c _ p.written k };
  front = last_answer p.replies;
  last = sym (append-nil _);
}
