-- Lemmas on the parts of a run.
use Rattle.std.proofs.Common.{◌≡◌, ◌≤◌, ◌<◌, ◌+◌, ◌*◌, ℕ, Bool, true, false, not, ◌||◌, List, [], ◌∷◌, ◌++◌, Some, None, is_some, Ok, Err, OnErr, Result, inl, inr, ◌⊎◌, refl, sym, ap, ◌∙◌, append_assoc, append-nil, length, take, drop, take-append-drop, arith}
use Rattle.std.specs.declared.option.Option.{Option}
use Rattle.std.proofs.lemmas.List.{length-append, length-take}
use Rattle.std.specs.Io.KnownBytes.{Keeps, Consumes, IsAtEnd}
use Rattle.std.proofs.KnownBytes.{Consumes-nil, Consumes-trans, Consumes-kept, Appends-kept}
use Rattle.std.specs.Option.{option_to_list}
use Rattle.session_history.specs.History.{History}
use Rattle.script_core.specs.declared.running.Running.{Running}
use Rattle.script_core.specs.declared.running.RunFault.{RunFault}
use Rattle.script_core.specs.declared.running.RunFault.TheVariants.{Read, Write, Turns, Memory}
use Rattle.script_core.specs.declared.running.TheConstants.{MAX_READS, PIECE}
use Rattle.script_text.specs.declared.splitter.Fed.TheVariants.{Command}
use Rattle.script_text.specs.declared.framing.Framing.{Framing}
use Rattle.script_text.specs.Handed.{Handed, handed, completed}
use Rattle.script_text.specs.Splitting.{StandsAfter, rest_of}
use Rattle.script_text.specs.inside.Passing.{out_of}
use Rattle.script_text.specs.Split.{Split}
use Rattle.script_text.specs.FedRight.{FedRight, GoesAfter}
use Rattle.script_text.specs.Run.{Completes, BreaksOff}
use Rattle.script_text.specs.inside.Counting.{one_if}
use Rattle.script_core.specs.Ran.{ByBudget, Calm, RunRight, Streams}
use Rattle.script_core.specs.inside.Running.{GoesOnBy, Counts, AnswersReady, AnswersBytes, Underway, HandsAfter, Breaks, Ends, TurnRight}
use Rattle.script_text.proofs.WriteLemmas.{Appends-after}
use Rattle.script_text.proofs.RunLemmas.{one_if-total, Completes-none, Completes-append, Completes-stopped, Completes-by, BreaksOff-append, BreaksOff-longer, BreaksOff-flush}
use Rattle.script_text.proofs.SplitLemmas.{StandsAfter-out}

pub OnErr-from : {T E P : Type 0} (r : Result T E) → P → OnErr r P
OnErr-from (Ok x) p = tt
OnErr-from (Err e) p = p

pub true_or : (b s : Bool) → b ≡ true → b ≡ (b || s)
true_or b s e = grind arith

pub false_or : (b s : Bool) → b ≡ false → s ≡ (b || s)
false_or b s e = grind arith

goes_by : (stop verdict goes_on : Bool) → goes_on ≡ (verdict || not stop) → GoesOnBy stop (one_if (not verdict)) goes_on
goes_by stop true goes_on e = rw e (λ _. refl)
goes_by true false goes_on e = rw e (refl, omega arith)
goes_by false false goes_on e = rw e (λ f. absurd (cc))

module _ (Rule : ByBudget) where
  pub ready_answered : (old new : Running) (command : Handed) (h g : History) (held held' : Option (List ℕ))
      (verdict goes_on : Bool) → old.splitter.to_hand_out ≡ Some command →
      Completes old.settings.stop (Rule old.settings.steps) (command ∷ []) h g held held' (one_if verdict)
      (one_if (not verdict)) →
      new.summary.accepted ≡ old.summary.accepted + one_if verdict
      → new.summary.refused ≡ old.summary.refused + one_if (not verdict) → new.settings ≡ old.settings →
      goes_on ≡ (verdict || not old.settings.stop) → AnswersReady Rule old new h g held held' goes_on
  ready_answered old new command h g held held' verdict goes_on ready completes accepted refused settings goes = (
    command,
    ready,
    record {
      yes = one_if verdict;
      no = one_if (not verdict);
      completes = completes;
      accepted = accepted;
      refused = refused;
      total = omega (arith, one_if-total verdict);
      goes = goes_by old.settings.stop verdict goes_on goes;
      settings = settings;
    },
  )

  pub ready_is : (old new : Running) (h g : History) (a b : Option (List ℕ)) (x y : Bool)
      → x ≡ y → AnswersReady Rule old new h g a b x → AnswersReady Rule old new h g a b y
  ready_is old new h g a b x y e r = rw (← e) r

  -- ---- commands after commands

  GoesAfter-none : (s : Split) → GoesAfter s s [] []
  GoesAfter-none s framing x out h = rw (append-nil, append-nil) h

  GoesAfter-trans : (a b c : Split) (xs ys : List ℕ) (cs ds : List Handed) → GoesAfter a b xs cs → GoesAfter b c ys ds
      → GoesAfter a c (xs ++ ys) (cs ++ ds)
  GoesAfter-trans a b c xs ys cs ds p q framing x out h =
      rw (← append_assoc x xs ys, ← append_assoc out cs ds) (q framing (x ++ xs) (out ++ cs) (p framing x out h))

  -- all commands of these bytes are those taken so far followed by those of the rest
  hands_after : (old new : Split) (taken rest : List ℕ) (commands : List Handed) → GoesAfter old new taken commands
      → HandsAfter handed old (taken ++ rest) (commands ++ rest_of new.left rest)
  hands_after old new taken rest commands b framing x out h =
      ap (handed framing) (sym (append_assoc x taken rest)) ∙ (b framing x out h).rest rest
      ∙ append_assoc out commands (rest_of new.left rest)

  -- so are those that are complete
  completed_after : (old new : Split) (taken rest : List ℕ) (commands : List Handed) → GoesAfter old new taken commands
      → HandsAfter completed old (taken ++ rest) (commands ++ out_of new.left rest)
  completed_after old new taken rest commands b framing x out h =
      sym (ap (completed framing) (append_assoc x taken rest)) ∙ StandsAfter-out framing rest
      (x ++ taken) (out ++ commands) new.left (b framing x out h) ∙ append_assoc out commands (out_of new.left rest)

  goes_append : (stop goes_on : Bool) (n m : ℕ) → (stop ≡ true → n ≡ 0) → GoesOnBy stop m goes_on
      → GoesOnBy stop (n + m) goes_on
  goes_append stop true n m p q = λ e. omega (arith, p e, q e)
  goes_append stop false n m p q = (q.0, omega (arith, q.1))

  Counts-none : (s : Running) (h : History) (a : Option (List ℕ)) → Counts Rule [] s s h h a a true
  Counts-none s h a = record {
    yes = 0;
    no = 0;
    completes = Completes-none s.settings.stop (Rule s.settings.steps) h a;
    accepted = omega arith;
    refused = omega arith;
    total = omega arith;
    goes = λ _. refl;
    settings = refl;
  }

  Counts-append : (old s t new : Running) (h g k : History) (a b c : Option (List ℕ)) (cs ds : List Handed)
      (goes_on : Bool) → Counts Rule cs old s h g a b true → t.summary ≡ s.summary → t.settings ≡ s.settings →
      Counts Rule ds t new g k b c goes_on → Counts Rule (cs ++ ds) old new h k a c goes_on
  Counts-append old s t new h g k a b c cs ds goes_on p summary settings q =
      let same : old.settings ≡ t.settings = sym (settings ∙ p.settings) in
      record {
        yes = p.yes + q.yes;
        no = p.no + q.no;
        completes = Completes-append old.settings.stop (Rule old.settings.steps) cs ds h g k a b c p.yes p.no q.yes q.no
            p.goes p.completes (rw same q.completes);
        accepted = omega (arith, p.accepted, q.accepted, ap (λ x. x.accepted) summary);
        refused = omega (arith, p.refused, q.refused, ap (λ x. x.refused) summary);
        total = omega (arith, p.total, q.total, length-append cs ds);
        goes = goes_append old.settings.stop goes_on p.no q.no p.goes (rw same q.goes);
        settings = q.settings ∙ sym same;
      }

  -- the same counted from another state
  Counts-from : (old mid new : Running) (h g : History) (a b : Option (List ℕ)) (cs : List Handed) (goes_on : Bool)
      → mid.summary ≡ old.summary → mid.settings ≡ old.settings →
      Counts Rule cs mid new h g a b goes_on → Counts Rule cs old new h g a b goes_on
  Counts-from old mid new h g a b cs goes_on =
      Counts-append old old mid new h h g a a b [] cs goes_on (Counts-none old h a)

  -- after a flush
  Counts-after : (old new : Running) (h g : History) (a b c : Option (List ℕ)) (cs : List Handed) (goes_on : Bool)
      → Keeps a b → Counts Rule cs old new h g b c goes_on → Counts Rule cs old new h g a c goes_on
  Counts-after old new h g a b c cs goes_on k p = record {
    yes = p.yes;
    no = p.no;
    completes = Completes-by old.settings.stop (Rule old.settings.steps) cs h g b c a c p.yes p.no
        (λ bytes w. Appends-after a b c bytes k w) p.completes;
    accepted = p.accepted;
    refused = p.refused;
    total = p.total;
    goes = p.goes;
    settings = p.settings;
  }

  -- a run that stopped answers no later command
  Counts-stopped : (old new : Running) (h g : History) (a b : Option (List ℕ)) (cs ds : List Handed)
      → Counts Rule cs old new h g a b false → Counts Rule (cs ++ ds) old new h g a b false
  Counts-stopped old new h g a b cs ds p = record {
    yes = p.yes;
    no = p.no;
    completes = Completes-stopped old.settings.stop (Rule old.settings.steps) cs ds h g a b p.yes p.no p.goes.0 p.goes.1
        p.completes;
    accepted = p.accepted;
    refused = p.refused;
    total = omega (arith, p.total, length-append cs ds);
    goes = p.goes;
    settings = p.settings;
  }

  -- ---- bytes

  pub Underway-none : (s : Running) (h : History) (a : Option (List ℕ)) (bytes : List ℕ)
      → Underway Rule s s h h a a bytes bytes true
  Underway-none s h a bytes = record {
    taken = [];
    all = refl;
    commands = [];
    after = GoesAfter-none s.splitter;
    counts = Counts-none s h a;
    few = omega arith;
  }

  -- One more command was taken, and is answered.
  module _ (old s t : Running) (h g k : History) (a b c : Option (List ℕ)) (bytes rest after : List ℕ) (n : ℕ)
      (u : Underway Rule old s h g a b bytes rest true)
      (fed : FedRight (Command n) s.splitter t.splitter rest) (rest_is : after ≡ drop n rest)
      (summary : t.summary ≡ s.summary) (settings : t.settings ≡ s.settings) where
    split : bytes ≡ (u.taken ++ take n rest) ++ after
    split = u.all ∙ ap (λ (xs : List ℕ). u.taken ++ xs) (sym (take-append-drop n rest)
        ∙ ap (λ (xs : List ℕ). take n rest ++ xs) (sym rest_is)) ∙ sym (append_assoc u.taken (take n rest) after)

    goes : GoesAfter old.splitter t.splitter (u.taken ++ take n rest) (u.commands ++ fed.2 ∷ [])
    goes =
        GoesAfter-trans old.splitter s.splitter t.splitter u.taken (take n rest) u.commands (fed.2 ∷ []) u.after fed.4

    pub Underway-more : (new : Running) (goes_on : Bool) → AnswersReady Rule t new g k b c goes_on
        → new.splitter ≡ t.splitter → Underway Rule old new h k a c bytes after goes_on
    Underway-more new goes_on r same =
        let command : fed.2 ≡ r.0 = cc in
        record {
          taken = u.taken ++ take n rest;
          all = split;
          commands = u.commands ++ fed.2 ∷ [];
          after = rw same goes;
          counts = Counts-append old s t new h g k a b c u.commands (fed.2 ∷ []) goes_on u.counts summary settings
              (rw command r.2);
          few = omega (
            arith,
            u.few,
            length-append u.commands (fed.2 ∷ []),
            length-append u.taken (take n rest),
            length-take n rest,
            fed.0,
            fed.1,
          );
        }

    pub Breaks-more : (command : Handed) → t.splitter.to_hand_out ≡ Some command → BreaksOff t.settings.stop
        (Rule t.settings.steps) (command ∷ []) g k b c → Breaks Rule completed old h k a c bytes
    Breaks-more command ready broken =
        let is : fed.2 ≡ command = cc in
        record {
          all = (u.commands ++ fed.2 ∷ []) ++ out_of t.splitter.left after;
          hands = rw split
              (completed_after old.splitter t.splitter (u.taken ++ take n rest) after (u.commands ++ fed.2 ∷ []) goes);
          breaks = BreaksOff-longer old.settings.stop (Rule old.settings.steps) (u.commands ++ fed.2 ∷ []) _ h k a c
              (BreaksOff-append old.settings.stop (Rule old.settings.steps) u.commands (fed.2 ∷ []) h g k a b c
              u.counts.yes u.counts.no u.counts.goes u.counts.completes
              (rw (sym (settings ∙ u.counts.settings), is) broken));
        }

  -- No command is complete in the rest.
  pub Underway-all : (old s t : Running) (h g : History) (a b : Option (List ℕ)) (bytes rest : List ℕ)
      → Underway Rule old s h g a b bytes rest true → GoesAfter s.splitter t.splitter rest [] →
      t.summary ≡ s.summary → t.settings ≡ s.settings → Underway Rule old t h g a b bytes [] true
  Underway-all old s t h g a b bytes rest u fed summary settings = record {
    taken = u.taken ++ rest;
    all = u.all ∙ sym (append-nil (u.taken ++ rest));
    commands = u.commands ++ [];
    after = GoesAfter-trans old.splitter s.splitter t.splitter u.taken rest u.commands [] u.after fed;
    counts = Counts-append old s t t h g g a b b u.commands [] true u.counts summary settings (Counts-none t g b);
    few = omega (arith, u.few, length-append u.taken rest, length-append u.commands []);
  }

  -- ---- the end

  -- given what the splitter hands out at the end
  module _ (old mid : Running) (h : History) (a : Option (List ℕ))
      (summary : mid.summary ≡ old.summary) (settings : mid.settings ≡ old.settings)
      (all : (framing : Framing) (x : List ℕ) (out : List Handed) → StandsAfter framing x out old.splitter.left
      → handed framing x ≡ out ++ option_to_list mid.splitter.to_hand_out) where
    last_hands : (o : Option Handed)
        → mid.splitter.to_hand_out ≡ o → HandsAfter handed old.splitter [] (option_to_list o)
    last_hands o e framing x out s = ap (handed framing) (append-nil x) ∙ all framing x out s
        ∙ ap (λ (o : Option Handed). out ++ option_to_list o) e

    pub Ends-ready : (new : Running) (g : History) (b : Option (List ℕ)) (goes_on : Bool)
        → AnswersReady Rule mid new h g a b goes_on → Ends Rule handed old new h g a b [] goes_on
    Ends-ready new g b goes_on r = record {
      all = r.0 ∷ [];
      hands = last_hands (Some r.0) r.1;
      counts = Counts-from old mid new h g a b (r.0 ∷ []) goes_on summary settings r.2;
    }

    pub Breaks-ready : (g : History) (b : Option (List ℕ)) (command : Handed) → mid.splitter.to_hand_out ≡ Some command
        → BreaksOff mid.settings.stop (Rule mid.settings.steps) (command ∷ []) h g a b
        → Breaks Rule handed old h g a b []
    Breaks-ready g b command ready broken =
        record { all = command ∷ []; hands = last_hands (Some command) ready; breaks = rw (sym settings) broken }

    pub Ends-none : is_some mid.splitter.to_hand_out ≡ false → Ends Rule handed old mid h h a a [] true
    Ends-none none = record {
      all = [];
      hands = last_hands None (grind arith);
      counts = Counts-from old mid mid h h a a [] true summary settings (Counts-none mid h a);
    }

  -- ---- a turn

  -- a flush that failed
  pub Breaks-flush : (old : Running) (h : History) (a b : Option (List ℕ)) → Keeps a b
      → Breaks Rule completed old h h a b []
  Breaks-flush old h a b k = record {
    all = [];
    hands = λ framing x out s. ap (completed framing) (append-nil x) ∙ sym s.complete ∙ sym (append-nil out);
    breaks = BreaksOff-flush old.settings.stop (Rule old.settings.steps) [] h h a a b 0 0
        (Completes-none old.settings.stop (Rule old.settings.steps) h a) k;
  }

  Underway-after : (old new : Running) (h g : History) (a b c : Option (List ℕ)) (bytes rest : List ℕ) (goes_on : Bool)
      → Keeps a b → Underway Rule old new h g b c bytes rest goes_on →
      Underway Rule old new h g a c bytes rest goes_on
  Underway-after old new h g a b c bytes rest goes_on k u = record {
    taken = u.taken;
    all = u.all;
    commands = u.commands;
    after = u.after;
    counts = Counts-after old new h g a b c u.commands goes_on k u.counts;
    few = u.few;
  }

  -- a run that stopped
  module _ (old new : Running) (h g : History) (a b : Option (List ℕ)) (bytes rest : List ℕ)
      (u : Underway Rule old new h g a b bytes rest false) where
    Ends-stopped : Ends Rule handed old new h g a b bytes false
    Ends-stopped = record {
      all = u.commands ++ rest_of new.splitter.left rest;
      hands = rw u.all (hands_after old.splitter new.splitter u.taken rest u.commands u.after);
      counts = Counts-stopped old new h g a b u.commands _ u.counts;
    }

    Stops-stopped : Ends Rule completed old new h g a b bytes false
    Stops-stopped = record {
      all = u.commands ++ out_of new.splitter.left rest;
      hands = rw u.all (completed_after old.splitter new.splitter u.taken rest u.commands u.after);
      counts = Counts-stopped old new h g a b u.commands _ u.counts;
    }

  -- bytes that were read and answered
  pub turned : (goes_on : Bool) (old new : Running) (h g : History) (s t : Streams) (middle : Option (List ℕ))
      (bytes : List ℕ) (most : ℕ) → Calm s t → Consumes s.left t.left bytes →
      0 < length bytes → length bytes ≤ most → Keeps s.held middle
      → AnswersBytes Rule old new h g middle t.held bytes goes_on → TurnRight Rule (Ok goes_on) old new h g s t most
  turned true old new h g s t middle bytes most calm read some few k u =
      (calm, (bytes, read, some, few, Underway-after old new h g s.held middle t.held bytes [] true k u))
  turned false old new h g s t middle bytes most calm read some few k u =
      let under = Underway-after old new h g s.held middle t.held bytes u.0 false k u.1 in (
        calm,
        (
          bytes,
          read,
          (false, Ends-stopped old new h g s.held t.held bytes u.0 under),
          inr (Stops-stopped old new h g s.held t.held bytes u.0 under),
        ),
      )

  -- ---- how far a run has come

  -- this many turns after the start
  pub record Progress (old s : Running) (h g : History) (a b : Streams) (turns : ℕ) : Type 0 where
    pub script : List ℕ
    pub read : Consumes a.left b.left script
    pub done : List Handed
    pub stands : StandsAfter old.settings.framing script done s.splitter.left
    pub counts : Counts Rule done old s h g a.held b.held true
    pub few : length done ≤ length script
    pub least : turns ≤ length script
    pub most : length script ≤ PIECE * turns
    pub calm : Calm a b

  pub Progress-none : (s : Running) (h : History) (a : Streams) → StandsAfter s.settings.framing [] [] s.splitter.left
      → Progress s s h h a a 0
  Progress-none s h a fresh = record {
    script = [];
    read = Consumes-nil a.left;
    done = [];
    stands = fresh;
    counts = Counts-none s h a.held;
    few = omega arith;
    least = omega arith;
    most = omega arith;
    calm = (refl, refl);
  }

  pub Progress-more : (old s t : Running) (h g k : History) (a b c : Streams) (turns most : ℕ)
      → most ≡ PIECE → Progress old s h g a b turns → TurnRight Rule (Ok true) s t g k b c most →
      Progress old t h k a c (turns + 1)
  Progress-more old s t h g k a b c turns most e p (calm, (bytes, read, some, few, u)) =
      let all : bytes ≡ u.taken = u.all ∙ append-nil u.taken in
      record {
        script = p.script ++ bytes;
        read = Consumes-trans a.left b.left c.left p.script bytes p.read read;
        done = p.done ++ u.commands;
        stands = rw all (u.after old.settings.framing p.script p.done p.stands);
        counts = Counts-append old s s t h g k a.held b.held c.held p.done u.commands true p.counts refl refl u.counts;
        few = omega (arith, p.few, u.few, length-append p.done u.commands, length-append p.script bytes, ap length all);
        least = omega (arith, p.least, some, length-append p.script bytes);
        most = omega (arith, p.most, few, e, length-append p.script bytes);
        calm = (calm.0 ∙ p.calm.0, calm.1 ∙ p.calm.1);
      }

  -- ---- the end of a run

  module _ (old s : Running) (h g : History) (a b : Streams) (turns : ℕ) (p : Progress old s h g a b turns) where
    flushed : (c : Option (List ℕ)) → Keeps b.held c
        → Completes old.settings.stop (Rule old.settings.steps) p.done h g a.held c p.counts.yes p.counts.no
    flushed c held = Completes-by _ _ p.done h g a.held b.held a.held c p.counts.yes p.counts.no
        (λ bytes w. Appends-kept a.held b.held c bytes w held) p.counts.completes

    -- a turn that failed
    pub Progress-fault : (t : Running) (k : History) (c : Streams) (most : ℕ) (fault : RunFault)
        → TurnRight Rule (Err fault) s t g k b c most → RunRight Rule (Err fault) old.settings h k a c
    Progress-fault t k c most Read (count, writes, kept, same, held) = (
      omega (arith, count, p.calm.0),
      writes ∙ p.calm.1,
      record {
        part = p.script;
        read = Consumes-kept a.left b.left c.left p.script p.read kept;
        yes = p.counts.yes;
        no = p.counts.no;
        completes = rw (← p.stands.complete, same) (flushed c.held held);
        goes_on = p.counts.goes;
        long = omega arith;
      },
    )
    Progress-fault t k c most Write (count, reads, (bytes, read, broken)) = (
      omega (arith, count, p.calm.1),
      reads ∙ p.calm.0,
      record {
        part = p.script ++ bytes;
        read = Consumes-trans a.left b.left c.left p.script bytes p.read read;
        breaks = either broken;
      },
    )
      where
        broken_all : (which : Framing → List ℕ → List Handed) → Breaks Rule which s g k b.held c.held bytes
            → BreaksOff old.settings.stop (Rule old.settings.steps) (which old.settings.framing (p.script ++ bytes)) h k
            a.held c.held
        broken_all which broken = rw (broken.hands old.settings.framing p.script p.done p.stands)
            (BreaksOff-append old.settings.stop (Rule old.settings.steps) p.done broken.all h g k a.held b.held c.held
            p.counts.yes p.counts.no p.counts.goes p.counts.completes
            (rw (sym p.counts.settings) broken.breaks))

        either : Breaks Rule completed s g k b.held c.held bytes
            ⊎ (IsAtEnd c.left × Breaks Rule handed s g k b.held c.held bytes)
            → BreaksOff old.settings.stop (Rule old.settings.steps)
            (completed old.settings.framing (p.script ++ bytes)) h k a.held c.held
            ⊎ (IsAtEnd c.left × BreaksOff old.settings.stop (Rule old.settings.steps)
            (handed old.settings.framing (p.script ++ bytes)) h k a.held c.held)
        either (inl broken) = inl (broken_all completed broken)
        either (inr broken) = inr (broken.0, broken_all handed broken.1)
    Progress-fault t k c most Turns r = absurd r
    Progress-fault t k c most Memory r = absurd r

    -- a flush that failed after the last turn
    pub Progress-unflushed : (c : Streams) → b.left ≡ c.left → Keeps b.held c.held → c.write_failures
        ≡ b.write_failures + 1 → c.read_failures ≡ b.read_failures → RunRight Rule (Err Write) old.settings h g a c
    Progress-unflushed c read held count reads = (
      omega (arith, count, p.calm.1),
      reads ∙ p.calm.0,
      record {
        part = p.script;
        read = rw (← read) p.read;
        breaks = inl (rw (← p.stands.complete)
            (BreaksOff-flush old.settings.stop (Rule old.settings.steps) p.done h g a.held b.held c.held p.counts.yes
            p.counts.no p.counts.completes held));
      },
    )

    -- the bound on reads
    pub Progress-bound : (c : Streams) → MAX_READS ≤ turns → b.left ≡ c.left → Keeps b.held c.held → Calm b c
        → RunRight Rule (Err Turns) old.settings h g a c
    Progress-bound c bound read held calm = (
      (calm.0 ∙ p.calm.0, calm.1 ∙ p.calm.1),
      record {
        part = p.script;
        read = rw (← read) p.read;
        yes = p.counts.yes;
        no = p.counts.no;
        completes = rw (← p.stands.complete) (flushed c.held held);
        goes_on = p.counts.goes;
        long = omega (arith, bound, p.least);
      },
    )

    -- the last turn, and what a flush does after it
    module _ (t : Running) (k : History) (c d : Streams) (most : ℕ) (r : TurnRight Rule (Ok false) s t g k b c most)
        (read : c.left ≡ d.left) (held : Keeps c.held d.held) where
      abbrev script : List ℕ
      script = p.script ++ r.1.0

      all_read : Consumes a.left d.left script
      all_read = rw (← read) (Consumes-trans a.left b.left c.left p.script r.1.0 p.read r.1.1)

      -- all commands of the script, or those that are complete
      module _ (which : Framing → List ℕ → List Handed) (goes_on : Bool)
          (e : Ends Rule which s t g k b.held c.held r.1.0 goes_on) where
        counted : Counts Rule (p.done ++ e.all) old t h k a.held c.held goes_on
        counted = Counts-append old s s t h g k a.held b.held c.held p.done e.all goes_on p.counts refl refl e.counts

        handed_is : which old.settings.framing script ≡ p.done ++ e.all
        handed_is = e.hands old.settings.framing p.script p.done p.stands

        all_counted : old.summary.accepted
            ≡ 0 → old.summary.refused ≡ 0 → Completes old.settings.stop (Rule old.settings.steps)
            (which old.settings.framing script) h k a.held d.held t.summary.accepted t.summary.refused
        all_counted zero_accepted zero_refused =
            let accepted : t.summary.accepted ≡ counted.yes = omega (arith, counted.accepted, zero_accepted) in
            let refused : t.summary.refused ≡ counted.no = omega (arith, counted.refused, zero_refused) in
            rw handed_is (rw (sym accepted, sym refused) at
            (Completes-by _ _ (p.done ++ e.all) h k a.held c.held a.held d.held counted.yes counted.no
            (λ bytes w. Appends-kept a.held c.held d.held bytes w held) counted.completes))

      pub Progress-last-unflushed : d.write_failures
          ≡ c.write_failures + 1 → d.read_failures ≡ c.read_failures → RunRight Rule (Err Write) old.settings h k a d
      Progress-last-unflushed count reads = (
        omega (arith, count, r.0.1, p.calm.1),
        reads ∙ r.0.0 ∙ p.calm.0,
        record {
          part = script;
          read = all_read;
          breaks = either r.1.3;
        },
      )
        where
          broken_all : (which : Framing → List ℕ → List Handed) (goes_on : Bool)
              → Ends Rule which s t g k b.held c.held r.1.0 goes_on → BreaksOff old.settings.stop
              (Rule old.settings.steps) (which old.settings.framing script) h k a.held d.held
          broken_all which goes_on ends =
              let whole = counted which goes_on ends in
              rw (handed_is which goes_on ends) (BreaksOff-flush old.settings.stop (Rule old.settings.steps)
              (p.done ++ ends.all) h k a.held c.held d.held whole.yes whole.no whole.completes held)

          either : IsAtEnd c.left ⊎ Ends Rule completed s t g k b.held c.held r.1.0 false
              → BreaksOff old.settings.stop (Rule old.settings.steps) (completed old.settings.framing script) h k
              a.held d.held
              ⊎ (IsAtEnd d.left × BreaksOff old.settings.stop (Rule old.settings.steps)
              (handed old.settings.framing script) h k a.held d.held)
          either (inl end) = inr (rw (← read) end, broken_all handed r.1.2.0 r.1.2.1)
          either (inr ends) = inl (broken_all completed false ends)

      pub Progress-last : old.summary.accepted ≡ 0 → old.summary.refused ≡ 0 → Calm c d
          → RunRight Rule (Ok t.summary) old.settings h k a d
      Progress-last zero_accepted zero_refused calm = (
        (calm.0 ∙ r.0.0 ∙ p.calm.0, calm.1 ∙ r.0.1 ∙ p.calm.1),
        record {
          script = script;
          read = all_read;
          completes = all_counted handed r.1.2.0 r.1.2.1 zero_accepted zero_refused;
          end = end r.1.3;
        },
      )
        where
          end : IsAtEnd c.left ⊎ Ends Rule completed s t g k b.held c.held r.1.0 false →
              IsAtEnd d.left ⊎ ((old.settings.stop ≡ true) × (0 < t.summary.refused) × Completes old.settings.stop
              (Rule old.settings.steps) (completed old.settings.framing script) h k a.held d.held t.summary.accepted
              t.summary.refused)
          end (inl e) = inl (rw (← read) e)
          end (inr e) = let whole = counted completed false e in inr (
            whole.goes.0,
            omega (arith, whole.goes.1, whole.refused),
            all_counted completed false e zero_accepted zero_refused,
          )

  pub turn_is : (x y : Bool) (s t : Running) (g k : History) (b c : Streams) (most : ℕ)
      → x ≡ y → TurnRight Rule (Ok x) s t g k b c most → TurnRight Rule (Ok y) s t g k b c most
  turn_is x y s t g k b c most e r = rw (← e) r
