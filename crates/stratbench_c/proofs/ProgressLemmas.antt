-- How far a script has come.
use Rattle.std.proofs.Common.{◌≡◌, ◌<◌, ◌+◌, ◌&&◌, ℕ, Bool, true, false, not, cond, List, [], ◌∷◌, ◌++◌, Some, None, is_some, Ok, Err, refl, sym, ap, ◌∙◌, subst, append_assoc, append-nil, length, length-append, take, drop, take-append-drop, arith}
use Rattle.std.specs.declared.option.Option.{Option}
use Rattle.std.specs.Option.{option_to_list}
use Rattle.std.specs.Prelude.{is_ok, is_err, count_by}
use Rattle.std.proofs.lemmas.List.Concat.{flat_map-append}
use Rattle.std.proofs.lemmas.List.Sums.{sum_by-append}
use Rattle.prim_extended.specs.Extended.{extended}
use Rattle.session_history.specs.History.{History}
use Rattle.script_text.specs.declared.framing.Framing.{Framing}
use Rattle.script_text.specs.declared.splitter.Fed.TheVariants.{Need, Command}
use Rattle.script_text.specs.declared.splitter.Unfinished.{Unfinished}
use Rattle.script_text.specs.Handed.{Handed, handed}
use Rattle.script_text.specs.Splitting.{StandsAfter, rest_of}
use Rattle.script_text.specs.Split.{Split}
use Rattle.script_text.specs.FedRight.{FedRight}
use Rattle.script_text.specs.Replies.{Reply, Replying, history_after, written}
use Rattle.script_text.specs.Answer.{Answered, ReplyInRun}
use Rattle.script_text.specs.Run.{Replied, out}
use Rattle.script_text.specs.inside.Counting.{one_if}
use Rattle.stratbench_c.specs.declared.answers.Unanswered.{Unanswered}
use Rattle.stratbench_c.specs.declared.answers.Unanswered.TheVariants.{Memory, Stopped}
use Rattle.stratbench_c.specs.Status.{HasCause, ended_by, status_of}
use Rattle.stratbench_c.specs.declared.bench.Work.{Work}
use Rattle.stratbench_c.specs.Runs.{Adds, AnswersAll, AnswersSome, Ran, ends_from}

-- all are accepted, or some are refused
abbrev pub CountsRefused : Bool → ℕ → Type 0
CountsRefused true n = n ≡ 0
CountsRefused false n = 0 < n

counts_next : (accepted verdict : Bool) (n : ℕ) → CountsRefused accepted n
    → CountsRefused (accepted && verdict) (n + one_if (not verdict))
counts_next true true n p = omega (arith, p)
counts_next true false n p = omega arith
counts_next false true n p = omega (arith, p)
counts_next false false n p = omega arith

-- ---- one reply more

replied_more : (Rule : Replying) (commands : List Handed) (command : Handed) (h g : History) (flags : List Bool)
    (flag : Bool) (replies : List Reply) (reply : Reply) → Replied false Rule commands flags h replies g →
    Rule command flag g reply → Replied false Rule (commands ++ command ∷ []) (flags ++ flag ∷ []) h
    (replies ++ reply ∷ []) (history_after g reply)
replied_more Rule [] command h g [] flag [] reply p q =
    subst (λ (x : History). Rule command flag x reply × (history_after g reply ≡ history_after x reply)) p (q, refl)
replied_more Rule (c ∷ commands) command h g (f ∷ flags) flag (r ∷ replies) reply p q =
    (p.0, replied_more Rule commands command (history_after h r) g flags flag replies reply p.1 q)
replied_more Rule commands command h g flags flag replies reply p q = absurd p

out_more : (replies : List Reply) (reply : Reply) → out (replies ++ reply ∷ []) ≡ out replies ++ written reply
out_more replies reply =
    flat_map-append written replies (reply ∷ []) ∙ ap (λ (xs : List ℕ). out replies ++ xs) (append-nil (written reply))

ends_more : (at : ℕ) (replies : List Reply) (reply : Reply) → ends_from at (replies ++ reply ∷ []) ≡ ends_from at
    replies ++ (at + length (out replies) + length (written reply)) ∷ []
ends_more at [] reply = let e : at + length (written reply) ≡ at + 0 + length (written reply) = omega arith in
    ap (λ (n : ℕ). n ∷ []) e
ends_more at (r ∷ replies) reply =
    let end : ℕ = at + length (written r) in
    let e : end + length (out replies) + length (written reply)
    ≡ at + length (out (r ∷ replies)) + length (written reply) =
    omega (arith, length-append (written r) (out replies)) in
    ap (λ (ns : List ℕ). end ∷ ns) (ends_more end replies reply ∙ ap (λ (n : ℕ). ends_from end replies ++ n ∷ []) e)

counted_more : (replies : List Reply) (reply : Reply) (verdict : Bool) → verdict ≡ is_ok reply
    → count_by is_err (replies ++ reply ∷ []) ≡ count_by is_err replies + one_if (not verdict)
counted_more replies reply verdict e = sum_by-append (λ r. cond (is_err r) 1 0) replies
    (reply ∷ []) ∙ ap (λ (n : ℕ). count_by is_err replies + n) (one reply e)
  where
    one : (r : Reply) → verdict ≡ is_ok r → count_by is_err (r ∷ []) ≡ one_if (not verdict)
    one r e = grind arith

-- These commands are answered.
pub record Whole (Rule : Replying) (commands : List Handed) (h g : History) (answers ends : List ℕ)
    (accepted : Bool) : Type 0 where
  pub no : ℕ
  pub all : AnswersAll Rule commands h g answers ends no
  pub counts : CountsRefused accepted no

Whole-more : (Rule : Replying) (commands : List Handed) (command : Handed) (h g k : History)
    (answers sent ends now : List ℕ) (accepted verdict : Bool) → Whole Rule commands h g answers ends accepted →
    Adds Rule command g k answers sent verdict
    → now ≡ ends ++ length sent ∷ [] → Whole Rule (commands ++ command ∷ []) h k sent now (accepted && verdict)
Whole-more Rule commands command h g k answers sent ends now accepted verdict w a e =
    let given = a.answered in
    let written_now : sent ≡ out w.all.replies ++ written given.reply = a.added
    ∙ ap (λ (xs : List ℕ). xs ++ a.answer) w.all.written
    ∙ ap (λ (xs : List ℕ). out w.all.replies ++ xs) given.written in
    let end : length sent ≡ 0 + length (out w.all.replies) + length (written given.reply) =
    omega (arith, ap length written_now, length-append (out w.all.replies) (written given.reply)) in
    record {
      no = w.no + one_if (not verdict);
      all = record {
        flags = w.all.flags ++ given.flag ∷ [];
        replies = w.all.replies ++ given.reply ∷ [];
        replied = subst
            (λ (x : History). Replied false Rule (commands ++ command ∷ []) (w.all.flags ++ given.flag ∷ []) h
            (w.all.replies ++ given.reply ∷ []) x) (sym given.history)
            (replied_more Rule commands command h g w.all.flags given.flag w.all.replies given.reply w.all.replied
            given.replied);
        written = written_now ∙ sym (out_more w.all.replies given.reply);
        ended = e ∙ ap (λ (ns : List ℕ). ns ++ length sent ∷ []) w.all.ended
            ∙ ap (λ (n : ℕ). ends_from 0 w.all.replies ++ n ∷ []) end ∙ sym (ends_more 0 w.all.replies given.reply);
        counted = ap (λ (n : ℕ). n + one_if (not verdict)) w.all.counted
            ∙ sym (counted_more w.all.replies given.reply verdict given.accepted);
      };
      counts = counts_next accepted verdict w.no w.counts;
    }

-- what a script does to a session whose commands are all answered
whole_ran : (framing : Framing) (steps : ℕ) (script : List ℕ) (old new : Work) (accepted : Bool)
    → Whole (ReplyInRun extended steps) (handed framing script) old.session new.session new.answers new.ends.items
    accepted →
    Ran framing steps script (status_of accepted) old new
whole_ran framing steps script old new true w =
    subst (λ (n : ℕ). AnswersAll (ReplyInRun extended steps) (handed framing script) old.session new.session new.answers
    new.ends.items n) w.counts w.all
whole_ran framing steps script old new false w = (w.no, w.counts, w.all)

-- A command isn't answered. Only where there is a stop is it left out for that.
pub some_ran : (framing : Framing) (steps : ℕ) (script : List ℕ) (old new : Work) (why : Unanswered)
    → HasCause why (is_some old.stop) →
    AnswersSome (ReplyInRun extended steps) (handed framing script) old.session new.session new.answers new.ends.items
    → Ran framing steps script (ended_by why) old new
some_ran framing steps script old new Memory cause some = some
some_ran framing steps script old new Stopped cause some = (cause, some)

-- A refused command leaves the session as it was.
pub refused_stays : (Rule : Replying) (command : Handed) (old new : History) (answer : List ℕ) (accepted : Bool)
    → accepted ≡ false → Answered Rule command old new answer accepted → new ≡ old
refused_stays Rule command old new answer accepted refused a = stays a.reply a.history (sym a.accepted ∙ refused)
  where
    stays : (reply : Reply) → new ≡ history_after old reply → is_ok reply ≡ false → new ≡ old
    stays (Ok it) after e = absurd (cc)
    stays (Err refusal) after e = after

-- The script but for the rest is taken, and the commands that it completes are answered.
pub record Progress (framing : Framing) (Rule : Replying) (script rest : List ℕ) (h g : History) (answers ends : List ℕ)
    (accepted : Bool) (left : Unfinished) : Type 0 where
  pub taken : List ℕ
  pub all : script ≡ taken ++ rest
  pub commands : List Handed
  pub stands : StandsAfter framing taken commands left
  pub whole : Whole Rule commands h g answers ends accepted

pub Progress-none : (framing : Framing) (Rule : Replying) (script : List ℕ) (h : History) (answers ends : List ℕ)
    (left : Unfinished) → StandsAfter framing [] [] left → answers ≡ [] → ends ≡ [] →
    Progress framing Rule script script h h answers ends true left
Progress-none framing Rule script h answers ends left stands none no_ends = record {
  taken = [];
  all = refl;
  commands = [];
  stands = stands;
  whole = record {
    no = 0;
    all = record { flags = []; replies = []; replied = refl; written = none; ended = no_ends; counted = refl };
    counts = refl;
  };
}

-- The splitter hands out one more command.
module _ (framing : Framing) (Rule : Replying) (script rest : List ℕ) (h g : History) (answers ends : List ℕ)
    (accepted : Bool) (old new : Split) (n : ℕ)
    (p : Progress framing Rule script rest h g answers ends accepted old.left)
    (fed : FedRight (Command n) old new rest) where
  stands_next : StandsAfter framing (p.taken ++ take n rest) (p.commands ++ fed.2 ∷ []) new.left
  stands_next = fed.4 framing p.taken p.commands p.stands

  script_is : (after : List ℕ) → after ≡ drop n rest → script ≡ (p.taken ++ take n rest) ++ after
  script_is after e =
      p.all ∙ ap (λ (xs : List ℕ). p.taken ++ xs) (sym (take-append-drop n rest)
      ∙ ap (λ (xs : List ℕ). take n rest ++ xs) (sym e)) ∙ sym (append_assoc p.taken (take n rest) after)

  pub Progress-more : (after : List ℕ) (command : Handed) (k : History) (sent now : List ℕ) (verdict : Bool)
      → after ≡ drop n rest → new.to_hand_out ≡ Some command → Adds Rule command g k answers sent verdict →
      now ≡ ends ++ length sent ∷ [] → Progress framing Rule script after h k sent now (accepted && verdict) new.left
  Progress-more after command k sent now verdict e ready a ended =
      let is : fed.2 ≡ command = cc in
      record {
        taken = p.taken ++ take n rest;
        all = script_is after e;
        commands = p.commands ++ command ∷ [];
        stands = subst (λ (c : Handed). StandsAfter framing (p.taken ++ take n rest) (p.commands ++ c ∷ []) new.left) is
            stands_next;
        whole = Whole-more Rule p.commands command h g k answers sent ends now accepted verdict p.whole a ended;
      }

  -- Memory couldn't grow for its answer.
  pub Progress-cut : (k : History) (kept now : List ℕ)
      → k ≡ g → kept ≡ answers → now ≡ ends → AnswersSome Rule (handed framing script) h k kept now
  Progress-cut k kept now same_history same_answers same_ends = record {
    first = p.commands;
    others = fed.2 ∷ rest_of new.left (drop n rest);
    all = ap (handed framing) (script_is (drop n rest) refl) ∙ stands_next.rest (drop n rest)
        ∙ append_assoc p.commands (fed.2 ∷ []) (rest_of new.left (drop n rest));
    some = omega arith;
    refused = p.whole.no;
    answered = rw (same_history, same_answers, same_ends) p.whole.all;
  }

-- The script is at its end, and this is the splitter then.
module _ (framing : Framing) (steps : ℕ) (script rest : List ℕ) (begun : Work) (g : History) (answers ends : List ℕ)
    (accepted : Bool) (before mid end : Split)
    (p : Progress framing (ReplyInRun extended steps) script rest begun.session g answers ends accepted before.left)
    (fed : FedRight Need before mid rest)
    (all : (framing : Framing) (x : List ℕ) (out : List Handed) → StandsAfter framing x out mid.left
    → handed framing x ≡ out ++ option_to_list end.to_hand_out) where
  commands_are : (last : Option Handed)
      → end.to_hand_out ≡ last → handed framing script ≡ p.commands ++ option_to_list last
  commands_are last e =
      ap (handed framing) p.all
      ∙ all framing (p.taken ++ rest) (p.commands ++ []) (fed framing p.taken p.commands p.stands)
      ∙ ap (λ (o : Option Handed). (p.commands ++ []) ++ option_to_list o) e
      ∙ ap (λ (cs : List Handed). cs ++ option_to_list last) (append-nil p.commands)

  none_is : is_some end.to_hand_out ≡ false → end.to_hand_out ≡ None
  none_is e = grind arith

  pub Progress-end : (new : Work) → new.session ≡ g → new.answers ≡ answers → new.ends.items ≡ ends
      → is_some end.to_hand_out ≡ false → Ran framing steps script (status_of accepted) begun new
  Progress-end new same_history same_answers same_ends none =
      whole_ran framing steps script begun new accepted (rw (same_history, same_answers, same_ends)
      (subst (λ (cs : List Handed). Whole (ReplyInRun extended steps) cs begun.session g answers ends accepted)
      (sym (commands_are None (none_is none) ∙ append-nil p.commands)) p.whole))

  module _ (command : Handed) (ready : end.to_hand_out ≡ Some command) where
    pub Progress-last : (new : Work) (verdict : Bool) → Adds (ReplyInRun extended steps) command g new.session answers
        new.answers verdict → new.ends.items ≡ ends ++ length new.answers ∷ [] →
        Ran framing steps script (status_of (accepted && verdict)) begun new
    Progress-last new verdict a ended =
        whole_ran framing steps script begun new (accepted && verdict)
        (subst (λ (cs : List Handed). Whole (ReplyInRun extended steps) cs begun.session new.session new.answers
        new.ends.items (accepted && verdict)) (sym (commands_are (Some command) ready))
        (Whole-more (ReplyInRun extended steps) p.commands command begun.session g new.session answers new.answers ends
        new.ends.items accepted verdict p.whole a ended))

    pub Progress-last-cut : (k : History) (kept now : List ℕ) → k ≡ g → kept ≡ answers → now ≡ ends
        → AnswersSome (ReplyInRun extended steps) (handed framing script) begun.session k kept now
    Progress-last-cut k kept now same_history same_answers same_ends = record {
      first = p.commands;
      others = command ∷ [];
      all = commands_are (Some command) ready;
      some = omega arith;
      refused = p.whole.no;
      answered = rw (same_history, same_answers, same_ends) p.whole.all;
    }
