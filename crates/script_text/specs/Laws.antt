-- Laws of runs.
use Rattle.std.specs.Prelude.{◌≡◌, ◌≤◌, ℕ, ◌+◌, Bool, true, false, List, [], length, drop, map, codes, None, Ok, Err, IfSome, count_by, is_ok, is_err}
use Rattle.std.specs.List.{AllByRecursion, repeat, slice_split, prefix_len, suffix_len}
use Rattle.std.specs.FinMap as finmap
use Rattle.term_core.specs.declared.TheConstants.{MAX_SIZE}
use Rattle.aterm_text.specs.Tokens.{is_blank}
use Rattle.strategy_check.specs.Faults.{Primitives}
use Rattle.term_changes.specs.Contents.{Contents, no_contents}
use Rattle.session_history.specs.Applying.{Meaning}
use Rattle.session_history.specs.History.{History, AreSound}
use Rattle.session_history.specs.Dump.{dumped, AreNamedTerms}
use Rattle.script_text.specs.declared.TheConstants.{MAX_COMMAND}
use Rattle.script_text.specs.declared.framing.Framing.{Framing}
use Rattle.script_text.specs.declared.framing.Framing.TheVariants.{Continued, Lines}
use Rattle.script_text.specs.Script.{is_line_feed, is_carriage_return, begins_command, commands}
use Rattle.script_text.specs.Handed.{Handed, handed}
use Rattle.script_text.specs.Replies.{Accepted, Reply, line}
use Rattle.script_text.specs.Answer.{ReplyInRun}
use Rattle.script_text.specs.Run.{Replied, out}

-- The commands, the flags and the history before them determine the replies, and so everything that
-- is written and the history after them, given the meaning of primitives.
abbrev pub OneRun : Type 0
OneRun =
    (meaning : Meaning) (stop : Bool) (budget : ℕ) (commands : List Handed) (flags : List Bool) (h g k : History)
    (replies others : List Reply) → Replied stop (ReplyInRun meaning budget) commands flags h replies g
    → Replied stop (ReplyInRun meaning budget) commands flags h others k → (replies ≡ others) × (g ≡ k)

-- ---- limits

-- No command changes the limits of a session, nor its primitives.
abbrev pub LimitsAreKept : Type 0
LimitsAreKept =
    (meaning : Meaning) (stop : Bool) (budget : ℕ) (commands : List Handed) (flags : List Bool) (h g : History)
    (replies : List Reply) → Replied stop (ReplyInRun meaning budget) commands flags h replies g
    → (g.limits ≡ h.limits) × (g.primitives ≡ h.primitives)

-- the history with limits that are greater by this many terms, steps and tokens
abbrev pub raised : ℕ → ℕ → ℕ → History → History
raised terms steps tokens h =
    record h {
      limits = record {
        max_terms = h.limits.max_terms + terms;
        max_steps = h.limits.max_steps + steps;
        max_tokens = h.limits.max_tokens + tokens;
      };
    }

-- the same answer, and such a history after it
abbrev pub raised_accepted : ℕ → ℕ → ℕ → Accepted → Accepted
raised_accepted terms steps tokens a = record a { history = raised terms steps tokens a.history }

abbrev pub raised_reply : ℕ → ℕ → ℕ → Reply → Reply
raised_reply terms steps tokens (Ok a) = Ok (raised_accepted terms steps tokens a)
raised_reply terms steps tokens (Err refusal) = Err refusal

-- A run in which every command is accepted has the same answers with greater limits, and leads to the
-- same trees, modules and steps.
abbrev pub GreaterLimitsAnswerTheSame : Type 0
GreaterLimitsAnswerTheSame =
    (meaning : Meaning) (stop : Bool) (budget : ℕ) (commands : List Handed) (flags : List Bool) (h g : History)
    (replies : List Reply) (terms steps tokens : ℕ) → AllByRecursion (λ reply. is_ok reply ≡ true) replies
    → Replied stop (ReplyInRun meaning budget) commands flags h replies g
    → Replied stop (ReplyInRun meaning budget) commands flags (raised terms steps tokens h)
    (map (raised_reply terms steps tokens) replies) (raised terms steps tokens g)
    × (out (map (raised_reply terms steps tokens) replies) ≡ out replies)

-- ---- dumps

-- The lines of a command after its first: none of them begins a command; or there are none.
abbrev pub GoOn : Framing → List (List ℕ) → Type 0
GoOn Continued others = AllByRecursion (λ line. begins_command line ≡ false) others
GoOn Lines others = others ≡ []

-- A module text that a command can give: it neither begins nor ends with white space, no line of it
-- ends with a carriage return, and its lines go on.
pub record IsCommandText (framing : Framing) (text : List ℕ) : Type 0 where
  pub front : prefix_len is_blank text ≡ 0
  pub end : suffix_len is_blank text ≡ 0
  pub lines : AllByRecursion (λ line. suffix_len is_carriage_return line ≡ 0)
      (slice_split is_line_feed text)
  pub goes_on : GoOn framing (drop 1 (slice_split is_line_feed text))

-- Contents that a script can restore in a session with these primitives, whose modules may have so many tokens: their
-- names are labels and their trees terms, they are sound, a command can give each module text, and no command of their
-- dump is longer than 65,536 bytes.
pub record CanBeGiven (framing : Framing) (most : ℕ) (primitives : Primitives) (c : Contents) : Type 0 where
  pub named : AreNamedTerms c
  pub sound : AreSound primitives most c
  pub texts : (name : List ℕ) → IfSome (finmap.get c.modules name) (IsCommandText framing)
  pub short : AllByRecursion (λ command. length command ≤ MAX_COMMAND) (commands framing (dumped c))

-- The current contents are empty, no group is open, and there is at least the room of the default.
pub record IsBare (h : History) : Type 0 where
  pub contents : h.now ≡ no_contents
  pub group : h.group ≡ None
  pub room : MAX_SIZE ≤ h.limits.max_terms

-- memory could grow in all of the commands
abbrev pub AreClear : List Bool → Type 0
AreClear flags = AllByRecursion (λ flag. flag ≡ false) flags

-- The current contents are c, and the answer to each command of the dump is `ok`.
pub record GivesAgain (framing : Framing) (c : Contents) (g : History) (replies : List Reply) : Type 0 where
  pub contents : g.now ≡ c
  pub answers : out replies ≡ repeat (length (commands framing (dumped c))) (line (codes "ok"))
  pub accepted : count_by is_ok replies ≡ length (commands framing (dumped c))
  pub refused : count_by is_err replies ≡ 0

-- A dump reads back: on a session with empty contents, whatever its settings, it restores the same
-- contents.
abbrev pub DumpReadsBack : Type 0
DumpReadsBack =
    (meaning : Meaning) (framing : Framing) (stop : Bool) (budget : ℕ) (c : Contents) (h g : History)
    (flags : List Bool)
    (replies : List Reply) → CanBeGiven framing h.limits.max_tokens h.primitives c → IsBare h → AreClear flags
    → Replied stop (ReplyInRun meaning budget) (handed framing (dumped c)) flags h replies g
    → GivesAgain framing c g replies

-- Such a run exists on each such session: the dump is answered, and memory can grow in all its
-- commands.
abbrev pub DumpIsAnswered : Type 0
DumpIsAnswered =
    (meaning : Meaning) (framing : Framing) (stop : Bool) (budget : ℕ) (c : Contents) (h : History)
    → CanBeGiven framing h.limits.max_tokens h.primitives c → IsBare h
    → (flags : List Bool) × (replies : List Reply) × (g : History)
    × AreClear flags × Replied stop (ReplyInRun meaning budget) (handed framing (dumped c)) flags h replies g
