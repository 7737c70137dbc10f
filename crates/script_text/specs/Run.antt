-- What a run of a script writes, and the history afterwards.
use Rattle.std.specs.Prelude.{◌≡◌, ◌<◌, ◌≤◌, ◌⊎◌, ◌&&◌, ℕ, Bool, true, List, [], ◌∷◌, ◌++◌, length, count_by, is_ok, is_err}
use Rattle.std.specs.declared.option.Option.{Option}
use Rattle.std.specs.Bool.{MatchBool}
use Rattle.std.specs.List.{flat_map}
use Rattle.std.specs.Io.KnownBytes.{Appends, Consumes, IsAtEnd}
use Rattle.session_history.specs.History.{History}
use Rattle.script_text.specs.declared.framing.Framing.{Framing}
use Rattle.script_text.specs.Handed.{Handed, handed, completed}
use Rattle.script_text.specs.Replies.{Reply, Replying, history_after, written}

-- The replies to commands in order, each at the history that the one before leaves; g is the last
-- history. The flag of each says whether memory couldn't grow. If a refusal stops the run, nothing
-- after it is replied to.
abbrev pub Replied : Bool → Replying → List Handed → List Bool → History → List Reply → History → Type 0
Replied stop Rule [] [] h [] g = g ≡ h
Replied stop Rule (command ∷ commands) (flag ∷ flags) h (reply ∷ replies) g =
    Rule command flag h reply
    × MatchBool (stop && is_err reply) ((flags ≡ []) × (replies ≡ []) × (g ≡ history_after h reply))
    (Replied stop Rule commands flags (history_after h reply) replies g)
Replied stop Rule commands flags h replies g = ⊥

-- all answers, one after the other
abbrev pub out : List Reply → List ℕ
out replies = flat_map written replies

-- the last answer, or nothing if there is none
abbrev pub last_answer : List Reply → List ℕ
last_answer [] = []
last_answer (reply ∷ []) = written reply
last_answer (reply ∷ next ∷ replies) = last_answer (next ∷ replies)

-- The commands are answered, which leads from the history h to g, and their answers written: this
-- many were accepted, and this many refused. What is written is known if the writer's bytes are.
pub record Completes (stop : Bool) (Rule : Replying) (commands : List Handed) (h g : History)
    (old new : Option (List ℕ)) (yes no : ℕ) : Type 0 where
  pub flags : List Bool
  pub replies : List Reply
  pub replied : Replied stop Rule commands flags h replies g
  pub written : Appends old new (out replies)
  pub accepted : yes ≡ count_by is_ok replies
  pub refused : no ≡ count_by is_err replies

-- A prefix of these bytes is written, and the rest is lost.
pub record WritesFront (old new : Option (List ℕ)) (bytes lost : List ℕ) : Type 0 where
  pub kept : List ℕ
  pub all : bytes ≡ kept ++ lost
  pub written : Appends old new kept

-- Only the first commands are answered. Their answers are written, except perhaps for a suffix of
-- the last.
pub record BreaksOff (stop : Bool) (Rule : Replying) (commands : List Handed) (h g : History)
    (old new : Option (List ℕ)) : Type 0 where
  pub first : List Handed
  pub others : List Handed
  pub split : commands ≡ first ++ others
  pub flags : List Bool
  pub replies : List Reply
  pub replied : Replied stop Rule first flags h replies g
  pub lost : List ℕ
  pub written : WritesFront old new (out replies) lost
  pub front : List ℕ
  pub last : last_answer replies ≡ front ++ lost

-- ---- whole runs, given what was read; if the reader's bytes aren't known, that is some text

-- The script is answered, and was read to its end; or the run stopped at the refusal of a command
-- that is complete in what was read.
pub record Answers (framing : Framing) (stop : Bool) (Rule : Replying) (h g : History)
    (left left' held held' : Option (List ℕ)) (yes no : ℕ) : Type 0 where
  pub script : List ℕ
  pub read : Consumes left left' script
  pub completes : Completes stop Rule (handed framing script) h g held held' yes no
  pub end : IsAtEnd left'
      ⊎ ((stop ≡ true) × (0 < no) × Completes stop Rule (completed framing script) h g held held' yes no)

-- A prefix of the script was read, of at least this many bytes, and its complete commands are
-- answered; the run didn't stop.
pub record AnswersPart (framing : Framing) (stop : Bool) (Rule : Replying) (h g : History)
    (left left' held held' : Option (List ℕ)) (least : ℕ) : Type 0 where
  pub part : List ℕ
  pub read : Consumes left left' part
  pub yes : ℕ
  pub no : ℕ
  pub completes : Completes stop Rule (completed framing part) h g held held' yes no
  pub goes_on : stop ≡ true → no ≡ 0
  pub long : least ≤ length part

-- A prefix of the script was read, and the first of its complete commands are answered; at the end of
-- the script its last command is complete, too.
pub record AnswersFirst (framing : Framing) (stop : Bool) (Rule : Replying) (h g : History)
    (left left' held held' : Option (List ℕ)) : Type 0 where
  pub part : List ℕ
  pub read : Consumes left left' part
  pub breaks : BreaksOff stop Rule (completed framing part) h g held held'
      ⊎ (IsAtEnd left' × BreaksOff stop Rule (handed framing part) h g held held')
