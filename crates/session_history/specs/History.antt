-- What a session holds: the current contents, those from before each step, those that were undone,
-- and the open group.
use Rattle.std.specs.Prelude.{◌≡◌, ◌≤◌, ℕ, zero, suc, Bool, true, List, [], ◌∷◌, Some, None, IfSome, option_and_then}
use Rattle.std.specs.declared.option.Option.{Option}
use Rattle.std.specs.Option.{option_map_or}
use Rattle.std.specs.Bool.{OnFalse}
use Rattle.std.specs.List.{AllByRecursion}
use Rattle.std.specs.FinMap as finmap
use Rattle.term_core.specs.Size.{height}
use Rattle.term_core.specs.declared.TheConstants.{MAX_HEIGHT, MAX_SIZE}
use Rattle.prim_core.specs.Signature.{Signature}
use Rattle.strategy_tokens.specs.declared.TheConstants.{MAX_TOKENS}
use Rattle.term_core.specs.Tree.{Tree}
use Rattle.term_changes.specs.Contents.{Contents, Named, no_contents}
use Rattle.strategy_check.specs.Faults.{Primitives}
use Rattle.session_modules.specs.Modules.{AreReadable, Finds}
use Rattle.session_history.specs.declared.TheConstants.{MAX_BUDGET}
use Rattle.session_history.specs.declared.limits.Limits.{Limits}

-- An open group: the contents where it began, and whether a change was accepted since.
pub record HistoryGroup : Type 0 where
  pub begun : Contents
  pub changed : Bool

-- The primitives of the session and its limits; the contents from before each step, the newest
-- first; the current contents; those that were undone, the nearest first; and the open group, if
-- there is one.
pub record History : Type 0 where
  pub primitives : List Signature
  pub limits : Limits
  pub past : List Contents
  pub now : Contents
  pub later : List Contents
  pub group : Option HistoryGroup

-- room for 100,000 terms, budgets of up to 1,000,000 steps, and modules of up to 4,000 tokens
abbrev pub default_limits : Limits
default_limits = record { max_terms = MAX_SIZE; max_steps = MAX_BUDGET; max_tokens = MAX_TOKENS }

-- a new session with these limits and primitives
abbrev pub empty_within : Limits → List Signature → History
empty_within limits primitives =
    record { primitives = primitives; limits = limits; past = []; now = no_contents; later = []; group = None }

-- a new session with these primitives
abbrev pub empty_history : List Signature → History
empty_history = empty_within default_limits

-- One more step, from these contents to the current ones: the former become past, and nothing is
-- later.
abbrev pub stepped : Contents → History → History
stepped from h = record h { past = from ∷ h.past; later = [] }

-- An accepted change to these contents. It is a step of its own or, in a group, part of the group's
-- step.
abbrev pub changed : Contents → History → History
changed c h =
    option_map_or (λ g. record h { now = c; group = Some (record g { changed = true }) }) h.group
    (record (stepped h.now h) { now = c })

-- One step back, if there is a past: the newest past contents become current, and the current ones
-- become the nearest later ones.
abbrev pub back_to : History → List Contents → Option History
back_to h [] = None
back_to h (c ∷ cs) = Some (record h { past = cs; now = c; later = h.now ∷ h.later })

abbrev pub step_back : History → Option History
step_back h = back_to h h.past

-- One step forward, if something is later: the nearest later contents become current, and the
-- current ones become the newest past ones.
abbrev pub forward_to : History → List Contents → Option History
forward_to h [] = None
forward_to h (c ∷ cs) = Some (record h { past = h.now ∷ h.past; now = c; later = cs })

abbrev pub step_forward : History → Option History
step_forward h = forward_to h h.later

-- k of these moves, if all are possible
abbrev pub moved : (History → Option History) → ℕ → History → Option History
moved move zero h = Some h
moved move (suc k) h = option_and_then (moved move k) (move h)

-- k steps back, if there are that many
abbrev pub undone : ℕ → History → Option History
undone = moved step_back

-- k steps forward, if there are that many
abbrev pub redone : ℕ → History → Option History
redone = moved step_forward

-- no tree is higher than 1,000, the greatest height that fits at level 0
abbrev pub AreLow : Named Tree → Type 0
AreLow trees =
    (name : List ℕ) → IfSome (finmap.get trees name) (λ tree. height tree ≤ MAX_HEIGHT)

-- Contents are well formed if no tree is higher than 1,000, and each module text is a module of no
-- more tokens than the session's modules may have.
abbrev pub AreFormed : ℕ → Contents → Type 0
AreFormed most c = AreLow c.trees × AreReadable most c.modules

-- They are sound if in addition the checker finds no fault in all their modules together.
abbrev pub AreSound : Primitives → ℕ → Contents → Type 0
AreSound primitives most c = AreFormed most c × Finds primitives c.modules None

-- Outside a group the current contents are sound. Inside one they are well formed, and those where
-- it began are sound; these are still the current ones if nothing has changed.
abbrev pub IsSoundNow : Primitives → ℕ → Contents → Option HistoryGroup → Type 0
IsSoundNow primitives most c None = AreSound primitives most c
IsSoundNow primitives most c (Some g) =
    AreFormed most c × AreSound primitives most g.begun × OnFalse g.changed (c ≡ g.begun)

-- All contents of a history are sound: the past, the current and the later ones.
abbrev pub HasSoundContents : History → Type 0
HasSoundContents h =
    AllByRecursion (AreSound h.primitives h.limits.max_tokens) h.past
    × IsSoundNow h.primitives h.limits.max_tokens h.now h.group
    × AllByRecursion (AreSound h.primitives h.limits.max_tokens) h.later
