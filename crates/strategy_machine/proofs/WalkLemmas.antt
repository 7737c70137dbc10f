-- Turns that give an answer to a frame, in terms of the machine's fields.
use Rattle.std.proofs.Common.{◌≡◌, ℕ, List, [], ◌∷◌, ◌++◌, reverse, sym, ap, ◌∙◌, subst, Vec, Global, Bor}
use Rattle.term_core.specs.Tree.{Tree}
use Rattle.term_changes.specs.Standing.{Standing}
use Rattle.strategy_meaning.specs.Answer.{Answer}
use Rattle.strategy_meaning.specs.Meaning.{World}
use Rattle.strategy_machine.specs.Table.{scopes}
use Rattle.strategy_machine.specs.Turns.{State, state_of, HoldsIn, Holds}
use Rattle.strategy_machine.specs.inside.Taking.{Replaced}
use Rattle.strategy_machine.specs.inside.Turning.{ComesUp, Rises, Descends}
use Rattle.strategy_machine.specs.declared.machine.Machine.{Machine}
use Rattle.strategy_machine.specs.declared.frames.Walk.{Walk}
use Rattle.strategy_machine.specs.declared.frames.Frame.{Frame}
use Rattle.strategy_syntax.specs.Resolved.{ResolvedStrategy}
use Rattle.strategy_machine.specs.Hands.{Hand, Begin}
use Rattle.strategy_machine.proofs.OpenLemmas.{pushed}
use Rattle.strategy_machine.proofs.ChildLemmas.{walk_at, below}

-- the innermost frame, taken off
pub popped : (W : World) (sub : Standing) (whole : Answer) (m : Machine) (hand : Hand) (new : List Frame) (f : Frame)
    → m.frames ≡ new ++ f ∷ [] → Holds W sub whole m hand
    → HoldsIn W sub whole (record {
      cells = m.cells;
      scopes = scopes m.scopes;
      trail = m.trail;
      level = m.level;
      frames = f ∷ reverse new;
      steps = m.steps;
    }) hand
popped W sub whole m hand new f e h =
    subst (λ (fs : List Frame). HoldsIn W sub whole (record {
      cells = m.cells;
      scopes = scopes m.scopes;
      trail = m.trail;
      level = m.level;
      frames = fs;
      steps = m.steps;
    }) hand)
    (pushed new m.frames f e) h

-- the same machine, except for the level
at_level : (W : World) (sub : Standing) (whole : Answer) (m new : Machine) {hand : Hand} (l : ℕ) → new.level ≡ l
    → (new.frames ≡ m.frames) × (new.cells ≡ m.cells) × (new.scopes ≡ m.scopes) × (new.trail ≡ m.trail)
    × (new.steps ≡ m.steps)
    → HoldsIn W sub whole (record {
      cells = m.cells;
      scopes = scopes m.scopes;
      trail = m.trail;
      level = l;
      frames = reverse m.frames;
      steps = m.steps;
    }) hand
    → HoldsIn W sub whole (state_of new) hand
at_level W sub whole m new {hand = hand} l le k h =
    subst (λ (S : State). HoldsIn W sub whole S hand)
    (λ i. record {
      cells = sym k.1 i;
      scopes = scopes (sym k.2 i);
      trail = sym k.3 i;
      level = sym le i;
      frames = reverse (sym k.0 i);
      steps = sym k.4 i;
    }) h

pub came_up : (W : World) (sub : Standing) (whole : Answer) (m new : Machine) {hand : Hand} (w : Walk) (p : Standing)
    (up : Standing × Vec Standing Global) → ComesUp m w p new up
    → HoldsIn W sub whole (record {
      cells = m.cells;
      scopes = scopes m.scopes;
      trail = m.trail;
      level = w.level;
      frames = reverse m.frames;
      steps = m.steps;
    }) hand
    → HoldsIn W sub whole (state_of new) hand
came_up W sub whole m new w p up k h = at_level W sub whole m new w.level k.level k.rest h

pub rose : (W : World) (sub : Standing) (whole : Answer) (m new : Machine) {hand : Hand} (w : Walk) (p : Standing)
    → Rises m w p new
    → HoldsIn W sub whole (record {
      cells = m.cells;
      scopes = scopes m.scopes;
      trail = m.trail;
      level = w.level;
      frames = reverse m.frames;
      steps = m.steps;
    }) hand
    → HoldsIn W sub whole (state_of new) hand
rose W sub whole m new w p k h = at_level W sub whole m new w.level k.level k.rest h

-- the child is in focus, and its node waits in a frame
pub went_down : (W : World) (sub : Standing) (whole : Answer) (m new : Machine) (p : Standing)
    (ps parts : Vec Standing Global) (i : ℕ) (w : Walk) (f : Walk → Frame) (gs : List Frame)
    (s : Bor ResolvedStrategy) (n : ℕ)
    → Descends m p ps i new w → ps ≡ parts → gs ≡ new.frames ++ f w ∷ []
    → HoldsIn W sub whole (below (state_of m) (f (walk_at m.part parts i (state_of m)))) (Begin s n p)
    → HoldsIn W sub whole (record {
      cells = new.cells;
      scopes = scopes new.scopes;
      trail = new.trail;
      level = new.level;
      frames = reverse gs;
      steps = new.steps;
    }) (Begin s n new.part)
went_down W sub whole m new p ps parts i w f gs s n k q e h =
    let is : w ≡ walk_at m.part parts i (state_of m) = k.walk
    ∙ ap (λ (x : Vec Standing Global). walk_at m.part x i (state_of m)) q in
    let all : f (walk_at m.part parts i (state_of m)) ∷ reverse m.frames ≡ reverse gs =
    (λ j. f (sym is j) ∷ reverse (sym k.rest.0 j)) ∙ sym (pushed new.frames gs (f w) e) in
    subst (λ (x : State × Standing). HoldsIn W sub whole x.0 (Begin s n x.1))
    (λ j. (
      record {
        cells = sym k.rest.1 j;
        scopes = scopes (sym k.rest.2 j);
        trail = sym k.rest.3 j;
        level = sym k.level j;
        frames = all j;
        steps = sym k.rest.4 j;
      },
      sym k.part j,
    )) h

-- the same machine, except for the trail
pub was_put : (W : World) (sub : Standing) (whole : Answer) (m new : Machine) {hand : Hand} (u : Tree) (q : Standing)
    → Replaced m u new q
    → HoldsIn W sub whole (record {
      cells = m.cells;
      scopes = scopes m.scopes;
      trail = new.trail;
      level = m.level;
      frames = reverse m.frames;
      steps = m.steps;
    }) hand
    → HoldsIn W sub whole (state_of new) hand
was_put W sub whole m new {hand = hand} u q k h =
    subst (λ (S : State). HoldsIn W sub whole S hand)
    (λ i. record {
      cells = sym k.rest.1 i;
      scopes = scopes (sym k.rest.2 i);
      trail = new.trail;
      level = sym k.rest.3 i;
      frames = reverse (sym k.rest.0 i);
      steps = sym k.rest.4 i;
    }) h

-- no frame is left
pub none_waits : (W : World) (sub : Standing) (whole : Answer) (m : Machine) (hand : Hand)
    → m.frames ≡ [] → Holds W sub whole m hand
    → HoldsIn W sub whole (record {
      cells = m.cells;
      scopes = scopes m.scopes;
      trail = m.trail;
      level = m.level;
      frames = [];
      steps = m.steps;
    }) hand
none_waits W sub whole m hand e h =
    subst (λ (fs : List Frame). HoldsIn W sub whole (record {
      cells = m.cells;
      scopes = scopes m.scopes;
      trail = m.trail;
      level = m.level;
      frames = reverse fs;
      steps = m.steps;
    }) hand) e h
