-- Turns by the form of a strategy, and facts about hands.
use Rattle.std.proofs.Common.{◌≡◌, ◌<◌, ℕ, length, sym, subst, Bor, Bool, Vec, Global}
use Rattle.std.specs.Prelude.{IfOk}
use Rattle.std.specs.declared.result.Result.{Result}
use Rattle.term_changes.specs.Standing.{Standing}
use Rattle.strategy_syntax.specs.Resolved.{ResolvedStrategy}
use Rattle.strategy_meaning.specs.Answer.{Answer}
use Rattle.strategy_meaning.specs.Meaning.{World}
use Rattle.strategy_machine.specs.Table.{scopes}
use Rattle.strategy_machine.specs.Leading.{Has, all_parts, PartsStand}
use Rattle.strategy_machine.specs.Turns.{state_of, After, Holds}
use Rattle.strategy_machine.specs.inside.Taking.{FormIn, Takes}
use Rattle.strategy_machine.specs.declared.machine.Machine.{Machine}
use Rattle.strategy_machine.specs.declared.frames.Acts.{Acts}
use Rattle.strategy_machine.specs.declared.frames.Turned.{Turned}
use Rattle.strategy_machine.specs.Hands.{Begin, Each, Those}

pub taken_form : {E : Type 0} (W : World) (m new : Machine) (s r : ResolvedStrategy) (n : ℕ) (p : Standing)
    (x : Result Turned E) → s ≡ r
    → IfOk x (λ next. Takes W m r n p new next) → IfOk x (λ next. Takes W m s n p new next)
taken_form W m new s r n p x e h = subst (λ (q : ResolvedStrategy). IfOk x (λ next. Takes W m q n p new next)) (sym e) h

pub taken_turn : (W : World) (m : Machine) {new : Machine} (s r : ResolvedStrategy) (n : ℕ) (p : Standing)
    (next : Turned) → s ≡ r
    → ((sub : Standing) (whole : Answer) → FormIn W sub whole (state_of m) r n p → After W sub whole new next)
    → Takes W m s n p new next
taken_turn W m {new = new} s r n p next e f =
    subst (λ (q : ResolvedStrategy). Takes W m q n p new next) (sym e) (record { keeps = f })

pub begin_there : {W : World} {sub : Standing} {whole : Answer} (m : Machine) {s : Bor ResolvedStrategy} {n : ℕ}
    {p : Standing} → Holds W sub whole m (Begin s n p) → n < length (scopes m.scopes)
begin_there m h = h.in_hand.0

pub begin_has : {W : World} {sub : Standing} {whole : Answer} (m : Machine) {s : Bor ResolvedStrategy} {n : ℕ}
    {p : Standing} → Holds W sub whole m (Begin s n p) → Has p
begin_has m h = subst Has h.in_hand.1 h.opens.leads.has

pub each_stands : {W : World} {sub : Standing} {whole : Answer} (m : Machine) {acts : Acts} {n i : ℕ} {p : Standing}
    {parts : Vec Standing Global} → Holds W sub whole m (Each acts n p i parts) → PartsStand p (all_parts p parts.items)
each_stands m h = h.in_hand.2

pub those_stand : {W : World} {sub : Standing} {whole : Answer} (m : Machine) {s : Bor ResolvedStrategy} {n i : ℕ}
    {p : Standing} {any : Bool} {parts : Vec Standing Global} → Holds W sub whole m (Those s n p i any parts)
    → PartsStand p (all_parts p parts.items)
those_stand m h = h.in_hand.2
