-- More steps give the same answer, and enough steps are enough.
use Rattle.std.proofs.Common.{◌≡◌, ◌≢◌, ℕ, ◌+◌, ◌≤◌, zero, suc, true, refl, sym, ap, ◌∙◌, arith}
use Rattle.std.proofs.lemmas.Bool.Decides.{nat_tests}
use Rattle.term_core.specs.Tree.{Tree}
use Rattle.term_core.specs.Size.{fits}
use Rattle.strategy_syntax.specs.Resolved.{ResolvedStrategy}
use Rattle.strategy_meaning.specs.Scopes.{Scope}
use Rattle.strategy_meaning.specs.Matching.{Bindings}
use Rattle.strategy_meaning.specs.Answer.{Answer, done, failed, stopped, spent, big}
use Rattle.strategy_meaning.specs.Meaning.{World, run, run_bounded, form}
use Rattle.strategy_meaning.specs.Laws.{later, in_room, MoreStepsGiveTheSame, MoreRoomGivesTheSame, OneStepIsOneForm}
use Rattle.strategy_meaning.proofs.Related.{Related, Keeps, IsRoomier, Alike, form-related}

-- ---- more steps

abbrev Anything : Answer → Type 0
Anything a = Unit {0}

abbrev After : ℕ → ℕ → ℕ → Type 0
After k b c = c ≡ b + k

abbrev Big : Answer → Type 0
Big a = a ≡ stopped big

big-kept : Keeps Big
big-kept a go back e = rw e refl

-- a room is as large as itself
itself : (room : ℕ) → IsRoomier Big room room
itself room = record { fit = λ l u is. is; over = λ l u a is. rw is refl }

bounded-more : (W : World) (k n m : ℕ) → n ≤ m → Alike (After k) Anything Big (λ a g h q. tt) big-kept W.room W.room
    (itself W.room) (run_bounded W n) (run_bounded W m)
bounded-more W k zero m h E l s b c B t e = tt
bounded-more W k (suc n) zero h E l s b c B t e = absurd (omega (arith, h))
bounded-more W k (suc n) (suc m) h E l s zero c B t e = tt
bounded-more W k (suc n) (suc m) h E l s (suc b) zero B t e = absurd (omega (arith, e))
bounded-more W k (suc n) (suc m) h E l s (suc b) (suc c) B t e =
    form-related (After k) Anything Big (λ a g h q. tt) big-kept W.room W.room (itself W.room) W (run_bounded W n)
    (run_bounded W m) (bounded-more W k n m (omega (arith, h))) E l s b c B t (omega (arith, e))

later_related : (k : ℕ) (a a' : Answer) → Related (After k) Anything Big a a' → a ≢ stopped spent → a' ≡ later k a
later_related k (done t B b e) a' h n = h.1 ∙ ap (λ x. done t B x e) h.2
later_related k (failed b) a' h n = h.1 ∙ ap failed h.2
later_related k (stopped spent) a' h n = absurd (n refl)
later_related k (stopped big) a' h n = h

pub more_steps_give_the_same : MoreStepsGiveTheSame
more_steps_give_the_same W E l s b B t k n =
    later_related k (run W E l s b B t) (run W E l s (b + k) B t)
    (bounded-more W k b (b + k) (omega arith) E l s b (b + k) B t refl) n

-- ---- enough steps

-- the same number, which is within the bound
abbrev Same : ℕ → ℕ → ℕ → Type 0
Same d b c = (c ≡ b) × (b ≤ d)

abbrev Spent : Answer → Type 0
Spent a = a ≡ stopped spent

spent-kept : Keeps Spent
spent-kept a go back e = rw e refl

weaker : (d e : ℕ) (a a' : Answer) → d ≤ e → Related (Same d) Spent Big a a' → Related (Same e) Spent Big a a'
weaker d e (done t B b x) a' le h = (h.0, h.1, (h.2.0, omega (arith, le, h.2.1)))
weaker d e (failed b) a' le h = (h.0, h.1, (h.2.0, omega (arith, le, h.2.1)))
weaker d e (stopped spent) a' le h = h
weaker d e (stopped big) a' le h = h

bounded-enough : (W : World) (n m : ℕ) (E : Scope) (l : ℕ) (s : ResolvedStrategy) (b c : ℕ) (B : Bindings) (t : Tree)
    → b ≤ n → b ≤ m → c ≡ b
    → Related (Same b) Spent Big (run_bounded W n E l s b B t) (run_bounded W m E l s c B t)
bounded-enough W zero m E l s (suc b) c B t h k e = absurd (omega (arith, h))
bounded-enough W (suc n) zero E l s (suc b) c B t h k e = absurd (omega (arith, k))
bounded-enough W zero zero E l s zero c B t h k e = refl
bounded-enough W zero (suc m) E l s zero c B t h k e = rw e refl
bounded-enough W (suc n) zero E l s zero c B t h k e = refl
bounded-enough W (suc n) (suc m) E l s zero c B t h k e = rw e refl
bounded-enough W (suc n) (suc m) E l s (suc b) zero B t h k e = absurd (omega (arith, e))
bounded-enough W (suc n) (suc m) E l s (suc b) (suc c) B t h k e =
    weaker b (suc b) _ _ (omega arith) (form-related (Same b) Spent Big spent-kept big-kept W.room W.room
    (itself W.room) W (run_bounded W n) (run_bounded W m)
    (λ F r q x y C u s'.
    weaker x b _ _ s'.1 (bounded-enough W n m F r q x y C u (omega (arith, h, s'.1)) (omega (arith, k, s'.1)) s'.0))
    E l s b c B t (omega (arith, e), omega arith))

same_related : (d : ℕ) (a a' : Answer) → Related (Same d) Spent Big a a' → a ≡ a'
same_related d (done t B b e) a' h = sym (h.1 ∙ ap (λ x. done t B x e) h.2.0)
same_related d (failed b) a' h = sym (h.1 ∙ ap failed h.2.0)
same_related d (stopped spent) a' h = sym h
same_related d (stopped big) a' h = sym h

pub one_step_is_one_form : OneStepIsOneForm
one_step_is_one_form W E l s c B t =
    same_related c (form W (run_bounded W c) E l s c B t) (form W (run W) E l s c B t)
    (form-related (Same c) Spent Big spent-kept big-kept W.room W.room (itself W.room) W (run_bounded W c) (run W)
    (λ F r q x y C u s'. rw s'.0 (weaker x c _ _ s'.1 (bounded-enough W c x F r q x x C u s'.1 (omega arith) refl)))
    E l s c c B t (refl, omega arith))

-- ---- more room

fits-more : (room more l : ℕ) (u : Tree) → room ≤ more → fits room l u ≡ true → fits more l u ≡ true
fits-more room more l u h is = grind (arith, nat_tests)

abbrev Equal : ℕ → ℕ → Type 0
Equal b c = c ≡ b

roomier : (room more : ℕ) → room ≤ more → IsRoomier Anything room more
roomier room more h = record { fit = λ l u is. fits-more room more l u h is; over = λ l u a is. tt }

bounded-roomier : (W : World) (room more : ℕ) (le : room ≤ more) (n : ℕ)
    → Alike Equal Spent Anything spent-kept (λ a g h q. tt) room more (roomier room more le)
    (run_bounded (in_room room W) n) (run_bounded (in_room more W) n)
bounded-roomier W room more le zero E l s b c B t e = refl
bounded-roomier W room more le (suc n) E l s zero zero B t e = refl
bounded-roomier W room more le (suc n) E l s zero (suc c) B t e = absurd (omega (arith, e))
bounded-roomier W room more le (suc n) E l s (suc b) zero B t e = absurd (omega (arith, e))
bounded-roomier W room more le (suc n) E l s (suc b) (suc c) B t e =
    form-related Equal Spent Anything spent-kept (λ a g h q. tt) room more (roomier room more le) W
    (run_bounded (in_room room W) n) (run_bounded (in_room more W) n)
    (bounded-roomier W room more le n) E l s b c B t (omega (arith, e))

roomier_related : (a a' : Answer) → Related Equal Spent Anything a a' → a ≢ stopped big → a' ≡ a
roomier_related (done t B b e) a' h n = h.1 ∙ ap (λ x. done t B x e) h.2
roomier_related (failed b) a' h n = h.1 ∙ ap failed h.2
roomier_related (stopped spent) a' h n = h
roomier_related (stopped big) a' h n = absurd (n refl)

pub more_room_gives_the_same : MoreRoomGivesTheSame
more_room_gives_the_same W E l s b B t k n =
    roomier_related (run W E l s b B t) (run (in_room (W.room + k) W) E l s b B t)
    (bounded-roomier W W.room (W.room + k) (omega arith) b E l s b b B t refl) n
