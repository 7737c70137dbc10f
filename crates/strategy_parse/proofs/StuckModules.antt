-- Tokens that are a module, and tokens that are none; where some tokens stop being the beginning of one.
use Rattle.std.proofs.Common.{◌≡◌, ℕ, suc, ◌+◌, ◌-◌, ◌<◌, ◌≤◌, Bool, true, false, refl, sym, ap, ◌∙◌, subst, inl, inr, List, [], ◌∷◌, ◌++◌, Some, None, length, take, arith, append_assoc, append-nil, length-append}
use Rattle.std.specs.Prelude.{◌⊎◌}
use Rattle.std.specs.declared.option.Option.{Option}
use Rattle.std.proofs.lemmas.List.{take_at}
use Rattle.strategy_syntax.specs.Syntax.{Strategy}
use Rattle.strategy_syntax.specs.Modules as syntax
use Rattle.strategy_tokens.specs.declared.token.Token.{Token}
use Rattle.strategy_parse.specs.declared.modules.sections.Context.TheVariants.{Outside}
use Rattle.strategy_parse.specs.declared.modules.place.BodyPart.{BodyPart}
use Rattle.strategy_parse.specs.declared.modules.place.ModulePlace.{ModulePlace}
use Rattle.strategy_parse.specs.declared.modules.place.ModulePlace.TheVariants as place
use Rattle.strategy_parse.specs.Core.{core_module}
use Rattle.strategy_parse.specs.Gives.{GivesModule}
use Rattle.strategy_parse.specs.StuckModules.{GiveModule, GiveNone, BeginModule, BeginNoModule, ModuleStuckAt}
use Rattle.strategy_parse.specs.inside.ModulePlaces.{next_place, open_brackets, CanEnd, first_of, Crossed}
use Rattle.strategy_parse.specs.inside.Sections.{Left}
use Rattle.strategy_parse.specs.inside.StuckPlaces.{read_from, EndsBefore, Halts, Passed}
use Rattle.strategy_parse.proofs.PlaceRests.{AfterPart, Rest, Begun}
use Rattle.strategy_parse.proofs.PlaceSteps.{Steps, StepIs, step_is}
use Rattle.strategy_parse.proofs.PlaceLemmas.{can_end, part_rest, place_rest, next_deeper}

-- no tokens are an empty module
no_tokens : GiveModule []
no_tokens = (core_module [], ([], ([], inr refl, refl), refl))

-- tokens whose sections, after the title, are a module
pub module_read : (x y : List Token) (m : syntax.Module)
    → ((r : syntax.Module) → Left Outside y r → GivesModule x r) → Left Outside y m → GiveModule x
module_read x y m back l = (m, back m l)

-- tokens whose sections, after the title, are none
pub none_read : (x y : List Token) → ((r : syntax.Module) → GivesModule x r → Left Outside y r)
    → ((r : syntax.Module) → Left Outside y r → ⊥) → GiveNone x
none_read x y forth none = λ m g. none m (forth m g)

pub ruleset module_rules = (module_read, none_read)

-- ---- the place before some tokens

-- the tokens begin as those left do, or end here
abbrev pub Alike : List Token → List Token → Type 0
Alike [] x = x ≡ []
Alike (t ∷ ts) x = (x ≡ []) ⊎ ((z : List Token) × (x ≡ t ∷ z))

-- After these tokens and before those left, the place stands: what makes a module with them is the rest at the place.
pub record Stands (p : ModulePlace) (front left : List Token) : Type 0 where
  pub forth : (x : List Token) → Alike left x → GiveModule (front ++ x) → Rest p x
  pub back : (x : List Token) → Alike left x → Rest p x → GiveModule (front ++ x)

-- the tokens left can't go on
abbrev pub Blocked : List Token → List Token → Type 0
Blocked front [] = Unit {0}
Blocked front (t ∷ ts) = BeginNoModule (front ++ t ∷ [])

-- ---- a part of a definition is passed

-- at the place, after these tokens, a part of a definition may begin
pub record Enters (p : ModulePlace) (front : List Token) : Type 0 where
  pub forth : (x : List Token) → GiveModule (front ++ x) → Begun p x
  pub back : (x : List Token) → Begun p x → GiveModule (front ++ x)

abbrev pub Onward : ModulePlace → List Token → Bool → List Token → Type 0
Onward p front true left = Stands p front left
Onward p front false left = Blocked front left

pub record Across (p : ModulePlace) (front x : List Token) (b : Bool) (y : List Token) : Type 0 where
  pub past : List Token
  pub splits : x ≡ past ++ y
  pub begins : BeginModule (front ++ past)
  pub next : Onward p (front ++ past) b y

-- no part begins: no token is passed
plain : (p : ModulePlace) (front x : List Token) (b : Bool) (y : List Token)
    → ((z : List Token) → GiveModule (front ++ z) → Rest p z)
    → ((z : List Token) → Rest p z → GiveModule (front ++ z)) → (b ≡ true) × (y ≡ x) → Across p front x b y
plain p front x false y to from (non, e) = absurd (cc)
plain p front x true y to from (star, e) = record {
  past = [];
  splits = sym e;
  begins = subst BeginModule (sym (append-nil front)) (let r = place_rest p in (r.0, from r.0 r.1));
  next =
      subst (λ f. Stands p f y) (sym (append-nil front)) (record { forth = λ z a g. to z g; back = λ z a r. from z r });
}

module _ (k : BodyPart) (front x : List Token) (y : List Token) (e : Enters (place.Body k) front) where
  module _ (b : Bool) (h : Passed (first_of k) x b y) where
    -- some tokens make the whole a module
    goes_on : BeginModule (front ++ h.taken)
    goes_on =
        let r = part_rest k in
        let more : List Token = h.goes_on.more ++ r.0 in (
          more,
          subst GiveModule (sym (append_assoc front h.taken more))
              (e.back (h.taken ++ more) (h.goes_on.form, r.0, h.goes_on.reads r.0 r.1, r.2)),
        )

  ends_at : (taken : List Token) (z : List Token) → Alike y z → (s : Halts (first_of k) taken true y)
      → (form : Strategy) × (read_from (first_of k) (taken ++ z) ≡ Some (form, z))
  ends_at taken z a s = at y a s where
    ends : (t : Token) (z : List Token)
        → (z ≡ []) ⊎ ((w : List Token) × (z ≡ t ∷ w)) → (d : EndsBefore (first_of k) taken t)
        → (form : Strategy) × (read_from (first_of k) (taken ++ z) ≡ Some (form, z))
    ends t z (inl none) d =
        (d.form, subst (λ l. read_from (first_of k) (taken ++ l) ≡ Some (d.form, l)) (sym none) d.last)
    ends t z (inr (w, same)) d =
        (d.form, subst (λ l. read_from (first_of k) (taken ++ l) ≡ Some (d.form, l)) (sym same) (d.before w))

    at : (y : List Token) → Alike y z → Halts (first_of k) taken true y
        → (form : Strategy) × (read_from (first_of k) (taken ++ z) ≡ Some (form, z))
    at [] a s = absurd s
    at (t ∷ ts) a s = ends t z a s

  whole : Passed (first_of k) x true y → Across (place.Body k) front x true y
  whole h = record {
    past = h.taken;
    splits = h.splits;
    begins = goes_on true h;
    next = record { forth = forth; back = back };
  } where
    forth : (z : List Token) → Alike y z → GiveModule ((front ++ h.taken) ++ z) → AfterPart k z
    forth z a g = same (e.forth (h.taken ++ z) (subst GiveModule (append_assoc front h.taken z) g)) where
      same : Begun (place.Body k) (h.taken ++ z) → AfterPart k z
      same (s, w, r, after) =
          let d = ends_at h.taken z a h.halts in
          let both : ◌≡◌ {A = Option (Strategy × List Token)} (Some (s, w)) (Some (d.0, z)) = sym r ∙ d.1 in
          let pair : ◌≡◌ {A = Strategy × List Token} (s, w) (d.0, z) = cc in
          subst (AfterPart k) (ap (λ (q : Strategy × List Token). q.1) pair) after

    back : (z : List Token) → Alike y z → AfterPart k z → GiveModule ((front ++ h.taken) ++ z)
    back z a after =
        let d = ends_at h.taken z a h.halts in
        subst GiveModule (sym (append_assoc front h.taken z)) (e.back (h.taken ++ z) (d.0, z, d.1, after))

  stops : Passed (first_of k) x false y → Across (place.Body k) front x false y
  stops h = record { past = h.taken; splits = h.splits; begins = goes_on false h; next = at y h.halts } where
    at : (y : List Token) → Halts (first_of k) h.taken false y → Blocked (front ++ h.taken) y
    at [] s = tt
    at (t ∷ ts) s =
        λ rest m g. non rest (e.forth (h.taken ++ t ∷ rest) (m, subst (λ l. GivesModule l m) (joined rest) g)) where
          joined : (rest : List Token) → ((front ++ h.taken) ++ t ∷ []) ++ rest ≡ front ++ (h.taken ++ t ∷ rest)
          joined rest = append_assoc (front ++ h.taken) (t ∷ []) rest ∙ append_assoc front h.taken (t ∷ rest)

          non : (rest : List Token) → Begun (place.Body k) (h.taken ++ t ∷ rest) → ⊥
          non rest (f, w, r, after) = let none : ◌≡◌ {A = Option (Strategy × List Token)} None (Some (f, w)) =
              sym (s rest) ∙ r in cc

across : (p : ModulePlace) (front x : List Token) (b : Bool) (y : List Token) → (e : Enters p front) → Crossed p x b y
    → Across p front x b y
across (place.Body k) front x true y e h = whole k front x y e h
across (place.Body k) front x false y e h = stops k front x y e h
across place.Start front x b y e h = plain place.Start front x b y e.forth e.back h
across place.Titled front x b y e h = plain place.Titled front x b y e.forth e.back h
across (place.Between p) front x b y e h = plain (place.Between p) front x b y e.forth e.back h
across place.Declared front x b y e h = plain place.Declared front x b y e.forth e.back h
across (place.Sort u p d) front x b y e h = plain (place.Sort u p d) front x b y e.forth e.back h
across place.Header front x b y e h = plain place.Header front x b y e.forth e.back h
across (place.FirstName n) front x b y e h = plain (place.FirstName n) front x b y e.forth e.back h
across (place.Name n) front x b y e h = plain (place.Name n) front x b y e.forth e.back h
across (place.Comma n) front x b y e h = plain (place.Comma n) front x b y e.forth e.back h
across place.Headed front x b y e h = plain place.Headed front x b y e.forth e.back h

-- ---- where the tokens stop

stuck_at : (ts front y : List Token) (i k : ℕ) → ts ≡ front ++ y → BeginModule front → Blocked front y
    → GiveModule (take i ts) → i + length y ≤ length ts → k + length y ≡ length ts → ModuleStuckAt ts i k
stuck_at ts front [] i k e begins blocked before order size =
    let sum : length ts ≡ length front + 0 = ap length e ∙ length-append front [] in
    let is : length front ≡ k = omega arith in
    record {
      module_before = before;
      order = omega arith;
      within = omega arith;
      begin = subst BeginModule (sym (ap (take k) e ∙ take_at front [] k is)) begins;
      begin_none = λ lt. absurd (omega arith);
    }
stuck_at ts front (t ∷ u) i k e begins blocked before order size =
    let sum : length ts ≡ length front + length (t ∷ u) = ap length e ∙ length-append front (t ∷ u) in
    let is : length front ≡ k = omega arith in
    let longer : length (front ++ t ∷ []) ≡ k + 1 = length-append front (t ∷ []) ∙ ap (λ n. n + 1) is in
    let more : ts ≡ (front ++ t ∷ []) ++ u = e ∙ sym (append_assoc front (t ∷ []) u) in
    record {
      module_before = before;
      order = omega arith;
      within = omega arith;
      begin = subst BeginModule (sym (ap (take k) e ∙ take_at front (t ∷ u) k is)) begins;
      begin_none =
          λ lt. subst BeginNoModule (sym (ap (take (k + 1)) more ∙ take_at (front ++ t ∷ []) u (k + 1) longer)) blocked;
    }

-- ---- the loop from place to place

pub record Following (ts : List Token) (p : ModulePlace) (i : ℕ) (y : List Token) : Type 0 where
  pub front : List Token
  pub splits : ts ≡ front ++ y
  pub stands : Stands p front y
  pub begins : BeginModule front
  pub module_before : GiveModule (take i ts)
  pub order : i + length y ≤ length ts
  pub depth : open_brackets p + length y ≤ length ts

pub follow_starts : (ts : List Token) → Following ts place.Start 0 ts
follow_starts ts = record {
  front = [];
  splits = refl;
  stands = record { forth = λ x a g. g; back = λ x a g. g };
  begins = ([], no_tokens);
  module_before = no_tokens;
  order = omega arith;
  depth = omega arith;
}

-- an item may end before the tokens left
pub follow_item : (ts : List Token) (p : ModulePlace) (i : ℕ) (y : List Token) (j : ℕ) → Following ts p i y
    → (j ≡ i) ⊎ ((j ≡ length ts - length y) × CanEnd p) → Following ts p j y
follow_item ts p i y j f (inl same) = subst (λ n. Following ts p n y) (sym same) f
follow_item ts p i y j f (inr (same, can)) = subst (λ n. Following ts p n y) (sym same) (record {
  front = f.front;
  splits = f.splits;
  stands = f.stands;
  begins = f.begins;
  module_before =
      let sum : length ts ≡ length f.front + length y = ap length f.splits ∙ length-append f.front y in
      let is : length f.front ≡ length ts - length y = omega arith in
      subst GiveModule (sym (ap (take (length ts - length y)) f.splits ∙ take_at f.front y (length ts - length y) is))
      (subst GiveModule (append-nil f.front) (f.stands.back [] (empty y) (can_end p can)));
  order = let order : i + length y ≤ length ts = f.order in omega arith;
  depth = f.depth;
}) where
  empty : (y : List Token) → Alike y []
  empty [] = refl
  empty (t ∷ u) = inl refl

module _ (ts : List Token) (p : ModulePlace) (i : ℕ) (y : List Token) (t : Token) (u : List Token)
    (f : Following ts p i y) (e : y ≡ t ∷ u) where
  alike : (x : List Token) → Alike y (t ∷ x)
  alike x = subst (λ l. Alike l (t ∷ x)) (sym e) (inr (x, refl))

  -- no place is after the token
  pub follow_stuck : next_place p t ≡ None → ModuleStuckAt ts i (length ts - length y)
  follow_stuck none =
      let non : StepIs p t None = subst (StepIs p t) none (step_is p t) in
      let order : i + length y ≤ length ts = f.order in
      stuck_at ts f.front y i (length ts - length y) f.splits f.begins (subst (Blocked f.front) (sym e) (λ rest m g.
      non rest (f.stands.forth (t ∷ rest) (alike rest)
      (m, subst (λ l. GivesModule l m) (append_assoc f.front (t ∷ []) rest) g)))) f.module_before order (omega arith)

  module _ (q : ModulePlace) (next : next_place p t ≡ Some q) (b : Bool) (z : List Token)
      (crossed : Crossed q u b z) where
    entered : Enters q (f.front ++ t ∷ [])
    entered =
        let s : Steps p t q = subst (StepIs p t) next (step_is p t) in
        record {
          forth = λ x g.
              s.forth x (f.stands.forth (t ∷ x) (alike x) (subst GiveModule (append_assoc f.front (t ∷ []) x) g));
          back = λ x r.
              subst GiveModule (sym (append_assoc f.front (t ∷ []) x)) (f.stands.back (t ∷ x) (alike x) (s.back x r));
        }

    pub crossing : Across q (f.front ++ t ∷ []) u b z
    crossing = across q (f.front ++ t ∷ []) u b z entered crossed

    all : (a : Across q (f.front ++ t ∷ []) u b z) → ts ≡ ((f.front ++ t ∷ []) ++ a.past) ++ z
    all a =
        f.splits ∙ ap (λ l. f.front ++ l) e ∙ sym (append_assoc f.front (t ∷ []) u)
        ∙ ap (λ l. (f.front ++ t ∷ []) ++ l) a.splits ∙ sym (append_assoc (f.front ++ t ∷ []) a.past z)

    pub crossed_shorter : length z < length y
    crossed_shorter =
        let a : Across q (f.front ++ t ∷ []) u b z = crossing in
        let size : length y ≡ suc (length u) = ap length e in
        let sum : length u ≡ length a.past + length z = ap length a.splits ∙ length-append a.past z in
        omega arith

pub follow_goes : (ts : List Token) (p : ModulePlace) (i : ℕ) (y : List Token) (t : Token) (u : List Token)
    (q : ModulePlace) (z : List Token)
    → Following ts p i y → y ≡ t ∷ u → next_place p t ≡ Some q → Crossed q u true z → Following ts q i z
follow_goes ts p i y t u q z f e next crossed =
    let a : Across q (f.front ++ t ∷ []) u true z = crossing ts p i y t u f e q next true z crossed in
    let less : length z < length y = crossed_shorter ts p i y t u f e q next true z crossed in
    let deeper : open_brackets q ≤ open_brackets p + 1 = next_deeper p q t next in
    let before : open_brackets p + length y ≤ length ts = f.depth in
    let order : i + length y ≤ length ts = f.order in
    record {
      front = (f.front ++ t ∷ []) ++ a.past;
      splits = all ts p i y t u f e q next true z crossed a;
      stands = a.next;
      begins = a.begins;
      module_before = f.module_before;
      order = omega arith;
      depth = omega arith;
    }

pub follow_halts : (ts : List Token) (p : ModulePlace) (i : ℕ) (y : List Token) (t : Token) (u : List Token)
    (q : ModulePlace) (z : List Token)
    → Following ts p i y → y ≡ t ∷ u → next_place p t ≡ Some q → Crossed q u false z
    → ModuleStuckAt ts i (length ts - length z)
follow_halts ts p i y t u q z f e next crossed =
    let a : Across q (f.front ++ t ∷ []) u false z = crossing ts p i y t u f e q next false z crossed in
    let less : length z < length y = crossed_shorter ts p i y t u f e q next false z crossed in
    let order : i + length y ≤ length ts = f.order in
    stuck_at ts ((f.front ++ t ∷ []) ++ a.past) z i (length ts - length z)
    (all ts p i y t u f e q next false z crossed a) a.begins a.next f.module_before (omega arith) (omega arith)

pub follow_ends : (ts : List Token) (p : ModulePlace) (i : ℕ) (y : List Token) → Following ts p i y
    → length y ≡ 0 → ModuleStuckAt ts i (length ts)
follow_ends ts p i (t ∷ u) f none = absurd (omega arith)
follow_ends ts p i [] f none =
    stuck_at ts f.front [] i (length ts) f.splits f.begins tt f.module_before f.order (omega arith)
