-- The greatest number of open brackets, byte by byte.
use Rattle.std.proofs.Common.{◌≡◌, ℕ, ◌+◌, ◌≤◌, ◌<◌, ◌-◌, ◌==◌, ◌||◌, List, [], ◌∷◌, length, drop, get_or, refl, ap, ◌∙◌, arith, max, Bool, true, false, if◌then◌else◌, add-one, drop-cons}
use Rattle.std.proofs.lemmas.Bool.{eqb-true}
use Rattle.aterm_text.specs.declared.brackets.Quoting.{Quoting}
use Rattle.aterm_text.specs.declared.brackets.Quoting.TheVariants.{OutsideQuotes, InsideQuotes, AfterBackslash}
use Rattle.aterm_text.specs.Nesting.{outside_quotes, inside_quotes, after_backslash, open_after, greatest_open}
use Rattle.aterm_text.specs.inside.NestingPlaces.{place_after, depth_after}

-- the counted part of a text that begins at p
abbrev pub counted : Quoting → List ℕ → List ℕ
counted OutsideQuotes x = outside_quotes x
counted InsideQuotes x = inside_quotes x
counted AfterBackslash x = after_backslash x

greatest_open-le : (n : ℕ) (x : List ℕ) → n ≤ greatest_open n x
greatest_open-le n [] = omega arith
greatest_open-le n (b ∷ bs) = omega arith

pub counted-empty : (p : Quoting) (n : ℕ) → greatest_open n (counted p []) ≡ n
counted-empty OutsideQuotes n = refl
counted-empty InsideQuotes n = refl
counted-empty AfterBackslash n = refl

quote_leaves : (b n : ℕ) → b ≡ 34 → open_after b n ≡ n
quote_leaves b n e = rw e refl

max-again : (n g r : ℕ) → n ≤ g → max g r ≡ max (max n g) r
max-again n g r h = omega arith

max-counted : (n m g r : ℕ) → n ≤ g → m ≤ r → max g (max n r) ≡ max (max m g) r
max-counted n m g r h k = omega arith

outside-byte : (n g b : ℕ) (x : List ℕ) (q : Bool) → (q ≡ true → open_after b n ≡ n) → n ≤ g →
    max g (greatest_open n (if q then inside_quotes x else b ∷ outside_quotes x)) ≡ max (max (open_after b n) g)
    (greatest_open (open_after b n) (counted (if q then InsideQuotes else OutsideQuotes) x))
outside-byte n g b x true e h = rw (e refl) (max-again n g _ h)
outside-byte n g b x false e h = max-counted n (open_after b n) g _ h (greatest_open-le _ _)

quoted-byte : (x : List ℕ) (q s : Bool) →
    (if q then outside_quotes x else if s then after_backslash x else inside_quotes x)
    ≡ counted (if q then OutsideQuotes else if s then AfterBackslash else InsideQuotes) x
quoted-byte x true s = refl
quoted-byte x false true = refl
quoted-byte x false false = refl

-- one more byte, if n brackets are open and at most g were
pub counted-byte : (p : Quoting) (n g b : ℕ) (x : List ℕ) → n ≤ g →
    max g (greatest_open n (counted p (b ∷ x))) ≡ max (max (depth_after p b n) g)
    (greatest_open (depth_after p b n) (counted (place_after p b) x))
counted-byte OutsideQuotes n g b x h = outside-byte n g b x (b == 34) (λ e. quote_leaves b n (eqb-true b 34 e)) h
counted-byte InsideQuotes n g b x h =
    ap (λ r. max g (greatest_open n r)) (quoted-byte x (b == 34) (b == 92)) ∙ max-again n g _ h
counted-byte AfterBackslash n g b x h = max-again n g _ h

cases-le : (o c : Bool) (n : ℕ) → (if o then n + 1 else if c then n - 1 else n) ≤ n + 1
cases-le true c n = omega arith
cases-le false true n = omega arith
cases-le false false n = omega arith

pub depth_after-le : (p : Quoting) (b n : ℕ) → depth_after p b n ≤ n + 1
depth_after-le OutsideQuotes b n =
    cases-le ((b == 40) || (b == 91) || (b == 123)) ((b == 41) || (b == 93) || (b == 125)) n
depth_after-le InsideQuotes b n = omega arith
depth_after-le AfterBackslash b n = omega arith

pub nesting-byte : (p : Quoting) (n g i : ℕ) (x : List ℕ) → i < length x → n ≤ g →
    max g (greatest_open n (counted p (drop i x))) ≡ max (max (depth_after p (get_or x i 0) n) g)
    (greatest_open (depth_after p (get_or x i 0) n) (counted (place_after p (get_or x i 0)) (drop (i + 1) x)))
nesting-byte p n g i x h k = rw (add-one, drop-cons x i 0 h) (counted-byte p n g (get_or x i 0) _ k)

pub ruleset nesting_steps = (counted-empty, nesting-byte, depth_after-le)
