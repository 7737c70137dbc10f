-- Laws of what is between the quotes of a string.
use Rattle.std.proofs.Common.{◌≡◌, ℕ, suc, ◌+◌, ◌==◌, cond, not, Bool, true, false, List, [], ◌∷◌, ◌++◌, length, take, drop, Some, None, refl, sym, ap, ◌∙◌, arith, append_assoc, append-nil}
use Rattle.std.specs.declared.option.Option.{Option}
use Rattle.std.specs.Prelude.{option_and_then}
use Rattle.std.specs.Option.{option_map}
use Rattle.std.specs.List.{prefix_len}
use Rattle.std.proofs.lemmas.Grind.{common_steps}
use Rattle.aterm_text.proofs.ScanLemmas.{prefix_len-rest}
use Rattle.aterm_text.specs.Tokens.{octal_byte}
use Rattle.strategy_tokens.specs.Tokens.{unescaped, after_backslash, after_octal, and_byte}
use Rattle.strategy_tokens.specs.inside.Pieces.{is_no_backslash}

-- these bytes, followed by those
abbrev pub after : List ℕ → Option (List ℕ) → Option (List ℕ)
after xs = option_map (λ l. xs ++ l)

after-nil : (o : Option (List ℕ)) → o ≡ after [] o
after-nil None = refl
after-nil (Some l) = refl

after-append : (xs ys : List ℕ) (o : Option (List ℕ)) → after xs (after ys o) ≡ after (xs ++ ys) o
after-append xs ys None = refl
after-append xs ys (Some l) = ap Some (sym (append_assoc xs ys l))

after-and_byte : (xs : List ℕ) (b : ℕ) (o : Option (List ℕ)) → after xs (and_byte b o) ≡ after (xs ++ b ∷ []) o
after-and_byte xs b None = refl
after-and_byte xs b (Some l) = ap Some (sym (append_assoc xs (b ∷ []) l))

and_byte-after : (b : ℕ) (xs : List ℕ) (o : Option (List ℕ)) → and_byte b (after xs o) ≡ after (b ∷ xs) o
and_byte-after b xs None = refl
and_byte-after b xs (Some l) = refl

-- three octal digits, and the rest
pub octal_items : (a b c byte : ℕ) (x y bs : List ℕ) → x ≡ b ∷ y → y ≡ c ∷ bs
    → Some byte ≡ octal_byte a b c → after_octal a x ≡ and_byte byte (unescaped bs)
octal_items a b c byte x y bs e f g = ap (after_octal a) (e ∙ ap (λ l. b ∷ l) f)
    ∙ ap (option_and_then (λ d. and_byte d (unescaped bs))) (sym g)

-- ---- a leading run stands for itself

run_from : (b : ℕ) (bs : List ℕ) (backslash : Bool) → (b == 92) ≡ backslash
    → unescaped bs
    ≡ after (take (prefix_len is_no_backslash bs) bs) (unescaped (drop (prefix_len is_no_backslash bs) bs))
    → unescaped (b ∷ bs) ≡ after (take (cond (not backslash) (1 + prefix_len is_no_backslash bs) 0) (b ∷ bs))
    (unescaped (drop (cond (not backslash) (1 + prefix_len is_no_backslash bs) 0) (b ∷ bs)))
run_from b bs true e h = after-nil (unescaped (b ∷ bs))
run_from b bs false e h =
    let n = prefix_len is_no_backslash bs in
    let one : 1 + n ≡ suc n = omega arith in
    let first : unescaped (b ∷ bs) ≡ and_byte b (unescaped bs) =
    ap (λ c. cond c (after_backslash bs) (and_byte b (unescaped bs))) e in
    first ∙ (ap (and_byte b) h ∙ (and_byte-after b (take n bs) (unescaped (drop n bs))
    ∙ ap (λ k. after (take k (b ∷ bs)) (unescaped (drop k (b ∷ bs)))) (sym one)))

run : (x : List ℕ) → unescaped x
    ≡ after (take (prefix_len is_no_backslash x) x) (unescaped (drop (prefix_len is_no_backslash x) x))
run [] = refl
run (b ∷ bs) = run_from b bs (b == 92) refl (run bs)

whole_run : (x : List ℕ) → after (take (length x) x) (unescaped (drop (length x) x)) ≡ Some x
whole_run x =
    let front : take (length x) x ≡ x = grind (arith, common_steps) in
    let back : drop (length x) x ≡ [] = grind (arith, common_steps) in
    ap (λ l. after l (unescaped (drop (length x) x))) front
    ∙ (ap (λ l. after x (unescaped l)) back ∙ ap Some (append-nil x))

-- without a backslash all bytes stand for themselves
pub all_run : (x : List ℕ) (n : ℕ) → n ≡ prefix_len is_no_backslash x → n ≡ length x → unescaped x ≡ Some x
all_run x n e f =
    let all : length x ≡ prefix_len is_no_backslash x = sym f ∙ e in
    run x ∙ (ap (λ k. after (take k x) (unescaped (drop k x))) (sym all) ∙ whole_run x)

-- ---- steps

-- where a run ends
pub ends : (x rest : List ℕ) → rest ≡ drop (prefix_len is_no_backslash x) x → prefix_len is_no_backslash rest ≡ 0
ends x rest e = ap (prefix_len is_no_backslash) e ∙ prefix_len-rest is_no_backslash x

pub first : (x run_at bytes rest : List ℕ) → run_at ≡ take (prefix_len is_no_backslash x) x
    → rest ≡ drop (prefix_len is_no_backslash x) x → bytes ≡ run_at
    → unescaped x ≡ after bytes (unescaped rest)
first x run_at bytes rest e f g =
    run x ∙ (ap (λ l. after l (unescaped (drop (prefix_len is_no_backslash x) x))) (sym (g ∙ e))
    ∙ ap (λ l. after bytes (unescaped l)) (sym f))

backslash_first : (b : ℕ) (bs : List ℕ) (backslash : Bool) → (b == 92) ≡ backslash
    → cond (not backslash) (1 + prefix_len is_no_backslash bs) 0 ≡ 0 → unescaped (b ∷ bs) ≡ after_backslash bs
backslash_first b bs true e h = ap (λ c. cond c (after_backslash bs) (and_byte b (unescaped bs))) e
backslash_first b bs false e h = absurd (omega (arith, h))

-- the rest begins with a backslash
at_backslash : (b : ℕ) (rest bs : List ℕ) → rest ≡ b ∷ bs → prefix_len is_no_backslash rest ≡ 0
    → unescaped rest ≡ after_backslash bs
at_backslash b rest bs e h = ap unescaped e
    ∙ backslash_first b bs (b == 92) refl (ap (prefix_len is_no_backslash) (sym e) ∙ h)

-- an escape, and the run after it
pub step : (x bytes rest bs left run_at bytes' rest' : List ℕ) (b byte : ℕ) → unescaped x ≡ after bytes (unescaped rest)
    → prefix_len is_no_backslash rest ≡ 0 → rest ≡ b ∷ bs → after_backslash bs ≡ and_byte byte (unescaped left)
    → run_at ≡ take (prefix_len is_no_backslash left) left → rest' ≡ drop (prefix_len is_no_backslash left) left
    → bytes' ≡ (bytes ++ byte ∷ []) ++ run_at → unescaped x ≡ after bytes' (unescaped rest')
step x bytes rest bs left run_at bytes' rest' b byte so_far h e escaped f g k =
    so_far ∙ (ap (after bytes) (at_backslash b rest bs e h ∙ escaped)
    ∙ (after-and_byte bytes byte (unescaped left)
    ∙ (ap (after (bytes ++ byte ∷ [])) (first left run_at run_at rest' f g refl)
    ∙ (after-append (bytes ++ byte ∷ []) run_at (unescaped rest') ∙ ap (λ l. after l (unescaped rest')) (sym k)))))
