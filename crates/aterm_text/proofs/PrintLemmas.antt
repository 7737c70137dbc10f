-- Appending the parts of a printed text one by one.
use Rattle.std.proofs.Common.{◌≡◌, ℕ, ◌+◌, ◌≤◌, ◌<◌, ◌≢◌, ◌==◌, Bool, true, false, not, ◌&&◌, if◌then◌else◌, Ok, Err, OnOk, List, [], ◌∷◌, ◌++◌, length, take, drop, get_or, refl, sym, ap, ◌∙◌, arith, append_assoc, add-one, drop-cons, zero, suc, cond, nat_lt, inl, inr}
use Rattle.std.proofs.lemmas.Bool.Decides.{eqb_tells}
use Rattle.std.proofs.lemmas.Bool.{eqb-false, true≢false}
use Rattle.std.specs.declared.result.Result.{Result}
use Rattle.std.specs.List.{flat_map, prefix_len}
use Rattle.std.specs.Fmt.{signed_decimal}
use Rattle.term_core.specs.Tree.{Tree, Trees, integer, branch, application, list, tuple, none, more, of_list, to_list, children, annotations, bare}
use Rattle.term_core.specs.Size.{height, heights}
use Rattle.term_core.specs.Terms.{IsTerm, AreTerms}
use Rattle.aterm_text.specs.inside.Printing.{Extends, is_plain}
use Rattle.aterm_text.specs.Printed.{print, print_all, print_more, print_name, bracketed, escaped, octal_escape}

append-nil : (a : List ℕ) → a ≡ a ++ []
append-nil [] = refl
append-nil (x ∷ xs) = ap (λ l. x ∷ l) (append-nil xs)

-- ---- a list that is only appended to

pub extends-same : (a b : List ℕ) → b ≡ a → Extends a b
extends-same a b e = record { more = []; is = e ∙ append-nil a }

pub extends-append : (a b c : List ℕ) → b ≡ a ++ c → Extends a b
extends-append a b c e = record { more = c; is = e }

pub extends-trans : (a b c : List ℕ) → Extends a b → Extends b c → Extends a c
extends-trans a b c p q =
    record { more = p.more ++ q.more; is = q.is ∙ ap (λ l. l ++ q.more) p.is ∙ append_assoc a p.more q.more }

-- ---- bytes of a quoted name

pub drop-past : {A : Type 0} (xs : List A) (i : ℕ) → length xs ≤ i → drop i xs ≡ []
drop-past [] zero h = refl
drop-past [] (suc i) h = refl
drop-past (x ∷ xs) zero h = absurd (omega arith)
drop-past (x ∷ xs) (suc i) h = drop-past xs i (omega arith)

plain_bytes : (p q e f g h i : Bool) (b : ℕ) (x : List ℕ)
    → (p && q && not e && not f) ≡ true → g ≡ false → h ≡ false → i ≡ false →
    (if e then 92 ∷ (34 ∷ []) else if f then 92 ∷ (92 ∷ []) else if g then 92 ∷ (110 ∷ []) else if h then 92
    ∷ (116 ∷ []) else if i then 92 ∷ (114 ∷ []) else if p && q then b ∷ [] else x) ≡ b ∷ []
plain_bytes true true false false g h i b x k l m n = rw (l, m, n) refl
plain_bytes true true false true g h i b x k l m n = absurd (true≢false (sym k))
plain_bytes true true true f g h i b x k l m n = absurd (true≢false (sym k))
plain_bytes true false e f g h i b x k l m n = absurd (true≢false (sym k))
plain_bytes false q e f g h i b x k l m n = absurd (true≢false (sym k))

not_plain : (b k : ℕ) → is_plain k ≡ false → is_plain b ≡ true → (b == k) ≡ false
not_plain b k fails passes =
    elim (eqb_tells b k) [ inl h ↦ absurd (true≢false (sym passes ∙ ap is_plain h.1 ∙ fails)) | inr h ↦ h.0 ]

escaped-plain : (b : ℕ) → is_plain b ≡ true → escaped b ≡ b ∷ []
escaped-plain b h = plain_bytes (nat_lt 31 b) (nat_lt b 127) (b == 34) (b == 92) (b == 10) (b == 9) (b == 13) b
    (octal_escape b) h (not_plain b 10 refl h) (not_plain b 9 refl h) (not_plain b 13 refl h)

run_more : (q : Bool) (b n : ℕ) (s : List ℕ)
    → (q ≡ true → escaped b ≡ b ∷ []) → flat_map escaped s ≡ take n s ++ flat_map escaped (drop n s) →
    escaped b ++ flat_map escaped s
    ≡ take (cond q (1 + n) 0) (b ∷ s) ++ flat_map escaped (drop (cond q (1 + n) 0) (b ∷ s))
run_more true b n s h k = let e : 1 + n ≡ suc n = omega arith in rw (e, h refl) (ap (λ l. b ∷ l) k)
run_more false b n s h k = refl

-- a run of bytes that need no escape
escaped-run : (s : List ℕ)
    → flat_map escaped s ≡ take (prefix_len is_plain s) s ++ flat_map escaped (drop (prefix_len is_plain s) s)
escaped-run [] = refl
escaped-run (b ∷ s) = run_more (is_plain b) b (prefix_len is_plain s) s (escaped-plain b) (escaped-run s)

after_run : (q : Bool) (b n c : ℕ) (s r : List ℕ) → (q ≡ is_plain b)
    → (drop n s ≡ c ∷ r → is_plain c ≡ false) → drop (cond q (1 + n) 0) (b ∷ s) ≡ c ∷ r → is_plain c ≡ false
after_run true b n c s r q h e = let k : 1 + n ≡ suc n = omega arith in h (rw k at e)
after_run false b n c s r q h e = let same : b ≡ c = cc in ap is_plain (sym same) ∙ sym q

stopped : (s : List ℕ) (c : ℕ) (r : List ℕ) → drop (prefix_len is_plain s) s ≡ c ∷ r → is_plain c ≡ false
stopped [] c r e = absurd (cc)
stopped (b ∷ s) c r e = after_run (is_plain b) b (prefix_len is_plain s) c s r refl (stopped s c r) e

-- the byte after the run needs an escape
pub escape-after : (s : List ℕ) (n c : ℕ) (r : List ℕ) → n ≡ prefix_len is_plain s
    → drop n s ≡ c ∷ r → is_plain c ≡ false
escape-after s n c r e h = stopped s c r (sym (ap (λ m. drop m s) e) ∙ h)

run_split : (s : List ℕ) (n : ℕ) → n ≡ prefix_len is_plain s
    → flat_map escaped s ≡ take n s ++ flat_map escaped (drop n s)
run_split s n e = escaped-run s ∙ ap (λ m. take m s ++ flat_map escaped (drop m s)) (sym e)

no_items : (s : List ℕ) → length s ≡ 0 → s ≡ []
no_items [] h = refl
no_items (b ∷ s) h = absurd (omega arith)

-- the whole text is a run
pub escaped-all : (first out s : List ℕ) (n : ℕ) → n ≡ prefix_len is_plain s
    → length (drop n s) ≡ 0 → first ≡ out ++ flat_map escaped s → out ++ take n s ≡ first
escaped-all first out s n e h k = sym (k ∙ ap (λ l. out ++ l)
    (run_split s n e ∙ ap (λ l. take n s ++ flat_map escaped l) (no_items (drop n s) h) ∙ sym (append-nil (take n s))))

-- a run, an escape and the rest
pub escaped-split : (first out s r : List ℕ) (n c : ℕ) → n ≡ prefix_len is_plain s → drop n s
    ≡ c ∷ r → first ≡ out ++ flat_map escaped s → first ≡ ((out ++ take n s) ++ escaped c) ++ flat_map escaped r
escaped-split first out s r n c e h k =
    k ∙ ap (λ l. out ++ l) (run_split s n e ∙ ap (λ l. take n s ++ flat_map escaped l) h)
    ∙ sym (append_assoc (out ++ take n s) (escaped c) (flat_map escaped r)
    ∙ append_assoc out (take n s) (escaped c ++ flat_map escaped r))

-- ---- lists of terms

pub item-height : (us : List Tree) (i : ℕ) (d : Tree) → i < length us → height (get_or us i d) ≤ heights (of_list us)
item-height [] i d h = absurd (omega arith)
item-height (u ∷ us) zero d h = omega arith
item-height (u ∷ us) (suc i) d h = let lower : i < length us = omega arith in omega (arith, item-height us i d lower)

pub more-step : (out : List ℕ) (us : List Tree) (i : ℕ) (d : Tree) → i < length us →
    out ++ print_more (of_list (drop i us))
    ≡ ((out ++ 44 ∷ []) ++ print (get_or us i d)) ++ print_more (of_list (drop (i + 1) us))
more-step out us i d h = rw (add-one, drop-cons us i d h)
    (sym (append_assoc (out ++ 44 ∷ []) (print (get_or us i d)) _ ∙ append_assoc out (44 ∷ []) _))

pub more-end : (out : List ℕ) (us : List Tree) (i : ℕ) → length us ≤ i → out ++ print_more (of_list (drop i us)) ≡ out
more-end out us i h = rw (drop-past us i h) (sym (append-nil out))

pub terms-step : (us : List Tree) (i : ℕ) (d : Tree) → i < length us → IsTerm (get_or us i d)
    → AreTerms (of_list (drop (i + 1) us)) → AreTerms (of_list (drop i us))
terms-step us i d h p q = rw (drop-cons us i d h) (p, rw add-one at q)

pub terms-end : (us : List Tree) (i : ℕ) → length us ≤ i → AreTerms (of_list (drop i us))
terms-end us i h = rw (drop-past us i h) tt

-- ---- a term and its annotations

pub of_list-to_list : (ts : Trees) → of_list (to_list ts) ≡ ts
of_list-to_list none = refl
of_list-to_list (more t ts) = ap (more t) (of_list-to_list ts)

pub bracketed-some : (o c : ℕ) (us : List Tree) (inner : List ℕ)
    → length us ≢ 0 → bracketed o c (of_list us) inner ≡ o ∷ (inner ++ c ∷ [])
bracketed-some o c [] inner h = absurd (h refl)
bracketed-some o c (u ∷ us) inner h = refl

-- terms in brackets are printed, if there are any
pub bracketed-printed : {T E : Type 0} (r : Result T E) (out new : List ℕ) (o c : ℕ) (us : List Tree)
    → (length us == 0) ≡ false →
    OnOk r (new ≡ out ++ o ∷ (print_all (of_list us) ++ c ∷ [])) → OnOk r
    (new ≡ out ++ bracketed o c (of_list us) (print_all (of_list us)))
bracketed-printed (Ok x) out new o c us h e = e
    ∙ ap (λ l. out ++ l) (sym (bracketed-some o c us _ (eqb-false (length us) 0 h)))
bracketed-printed (Err x) out new o c us h e = tt

abbrev pub braces : List Tree → List ℕ
braces ns = bracketed 123 125 (of_list ns) (print_all (of_list ns))

pub print-bare : (t : Tree) → print t ≡ print (bare t) ++ braces (annotations t)
print-bare (integer z notes) =
    rw of_list-to_list (ap (λ l. l ++ bracketed 123 125 notes (print_all notes)) (append-nil (signed_decimal z)))
print-bare (branch (application name) kids notes) = rw of_list-to_list
    (ap (λ l. l ++ bracketed 123 125 notes (print_all notes))
    (append-nil (print_name name ++ bracketed 40 41 kids (print_all kids))))
print-bare (branch list kids notes) =
    rw of_list-to_list (ap (λ l. 91 ∷ l) (sym (append_assoc (print_all kids) (93 ∷ []) _)))
print-bare (branch tuple kids notes) =
    rw of_list-to_list (ap (λ l. 40 ∷ l) (sym (append_assoc (print_all kids) (41 ∷ []) _)))

-- the annotations are printed after the bare term
pub annotated-printed : {T E : Type 0} (r : Result T E) (out mid new : List ℕ) (t : Tree) (ns : List Tree)
    → ns ≡ annotations t → mid ≡ out ++ print (bare t) →
    OnOk r (new ≡ mid ++ bracketed 123 125 (of_list ns) (print_all (of_list ns))) → OnOk r (new ≡ out ++ print t)
annotated-printed (Ok x) out mid new t ns n p q =
    q ∙ ap (λ l. mid ++ braces l) n ∙ ap (λ l. l ++ braces (annotations t)) p
    ∙ append_assoc out (print (bare t)) (braces (annotations t)) ∙ ap (λ l. out ++ l) (sym (print-bare t))
annotated-printed (Err x) out mid new t ns n p q = tt

IsTerm-bare : (t : Tree) → IsTerm (bare t) → AreTerms (of_list (annotations t)) → IsTerm t
IsTerm-bare (integer z notes) h k = (h.0, rw of_list-to_list at k)
IsTerm-bare (branch head kids notes) h k = (h.0, h.1, rw of_list-to_list at k)

pub annotated-term : {T E : Type 0} (r : Result T E) (t : Tree) (ns : List Tree) → ns ≡ annotations t → IsTerm (bare t)
    → OnOk r (AreTerms (of_list ns)) → OnOk r (IsTerm t)
annotated-term (Ok x) t ns n p q = IsTerm-bare t p (rw n at q)
annotated-term (Err x) t ns n p q = tt

pub annotations-lower : (t : Tree) → heights (of_list (annotations t)) < height t
annotations-lower (integer z notes) = rw of_list-to_list (omega arith)
annotations-lower (branch head kids notes) = rw of_list-to_list (omega arith)

pub children-lower : (t : Tree) → heights (of_list (children t)) < height t
children-lower (integer z notes) = omega arith
children-lower (branch head kids notes) = rw of_list-to_list (omega arith)

pub ruleset print_steps = (extends-same, extends-append, extends-trans, annotations-lower, children-lower, item-height)
