-- Printing over lines, part by part.
use Rattle.std.proofs.Common.{◌≡◌, ◌<◌, ◌≤◌, ℕ, ◌+◌, ◌-◌, true, false, List, [], ◌∷◌, ◌++◌, length, take, drop, get_or, replicate, Ok, Err, OnOk, refl, sym, ap, ◌∙◌, arith, append_assoc, add-one, drop-cons, nat_le, ◌==◌}
use Rattle.std.proofs.lemmas.Bool.{eqb-false}
use Rattle.std.proofs.lemmas.List.{append-nil, replicate-append-replicate, take-replicate}
use Rattle.std.specs.declared.result.Result.{Result}
use Rattle.std.specs.Fmt.{signed_decimal}
use Rattle.term_core.specs.Tree.{Tree, integer, branch, application, list, tuple, of_list, children, annotations, bare}
use Rattle.aterm_text.specs.Printed.{assembled, bracketed, print, print_name}
use Rattle.aterm_text.specs.Layout.{new_line, fitted, pretty, pretty_all, pretty_more}
use Rattle.aterm_text.specs.declared.layout.TheConstants.{LINE_WIDTH}
use Rattle.aterm_text.proofs.PrintLemmas.{of_list-to_list, bracketed-some, drop-past, print_steps}

-- ---- a term that fits, and one that doesn't

-- the text of the term over lines, where it doesn't fit
abbrev pub spread : ℕ → Tree → List ℕ
spread column t = assembled t (pretty_all column (of_list (children t))) (pretty_all column (of_list (annotations t)))

pretty-is : (n : ℕ) (t : Tree) → pretty n t ≡ fitted n (print t) (spread (n + 2) t)
pretty-is n (integer z notes) = rw (of_list-to_list notes) refl
pretty-is n (branch head kids notes) = rw (of_list-to_list kids, of_list-to_list notes) refl

pub pretty-fits : (n : ℕ) (t : Tree) → nat_le (n + length (print t)) LINE_WIDTH ≡ true → pretty n t ≡ print t
pretty-fits n t h = pretty-is n t ∙ rw h refl

pub pretty-spread : (n : ℕ) (t : Tree)
    → nat_le (n + length (print t)) LINE_WIDTH ≡ false → pretty n t ≡ spread (n + 2) t
pretty-spread n t h = pretty-is n t ∙ rw h refl

-- ---- what was appended, in other words

pub appended-as : {T E : Type 0} (r : Result T E) (out new a b : List ℕ)
    → a ≡ b → OnOk r (new ≡ out ++ a) → OnOk r (new ≡ out ++ b)
appended-as (Ok x) out new a b e h = h ∙ ap (λ l. out ++ l) e
appended-as (Err x) out new a b e h = tt

-- terms in brackets, if there are any
pub bracketed-lines : {T E : Type 0} (r : Result T E) (out new : List ℕ) (o c : ℕ) (us : List Tree) (inner : List ℕ)
    → (length us == 0) ≡ false →
    OnOk r (new ≡ out ++ o ∷ (inner ++ c ∷ [])) → OnOk r (new ≡ out ++ bracketed o c (of_list us) inner)
bracketed-lines r out new o c us inner h =
    appended-as r out new (o ∷ (inner ++ c ∷ [])) (bracketed o c (of_list us) inner)
    (sym (bracketed-some o c us inner (eqb-false (length us) 0 h)))

assembled-bare : (t : Tree) (inner marks : List ℕ)
    → assembled t inner marks ≡ assembled (bare t) inner [] ++ bracketed 123 125 (of_list (annotations t)) marks
assembled-bare (integer z notes) inner marks =
    rw of_list-to_list (ap (λ l. l ++ bracketed 123 125 notes marks) (sym (append-nil (signed_decimal z))))
assembled-bare (branch (application name) kids notes) inner marks = rw of_list-to_list
    (ap (λ l. l ++ bracketed 123 125 notes marks) (sym (append-nil (print_name name ++ bracketed 40 41 kids inner))))
assembled-bare (branch list kids notes) inner marks =
    rw of_list-to_list (ap (λ l. 91 ∷ l) (sym (append_assoc inner (93 ∷ []) _)))
assembled-bare (branch tuple kids notes) inner marks =
    rw of_list-to_list (ap (λ l. 40 ∷ l) (sym (append_assoc inner (41 ∷ []) _)))

-- the annotations come after the bare term
pub annotated-lines : {T E : Type 0} (r : Result T E) (out mid new : List ℕ) (n : ℕ) (t : Tree) (ns : List Tree)
    → ns ≡ annotations t →
    mid ≡ out ++ assembled (bare t) (pretty_all n (of_list (children t))) [] →
    OnOk r (new ≡ mid ++ bracketed 123 125 (of_list ns) (pretty_all n (of_list ns))) → OnOk r (new ≡ out ++ spread n t)
annotated-lines (Ok x) out mid new n t ns e p q =
    let inner : List ℕ = pretty_all n (of_list (children t)) in
    let marks : List ℕ = pretty_all n (of_list (annotations t)) in
    let all : List ℕ = bracketed 123 125 (of_list (annotations t)) marks in
    q ∙ ap (λ (us : List Tree). mid ++ bracketed 123 125 (of_list us) (pretty_all n (of_list us))) e
    ∙ ap (λ l. l ++ all) p
    ∙ append_assoc out (assembled (bare t) inner []) all ∙ ap (λ l. out ++ l) (sym (assembled-bare t inner marks))
annotated-lines (Err x) out mid new n t ns e p q = tt

-- ---- lists of terms

-- a comma, a new line and a term, and the rest
pub lines-step : (n : ℕ) (out : List ℕ) (us : List Tree) (i : ℕ) (d : Tree) → i < length us →
    out ++ pretty_more n (of_list (drop i us))
    ≡ (((out ++ 44 ∷ []) ++ new_line n) ++ pretty n (get_or us i d)) ++ pretty_more n (of_list (drop (i + 1) us))
lines-step n out us i d h = rw (add-one, drop-cons us i d h)
    (sym (append_assoc ((out ++ 44 ∷ []) ++ new_line n) (pretty n (get_or us i d)) _
    ∙ append_assoc (out ++ 44 ∷ []) (new_line n) _ ∙ append_assoc out (44 ∷ []) _
    ∙ ap (λ l. out ++ 44 ∷ l) (sym (append_assoc (new_line n) (pretty n (get_or us i d)) _))))

pub lines-end : (n : ℕ) (out : List ℕ) (us : List Tree) (i : ℕ)
    → length us ≤ i → out ++ pretty_more n (of_list (drop i us)) ≡ out
lines-end n out us i h = rw (drop-past us i h) (append-nil out)

-- ---- new lines

-- some of the blanks, and those that are left
pub blanks-step : (out : List ℕ) (left n : ℕ)
    → n ≤ left → n ≤ 64 → out ++ replicate left 32 ≡ (out ++ take n (replicate 64 32)) ++ replicate (left - n) 32
blanks-step out left n h k =
    let all : n + (left - n) ≡ left = omega arith in
    ap (λ l. out ++ l) (ap (λ (m : ℕ). replicate m 32) (sym all) ∙ sym (replicate-append-replicate n (left - n) 32))
    ∙ sym (append_assoc out (replicate n 32) (replicate (left - n) 32))
    ∙ ap (λ l. (out ++ l) ++ replicate (left - n) 32) (sym (take-replicate n 64 32 k))

pub ruleset layout_steps = (print_steps)
