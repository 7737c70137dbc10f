-- Lemmas on measuring printed texts.
use Rattle.std.proofs.Common.{◌≡◌, ◌<◌, ℕ, ◌+◌, ◌==◌, true, false, List, [], ◌∷◌, ◌++◌, length, drop, get_or, Some, None, refl, sym, ap, ◌∙◌, arith, length-append}
use Rattle.std.proofs.lemmas.Bool.{eqb-false}
use Rattle.std.proofs.lemmas.Bool.Decides.{nat_tests}
use Rattle.std.specs.declared.option.Option.{Option}
use Rattle.term_core.specs.Tree.{Symbol, Tree, Trees, branch, application, list, tuple, annotations, bare, of_list}
use Rattle.aterm_text.specs.Printed.{print, print_name, print_all, print_more, bracketed}
use Rattle.aterm_text.specs.inside.Printing.{Leaves}
use Rattle.aterm_text.proofs.PrintLemmas.{print-bare, bracketed-some, more-step, annotations-lower, children-lower, item-height}

-- ---- one text after another

pub leaves-both : (room left a b : ℕ) (r : Option ℕ) → left + a ≡ room → Leaves left b r → Leaves room (a + b) r
leaves-both room left a b None p q = omega arith
leaves-both room left a b (Some n) p q = omega arith

pub leaves-as : (room a b : ℕ) (r : Option ℕ) → a ≡ b → Leaves room a r → Leaves room b r
leaves-as room a b None e p = omega arith
leaves-as room a b (Some n) e p = omega arith

-- ---- a term and its annotations

pub print-length : (t : Tree) (ns : List Tree) → ns ≡ annotations t
    → length (print t) ≡ length (print (bare t)) + length (bracketed 123 125 (of_list ns) (print_all (of_list ns)))
print-length t ns e =
    ap length (print-bare t) ∙ length-append (print (bare t)) _
    ∙ ap (λ (us : List Tree).
    length (print (bare t)) + length (bracketed 123 125 (of_list us) (print_all (of_list us)))) (sym e)

-- what the term leaves of what it leaves without its annotations
pub annotated-leaves : (t : Tree) (ns : List Tree) (room left : ℕ) (r : Option ℕ) → ns ≡ annotations t
    → left + length (print (bare t)) ≡ room →
    ((o c : ℕ) → Leaves left (length (bracketed o c (of_list ns) (print_all (of_list ns)))) r)
    → Leaves room (length (print t)) r
annotated-leaves t ns room left r e p q =
    let n : ℕ = length (bracketed 123 125 (of_list ns) (print_all (of_list ns))) in
    leaves-as room (length (print (bare t)) + n) (length (print t)) r (sym (print-length t ns e))
    (leaves-both room left (length (print (bare t))) n r p (q 123 125))

pub bare-longer : (t : Tree) (room : ℕ) → room < length (print (bare t)) → room < length (print t)
bare-longer t room h = omega (arith, h, print-length t (annotations t) refl)

-- a name and its arguments
pub application-length : (t : Tree) (name : Symbol) (us : List Tree) (notes : Trees)
    → t ≡ branch (application name) (of_list us) notes →
    length (print (bare t)) ≡ length (print_name name) + length (bracketed 40 41 (of_list us) (print_all (of_list us)))
application-length t name us notes e =
    let text : List ℕ = bracketed 40 41 (of_list us) (print_all (of_list us)) in
    ap (λ (x : Tree). length (print (bare x))) e ∙ length-append (print_name name ++ text) []
    ∙ omega (arith, length-append (print_name name) text)

pub application-leaves : (t : Tree) (name : Symbol) (us : List Tree) (notes : Trees) (room left : ℕ) (r : Option ℕ)
    → t ≡ branch (application name) (of_list us) notes → left + length (print_name name) ≡ room →
    ((o c : ℕ) → Leaves left (length (bracketed o c (of_list us) (print_all (of_list us)))) r)
    → Leaves room (length (print (bare t))) r
application-leaves t name us notes room left r e p q =
    let n : ℕ = length (bracketed 40 41 (of_list us) (print_all (of_list us))) in
    leaves-as room (length (print_name name) + n) (length (print (bare t))) r
    (sym (application-length t name us notes e)) (leaves-both room left (length (print_name name)) n r p (q 40 41))

pub list-leaves : (t : Tree) (us : List Tree) (notes : Trees) (room : ℕ) (r : Option ℕ)
    → t ≡ branch list (of_list us) notes →
    ((o c : ℕ) → Leaves room (length (o ∷ (print_all (of_list us) ++ c ∷ []))) r)
    → Leaves room (length (print (bare t))) r
list-leaves t us notes room r e q =
    leaves-as room (length (91 ∷ (print_all (of_list us) ++ 93 ∷ []))) (length (print (bare t))) r
    (sym (ap (λ (x : Tree). length (print (bare x))) e)) (q 91 93)

pub tuple-leaves : (t : Tree) (us : List Tree) (notes : Trees) (room : ℕ) (r : Option ℕ)
    → t ≡ branch tuple (of_list us) notes →
    ((o c : ℕ) → Leaves room (length (o ∷ (print_all (of_list us) ++ c ∷ []))) r)
    → Leaves room (length (print (bare t))) r
tuple-leaves t us notes room r e q =
    leaves-as room (length (40 ∷ (print_all (of_list us) ++ 41 ∷ []))) (length (print (bare t))) r
    (sym (ap (λ (x : Tree). length (print (bare x))) e)) (q 40 41)

-- ---- lists of terms

-- the brackets around them
pub between-leaves : (room left : ℕ) (us : List Tree) (r : Option ℕ)
    → left + 2 ≡ room → Leaves left (length (print_all (of_list us))) r →
    (o c : ℕ) → Leaves room (length (o ∷ (print_all (of_list us) ++ c ∷ []))) r
between-leaves room left us r e p o c =
    let all : List ℕ = print_all (of_list us) in
    leaves-as room (2 + length all) (length (o ∷ (all ++ c ∷ []))) r
    (omega (arith, length-append all (c ∷ []))) (leaves-both room left 2 (length all) r e p)

pub bracketed-leaves : (room : ℕ) (us : List Tree) (r : Option ℕ) → (length us == 0) ≡ false →
    ((o c : ℕ) → Leaves room (length (o ∷ (print_all (of_list us) ++ c ∷ []))) r) → (o c : ℕ)
    → Leaves room (length (bracketed o c (of_list us) (print_all (of_list us)))) r
bracketed-leaves room us r h p o c =
    let all : List ℕ = print_all (of_list us) in
    leaves-as room (length (o ∷ (all ++ c ∷ []))) (length (bracketed o c (of_list us) all)) r
    (sym (ap length (bracketed-some o c us all (eqb-false (length us) 0 h)))) (p o c)

pub empty-leaves : (room : ℕ) (us : List Tree) → (length us == 0) ≡ true → (o c : ℕ)
    → Leaves room (length (bracketed o c (of_list us) (print_all (of_list us)))) (Some room)
empty-leaves room [] h o c = omega arith
empty-leaves room (u ∷ us) h o c = let zero : length (u ∷ us) ≡ 0 = grind (arith, nat_tests) in
    absurd (omega (arith, zero))

-- from here on, a comma and a term come first
pub more-length : (us : List Tree) (i : ℕ) (d : Tree) → i < length us →
    length (print_more (of_list (drop i us)))
    ≡ 1 + length (print (get_or us i d)) + length (print_more (of_list (drop (i + 1) us)))
more-length us i d h =
    ap length (more-step [] us i d h) ∙ length-append (44 ∷ print (get_or us i d)) _ ∙ omega arith

pub ruleset room_steps = (annotations-lower, children-lower, item-height)
