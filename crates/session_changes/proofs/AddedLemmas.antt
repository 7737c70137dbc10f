-- Lines that are added one after the other.
use Rattle.std.proofs.Common.{◌≡◌, ℕ, ◌+◌, ◌-◌, List, [], ◌∷◌, ◌++◌, length, take, sym, ap, ◌∙◌, subst, arith, append_assoc, append-nil, Ok, Err, OnOk}
use Rattle.std.specs.declared.result.Result.{Result}
use Rattle.std.specs.List.{flat_map}
use Rattle.std.proofs.lemmas.List.{length-append, length_push, take_at}
use Rattle.std.proofs.lemmas.Grind.{flat_map-append}
use Rattle.session_changes.specs.inside.Lined.{AddsLines}
use Rattle.session_changes.specs.declared.lines.CountedLines.{CountedLines}

pub adds_none : (a : CountedLines) → AddsLines [] a a
adds_none a = record { text = sym (append-nil a.text.items); count = omega arith }

pub adds_one : (line : List ℕ) (a b : CountedLines)
    → b.text.items ≡ a.text.items ++ line → b.count ≡ a.count + 1 → AddsLines (line ∷ []) a b
adds_one line a b text count =
    record { text = text ∙ ap (λ l. a.text.items ++ l) (sym (append-nil line)); count = count }

pub adds_equal : (lines : List (List ℕ)) (a : CountedLines) → lines ≡ [] → AddsLines lines a a
adds_equal lines a e = subst (λ l. AddsLines l a a) (sym e) (adds_none a)

-- a call that added one line
pub line_added : {T E : Type 0} (r : Result T E) (line : List ℕ) (lines : List (List ℕ)) (a b : CountedLines)
    → lines ≡ line ∷ []
    → OnOk r (b.text.items ≡ a.text.items ++ line) → OnOk r (b.count ≡ a.count + 1) → OnOk r (AddsLines lines a b)
line_added (Ok x) line lines a b e text count = subst (λ l. AddsLines l a b) (sym e) (adds_one line a b text count)
line_added (Err x) line lines a b e text count = tt

pub adds_more : (xs ys : List (List ℕ)) (a b c : CountedLines) → AddsLines xs a b → AddsLines ys b c
    → AddsLines (xs ++ ys) a c
adds_more xs ys a b c h g = record {
  text =
      g.text ∙ ap (λ l. l ++ flat_map (λ x. x) ys) h.text
      ∙ append_assoc a.text.items (flat_map (λ x. x) xs) (flat_map (λ x. x) ys)
      ∙ ap (λ l. a.text.items ++ l) (sym (flat_map-append (λ x. x) xs ys));
  count = omega (arith, h.count, g.count, length-append xs ys);
}

-- What is added by all lines from here on is what is added by these and then by the others.
pub adds_then : (xs ys all : List (List ℕ)) (a b c : CountedLines) → all ≡ xs ++ ys → AddsLines xs a b
    → AddsLines ys b c → AddsLines all a c
adds_then xs ys all a b c e h g = subst (λ l. AddsLines l a c) (sym e) (adds_more xs ys a b c h g)

-- a path without the child that was appended
pub path_back : (p q r : List ℕ) (i n : ℕ) → q ≡ p ++ i ∷ [] → length q ≡ n → r ≡ take (n - 1) q → r ≡ p
path_back p q r i n e count rest =
    rest ∙ ap (take (n - 1)) e ∙ take_at p (i ∷ []) (n - 1) (omega (arith, count, ap length e, length_push p i))
