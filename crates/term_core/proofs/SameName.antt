-- When two names are equal.
use Rattle.std.proofs.Common.{◌≡◌, Bool, true, false, ◌&&◌, refl, sym, ap, ◌∙◌}
use Rattle.std.specs.Bool.{beq}
use Rattle.std.specs.Cmp.{booleans_Decides}
use Rattle.std.specs.Str.{bytes_eq}
use Rattle.std.proofs.lemmas.Slice.Eq.{bytes_eq-Decides}
use Rattle.term_core.specs.Tree.{Symbol, same_name}

and-left : (a b : Bool) → a && b ≡ true → a ≡ true
and-left true b e = refl
and-left false b e = e

and-right : (a b : Bool) → a && b ≡ true → b ≡ true
and-right true b e = e
and-right false b e = absurd (cc)

pub same_name-true : (f g : Symbol) → same_name f g ≡ true → f ≡ g
same_name-true f g e = λ i. record {
  text = (bytes_eq-Decides f.text g.text).0 (and-right (beq f.is_quoted g.is_quoted) (bytes_eq f.text g.text) e) i;
  is_quoted = (booleans_Decides f.is_quoted g.is_quoted).0
      (and-left (beq f.is_quoted g.is_quoted) (bytes_eq f.text g.text) e) i;
}

pub same_name-self : (f : Symbol) → same_name f f ≡ true
same_name-self f =
    rw ((booleans_Decides f.is_quoted f.is_quoted).1 refl) ((bytes_eq-Decides f.text f.text).1 refl)

pub same_name-sym : (f g : Symbol) → same_name f g ≡ same_name g f
same_name-sym f g = by (same_name f g) (same_name g f) refl refl where
  by : (a b : Bool) → same_name f g ≡ a → same_name g f ≡ b → a ≡ b
  by true true h k = refl
  by false false h k = refl
  by true false h k =
      sym (same_name-self g) ∙ ap (λ x. same_name g x) (sym (same_name-true f g h)) ∙ k
  by false true h k =
      sym h ∙ ap (λ x. same_name f x) (same_name-true g f k) ∙ same_name-self f
