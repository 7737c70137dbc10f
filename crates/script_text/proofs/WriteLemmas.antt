-- Lemmas on what a writer holds.
use Rattle.std.proofs.Common.{◌≡◌, ◌-◌, ℕ, List, [], ◌++◌, Some, None, refl, sym, ap, ◌∙◌, append_assoc, append-nil, length, take, drop, take-append-drop, subst}
use Rattle.std.specs.declared.option.Option.{Option}
use Rattle.std.specs.Io.KnownBytes.{Appends, Consumes, Keeps}
use Rattle.std.proofs.KnownBytes.{Appends-trans, Appends-kept, Keeps-refl, Keeps-trans}
use Rattle.std.proofs.lemmas.List.{take_rest}
use Rattle.script_text.specs.Run.{WritesFront}

pub Keeps-from_none : (a b : Option (List ℕ)) → Appends a b [] → Keeps a b
Keeps-from_none None b h = h
Keeps-from_none (Some xs) None h = h
Keeps-from_none (Some xs) (Some ys) h = h ∙ append-nil xs

pub Appends-none : (a b : Option (List ℕ)) → Keeps a b → Appends a b []
Appends-none None b h = h
Appends-none (Some xs) None h = h
Appends-none (Some xs) (Some ys) h = h ∙ sym (append-nil xs)

-- nothing is written yet
pub WritesFront-none : (a : Option (List ℕ)) (bytes : List ℕ) → WritesFront a a bytes bytes
WritesFront-none a bytes = record { kept = []; all = refl; written = Appends-none a a (kept a) }
  where
    kept : (o : Option (List ℕ)) → Keeps o o
    kept None = tt
    kept (Some xs) = refl

-- n more bytes are written
pub WritesFront-more : (a b c : Option (List ℕ)) (bytes rest : List ℕ) (n : ℕ) → WritesFront a b bytes rest
    → Appends b c (take n rest) → WritesFront a c bytes (take (length rest - n) (drop n rest))
WritesFront-more a b c bytes rest n w h = record {
  kept = w.kept ++ take n rest;
  all = w.all ∙ ap (λ (r : List ℕ). w.kept ++ r) (sym (take-append-drop n rest)
      ∙ ap (λ (r : List ℕ). take n rest ++ r) (sym (take_rest rest n))) ∙ sym (append_assoc w.kept (take n rest) _);
  written = Appends-trans a b c w.kept (take n rest) w.written h;
}

-- nothing more is written
pub WritesFront-kept : (a b c : Option (List ℕ)) (bytes rest : List ℕ) → WritesFront a b bytes rest → Keeps b c
    → WritesFront a c bytes rest
WritesFront-kept a b c bytes rest w h =
    record { kept = w.kept; all = w.all; written = Appends-kept a b c w.kept w.written h }

-- all is written
pub WritesFront-all : (a b : Option (List ℕ)) (bytes rest : List ℕ) → WritesFront a b bytes rest
    → rest ≡ [] → Appends a b bytes
WritesFront-all a b bytes rest w e = let P : List ℕ → Type 0 = λ xs. Appends a b xs in
    subst P (sym (w.all ∙ ap (λ (r : List ℕ). w.kept ++ r) e ∙ append-nil w.kept)) w.written

-- nothing is read, and then bytes are
pub Consumes-after : (a b c : Option (List ℕ)) (bs : List ℕ) → Keeps a b → Consumes b c bs → Consumes a c bs
Consumes-after None b c bs h k = tt
Consumes-after (Some xs) None c bs h k = absurd h
Consumes-after (Some xs) (Some ys) None bs h k = absurd k
Consumes-after (Some xs) (Some ys) (Some zs) bs h k = sym h ∙ k

-- nothing is written, and then bytes are
pub Appends-after : (a b c : Option (List ℕ)) (bs : List ℕ) → Keeps a b → Appends b c bs → Appends a c bs
Appends-after None b c bs h k = tt
Appends-after (Some xs) None c bs h k = absurd h
Appends-after (Some xs) (Some ys) None bs h k = absurd k
Appends-after (Some xs) (Some ys) (Some zs) bs h k = k ∙ ap (λ (l : List ℕ). l ++ bs) h

pub ruleset known_bytes = (
  Keeps-from_none,
  Appends-none,
  WritesFront-none,
  WritesFront-more,
  WritesFront-kept,
  Keeps-refl,
  Keeps-trans,
  Consumes-after,
  Appends-after,
)
