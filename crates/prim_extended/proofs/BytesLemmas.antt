-- The bytes of a list of terms.
use Rattle.std.proofs.Common.{◌≡◌, ℕ, ◌+◌, ◌<◌, ◌≤◌, suc, true, false, List, [], ◌∷◌, ◌++◌, length, get_or, drop, drop-cons, add-one, Some, None, refl, sym, ap, ◌∙◌, arith, append_assoc, cond}
use Rattle.std.proofs.lemmas.Bool.Decides.{nat_tests}
use Rattle.std.specs.Prelude.{option_and_then, nat_le}
use Rattle.std.specs.declared.option.Option.{Option}
use Rattle.std.specs.Option.{option_map}
use Rattle.term_core.specs.Tree.{Tree}
use Rattle.prim_core.specs.Values.{string_term, one}
use Rattle.prim_extended.specs.Bytes.{byte_value, each, list_value, string_in_range, imploded_of}

-- ---- one element more

joined : (before : List ℕ) (b : ℕ) (o : Option (List ℕ))
    → option_map (λ bs. before ++ bs) (option_map (λ bs. b ∷ bs) o) ≡ option_map (λ bs. (before ++ b ∷ []) ++ bs) o
joined before b None = refl
joined before b (Some bs) = ap Some (sym (append_assoc before (b ∷ []) bs))

pub front : (ts : List Tree) (i : ℕ) (t : Tree) → i < length ts → t ≡ get_or ts i t → drop i ts ≡ t ∷ drop (i + 1) ts
front ts i t h is = rw add-one (drop-cons ts i t h ∙ ap (λ u. u ∷ drop (suc i) ts) (sym is))

-- what comes after the bytes so far, where the value of the next element is o
abbrev after : List ℕ → List Tree → Option ℕ → Option (List ℕ)
after before ts o =
    option_map (λ bs. before ++ bs) (option_and_then (λ b. option_map (λ bs. b ∷ bs) (each byte_value ts)) o)

left : (ts : List Tree) (i : ℕ) (t : Tree) (before : List ℕ) → i < length ts → t ≡ get_or ts i t
    → option_map (λ bs. before ++ bs) (each byte_value (drop i ts)) ≡ after before (drop (i + 1) ts) (byte_value t)
left ts i t before h is = ap (λ us. option_map (λ bs. before ++ bs) (each byte_value us)) (front ts i t h is)

pub one_more : (ts : List Tree) (i : ℕ) (t : Tree) (b : ℕ) (before now : List ℕ) → i < length ts → t ≡ get_or ts i t
    → Some b ≡ byte_value t
    → now ≡ before ++ b ∷ [] → each byte_value ts ≡ option_map (λ bs. before ++ bs) (each byte_value (drop i ts))
    → each byte_value ts ≡ option_map (λ bs. now ++ bs) (each byte_value (drop (i + 1) ts))
one_more ts i t b before now h is value added so_far =
    so_far ∙ left ts i t before h is ∙ ap (after before (drop (i + 1) ts)) (sym value)
    ∙ joined before b (each byte_value (drop (i + 1) ts))
    ∙ ap (λ (xs : List ℕ). option_map (λ bs. xs ++ bs) (each byte_value (drop (i + 1) ts))) (sym added)

pub no_byte : (ts : List Tree) (i : ℕ) (t : Tree) (before : List ℕ) → i < length ts → t ≡ get_or ts i t
    → None ≡ byte_value t → each byte_value ts ≡ option_map (λ bs. before ++ bs) (each byte_value (drop i ts))
    → None ≡ each byte_value ts
no_byte ts i t before h is value so_far =
    sym (so_far ∙ left ts i t before h is ∙ ap (after before (drop (i + 1) ts)) (sym value))

-- ---- as many bytes as elements

more-length : (o : Option ℕ) (p : Option (List ℕ)) (n : ℕ) (xs : List ℕ)
    → option_and_then (λ b. option_map (λ bs. b ∷ bs) p) o ≡ Some xs
    → ((ys : List ℕ) → p ≡ Some ys → length ys ≡ n) → length xs ≡ suc n
more-length None p n xs e h = absurd (cc)
more-length (Some b) None n xs e h = absurd (cc)
more-length (Some b) (Some ys) n xs e h = let k = h ys refl in let e2 : xs ≡ b ∷ ys = cc in ap length e2 ∙ ap suc k

each-length : (ts : List Tree) (xs : List ℕ) → each byte_value ts ≡ Some xs → length xs ≡ length ts
each-length [] xs e = let e2 : xs ≡ [] = cc in ap length e2
each-length (t ∷ ts) xs e = more-length (byte_value t) (each byte_value ts) (length ts) xs e (each-length ts)

pub in_range : (bs : List ℕ) → length bs ≤ 65536 → string_in_range bs ≡ Some (string_term bs)
in_range bs h = let e : nat_le (length bs) 65536 ≡ true = grind (arith, nat_tests) in
    ap (λ t. cond t (Some (string_term bs)) None) e

pub out_of_range : (bs : List ℕ) → 65536 < length bs → string_in_range bs ≡ None
out_of_range bs h = let e : nat_le (length bs) 65536 ≡ false = grind (arith, nat_tests) in
    ap (λ t. cond t (Some (string_term bs)) None) e

fits : (ts : List Tree) (bs : List ℕ) → length ts ≤ 65536 → each byte_value ts ≡ Some bs
    → option_and_then string_in_range (each byte_value ts) ≡ Some (string_term bs)
fits ts bs h e = let k = each-length ts bs e in ap (option_and_then string_in_range) e ∙ in_range bs (omega arith)

too_long : (ts : List Tree) (o : Option (List ℕ)) → 65536 < length ts
    → each byte_value ts ≡ o → option_and_then string_in_range o ≡ None
too_long ts None h e = refl
too_long ts (Some bs) h e = let k = each-length ts bs e in out_of_range bs (omega arith)

longer : (ts : List Tree) → 65536 < length ts → option_and_then string_in_range (each byte_value ts) ≡ None
longer ts h = too_long ts (each byte_value ts) h refl

-- ---- the string of a list

at_list : (arguments ts : List Tree) → Some ts ≡ one list_value arguments
    → imploded_of arguments ≡ option_and_then string_in_range (each byte_value ts)
at_list arguments ts e =
    ap (λ (o : Option (List Tree)). option_and_then string_in_range (option_and_then (each byte_value) o)) (sym e)

pub too_many : (arguments ts : List Tree) → Some ts ≡ one list_value arguments → 65536 < length ts
    → None ≡ imploded_of arguments
too_many arguments ts e h = sym (at_list arguments ts e ∙ longer ts h)

pub imploded : (arguments ts : List Tree) (bs text : List ℕ) (term : Tree) → Some ts ≡ one list_value arguments
    → length ts ≤ 65536 → Some bs ≡ each byte_value ts → text ≡ bs → term ≡ string_term text
    → Some term ≡ imploded_of arguments
imploded arguments ts bs text term e h all same made = ap Some (made ∙ ap string_term same)
    ∙ sym (at_list arguments ts e ∙ fits ts bs h (sym all))
