-- Cells that are filled, emptied and closed, and what they keep for marks.
use Rattle.std.proofs.Common.{◌≡◌, ℕ, ◌-◌, ◌≤◌, List, [], ◌∷◌, ◌++◌, length, take, drop, set, zero, suc, refl, sym, ap, ◌∙◌, arith, Some, None}
use Rattle.std.specs.Prelude.{slice_get}
use Rattle.std.specs.declared.option.Option.{Option}
use Rattle.std.proofs.lemmas.List.{append-nil, append_assoc, length-append, length-set, length-take-le, set-set, set-get_or, take-take, take-append-le, drop-append-le, take-append-drop, take_all, drop_all, take_at, take_rest}
use Rattle.std.proofs.lemmas.Option.{get_or_from_slice_get}
use Rattle.term_core.specs.Tree.{Tree}
use Rattle.strategy_meaning.specs.Matching.{Bindings}
use Rattle.term_match.specs.CellContents.{CellContents}
use Rattle.term_match.specs.Marks.{emptied, kept, mark_of, Before, Stays}
use Rattle.term_match.specs.inside.Growing.{Grows}
use Rattle.term_match.specs.declared.cells.Mark.{Mark}

-- ---- cells emptied

take_of_set : (n : ℕ) (B : Bindings) (i : ℕ) (o : Option Tree) → take n (set B i o) ≡ set (take n B) i o
take_of_set zero [] i o = refl
take_of_set zero (x ∷ B) zero o = refl
take_of_set zero (x ∷ B) (suc i) o = refl
take_of_set (suc n) [] i o = refl
take_of_set (suc n) (x ∷ B) zero o = refl
take_of_set (suc n) (x ∷ B) (suc i) o = ap (λ l. x ∷ l) (take_of_set n B i o)

set_swap : (B : Bindings) (i j : ℕ) → set (set B i None) j None ≡ set (set B j None) i None
set_swap [] i j = refl
set_swap (x ∷ B) zero zero = refl
set_swap (x ∷ B) zero (suc j) = refl
set_swap (x ∷ B) (suc i) zero = refl
set_swap (x ∷ B) (suc i) (suc j) = ap (λ l. x ∷ l) (set_swap B i j)

take_of_emptied : (n : ℕ) (is : List ℕ) (B : Bindings) → take n (emptied is B) ≡ emptied is (take n B)
take_of_emptied n [] B = refl
take_of_emptied n (i ∷ is) B = take_of_emptied n is (set B i None) ∙ ap (emptied is) (take_of_set n B i None)

emptied-set : (is : List ℕ) (B : Bindings) (j : ℕ) → emptied is (set B j None) ≡ set (emptied is B) j None
emptied-set [] B j = refl
emptied-set (i ∷ is) B j = ap (emptied is) (set_swap B j i) ∙ emptied-set is (set B i None) j

emptied-append : (is js : List ℕ) (B : Bindings) → emptied (is ++ js) B ≡ emptied js (emptied is B)
emptied-append [] js B = refl
emptied-append (i ∷ is) js B = emptied-append is js (set B i None)

emptied_swap : (is js : List ℕ) (B : Bindings) → emptied is (emptied js B) ≡ emptied js (emptied is B)
emptied_swap is [] B = refl
emptied_swap is (j ∷ js) B = emptied_swap is js (set B j None) ∙ ap (emptied js) (emptied-set is B j)

length-emptied : (is : List ℕ) (B : Bindings) → length (emptied is B) ≡ length B
length-emptied [] B = refl
length-emptied (i ∷ is) B = length-emptied is (set B i None) ∙ length-set B i None

drop_split : (m n : ℕ) (l : List ℕ) → m ≤ n → drop m l ≡ drop m (take n l) ++ drop n l
drop_split zero n l h = sym (take-append-drop n l)
drop_split (suc m) zero l h = absurd (omega (arith, h))
drop_split (suc m) (suc n) [] h = refl
drop_split (suc m) (suc n) (x ∷ l) h = drop_split m n l (omega (arith, h))

-- ---- marks

pub kept_now : (c : CellContents) → kept c (mark_of c) ≡ c.bindings
kept_now c =
    ap (λ l. emptied l (take (length c.bindings) c.bindings)) (drop_all (length c.filled) c.filled (omega arith))
    ∙ take_all (length c.bindings) c.bindings (omega arith)

pub more_stays : (old new : CellContents) (more : Bindings) → new.bindings ≡ old.bindings ++ more
    → new.filled ≡ old.filled → Stays (mark_of old) old new
more_stays old new more b f = λ m le.
    (λ i. emptied (drop m.filled (f i)) (take m.count (b i)))
    ∙ ap (emptied (drop m.filled old.filled)) (take-append-le m.count old.bindings more le.0)

pub fewer_stays : (old new : CellContents) (count : ℕ) → new.bindings ≡ take count old.bindings
    → new.filled ≡ old.filled → Stays (record { count = count; filled = length old.filled }) old new
fewer_stays old new count b f = λ m le.
    (λ i. emptied (drop m.filled (f i)) (take m.count (b i)))
    ∙ ap (emptied (drop m.filled old.filled)) (take-take m.count count old.bindings le.0)

pub back_stays : (old new : CellContents) (mark : Mark) → new.bindings ≡ kept old mark
    → new.filled ≡ take mark.filled old.filled → Stays mark old new
back_stays old new mark b f = λ m le.
    let late : List ℕ = drop mark.filled old.filled in
    let early : List ℕ = drop m.filled (take mark.filled old.filled) in
    let cells : Bindings = take m.count old.bindings in
    (λ i. emptied (drop m.filled (f i)) (take m.count (b i)))
    ∙ ap (emptied early) (take_of_emptied m.count late (take mark.count old.bindings)
    ∙ ap (emptied late) (take-take m.count mark.count old.bindings le.0))
    ∙ emptied_swap early late cells
    ∙ sym (emptied-append early late cells)
    ∙ sym (ap (λ l. emptied l cells) (drop_split m.filled mark.filled old.filled le.1))

pub back_mark : (old new : CellContents) (mark : Mark) → Before mark (mark_of old) → new.bindings ≡ kept old mark
    → new.filled ≡ take mark.filled old.filled → mark_of new ≡ mark
back_mark old new mark le b f =
    let p : length new.bindings ≡ mark.count =
    ap length b ∙ length-emptied (drop mark.filled old.filled) (take mark.count old.bindings)
    ∙ length-take-le mark.count old.bindings le.0 in
    let q : length new.filled ≡ mark.filled = ap length f ∙ length-take-le mark.filled old.filled le.1 in
    λ i. record { count = p i; filled = q i }

-- the emptied cells of a slice
pub since_emptied : (B D : Bindings) (F d : List ℕ) (k : ℕ) → d ≡ F → D ≡ B
    → emptied (take (length d - k) (drop k d)) D ≡ emptied (drop k F) B
since_emptied B D F d k e g =
    (λ i. emptied (take (length (e i) - k) (drop k (e i))) (g i)) ∙ ap (λ l. emptied l B) (take_rest F k)

-- ---- cells filled

pub fill_grows : (old new : CellContents) (i : ℕ) (o : Option Tree) → slice_get old.bindings i ≡ Some None
    → new.bindings ≡ set old.bindings i o → new.filled ≡ old.filled ++ i ∷ [] → Grows old new
fill_grows old new i o empty b f =
    let undone : set (set old.bindings i o) i None ≡ old.bindings =
    set-set old.bindings i o None
    ∙ ap (set old.bindings i) (sym (get_or_from_slice_get old.bindings i None None empty))
    ∙ set-get_or old.bindings i None in
    record {
      count = ap length b ∙ length-set old.bindings i o;
      more = i ∷ [];
      filled = f;
      stays = λ m le.
          let before : List ℕ = drop m.filled old.filled in
          (λ k. emptied (drop m.filled (f k)) (take m.count (b k)))
          ∙ ap (λ l. emptied l (take m.count (set old.bindings i o))) (drop-append-le m.filled old.filled (i ∷ []) le.1)
          ∙ emptied-append before (i ∷ []) (take m.count (set old.bindings i o))
          ∙ sym (emptied-set before (take m.count (set old.bindings i o)) i)
          ∙ ap (emptied before) (sym (take_of_set m.count (set old.bindings i o) i None) ∙ ap (take m.count) undone);
    }

pub grows_none : (c : CellContents) → Grows c c
grows_none c =
    record { count = refl; more = []; filled = sym (append-nil c.filled); stays = λ m le. refl }

pub grows_then : (a b c : CellContents) → Grows a b → Grows b c → Grows a c
grows_then a b c g h = record {
  count = h.count ∙ g.count;
  more = g.more ++ h.more;
  filled = h.filled ∙ ap (λ l. l ++ h.more) g.filled ∙ append_assoc a.filled g.more h.more;
  stays = λ m le.
      h.stays m (omega (arith, le.0, g.count), omega (arith, le.1, ap length g.filled, length-append a.filled g.more))
      ∙ g.stays m le;
}

pub grows_later : (a b : CellContents) → Grows a b → Before (mark_of a) (mark_of b)
grows_later a b g =
    (omega (arith, g.count), omega (arith, ap length g.filled, length-append a.filled g.more))

-- filled cells are emptied again
pub grows_back : (a b c : CellContents) → Grows a b → c.bindings ≡ kept b (mark_of a)
    → c.filled ≡ take (length a.filled) b.filled → c ≡ a
grows_back a b c g k f =
    let p : c.bindings ≡ a.bindings =
    k ∙ g.stays (mark_of a) (omega arith, omega arith) ∙ kept_now a in
    let q : c.filled ≡ a.filled =
    f ∙ ap (take (length a.filled)) g.filled ∙ take_at a.filled g.more (length a.filled) refl in
    λ i. record { bindings = p i; filled = q i }
