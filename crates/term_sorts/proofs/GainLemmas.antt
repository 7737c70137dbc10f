-- What the rows of a table gain by an injection.
use Rattle.std.proofs.Common.{◌≡◌, ◌↔◌, ◌⊎◌, inl, inr, ℕ, zero, suc, ◌+◌, ◌<◌, List, [], ◌∷◌, ◌++◌, length, get_or, take, drop, set, Some, refl, sym, ap, ◌∙◌, subst, arith}
use Rattle.std.proofs.lemmas.List.{take_more, take_more_set, drop_more, drop-set-lt}
use Rattle.std.specs.List.{Contains, AllZip, slice_get}
use Rattle.std.proofs.lemmas.List.Elements.{Contains-push_cases}
use Rattle.term_sorts.specs.Sorts.{Sort, Injection, arguments_of, Takes, TakeNoneAlike, AreAlike}
use Rattle.term_sorts.specs.inside.Tables.{IsNumber, AreNumbers, HasNumber}
use Rattle.term_sorts.specs.inside.TableView.{sorts_in, AreTaken, IsRow, IsTable}
use Rattle.term_sorts.specs.inside.Gaining.{Gains, HaveClash}
use Rattle.term_sorts.specs.declared.table.Row.{Row}
use Rattle.term_sorts.proofs.TakesLemmas.{first_injected, last_injected, with_one, takes_as_before, takes_by_new, takes_before}
use Rattle.term_sorts.proofs.TableLemmas.{number_of_row, one_sort}

pub same_or_not : (m n : ℕ) → (n ≡ m) ⊎ (n ≡ m → ⊥)
same_or_not zero zero = inl refl
same_or_not zero (suc n) = inr (λ e. absurd (omega (arith, e)))
same_or_not (suc m) zero = inr (λ e. absurd (omega (arith, e)))
same_or_not (suc m) (suc n) =
    elim (same_or_not m n) as (λ _. (suc n ≡ suc m) ⊎ (suc n ≡ suc m → ⊥)) [
      | inl e ↦ inl (ap suc e)
      | inr differ ↦ inr (λ e. differ (omega (arith, e)))
    ]

pub row_of_number : (rows : List Row) (k : ℕ) (s : Sort) → IsNumber (sorts_in rows) k s
    → (r : Row) × (slice_get rows k ≡ Some r) × (r.sort ≡ s)
row_of_number [] k s e = absurd (cc)
row_of_number (r ∷ rows) zero s e = (r, refl, (cc))
row_of_number (r ∷ rows) (suc k) s e = row_of_number rows k s e

turned : (p q : Sort) → AreAlike p q → AreAlike q p
turned p q h = elim h as (λ _. AreAlike q p) [ inl a ↦ inl (a.1, a.0) | inr a ↦ inr (a.0, a.2, a.1) ]

-- ---- rows that gained

pub sorts_gained : (to : ℕ) (gained : List ℕ) (old new : List Row) → AllZip (Gains to gained) old new
    → sorts_in new ≡ sorts_in old
sorts_gained to gained [] [] h = refl
sorts_gained to gained [] (r ∷ new) h = absurd h
sorts_gained to gained (r ∷ old) [] h = absurd h
sorts_gained to gained (r ∷ old) (q ∷ new) h = λ i. h.0.sort i ∷ sorts_gained to gained old new h.1 i

row_gained : (to : ℕ) (gained : List ℕ) (old new : List Row) (k : ℕ) (n : Row) → AllZip (Gains to gained) old new
    → slice_get new k ≡ Some n
    → (o : Row) × (slice_get old k ≡ Some o) × Gains to gained o n
row_gained to gained [] [] k n h e = absurd (cc)
row_gained to gained [] (r ∷ new) k n h e = absurd h
row_gained to gained (r ∷ old) [] k n h e = absurd h
row_gained to gained (r ∷ old) (q ∷ new) zero n h e =
    let same : q ≡ n = cc in (r, refl, subst (λ (x : Row). Gains to gained r x) same h.0)
row_gained to gained (r ∷ old) (q ∷ new) (suc k) n h e = row_gained to gained old new k n h.1 e

module _ (rows : List Row) (is : List Injection) (table : IsTable rows is) (a b : Sort) (from to : ℕ)
    (of_from : IsNumber (sorts_in rows) from a) (of_to : IsNumber (sorts_in rows) to b)
    (gained : List ℕ) (all : AreTaken is (sorts_in rows) a gained) where
  -- what takes a sort with a number has one, and so has what it takes
  taker_known : (s r : Sort) → Takes is s r → HasNumber (sorts_in rows) r → HasNumber (sorts_in rows) s
  taker_known s r t h =
      elim (last_injected is s r t) as (λ _. HasNumber (sorts_in rows) s) [
        | inl e ↦ subst (λ (x : Sort). HasNumber (sorts_in rows) x) e h
        | inr i ↦ subst (λ (x : Sort). HasNumber (sorts_in rows) x) i.2 (table.ends i.0 i.1).1
      ]

  taken_known : (s r : Sort) → Takes is s r → HasNumber (sorts_in rows) s → HasNumber (sorts_in rows) r
  taken_known s r t h =
      elim (first_injected is s r t) as (λ _. HasNumber (sorts_in rows) r) [
        | inl e ↦ subst (λ (x : Sort). HasNumber (sorts_in rows) x) (sym e) h
        | inr i ↦ subst (λ (x : Sort). HasNumber (sorts_in rows) x) i.2 (table.ends i.0 i.1).0
      ]

  taken_by : (s : Sort) (k : ℕ) (r : Row) → slice_get rows k ≡ Some r
      → r.sort ≡ s → AreTaken is (sorts_in rows) s r.taken.items
  taken_by s k r e same =
      subst (λ (x : Sort). AreTaken is (sorts_in rows) x r.taken.items) same (table.each k r e).taken

  one_of_each : (HaveClash rows to gained → ⊥) → (s p q : Sort) → Takes is s p → Takes is s b → Takes is a q
      → AreAlike p q → p ≡ q
  one_of_each clear s p q t tb tq alike =
      let s_is = taker_known s b tb (to, of_to) in
      let p_is = taken_known s p t s_is in
      let q_is = taken_known a q tq (from, of_from) in
      let row = row_of_number rows s_is.0 s s_is.1 in
      let taken = taken_by s s_is.0 row.0 row.1 row.2 in
      elim (same_or_not p_is.0 q_is.0) as (λ _. p ≡ q) [
        | inl e ↦ one_sort (sorts_in rows) p_is.0 p q p_is.1 (subst (λ (n : ℕ). IsNumber (sorts_in rows) n q) e q_is.1)
        | inr other ↦ absurd (clear (
          s_is.0,
          row.0,
          row.1,
          (
            taken.complete to b of_to tb,
            (
              p_is.0,
              taken.complete p_is.0 p p_is.1 t,
              (q_is.0, all.complete q_is.0 q q_is.1 tq, other, (p, q, p_is.1, q_is.1, alike)),
            ),
          ),
        ))
      ]

  pub still_agreed : (HaveClash rows to gained → ⊥) → TakeNoneAlike (with_one is a b)
  still_agreed clear s p q t u alike =
      elim (takes_before is a b s p t) as (λ _. p ≡ q) [
        | inl x ↦ elim (takes_before is a b s q u) as (λ _. p ≡ q) [
          | inl y ↦ table.agreed s p q x y alike
          | inr y ↦ one_of_each clear s p q x y.0 y.1 alike
        ]
        | inr x ↦ elim (takes_before is a b s q u) as (λ _. p ≡ q) [
          | inl y ↦ sym (one_of_each clear s q p y x.0 x.1 (turned p q alike))
          | inr y ↦ table.agreed a p q x.1 y.1 alike
        ]
      ]

  pub clash_shows : HaveClash rows to gained → TakeNoneAlike (with_one is a b) → ⊥
  clash_shows clash agreed =
      let r = clash.1 in
      let taken = (table.each clash.0 r clash.2).taken in
      let inner = clash.3.1 in
      let m = inner.0 in
      let n = inner.2.0 in
      let alike = inner.2.3 in
      let p = alike.0 in
      let q = alike.1 in
      let tp = taken.sound m inner.1 in
      let tb = taken.sound to clash.3.0 in
      let tq = all.sound n inner.2.1 in
      let takes_p = subst (λ (x : Sort). Takes is r.sort x) (one_sort (sorts_in rows) m tp.0 p tp.1 alike.2) tp.2 in
      let takes_b = subst (λ (x : Sort). Takes is r.sort x) (one_sort (sorts_in rows) to tb.0 b tb.1 of_to) tb.2 in
      let takes_q = subst (λ (x : Sort). Takes is a x) (one_sort (sorts_in rows) n tq.0 q tq.1 alike.3) tq.2 in
      let same = agreed r.sort p q (takes_as_before is a b r.sort p takes_p)
      (takes_by_new is a b r.sort q takes_b takes_q) alike.4 in
      inner.2.2 (table.once n m q alike.3 (subst (λ (x : Sort). IsNumber (sorts_in rows) m x) same alike.2))

  taken_gained : (old new : Row) → Gains to gained old new → AreTaken is (sorts_in rows) old.sort old.taken.items
      → AreTaken (with_one is a b) (sorts_in rows) old.sort new.taken.items
  taken_gained old new gains taken = record {
    sound = λ n h. elim ((gains.taken n).0 h) as (λ _. (r : Sort) × IsNumber (sorts_in rows) n r
        × Takes (with_one is a b) old.sort r) [
          | inl x ↦ let t = taken.sound n x in (t.0, t.1, takes_as_before is a b old.sort t.0 t.2)
          | inr x ↦ let t = taken.sound to x.0 in
              let u = all.sound n x.1 in (
                u.0,
                u.1,
                takes_by_new is a b old.sort u.0
                    (subst (λ (y : Sort). Takes is old.sort y) (one_sort (sorts_in rows) to t.0 b t.1 of_to) t.2) u.2,
              )
        ];
    complete = λ n r e t. elim (takes_before is a b old.sort r t) as (λ _. Contains new.taken.items n) [
      | inl x ↦ (gains.taken n).1 (inl (taken.complete n r e x))
      | inr x ↦ (gains.taken n).1 (inr (taken.complete to b of_to x.0, all.complete n r e x.1))
    ];
    known = λ r t. elim (takes_before is a b old.sort r t) as (λ _. HasNumber (sorts_in rows) r) [
      | inl x ↦ taken.known r x
      | inr x ↦ all.known r x.1
    ];
  }

  ends_gained : (i : Injection) → Contains (with_one is a b) i
      → HasNumber (sorts_in rows) i.from × HasNumber (sorts_in rows) i.to
  ends_gained i h =
      elim (Contains-push_cases is (record { from = a; to = b }) i h) as (λ _. HasNumber (sorts_in rows) i.from
      × HasNumber (sorts_in rows) i.to) [
        | inl old ↦ table.ends i old
        | inr e ↦ subst (λ (j : Injection). HasNumber (sorts_in rows) j.from × HasNumber (sorts_in rows) j.to) e
            ((from, of_from), (to, of_to))
      ]

  pub table_gained : (new : List Row) → AllZip (Gains to gained) rows new
      → (HaveClash rows to gained → ⊥) → IsTable new (with_one is a b)
  table_gained new zip clear = record {
    each = λ k r e.
        let old = row_gained to gained rows new k r zip e in
        let o = old.0 in
        let gains = old.2 in
        let row = table.each k o old.1 in
        subst (λ (l : List Sort). IsRow (with_one is a b) l r) (sym (sorts_gained to gained rows new zip)) (record {
          arguments = subst (λ (l : List ℕ). AreNumbers (sorts_in rows) l (arguments_of r.sort)) (sym gains.arguments)
              (subst (λ (s : Sort). AreNumbers (sorts_in rows) o.arguments.items (arguments_of s)) (sym gains.sort)
              row.arguments);
          taken = subst (λ (s : Sort). AreTaken (with_one is a b) (sorts_in rows) s r.taken.items) (sym gains.sort)
              (taken_gained o r gains row.taken);
        });
    once = subst (λ (l : List Sort). (j k : ℕ) (s : Sort) → IsNumber l j s → IsNumber l k s → j ≡ k)
        (sym (sorts_gained to gained rows new zip)) table.once;
    ends = subst
        (λ (l : List Sort). (i : Injection) → Contains (with_one is a b) i → HasNumber l i.from × HasNumber l i.to)
        (sym (sorts_gained to gained rows new zip)) ends_gained;
    agreed = still_agreed clear;
  }

-- ---- one more row gains

zip_push : (R : Row → Row → Type 0) (old new : List Row) (o n : Row) → AllZip R old new → R o n
    → AllZip R (old ++ o ∷ []) (new ++ n ∷ [])
zip_push R [] [] o n h r = (r, tt)
zip_push R [] (x ∷ new) o n h r = absurd h
zip_push R (x ∷ old) [] o n h r = absurd h
zip_push R (x ∷ old) (y ∷ new) o n h r = (h.0, zip_push R old new o n h.1 r)

module _ (to : ℕ) (gained : List ℕ) (start now : List Row) (i : ℕ) (old new : Row) (long : length now ≡ length start)
    (below : i < length now) (read : old ≡ get_or now i old) (gains : Gains to gained old new)
    (done : AllZip (Gains to gained) (take i start) (take i now)) (rest : drop i now ≡ drop i start) where
  both : get_or now i old ∷ drop (i + 1) now ≡ get_or start i old ∷ drop (i + 1) start
  both = sym (drop_more now i old below) ∙ rest ∙ drop_more start i old (omega (arith, below, long))

  first_same : get_or now i old ≡ get_or start i old
  first_same = let e = both in cc

  pub rest_same : drop (i + 1) now ≡ drop (i + 1) start
  rest_same = let e = both in cc

  pub done_more : AllZip (Gains to gained) (take (i + 1) start) (take (i + 1) (set now i new))
  done_more =
      subst (λ (l : List Row). AllZip (Gains to gained) l (take (i + 1) (set now i new)))
      (ap (λ (r : Row). take i start ++ r ∷ []) (read ∙ first_same)
      ∙ sym (take_more start i old (omega (arith, below, long))))
      (subst (λ (l : List Row). AllZip (Gains to gained) (take i start ++ old ∷ []) l)
      (sym (take_more_set now i new below))
      (zip_push (Gains to gained) (take i start) (take i now) old new done gains))

  pub rest_more : drop (i + 1) (set now i new) ≡ drop (i + 1) start
  rest_more = drop-set-lt (i + 1) now i new (omega arith) ∙ rest_same

pub gains_nothing : (to : ℕ) (gained : List ℕ) (r : Row) → (Contains r.taken.items to → ⊥) → Gains to gained r r
gains_nothing to gained r apart = record {
  sort = refl;
  arguments = refl;
  taken = λ n. (λ h. inl h, λ h. elim h as (λ _. Contains r.taken.items n) [ inl a ↦ a | inr b ↦ absurd (apart b.0) ]);
}

pub gains_all : (to : ℕ) (gained : List ℕ) (old new : Row)
    → new.sort ≡ old.sort → new.arguments.items ≡ old.arguments.items → Contains old.taken.items to
    → ((n : ℕ) → Contains new.taken.items n ↔ (Contains old.taken.items n ⊎ Contains gained n))
    → Gains to gained old new
gains_all to gained old new sort arguments there both = record {
  sort = sort;
  arguments = arguments;
  taken = λ n. (
    λ h. elim ((both n).0 h) as (λ _. Contains old.taken.items n
        ⊎ (Contains old.taken.items to × Contains gained n)) [ inl a ↦ inl a | inr b ↦ inr (there, b) ],
    λ h. elim h as (λ _. Contains new.taken.items n) [ inl a ↦ (both n).1 (inl a) | inr b ↦ (both n).1 (inr b.1) ],
  );
}

-- what the row of a sort has are all that it takes
pub all_gained : (rows : List Row) (is : List Injection) (table : IsTable rows is) (a : Sort) (from : ℕ) (r : Row)
    (gained : List ℕ)
    → IsNumber (sorts_in rows) from a → slice_get rows from ≡ Some r
    → gained ≡ r.taken.items → AreTaken is (sorts_in rows) a gained
all_gained rows is table a from r gained of_from read e =
    subst (λ (l : List ℕ). AreTaken is (sorts_in rows) a l) (sym e)
    (subst (λ (s : Sort). AreTaken is (sorts_in rows) s r.taken.items)
    (one_sort (sorts_in rows) from r.sort a (number_of_row rows from r read) of_from)
    (table.each from r read).taken)
