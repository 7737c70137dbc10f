-- What the rows of a table keep true, as sorts and injections are added.
use Rattle.std.proofs.Common.{◌≡◌, inl, inr, ℕ, zero, suc, ◌+◌, ◌<◌, List, [], ◌∷◌, ◌++◌, length, get_or, take, Some, refl, sym, ap, ◌∙◌, subst, arith}
use Rattle.std.specs.List.{Contains, slice_get}
use Rattle.std.specs.Option.{option_map}
use Rattle.std.proofs.lemmas.List.{take_more}
use Rattle.std.proofs.lemmas.Option.{slice_get-map, same_Some, slice_get_read, slice_get_within}
use Rattle.term_sorts.specs.Sorts.{Sort, Injection, arguments_of}
use Rattle.term_sorts.specs.inside.Tables.{Table, IsNumber, AreNumbers, HasNumber, Extends}
use Rattle.term_sorts.specs.inside.TableView.{sorts_in, AreTaken, IsRow, IsTable}
use Rattle.term_sorts.specs.declared.table.Row.{Row}
use Rattle.term_sorts.proofs.ListLemmas.{place_kept, last_place, place_cases}
use Rattle.term_sorts.proofs.TakesLemmas.{takes_itself, first_injected, last_injected}

-- ---- numbers

pub number_of_row : (rows : List Row) (k : ℕ) (r : Row) → slice_get rows k ≡ Some r → IsNumber (sorts_in rows) k r.sort
number_of_row rows k r e = slice_get-map (λ (r : Row). r.sort) rows k ∙ ap (λ o. option_map (λ (r : Row). r.sort) o) e

pub one_sort : (sorts : List Sort) (n : ℕ) (p q : Sort) → IsNumber sorts n p → IsNumber sorts n q → p ≡ q
one_sort sorts n p q e f = same_Some p q (sym e ∙ f)

pub numbers_kept : (old new : List Sort) → ((n : ℕ) (s : Sort) → IsNumber old n s → IsNumber new n s)
    → (ns : List ℕ) (ss : List Sort)
    → AreNumbers old ns ss → AreNumbers new ns ss
numbers_kept old new keep [] [] h = tt
numbers_kept old new keep [] (s ∷ ss) h = absurd h
numbers_kept old new keep (n ∷ ns) [] h = absurd h
numbers_kept old new keep (n ∷ ns) (s ∷ ss) h = (keep n s h.0, numbers_kept old new keep ns ss h.1)

pub sorts_push : (rows : List Row) (r : Row) → sorts_in (rows ++ r ∷ []) ≡ sorts_in rows ++ r.sort ∷ []
sorts_push [] r = refl
sorts_push (q ∷ rows) r = ap (λ l. q.sort ∷ l) (sorts_push rows r)

pub length_sorts : (rows : List Row) → length (sorts_in rows) ≡ length rows
length_sorts [] = refl
length_sorts (r ∷ rows) = ap suc (length_sorts rows)

-- ---- a sort is added that has no number

only_one : (k n : ℕ) → Contains (k ∷ []) n → k ≡ n
only_one k n (zero, l, e) = e
only_one k n (suc i, l, e) = absurd (omega arith)

module _ (sorts : List Sort) (is : List Injection) (x : Sort) (new : HasNumber sorts x → ⊥)
    (ends : (i : Injection) → Contains is i → HasNumber sorts i.from × HasNumber sorts i.to) where
  abbrev more : List Sort
  more = sorts ++ x ∷ []

  not_new : (s : Sort) → HasNumber sorts s → s ≡ x → ⊥
  not_new s h e = new (subst (λ (y : Sort). HasNumber sorts y) e h)

  taken_kept : (s : Sort) (ns : List ℕ) → HasNumber sorts s → AreTaken is sorts s ns → AreTaken is more s ns
  taken_kept s ns known taken = record {
    sound = λ n h. let t = taken.sound n h in (t.0, place_kept sorts x t.0 n t.1, t.2);
    complete = λ n r e t. elim (place_cases sorts x r n e) as (λ _. Contains ns n) [
      | inl old ↦ taken.complete n r old t
      | inr last ↦ elim (first_injected is s r t) as (λ _. Contains ns n) [
        | inl same ↦ absurd (not_new s known (sym same ∙ last.1))
        | inr i ↦ absurd (not_new i.0.from (ends i.0 i.1).0 (i.2 ∙ last.1))
      ]
    ];
    known = λ r t. let h = taken.known r t in (h.0, place_kept sorts x r h.0 h.1);
  }

  taken_alone : AreTaken is more x (length sorts ∷ [])
  taken_alone = record {
    sound = λ n h.
        (x, subst (λ (k : ℕ). IsNumber more k x) (only_one (length sorts) n h) (last_place sorts x), takes_itself is x);
    complete = λ n r e t. elim (last_injected is x r t) as (λ _. Contains (length sorts ∷ []) n) [
      | inl same ↦ elim (place_cases sorts x r n e) as (λ _. Contains (length sorts ∷ []) n) [
        | inl old ↦ absurd (not_new r (n, old) same)
        | inr last ↦ (0, omega arith, sym last.0)
      ]
      | inr i ↦ absurd (not_new i.0.to (ends i.0 i.1).1 i.2)
    ];
    known = λ r t. elim (last_injected is x r t) as (λ _. HasNumber more r) [
      | inl same ↦ (length sorts, subst (λ (s : Sort). IsNumber more (length sorts) s) (sym same) (last_place sorts x))
      | inr i ↦ absurd (not_new i.0.to (ends i.0 i.1).1 i.2)
    ];
  }

module _ (rows : List Row) (is : List Injection) (x : Row) (table : IsTable rows is)
    (new : HasNumber (sorts_in rows) x.sort → ⊥) where
  abbrev sorts : List Sort
  sorts = sorts_in rows

  row_kept : (k : ℕ) (r : Row) → slice_get rows k ≡ Some r → IsRow is (sorts ++ x.sort ∷ []) r
  row_kept k r e =
      let row = table.each k r e in record {
        arguments = numbers_kept sorts (sorts ++ x.sort ∷ []) (λ n s. place_kept sorts x.sort s n) r.arguments.items
            (arguments_of r.sort) row.arguments;
        taken = taken_kept sorts is x.sort new table.ends r.sort r.taken.items (k, number_of_row rows k r e) row.taken;
      }

  row_added : AreNumbers sorts x.arguments.items (arguments_of x.sort)
      → x.taken.items ≡ length rows ∷ [] → IsRow is (sorts ++ x.sort ∷ []) x
  row_added arguments taken = record {
    arguments = numbers_kept sorts (sorts ++ x.sort ∷ []) (λ n s. place_kept sorts x.sort s n) x.arguments.items
        (arguments_of x.sort) arguments;
    taken = subst (λ (l : List ℕ). AreTaken is (sorts ++ x.sort ∷ []) x.sort l)
        (ap (λ (n : ℕ). n ∷ []) (length_sorts rows) ∙ sym taken)
        (taken_alone sorts is x.sort new table.ends);
  }

  once_kept : (j k : ℕ) (s : Sort) → IsNumber (sorts ++ x.sort ∷ []) j s → IsNumber (sorts ++ x.sort ∷ []) k s → j ≡ k
  once_kept j k s e f =
      elim (place_cases sorts x.sort s j e) as (λ _. j ≡ k) [
        | inl a ↦ elim (place_cases sorts x.sort s k f) as (λ _. j ≡ k) [
          | inl b ↦ table.once j k s a b
          | inr b ↦ absurd (not_new sorts is x.sort new table.ends s (j, a) b.1)
        ]
        | inr a ↦ elim (place_cases sorts x.sort s k f) as (λ _. j ≡ k) [
          | inl b ↦ absurd (not_new sorts is x.sort new table.ends s (k, b) a.1)
          | inr b ↦ a.0 ∙ sym b.0
        ]
      ]

  has_kept : (s : Sort) → HasNumber sorts s → HasNumber (sorts ++ x.sort ∷ []) s
  has_kept s h = (h.0, place_kept sorts x.sort s h.0 h.1)

  pub table_push : AreNumbers sorts x.arguments.items (arguments_of x.sort)
      → x.taken.items ≡ length rows ∷ [] → IsTable (rows ++ x ∷ []) is
  table_push arguments taken = record {
    each = λ k r e. subst (λ (l : List Sort). IsRow is l r) (sym (sorts_push rows x))
        (elim (place_cases rows x r k e) as (λ _. IsRow is (sorts ++ x.sort ∷ []) r) [
          | inl old ↦ row_kept k r old
          | inr last ↦ subst (λ (y : Row). IsRow is (sorts ++ x.sort ∷ []) y) (sym last.1) (row_added arguments taken)
        ]);
    once = subst (λ (l : List Sort). (j k : ℕ) (s : Sort) → IsNumber l j s → IsNumber l k s → j ≡ k)
        (sym (sorts_push rows x)) once_kept;
    ends = λ i h. subst (λ (l : List Sort). HasNumber l i.from × HasNumber l i.to) (sym (sorts_push rows x))
        (has_kept i.from (table.ends i h).0, has_kept i.to (table.ends i h).1);
    agreed = table.agreed;
  }

-- ---- rows read by the program

pub read_row : (rows items : List Row) (i : ℕ) (r : Row) → items ≡ rows → i < length items → r ≡ get_or items i r
    → slice_get rows i ≡ Some r
read_row rows items i r same below is =
    subst (λ (l : List Row). slice_get l i ≡ Some r) same (slice_get_read items (length items) i r refl below is)

pub number_below : (rows : List Row) (n : ℕ) (s : Sort) → IsNumber (sorts_in rows) n s → n < length rows
number_below rows n s e = omega (arith, slice_get_within (sorts_in rows) n s e, length_sorts rows)

pub extends_push : (rows : List Row) (is : List Injection) (x : Row)
    → Extends (record { sorts = sorts_in rows; injections = is })
    (record { sorts = sorts_in (rows ++ x ∷ []); injections = is })
extends_push rows is x = record {
  injections = refl;
  numbers = λ n s e.
      subst (λ (l : List Sort). IsNumber l n s) (sym (sorts_push rows x)) (place_kept (sorts_in rows) x.sort s n e);
}

pub number_pushed : (rows : List Row) (x : Row) → IsNumber (sorts_in (rows ++ x ∷ [])) (length rows) x.sort
number_pushed rows x =
    subst (λ (l : List Sort). IsNumber l (length rows) x.sort) (sym (sorts_push rows x))
    (subst (λ (n : ℕ). IsNumber (sorts_in rows ++ x.sort ∷ []) n x.sort) (length_sorts rows)
    (last_place (sorts_in rows) x.sort))

pub extends_on : (a b c : Table) → Extends a b → Extends b c → Extends a c
extends_on a b c x y = record {
  injections = y.injections ∙ x.injections;
  numbers = λ n s e. y.numbers n s (x.numbers n s e);
}

pub numbers_extend : (a b : Table) → Extends a b → (ns : List ℕ) (ss : List Sort) → AreNumbers a.sorts ns ss
    → AreNumbers b.sorts ns ss
numbers_extend a b x ns ss h = numbers_kept a.sorts b.sorts x.numbers ns ss h

numbers_push : (sorts : List Sort) (ns : List ℕ) (ss : List Sort) (n : ℕ) (s : Sort) → AreNumbers sorts ns ss
    → IsNumber sorts n s
    → AreNumbers sorts (ns ++ n ∷ []) (ss ++ s ∷ [])
numbers_push all [] [] n s h e = (e, tt)
numbers_push all [] (q ∷ ss) n s h e = absurd h
numbers_push all (k ∷ ns) [] n s h e = absurd h
numbers_push all (k ∷ ns) (q ∷ ss) n s h e = (h.0, numbers_push all ns ss n s h.1 e)

-- the number of one more sort is pushed
pub numbers_more : (sorts : List Sort) (ns : List ℕ) (ss : List Sort) (i n : ℕ) (s : Sort) → i < length ss
    → s ≡ get_or ss i s
    → AreNumbers sorts ns (take i ss) → IsNumber sorts n s → AreNumbers sorts (ns ++ n ∷ []) (take (i + 1) ss)
numbers_more all ns ss i n s below is h e =
    subst (λ (l : List Sort). AreNumbers all (ns ++ n ∷ []) l)
    (sym (take_more ss i s below ∙ ap (λ (x : Sort). take i ss ++ x ∷ []) (sym is)))
    (numbers_push all ns (take i ss) n s h e)
