-- What a table knows of what a place wants.
use Rattle.std.proofs.Common.{◌≡◌, ◌↔◌, inl, inr, ℕ, ◌<◌, Bool, IsTrue, List, length, get_or, Some, None, refl, sym, ap, ◌∙◌, subst}
use Rattle.std.proofs.lemmas.Slice.Zip.{AllZip-long}
use Rattle.std.specs.declared.option.Option.{Option}
use Rattle.std.specs.Option.{option_and_then, option_map, option_copied}
use Rattle.std.proofs.lemmas.Option.{slice_get-map}
use Rattle.std.specs.Borrow.{Bor}
use Rattle.std.specs.List.{Contains, slice_get}
use Rattle.term_sorts.specs.Sorts.{Sort, Injection, arguments_of, list_sort, tuple_sort, Takes, TakeNoneAlike}
use Rattle.term_sorts.specs.Signatures.{wanted_sort}
use Rattle.term_sorts.specs.inside.Tables.{IsNumber, AreNumbers}
use Rattle.term_sorts.specs.inside.TableView.{sorts_in, IsRow, IsTable}
use Rattle.term_sorts.specs.inside.Wanting.{IsRowOf, Allows, ElementsAre, ArePartsOf, PartsWanted}
use Rattle.term_sorts.specs.declared.table.Row.{Row}
use Rattle.term_sorts.specs.declared.wanted.Wanted.{Wanted}
use Rattle.term_sorts.specs.declared.taking.Parts.TheVariants.{Refused, Of}
use Rattle.term_sorts.proofs.FormLemmas.{same_element, same_parts, parts_again}
use Rattle.term_sorts.proofs.ListLemmas.{value_at}
use Rattle.term_sorts.proofs.TableLemmas.{number_of_row, one_sort}

-- the row at a number is that of the sort which the number stands for
pub is_row_of : (rows : List Row) (is : List Injection) (table : IsTable rows is) (n : ℕ) (w : Wanted)
    (found : Option (Bor Row)) → w.number ≡ Some n
    → option_copied found ≡ slice_get rows n → IsRowOf (record { sorts = sorts_in rows; injections = is }) w found
is_row_of rows is table n w None e f =
    ap (λ o. option_and_then (λ k. slice_get (sorts_in rows) k) o) e ∙ slice_get-map (λ (r : Row). r.sort) rows n
    ∙ ap (λ o. option_map (λ (r : Row). r.sort) o) (sym f)
is_row_of rows is table n w (Some row) e f = (
  ap (λ o. option_and_then (λ k. slice_get (sorts_in rows) k) o) e ∙ number_of_row rows n row.now (sym f),
  table.each n row.now (sym f),
)

-- ---- at a place that wants the sort of a row

module _ (is : List Injection) (sorts : List Sort) (row : Row) (right : IsRow is sorts row) where
  abbrev s : Sort
  s = row.sort

  taken_sort : (n : ℕ) (r : Sort) → Contains row.taken.items n → IsNumber sorts n r → Takes is s r
  taken_sort n r h e =
      let t = right.taken.sound n h in subst (λ (x : Sort). Takes is s x) (one_sort sorts n t.0 r t.1 e) t.2

  pub takes_is : (w : Wanted) → wanted_sort sorts w ≡ Some s → (answer : Bool) (n : ℕ)
      → IsTrue answer ↔ Contains row.taken.items n → (r : Sort) → IsNumber sorts n r
      → IsTrue answer ↔ Allows is (wanted_sort sorts w) r
  takes_is w same answer n says r e = (
    λ h. subst (λ (o : Option Sort). Allows is o r) (sym same) (taken_sort n r (says.0 h) e),
    λ h. says.1 (right.taken.complete n r e (subst (λ (o : Option Sort). Allows is o r) same h)),
  )

  module _ (agreed : TakeNoneAlike is) where
    pub elements_are : (w : Wanted) → wanted_sort sorts w ≡ Some s → (n : ℕ) (found : Wanted)
        → Contains row.taken.items n
        → IsNumber sorts n (list_sort (wanted_sort sorts found))
        → ElementsAre is sorts (wanted_sort sorts w) (Some found)
    elements_are w same n found h e =
        let all = wanted_sort sorts found in
        let t = taken_sort n (list_sort all) h e in
        subst (λ (o : Option Sort). ElementsAre is sorts o (Some found)) (sym same) (λ element. (
          λ u. same_element element all
              (agreed s (list_sort element) (list_sort all) u t (inl ((element, refl), (all, refl)))),
          λ q. subst (λ (o : Option Sort). Takes is s (list_sort o)) (sym q) t,
        ))

    pub parts_are : (w : Wanted) → wanted_sort sorts w ≡ Some s → (n count : ℕ) (found : Bor (List ℕ))
        → Contains row.taken.items n
        → ArePartsOf sorts n count found.now → PartsWanted is sorts (wanted_sort sorts w) count (Of found)
    parts_are w same n count found h e =
        let all = e.0 in
        let t = taken_sort n (tuple_sort all) h e.3 in
        subst (λ (o : Option Sort). PartsWanted is sorts o count (Of found)) (sym same) (
          all,
          e.1,
          e.2,
          λ parts l. (
            λ u. same_parts parts all
                (agreed s (tuple_sort parts) (tuple_sort all) u t (inr (count, (parts, refl, l), (all, refl, e.2)))),
            λ q. subst (λ (ps : List Sort). Takes is s (tuple_sort ps)) (sym q) t,
          ),
        )

  known_place : (r : Sort) → Takes is s r
      → (k : ℕ) × (k < length row.taken.items) × IsNumber sorts (get_or row.taken.items k 0) r
  known_place r t =
      let n = right.taken.known r t in
      let v = value_at row.taken.items n.0 (right.taken.complete n.0 r n.1 t) in
      (v.0, v.1, subst (λ (k : ℕ). IsNumber sorts k r) (sym v.2) n.1)

  pub no_elements : (w : Wanted) → wanted_sort sorts w ≡ Some s
      → ((k : ℕ) → k < length row.taken.items → (element : Option Sort)
      → IsNumber sorts (get_or row.taken.items k 0) (list_sort element) → ⊥)
      → ElementsAre is sorts (wanted_sort sorts w) None
  no_elements w same clear =
      subst (λ (o : Option Sort). ElementsAre is sorts o None) (sym same)
      (λ element t. let p = known_place (list_sort element) t in clear p.0 p.1 element p.2)

  pub no_parts : (w : Wanted) → wanted_sort sorts w ≡ Some s → (count : ℕ)
      → ((k : ℕ) → k < length row.taken.items → (parts : List Sort)
      → length parts ≡ count → IsNumber sorts (get_or row.taken.items k 0) (tuple_sort parts) → ⊥)
      → PartsWanted is sorts (wanted_sort sorts w) count Refused
  no_parts w same count clear =
      subst (λ (o : Option Sort). PartsWanted is sorts o count Refused) (sym same)
      (λ parts l t. let p = known_place (tuple_sort parts) t in clear p.0 p.1 parts l p.2)

  pub row_parts : s ≡ tuple_sort (arguments_of s) → (n : ℕ) → IsNumber sorts n s → (numbers : List ℕ) (count : ℕ)
      → numbers ≡ row.arguments.items → length numbers ≡ count
      → ArePartsOf sorts n count numbers
  row_parts e n is_s numbers count same l = (
    arguments_of s,
    subst (λ (ns : List ℕ). AreNumbers sorts ns (arguments_of s)) (sym same) right.arguments,
    AllZip-long (IsNumber sorts) row.arguments.items (arguments_of s) right.arguments ∙ ap length (sym same) ∙ l,
    subst (λ (x : Sort). IsNumber sorts n x) e is_s,
  )

  -- a row of a tuple sort of so many has as many arguments
  pub parts_long : (parts : List Sort) → s ≡ tuple_sort parts → length row.arguments.items ≡ length parts
  parts_long parts e =
      sym (AllZip-long (IsNumber sorts) row.arguments.items (arguments_of s) right.arguments)
      ∙ ap (λ (x : Sort). length (arguments_of x)) e ∙ ap length (parts_again parts)
