-- Checked modules, some of which are replaced.
use Rattle.std.proofs.Common.{◌≡◌, ℕ, ◌+◌, ◌≤◌, List, [], ◌++◌, length, length-append, map, take, drop, ◌⊎◌, inl, inr, Result, Ok, Err, IfErr, sym, ap, ◌∙◌, subst, arith, append_assoc}
use Rattle.std.proofs.lemmas.List.{take-take, take-append-drop, take_at, drop_at}
use Rattle.strategy_check.specs.Tables.{Table, Modules, table_of}
use Rattle.strategy_check.specs.Faults.{Primitives, faults}
use Rattle.strategy_check.specs.Programs.{Program, program}
use Rattle.strategy_check.specs.Ranges.{BodiesInRange}
use Rattle.strategy_check.specs.declared.fault.CheckFault.{CheckFault}
use Rattle.strategy_check.specs.declared.fault.CheckFault.TheVariants.{Memory}
use Rattle.strategy_check.specs.Checking.{Checked, IsChecked, with_modules}
use Rattle.strategy_check.specs.inside.Changing.{with_all, numbers_in}
use Rattle.strategy_check.specs.inside.Replacing.{renumbered_definition, definition_count}
use Rattle.strategy_check.specs.inside.Staying.{StaysFaultless, own_count, joined_bodies, with_bodies}
use Rattle.strategy_check.proofs.ChangeLemmas.{with_all-append}
use Rattle.strategy_check.proofs.ProgramLemmas.{bodies_in_range}
use Rattle.strategy_check.proofs.ReplacingLemmas.{bodies-fit, replaced-bodies}
use Rattle.strategy_check.proofs.StayingLemmas.{stays-faultless, stays-renumbered, own-counts}

-- ---- modules in parts

-- Modules are taken off from index i + gone on, then from index i on.
module _ (i gone : ℕ) (ms kept first old last : Modules) (is_kept : kept ≡ take (i + gone) ms)
    (is_last : last ≡ drop (i + gone) ms)
    (is_first : first ≡ take i kept) (is_old : old ≡ drop i kept) where
  pub parts-joined : first ++ (old ++ last) ≡ ms
  parts-joined =
      sym (append_assoc first old last)
      ∙ (λ k. (is_first k ++ is_old k) ++ last) ∙ ap (λ l. l ++ last) (take-append-drop i kept)
      ∙ (λ k. is_kept k ++ is_last k) ∙ take-append-drop (i + gone) ms

  pub parts-replaced : (new : Modules) → first ++ (new ++ last) ≡ with_modules i gone new ms
  parts-replaced new =
      λ k. (is_first ∙ ap (take i) is_kept ∙ take-take i (i + gone) ms (omega arith)) k ++ (new ++ is_last k)

-- the first of three parts, and the last
pub between : (xs ys zs : Modules) (n m : ℕ) → n ≡ length xs → m ≡ length ys
    → (take n (take (n + m) (xs ++ (ys ++ zs))) ≡ xs) × (drop (n + m) (xs ++ (ys ++ zs)) ≡ zs)
between xs ys zs n m left right = (
  take-take n (n + m) (xs ++ (ys ++ zs)) (omega arith) ∙ take_at xs (ys ++ zs) n (sym left),
  ap (drop (n + m)) (sym (append_assoc xs ys zs)) ∙ drop_at (xs ++ ys) zs (n + m) (omega (arith, length-append xs ys)),
)

pub joined-table : (first new last : Modules)
    → with_all (with_all (table_of first) new) last ≡ table_of (first ++ (new ++ last))
joined-table first new last =
    let empty : Table = record { definitions = []; constructors = [] } in
    sym (with_all-append empty first (new ++ last) ∙ with_all-append (table_of first) new last)

-- After an error all is as before, if its parts are.
pub as_before : (r : Result (Unit {0}) CheckFault) (k now : Checked) (ms : Modules) (p : Program)
    → record { modules = ms; program = p } ≡ now
    → IfErr r (λ e. (e ≡ Memory) ⊎ ((k.modules ≡ ms) × (k.program ≡ p))) → IfErr r (λ e. (e ≡ Memory) ⊎ (k ≡ now))
as_before (Ok x) k now ms p same h = tt
as_before (Err e) k now ms p same (inl memory) = inl memory
as_before (Err e) k now ms p same (inr parts) = inr ((λ i. record { modules = parts.0 i; program = parts.1 i }) ∙ same)

-- ---- modules in place of others

module _ (first old new last : Modules) (P : Primitives) where
  abbrev before : Modules
  before = first ++ (old ++ last)

  abbrev after : Modules
  after = first ++ (new ++ last)

  -- there are the bodies that go
  pub bodies-within : (p : Program) → IsChecked P (record { modules = before; program = p })
      → own_count first + own_count old ≤ length p.bodies
  bodies-within p checked =
      let counts = own-counts first old last P checked.faultless in
      let fit = bodies-fit first old last P checked.faultless in
      let same = ap (λ (p : Program). length p.bodies) checked.given in
      omega (arith, counts.0, counts.1)

  module _ (none : faults before P ≡ [])
      (stays : StaysFaultless P (table_of before) (table_of after) first old new last) where
    faultless : faults after P ≡ []
    faultless = stays-faultless first old new last P none stays

    given : with_bodies (table_of after) P (own_count first) (own_count old) new (program before P) ≡ program after P
    given i = record { table = table_of after; bodies = bodies i } where
      numbers : List ℕ
      numbers = numbers_in (table_of before) (table_of after)

      counts : (own_count first ≡ definition_count first) × (own_count old ≡ definition_count old)
      counts = own-counts first old last P none

      bodies : (with_bodies (table_of after) P (own_count first) (own_count old) new (program before P)).bodies
          ≡ (program after P).bodies
      bodies =
          (λ j. map (renumbered_definition numbers) (take (counts.0 j) (program before P).bodies)
          ++ (joined_bodies (table_of after) P new
          ++ map (renumbered_definition numbers) (drop (counts.0 j + counts.1 j) (program before P).bodies)))
          ∙ sym (let all = stays-renumbered first old new last P none stays in
          replaced-bodies first old new last P numbers none faultless all.0 all.1)

    is_checked : IsChecked P (record {
      modules = after;
      program = with_bodies (table_of after) P (own_count first) (own_count old) new (program before P);
    })
    is_checked = record {
      faultless = faultless;
      given = given;
      in_range = subst (λ q. BodiesInRange q P) (sym given) (bodies_in_range after P faultless);
    }

  -- The modules are checked with the new bodies.
  pub exchanged : (p : Program) (T' : Table) → IsChecked P (record { modules = before; program = p })
      → T' ≡ table_of after → StaysFaultless P p.table T' first old new last
      → IsChecked P (record { modules = after; program = with_bodies T' P (own_count first) (own_count old) new p })
  exchanged p T' checked table stays =
      subst
      (λ U. IsChecked P (record { modules = after; program = with_bodies U P (own_count first) (own_count old) new p }))
      (sym table)
      (subst (λ q. IsChecked P
      (record { modules = after; program = with_bodies (table_of after) P (own_count first) (own_count old) new q }))
      (sym checked.given)
      (is_checked checked.faultless
      (subst (λ U. StaysFaultless P (table_of before) U first old new last) table
      (subst (λ (q : Program). StaysFaultless P q.table T' first old new last) checked.given stays))))
