-- Checked modules of texts of which one changes.
use Rattle.std.proofs.Common.{◌≡◌, ℕ, Bool, cond, T, not, List, [], ◌∷◌, ◌++◌, map, take, drop, Option, Some, None, Ok, refl, sym, ap, subst, ◌∙◌, arith}
use Rattle.std.specs.Prelude.{IsSomeAnd}
use Rattle.std.specs.List.{AllByRecursion}
use Rattle.std.specs.Ordering.{is_lt, is_eq, eq_by_cmp}
use Rattle.std.specs.declared.cmp.Ordering.{Ordering}
use Rattle.std.specs.declared.cmp.Ordering.TheVariants.{Less, Equal, Greater}
use Rattle.std.specs.Cmp.{eq_by_cmp_equiv}
use Rattle.std.specs.Cmp.Lexicographic.{nat_list_cmp_total}
use Rattle.std.specs.FinMap as finmap
use Rattle.std.specs.FinMap.{put, is_sorted, entries, entries_sorted, entries-insert, get-entries, get-remove}
use Rattle.std.specs.FinMap.Entries.{by_order, where_key, below_all, find-where_key, is_sorted-where_key, same_entries}
use Rattle.std.proofs.lemmas.Map.Lookups.{exact_bytes}
use Rattle.std.proofs.lemmas.Bool.Decides.{nat_tests}
use Rattle.strategy_syntax.specs.Modules.{Module}
use Rattle.strategy_check.specs.Tables.{Modules}
use Rattle.session_modules.specs.Modules.{Texts, ReadsAsModule, AreRead, AreModules, changed_text}
use Rattle.session_modules.specs.inside.Replaced.{with_module, AreGiven}
use Rattle.session_modules.proofs.MapLemmas.{R, later, earlier, lower, all_there}

-- ---- entries in the order of their names

abbrev Entries : Type 0
Entries = List (List ℕ × List ℕ)

-- The texts of these entries are parsed to these modules, in order.
abbrev pub ReadEntries : Entries → Modules → Type 0
ReadEntries [] [] = Unit {0}
ReadEntries (e ∷ es) (m ∷ ms) = (m.0 ≡ e.0) × ReadsAsModule e.1 (Ok m.1) × ReadEntries es ms
ReadEntries [] (m ∷ ms) = ⊥
ReadEntries (e ∷ es) [] = ⊥

Reads : Module → Option (List ℕ) → Type 0
Reads m o = IsSomeAnd o (λ text. ReadsAsModule text (Ok m))

-- If each entry is found by its key, its text is the one that was parsed for its name.
read_entries : (texts : Texts) (es : Entries) (ms : Modules) → AllByRecursion (λ e. finmap.get texts e.0 ≡ Some e.1) es
    → AreRead texts (map (λ e. e.0) es) ms ≡ ReadEntries es ms
unfolding Reads
read_entries texts [] [] there = refl
read_entries texts [] (m ∷ ms) there = refl
read_entries texts (e ∷ es) [] there = refl
read_entries texts (e ∷ es) (m ∷ ms) there =
    λ i. (m.0 ≡ e.0) × Reads m.1 (there.0 i) × read_entries texts es ms there.1 i

-- ---- one entry put in its place

-- An entry and its module have the same name, so cases on how `name` compares with it are the same
-- for both.
by_name : (name : List ℕ) (e : List ℕ × List ℕ) (m : List ℕ × Module) (es : Ordering → Entries)
    (ms : Ordering → Modules) → m.0 ≡ e.0 → ((r : Ordering) → R name e.0 ≡ r → ReadEntries (es r) (ms r))
    → ReadEntries (es (R name e.0)) (ms (R name m.0))
by_name name e m es ms same each =
    subst (λ (k : List ℕ). ReadEntries (es (R name e.0)) (ms (R name k))) (sym same) (each (R name e.0) refl)

entries_put : (name text : List ℕ) (new : Module) → ReadsAsModule text (Ok new) → (es : Entries) (ms : Modules)
    → ReadEntries es ms → ReadEntries (put R name text es) (with_module name ((name, new) ∷ []) ms)
entries_put name text new reads [] [] h = (refl, reads, tt)
entries_put name text new reads [] (m ∷ ms) h = absurd h
entries_put name text new reads (e ∷ es) [] h = absurd h
entries_put name text new reads (e ∷ es) (m ∷ ms) h =
    by_name name e m (λ r. by_order r ((name, text) ∷ e ∷ es) ((e.0, text) ∷ es) (e ∷ put R name text es))
    (λ r. by_order r ((name, new) ∷ m ∷ ms) ((name, new) ∷ ms) (m ∷ with_module name ((name, new) ∷ []) ms)) h.0
    (by (entries_put name text new reads es ms h.2))
  where
    by : ReadEntries (put R name text es) (with_module name ((name, new) ∷ []) ms) → (r : Ordering)
        → R name e.0 ≡ r → ReadEntries (by_order r ((name, text) ∷ e ∷ es) ((e.0, text) ∷ es) (e ∷ put R name text es))
        (by_order r ((name, new) ∷ m ∷ ms) ((name, new) ∷ ms) (m ∷ with_module name ((name, new) ∷ []) ms))
    by rest Less is = (refl, reads, h)
    by rest Equal is = (exact_bytes name e.0 is, reads, h.2)
    by rest Greater is = (h.0, h.1, rest)

-- ---- one entry taken out

abbrev without : List ℕ → Entries → Entries
without name = where_key R (λ q. not (eq_by_cmp R name q))

below_next : (name key : List ℕ) (es : Entries) → R name key ≡ Less → T (below_all R key es) → T (below_all R name es)
below_next name key [] less h = tt
below_next name key (e ∷ es) less h =
    grind (arith, nat_tests, below_next name key es less, nat_list_cmp_total.trans name key e.0 less)

-- A name below all keys is none of them, so nothing is taken out.
none_without : (name : List ℕ) (es : Entries) → T (below_all R name es) → without name es ≡ es
none_without name [] h = refl
none_without name (e ∷ es) h =
    ap (λ (b : Bool). cond (not b) (e ∷ without name es) (without name es))
    (lower (R name e.0) (earlier _ (below_all R name es) h))
    ∙ ap (λ l. e ∷ l) (none_without name es (later (is_lt (R name e.0)) _ h))

entries_taken : (name : List ℕ) (es : Entries) (ms : Modules) → T (is_sorted R es) → ReadEntries es ms
    → ReadEntries (without name es) (with_module name [] ms)
entries_taken name [] [] sorted h = tt
entries_taken name [] (m ∷ ms) sorted h = absurd h
entries_taken name (e ∷ es) [] sorted h = absurd h
entries_taken name (e ∷ es) (m ∷ ms) sorted h =
    by_name name e m (λ r. cond (not (is_eq r)) (e ∷ without name es) (without name es))
    (λ r. by_order r (m ∷ ms) ms (m ∷ with_module name [] ms)) h.0
    (by (entries_taken name es ms (later (below_all R e.0 es) _ sorted) h.2))
  where
    above : T (below_all R e.0 es)
    above = earlier _ (is_sorted R es) sorted

    by : ReadEntries (without name es) (with_module name [] ms) → (r : Ordering)
        → R name e.0 ≡ r → ReadEntries (cond (not (is_eq r)) (e ∷ without name es) (without name es))
        (by_order r (m ∷ ms) ms (m ∷ with_module name [] ms))
    by rest Less is =
        (h.0, h.1, subst (λ es. ReadEntries es ms) (sym (none_without name es (below_next name e.0 es is above))) h.2)
    by rest Equal is = subst (λ es. ReadEntries es ms) (sym
        (none_without name es (subst (λ (k : List ℕ). T (below_all R k es)) (sym (exact_bytes name e.0 is)) above))) h.2
    by rest Greater is = (h.0, h.1, rest)

entries-remove : (texts : Texts) (name : List ℕ) → entries (finmap.remove texts name) ≡ without name (entries texts)
entries-remove texts name =
    same_entries R nat_list_cmp_total exact_bytes (entries left) (without name (entries texts)) (entries_sorted left)
    (is_sorted-where_key R other (entries texts) (entries_sorted texts)) (λ q.
    sym (get-entries left q) ∙ get-remove nat_list_cmp_total texts name q ∙ turned (eq_by_cmp R q name) _
    ∙ ap (λ (b : Bool). cond (not b) (finmap.get texts q) None) ((eq_by_cmp_equiv nat_list_cmp_total).symm q name)
    ∙ ap (λ o. cond (other q) o None) (get-entries texts q)
    ∙ sym (find-where_key R other q (λ x tied. ap other (sym (exact_bytes q x tied))) (entries texts)))
  where
    left : Texts
    left = finmap.remove texts name

    other : List ℕ → Bool
    other q = not (eq_by_cmp R name q)

    turned : (b : Bool) (o : Option (List ℕ)) → cond b None o ≡ cond (not b) o None
    turned b o = grind arith

-- ---- the modules of texts of which one changes

entries_changed : (texts : Texts) (name : List ℕ) (o : Option (List ℕ)) (ms new : Modules) → ReadEntries (entries texts)
    ms → AreGiven name o new → ReadEntries (entries (changed_text texts name o)) (with_module name new ms)
entries_changed texts name None ms new h none =
    subst (λ (new : Modules). ReadEntries (entries (finmap.remove texts name)) (with_module name new ms)) (sym none)
    (subst (λ (es : Entries). ReadEntries es (with_module name [] ms)) (sym (entries-remove texts name))
    (entries_taken name (entries texts) ms (entries_sorted texts) h))
entries_changed texts name (Some text) ms new h (m, reads, is) =
    subst (λ (new : Modules). ReadEntries (entries (finmap.insert texts name text)) (with_module name new ms)) (sym is)
    (subst (λ (es : Entries). ReadEntries es (with_module name ((name, m) ∷ []) ms))
    (sym (entries-insert nat_list_cmp_total texts name text)) (entries_put name text m reads (entries texts) ms h))

pub are_given : (texts : Texts) (name : List ℕ) (o : Option (List ℕ)) (ms new : Modules) → AreModules texts ms
    → AreGiven name o new → AreModules (changed_text texts name o) (with_module name new ms)
are_given texts name o ms new are given =
    let now : Texts = changed_text texts name o in
    subst (λ (A : Type 0). A) (sym (read_entries now (entries now) (with_module name new ms) (all_there now)))
    (entries_changed texts name o ms new
    (subst (λ (A : Type 0). A) (read_entries texts (entries texts) ms (all_there texts)) are) given)

-- ---- where a module is put among others

-- To put modules of this name among those from place i on is to put them among all, since the names
-- before it are lower.
abbrev pub ArePassed : List ℕ → Modules → ℕ → Type 0
ArePassed name ms i = (new : Modules) → take i ms ++ with_module name new (drop i ms) ≡ with_module name new ms
