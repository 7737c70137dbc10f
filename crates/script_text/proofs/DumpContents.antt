-- Lemmas on dumps and maps: what is dumped of each entry, and maps whose entries are inserted one
-- after another.
use Rattle.std.proofs.Common.{◌≡◌, ◌≤◌, ℕ, Bool, true, false, cond, T, List, [], ◌∷◌, ◌++◌, map, codes, Some, None, Ok, refl, sym, ap, ◌∙◌, subst}
use Rattle.std.specs.Prelude.{IfSome}
use Rattle.std.specs.declared.option.Option.{Option}
use Rattle.std.specs.Option.{option_map_or}
use Rattle.std.specs.List.{AllByRecursion, flat_map}
use Rattle.std.specs.Ordering.{eq_by_cmp}
use Rattle.std.specs.Cmp.Lexicographic.{nat_list_cmp_total}
use Rattle.std.specs.FinMap as finmap
use Rattle.std.specs.FinMap.{find, is_sorted, entries, entries_sorted, get-entries, get-insert, get-empty, same_map}
use Rattle.std.specs.FinMap.Entries.{below_all}
use Rattle.std.proofs.lemmas.Map.Lookups.{exact_bytes}
use Rattle.term_core.specs.Tree.{Tree}
use Rattle.term_core.specs.Terms.{IsTerm}
use Rattle.term_core.specs.Size.{height}
use Rattle.term_core.specs.Word.{label_of}
use Rattle.term_core.specs.declared.TheConstants.{MAX_HEIGHT}
use Rattle.strategy_syntax.specs.Modules.{Module}
use Rattle.term_changes.specs.Contents.{Named, Contents}
use Rattle.session_modules.specs.Modules.{ReadsAsModuleOf, AreReadable}
use Rattle.session_history.specs.History.{AreLow}
use Rattle.session_history.specs.Dump.{tree_line, module_line, module_lines, grouped, dumped, IsNamedTerm}
use Rattle.session_modules.proofs.MapLemmas.{R, later, earlier, tied, find_below, all_there}
use Rattle.script_text.specs.declared.framing.Framing.{Framing}
use Rattle.script_text.specs.Laws.{IsCommandText}

-- ---- a map whose entries are inserted one after another

module _ {X : Type 0} where
  abbrev pub inserted : Named X → List (List ℕ × X) → Named X
  inserted m [] = m
  inserted m (e ∷ es) = inserted (finmap.insert m e.0 e.1) es

  -- the first value if there is one, else the earlier one
  abbrev over : Option X → Option X → Option X
  over None o = o
  over (Some t) o = Some t

  over-none : (o : Option X) → over o None ≡ o
  over-none None = refl
  over-none (Some t) = refl

  one_over : (b : Bool) (t : X) (f o : Option X)
      → (b ≡ true → f ≡ None) → over f (cond b (Some t) o) ≡ over (cond b (Some t) f) o
  one_over true t f o h = ap (λ (x : Option X). over x (Some t)) (h refl)
  one_over false t f o h = refl

  get-inserted : (es : List (List ℕ × X)) → T (is_sorted R es) → (m : Named X) (q : List ℕ)
      → finmap.get (inserted m es) q ≡ over (find R q es) (finmap.get m q)
  get-inserted [] h m q = refl
  get-inserted (e ∷ es) h m q =
      get-inserted es (later (below_all R e.0 es) _ h) (finmap.insert m e.0 e.1) q
      ∙ ap (over (find R q es)) (get-insert nat_list_cmp_total m e.0 e.1 q)
      ∙ one_over (eq_by_cmp R q e.0) e.1 (find R q es) (finmap.get m q)
      (λ same. ap (λ (k : List ℕ). find R k es) (exact_bytes q e.0 (tied (R q e.0) same))
      ∙ find_below e.0 es (earlier _ (is_sorted R es) h))

  -- inserting all entries of a map into the empty map gives the map
  pub inserted-all : (m : Named X) → inserted finmap.empty (entries m) ≡ m
  inserted-all m = same_map nat_list_cmp_total exact_bytes _ _ (λ q.
      get-inserted (entries m) (entries_sorted m) finmap.empty q
      ∙ ap (over (find R q (entries m))) (get-empty R q) ∙ over-none (find R q (entries m)) ∙ sym (get-entries m q))

-- ---- what is dumped

abbrev pub TreeEntry : Type 0
TreeEntry = List ℕ × Tree

abbrev pub TextEntry : Type 0
TextEntry = List ℕ × List ℕ

-- a tree that can be restored
pub record IsGiven (e : TreeEntry) : Type 0 where
  pub label : label_of e.0 ≡ Some e.0
  pub term : IsTerm e.1
  pub low : height e.1 ≤ MAX_HEIGHT

-- a module that can be restored
pub record IsTold (framing : Framing) (most : ℕ) (e : TextEntry) : Type 0 where
  pub label : label_of e.0 ≡ Some e.0
  pub text : IsCommandText framing e.1
  pub reads : (m : Module) × ReadsAsModuleOf most e.1 (Ok m)

-- the modules by their entries, in a group if there are any
abbrev pub group_text : List TextEntry → List ℕ
group_text [] = []
group_text (e ∷ es) =
    (codes "begin" ++ 10 ∷ []) ++ flat_map (λ e. module_line e.0 e.1) (e ∷ es) ++ (codes "commit" ++ 10 ∷ [])

module _ (c : Contents) where
  given : (es : List TreeEntry) → AllByRecursion (λ e. finmap.get c.trees e.0 ≡ Some e.1) es
      → AllByRecursion (IsNamedTerm c) (map (λ e. e.0) es) → AreLow c.trees →
      AllByRecursion IsGiven es
  given [] h n s = tt
  given (e ∷ es) h n s =
      let named : (label_of e.0 ≡ Some e.0) × IsTerm e.1 =
      subst (λ (o : Option Tree). IfSome o (λ tree. (label_of e.0 ≡ Some e.0) × IsTerm tree)) h.0 n.0 in (
        record {
          label = named.0;
          term = named.1;
          low = subst (λ (o : Option Tree). IfSome o (λ tree. height tree ≤ MAX_HEIGHT)) h.0 (s e.0);
        },
        given es h.1 n.1 s,
      )

  pub trees_given : AllByRecursion (IsNamedTerm c) (finmap.keys c.trees) → AreLow c.trees
      → AllByRecursion IsGiven (entries c.trees)
  trees_given n s = given (entries c.trees) (all_there c.trees) n s

  told : (framing : Framing) (most : ℕ) (es : List TextEntry)
      → AllByRecursion (λ e. finmap.get c.modules e.0 ≡ Some e.1) es
      → AllByRecursion (λ name. label_of name ≡ Some name) (map (λ e. e.0) es) → AreReadable most c.modules →
      ((name : List ℕ) → IfSome (finmap.get c.modules name) (IsCommandText framing))
      → AllByRecursion (IsTold framing most) es
  told framing most [] h n s t = tt
  told framing most (e ∷ es) h n s t = (
    record {
      label = n.0;
      text = subst (λ (o : Option (List ℕ)). IfSome o (IsCommandText framing)) h.0 (t e.0);
      reads = subst (λ (o : Option (List ℕ)). IfSome o (λ text. (m : Module) × ReadsAsModuleOf most text (Ok m)))
          h.0 (s e.0);
    },
    told framing most es h.1 n.1 s t,
  )

  pub modules_told : (framing : Framing) (most : ℕ)
      → AllByRecursion (λ name. label_of name ≡ Some name) (finmap.keys c.modules) → AreReadable most c.modules
      → ((name : List ℕ) → IfSome (finmap.get c.modules name) (IsCommandText framing)) →
      AllByRecursion (IsTold framing most) (entries c.modules)
  modules_told framing most n s t = told framing most (entries c.modules) (all_there c.modules) n s t

  trees_text : (es : List TreeEntry) → AllByRecursion (λ e. finmap.get c.trees e.0 ≡ Some e.1) es →
      flat_map (λ name. option_map_or (tree_line name) (finmap.get c.trees name) []) (map (λ e. e.0) es)
      ≡ flat_map (λ e. tree_line e.0 e.1) es
  trees_text [] h = refl
  trees_text (e ∷ es) h = λ i. option_map_or (tree_line e.0) (h.0 i) [] ++ trees_text es h.1 i

  modules_text : (es : List TextEntry) → AllByRecursion (λ e. finmap.get c.modules e.0 ≡ Some e.1) es
      → module_lines c (map (λ e. e.0) es) ≡ flat_map (λ e. module_line e.0 e.1) es
  modules_text [] h = refl
  modules_text (e ∷ es) h = λ i. option_map_or (module_line e.0) (h.0 i) [] ++ modules_text es h.1 i

  group_is : (es : List TextEntry) → AllByRecursion (λ e. finmap.get c.modules e.0 ≡ Some e.1) es
      → grouped c (map (λ e. e.0) es) ≡ group_text es
  group_is [] h = refl
  group_is (e ∷ es) h = λ i. (codes "begin" ++ 10 ∷ []) ++ modules_text (e ∷ es) h i ++ (codes "commit" ++ 10 ∷ [])

  -- a line for each tree, followed by the modules
  pub dumped-is : dumped c ≡ flat_map (λ e. tree_line e.0 e.1) (entries c.trees) ++ group_text (entries c.modules)
  dumped-is =
      λ i. trees_text (entries c.trees) (all_there c.trees) i ++ group_is (entries c.modules) (all_there c.modules) i
