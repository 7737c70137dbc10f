-- The dump of two trees, computed, and a proof that a script can restore it.
use Rattle.std.proofs.Common.{◌≡◌, ◌≤◌, ◌<◌, ℕ, Bool, true, false, cond, List, [], ◌∷◌, ◌++◌, length, map, codes, Some, None, refl, sym, ap, ◌∙◌, subst, arith}
use Rattle.std.specs.Prelude.{IfSome, IsTrue}
use Rattle.std.specs.declared.option.Option.{Option}
use Rattle.std.specs.List.{AllByRecursion, flat_map}
use Rattle.std.specs.Ordering.{nat_cmp, eq_by_cmp}
use Rattle.std.specs.Cmp.Lexicographic.{slice_cmp}
use Rattle.std.specs.FinMap as finmap
use Rattle.std.specs.FinMap.{find, entries, from_sorted, entries-from_sorted, get-from_sorted, get-empty}
use Rattle.term_core.specs.Word.{is_word, label_of}
use Rattle.term_core.specs.Tree.{Symbol, Tree, branch, application, list, none, more}
use Rattle.term_core.specs.Terms.{IsTerm}
use Rattle.term_core.specs.Size.{height}
use Rattle.term_core.specs.declared.TheConstants.{MAX_HEIGHT}
use Rattle.strategy_tokens.specs.declared.TheConstants.{MAX_TOKENS}
use Rattle.term_changes.specs.Contents.{Contents}
use Rattle.session_history.specs.Dump.{tree_line, dumped, IsNamedTerm}
use Rattle.script_text.specs.declared.framing.Framing.TheVariants.{Continued}
use Rattle.script_text.specs.Script.{commands}
use Rattle.script_text.specs.Laws.{IsCommandText, CanBeGiven}
use Rattle.session_modules.proofs.MapLemmas.{all_there}
use Rattle.session_history.proofs.SoundLemmas.{readable_empty, sound_no_contents}
use Rattle.script_text.proofs.DumpContents.{TreeEntry, group_text, dumped-is}

abbrev word : List ℕ → Symbol
word text = record { text = text; is_quoted = false }

abbrev constant : List ℕ → Tree
constant text = branch (application (word text)) none none

-- `f(a){x}`
abbrev annotated : Tree
annotated =
    branch (application (word (codes "f"))) (more (constant (codes "a")) none) (more (constant (codes "x")) none)

abbrev empty_list : Tree
empty_list = branch list none none

abbrev two_trees : List TreeEntry
two_trees = (codes "a", annotated) ∷ ((codes "b", empty_list) ∷ [])

abbrev two : Contents
two = record { trees = from_sorted two_trees; modules = finmap.empty }

entries-two : entries two.trees ≡ two_trees
entries-two = entries-from_sorted (slice_cmp nat_cmp) two_trees tt

no_modules : entries two.modules ≡ []
no_modules = by (entries two.modules) (all_there two.modules)
  where
    by : (es : List (List ℕ × List ℕ)) → AllByRecursion (λ e. finmap.get two.modules e.0 ≡ Some e.1) es → es ≡ []
    by [] h = refl
    by (e ∷ es) h = let there : Some e.1 ≡ None = sym h.0 ∙ get-empty (slice_cmp nat_cmp) e.0 in absurd (cc)

dump_of_two : dumped two ≡ codes "tree a f(a){x}" ++ 10 ∷ (codes "tree b []" ++ 10 ∷ [])
dump_of_two = dumped-is two
    ∙ (λ i. flat_map (λ (e : TreeEntry). tree_line e.0 e.1) (entries-two i) ++ group_text (no_modules i))

commands_of_two : commands Continued (dumped two) ≡ codes "tree a f(a){x}" ∷ (codes "tree b []" ∷ [])
commands_of_two = ap (commands Continued) dump_of_two

-- ---- the premises of the law hold

-- a name of one byte
short_name : (b : ℕ) → b < 256 → AllByRecursion (λ c. c < 256) (b ∷ [])
short_name b h = (h, tt)

constant_is : (b : ℕ) → b < 256 → IsTrue (is_word (b ∷ [])) → IsTerm (constant (b ∷ []))
constant_is b h word = ((short_name b h, word), tt, tt)

found : (name : List ℕ) → finmap.get two.trees name ≡ find (slice_cmp nat_cmp) name two_trees
found name = get-from_sorted (slice_cmp nat_cmp) two_trees name tt

named : (name : List ℕ) (t : Tree) → find (slice_cmp nat_cmp) name two_trees ≡ Some t → label_of name ≡ Some name
    → IsTerm t → IsNamedTerm two name
named name t h label term = subst (λ (o : Option Tree). IfSome o (λ tree. (label_of name ≡ Some name) × IsTerm tree))
    (sym (found name ∙ h)) (label, term)

two_is_given : CanBeGiven Continued MAX_TOKENS [] two
two_is_given = record {
  named = (
    subst (λ (es : List TreeEntry). AllByRecursion (IsNamedTerm two) (map (λ e. e.0) es)) (sym entries-two) (
      named (codes "a") annotated refl refl (
        (short_name 102 (omega arith), refl),
        (constant_is 97 (omega arith) refl, tt),
        (constant_is 120 (omega arith) refl, tt),
      ),
      (named (codes "b") empty_list refl refl (tt, tt, tt), tt),
    ),
    subst (λ (es : List (List ℕ × List ℕ)). AllByRecursion (λ name. label_of name ≡ Some name) (map (λ e. e.0) es))
        (sym no_modules) tt,
  );
  sound = (
    (
      λ name. subst (λ (o : Option Tree). IfSome o (λ tree. height tree ≤ MAX_HEIGHT)) (sym (found name))
          (low (eq_by_cmp (slice_cmp nat_cmp) name (codes "a")) (eq_by_cmp (slice_cmp nat_cmp) name (codes "b"))),
      readable_empty MAX_TOKENS,
    ),
    (sound_no_contents [] MAX_TOKENS).1,
  );
  texts = λ name.
      subst (λ (o : Option (List ℕ)). IfSome o (IsCommandText Continued)) (sym (get-empty (slice_cmp nat_cmp) name)) tt;
  short = subst (λ (cs : List (List ℕ)). AllByRecursion (λ command. length command ≤ 65536) cs) (sym commands_of_two)
      (omega arith, (omega arith, tt));
}
  where
    low : (b c : Bool)
        → IfSome (cond b (Some annotated) (cond c (Some empty_list) None)) (λ tree. height tree ≤ MAX_HEIGHT)
    low true c = omega arith
    low false true = omega arith
    low false false = tt
