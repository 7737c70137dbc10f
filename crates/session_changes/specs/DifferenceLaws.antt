-- Laws of differences.
use Rattle.std.specs.Prelude.{◌≡◌, ◌↔◌, ℕ, ◌⊎◌, Bool, true, false, ◌&&◌, List, [], ◌∷◌, ◌++◌, Some, None}
use Rattle.std.specs.List.{AllByRecursion}
use Rattle.std.specs.Ordering.{int_eq}
use Rattle.std.specs.FinMap as finmap
use Rattle.term_core.specs.Tree.{Tree, integer, branch, to_list, annotations}
use Rattle.term_paths.specs.Paths.{at, set_at, set_annotations_at}
use Rattle.strategy_meaning.specs.Same.{same_head, same_trees}
use Rattle.strategy_meaning.specs.Outermost.{IsBefore}
use Rattle.term_changes.specs.Contents.{Contents}
use Rattle.session_history.specs.Differences.{Difference, subterms_differ, annotations_differ, as_many, differences, changes_of}

-- the tree with what was there put back at a place that differs, or at all of these
abbrev pub put_back : Difference → Tree → Tree
put_back (subterms_differ path t u) x = set_at x path t
put_back (annotations_differ path ts us) x = set_annotations_at x path (to_list ts)

abbrev pub all_put_back : Tree → List Difference → Tree
all_put_back x [] = x
all_put_back x (d ∷ ds) = all_put_back (put_back d x) ds

-- What was there, put back at all places, gives the tree from before.
abbrev pub DifferencesLeadBack : Type 0
DifferencesLeadBack = (t u : Tree) → all_put_back u (differences [] t u) ≡ t

-- In equal trees nothing differs.
abbrev pub EqualTreesDontDiffer : Type 0
EqualTreesDontDiffer = (t : Tree) → differences [] t t ≡ []

-- ---- their order

abbrev pub place : Difference → List ℕ
place (subterms_differ path t u) = path
place (annotations_differ path ts us) = path

-- The path leads below a place whose annotations differ.
abbrev pub IsBelowAnnotated : Difference → List ℕ → Type 0
IsBelowAnnotated (subterms_differ path t u) p = ⊥
IsBelowAnnotated (annotations_differ path ts us) p = (i : ℕ) × (rest : List ℕ) × (p ≡ path ++ i ∷ rest)

abbrev pub ComesFirst : Difference → List Difference → Type 0
ComesFirst d [] = Unit {0}
ComesFirst d (e ∷ ds) = (IsBefore (place d) (place e) ⊎ IsBelowAnnotated d (place e)) × ComesFirst d ds

-- Each place comes before those that follow, and none lies within the place of other subterms.
abbrev pub AreInPlaceOrder : List Difference → Type 0
AreInPlaceOrder [] = Unit {0}
AreInPlaceOrder (d ∷ ds) = ComesFirst d ds × AreInPlaceOrder ds

abbrev pub DifferencesAreInOrder : Type 0
DifferencesAreInOrder = (t u : Tree) → AreInPlaceOrder (differences [] t u)

-- ---- what differs there

-- whether two trees have the same head and as many children
abbrev pub same_root : Tree → Tree → Bool
same_root (integer y ns) (integer z ms) = int_eq y z
same_root (branch h us ns) (branch k vs ms) = same_head h k && as_many us vs
same_root t u = false

-- What is listed stands at its place in both trees, and differs: subterms in their heads or in their
-- numbers of children; annotations where these are the same.
abbrev pub StandsIn : Tree → Tree → Difference → Type 0
StandsIn t u (subterms_differ path x y) =
    (at t path ≡ Some x) × (at u path ≡ Some y) × (same_root x y ≡ false)
StandsIn t u (annotations_differ path ts us) =
    (x : Tree) × (y : Tree) × (at t path ≡ Some x) × (at u path ≡ Some y) × (same_root x y ≡ true)
    × (annotations x ≡ to_list ts) × (annotations y ≡ to_list us) × (same_trees ts us ≡ false)

abbrev pub EachPlaceDiffers : Type 0
EachPlaceDiffers = (t u : Tree) → AllByRecursion (StandsIn t u) (differences [] t u)

-- Nothing is listed exactly where each name has the same tree and the same module text.
abbrev pub NothingListedIsNothingChanged : Type 0
NothingListedIsNothingChanged = (a b : Contents) → (changes_of None a b ≡ [])
    ↔ ((name : List ℕ) → (finmap.get a.trees name ≡ finmap.get b.trees name)
    × (finmap.get a.modules name ≡ finmap.get b.modules name))
