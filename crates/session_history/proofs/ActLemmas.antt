-- What the calls on a timeline mean for the acts of a session.
use Rattle.std.proofs.Common.{◌≡◌, ◌⊎◌, ◌<◌, ℕ, ◌+◌, Bool, List, length, Option, Some, None, true, false, is_some, IsSome, option_map, option_and_then, Result, Ok, Err, inr, refl, sym, ap, subst, ◌∙◌}
use Rattle.std.specs.Prelude.{IsErrAnd, IsSomeAnd}
use Rattle.std.specs.FinMap as finmap
use Rattle.prim_core.specs.Signature.{Signature}
use Rattle.std.specs.List.{list_all}
use Rattle.term_core.specs.Tree.{Tree}
use Rattle.term_core.specs.Size.{fits}
use Rattle.session_modules.specs.declared.cache.ModuleCache.{ModuleCache}
use Rattle.term_paths.specs.Paths.{at, set_at, set_annotations_at}
use Rattle.term_changes.specs.Contents.{Contents, with_tree}
use Rattle.term_changes.specs.Slots.{Store, contents, content, slot_of}
use Rattle.term_changes.specs.Entries.{slot_tree, subterm, subterm_annotations, before}
use Rattle.term_changes.proofs.ContentsLemmas.{tree_put, tree_taken, tree_of_name, subterm_put, annotations_put}
use Rattle.session_history.specs.History.{HistoryGroup, History, changed, undone, redone}
use Rattle.session_history.specs.Acts.{Act, set_tree, copy_tree, drop_tree, put as put_act, annotate, undo, redo, begin, abandon, Located, ComesTo, committed, place_of}
use Rattle.session_modules.specs.Modules.{Texts}
use Rattle.session_modules.specs.Kept.{IsKept}
use Rattle.session_history.specs.Moving.{KeepsHistory, Puts, Moves, Commits, Leads, PerformsOn, PerformsBy, PerformsSurelyOn}
use Rattle.session_history.specs.Unfolded.{Logged, unfolded, past_contents, later_contents, HasTree, IsPlaceOf}
use Rattle.session_modules.specs.declared.refusal.Refusal.{Refusal}
use Rattle.session_modules.specs.declared.refusal.Refusal.TheVariants.{Memory, NoTree, Big, NoUndo, NoRedo, Group, NoGroup}
use Rattle.session_history.proofs.StepLemmas.{some_there, place_there, accepts, refuses, wants}
use Rattle.session_history.proofs.HistoryLemmas.{undone_past, redone_past, goes, goes_nowhere}
use Rattle.session_history.proofs.SoundLemmas.{committed_leaves}

-- ---- the same history

pub keeps_itself : (t : Logged) → KeepsHistory t t
keeps_itself t = record { same = λ ps. refl }

pub keeps_further : (t m n : Logged) → KeepsHistory t m → KeepsHistory m n → KeepsHistory t n
keeps_further t m n first next = record { same = λ ps. next.same ps ∙ first.same ps }

-- ---- answers to acts

module _ {X : Type 0} (act : Act) (t n : Logged) where
  -- for want of memory, at a `?`
  pub wants_in : (ps : List Signature) (r : Result X Refusal) → IsErrAnd r (λ e. e ≡ Memory) → KeepsHistory t n
      → PerformsBy ps act t n r
  wants_in ps r is kept = record { is = wants act (unfolded ps t) (unfolded ps n) r is (kept.same ps) }

  pub wants_on : (r : Result X Refusal) → IsErrAnd r (λ e. e ≡ Memory) → KeepsHistory t n → PerformsOn act t n r
  wants_on r is kept = record { at = λ ps. (wants_in ps r is kept).is }

  pub accepted : (ps : List Signature) (x : X) → ComesTo act (unfolded ps t) (Ok (unfolded ps n))
      → PerformsBy ps act t n (Ok x)
  accepted ps x comes = record { is = accepts act (unfolded ps t) (unfolded ps n) x comes }

  pub refused_by : (ps : List Signature) (refusal : Refusal) → (refusal ≡ Memory) ⊎ ComesTo act (unfolded ps t)
      (Err refusal) → KeepsHistory t n → PerformsBy {X = X} ps act t n (Err refusal)
  refused_by ps refusal why kept =
      record { is = refuses act (unfolded ps t) (unfolded ps n) refusal why (kept.same ps) }

  done : ((ps : List Signature) → ComesTo act (unfolded ps t) (Ok (unfolded ps n))) → (x : X)
      → PerformsOn act t n (Ok x)
  done comes x = record { at = λ ps. accepts act (unfolded ps t) (unfolded ps n) x (comes ps) }

  pub led : (x : X) → Leads act t n → PerformsSurelyOn act t n (Ok x)
  led x leads = record { at = λ ps. record { ok = leads.to ps; refused = tt; err = tt } }

module _ {X : Type 0} (act : Act) (t : Logged) (refusal : Refusal) where
  refused : ((ps : List Signature) → ComesTo act (unfolded ps t) (Err refusal))
      → PerformsOn {X = X} act t t (Err refusal)
  refused comes = record { at = λ ps. refuses act (unfolded ps t) (unfolded ps t) refusal (inr (comes ps)) refl }

  refused_surely : ((ps : List Signature) → ComesTo act (unfolded ps t) (Err refusal))
      → PerformsSurelyOn {X = X} act t t (Err refusal)
  refused_surely comes = record { at = λ ps. record { ok = tt; refused = comes ps; err = refl } }

-- ---- a name's tree

module _ (s : Store) (name : List ℕ) (i : ℕ) (tree : Tree) (is : HasTree s name i tree) where
  pub tree_held : finmap.get (contents s).trees name ≡ Some tree
  tree_held = tree_of_name s name is.apart ∙ ap (option_and_then (content s.trees)) is.named ∙ is.held

  -- a path that leads to a subterm
  pub is_place_of : (path : List ℕ) (part : Tree) → at tree path ≡ Some part → IsPlaceOf s name path i
  is_place_of path part e = record { tree = tree; is = is; there = ap is_some e }

-- a tree that was put in the slot of its name
tree_told : (t m n : Logged) (name : List ℕ) (tree : Tree) (i : ℕ) (ps : List Signature)
    → slot_of m.store.trees name ≡ Some i → KeepsHistory t m → Puts (slot_tree i (Some tree)) m n
    → unfolded ps n ≡ changed (with_tree (contents t.store) name tree) (unfolded ps t)
tree_told t m n name tree i ps here kept change =
    let same = kept.same ps in
    let put_now = tree_put m.store name i tree here ∙ ap (λ (h : History). with_tree h.now name tree) same in
    change.made ps ∙ (λ j. changed (put_now j) (same j))

-- ---- acts on the trees

module _ (t : Logged) (name : List ℕ) where
  pub set_big : (tree : Tree)
      → fits t.limits.max_terms 0 tree ≡ false → PerformsOn {X = Unit {0}} (set_tree name tree) t t (Err Big)
  set_big tree big = refused (set_tree name tree) t Big (λ ps. rw big refl)

  pub set_done : (m n : Logged) (tree : Tree) (i : ℕ) → fits t.limits.max_terms 0 tree
      ≡ true → slot_of m.store.trees name ≡ Some i → KeepsHistory t m → Puts (slot_tree i (Some tree)) m n
      → PerformsOn {X = Unit {0}} (set_tree name tree) t n (Ok tt)
  set_done m n tree i fit here kept change =
      done (set_tree name tree) t n (λ ps. rw fit (ap Ok (tree_told t m n name tree i ps here kept change))) tt

  pub copied_none : (copy : List ℕ) → finmap.get (contents t.store).trees name
      ≡ None → PerformsOn {X = Unit {0}} (copy_tree name copy) t t (Err NoTree)
  copied_none copy none = refused (copy_tree name copy) t NoTree (λ ps. rw none refl)

  pub copied : (m n : Logged) (copy : List ℕ) (tree : Tree) (i : ℕ)
      → finmap.get (contents t.store).trees name ≡ Some tree → slot_of m.store.trees copy ≡ Some i → KeepsHistory t m
      → Puts (slot_tree i (Some tree)) m n → PerformsOn {X = Unit {0}} (copy_tree name copy) t n (Ok tt)
  copied m n copy tree i there here kept change =
      done (copy_tree name copy) t n (λ ps. rw there (ap Ok (tree_told t m n copy tree i ps here kept change))) tt

  pub dropped_none : finmap.get (contents t.store).trees name
      ≡ None → PerformsOn {X = Unit {0}} (drop_tree name) t t (Err NoTree)
  dropped_none none = refused (drop_tree name) t NoTree (λ ps. rw none refl)

  pub dropped : (n : Logged) (i : ℕ) (tree : Tree) → HasTree t.store name i tree → Puts (slot_tree i None) t n
      → PerformsOn {X = Unit {0}} (drop_tree name) t n (Ok tt)
  dropped n i tree there change =
      done (drop_tree name) t n (λ ps. rw (tree_held t.store name i tree there) (ap Ok
      (change.made ps ∙ ap (λ c. changed c (unfolded ps t)) (tree_taken t.store name i there.apart there.named)))) tt

  module _ (path : List ℕ) where
    pub put_nowhere : (part : Tree) (refusal : Refusal) → place_of (contents t.store) name path ≡ Err refusal
        → PerformsOn {X = Unit {0}} (put_act name path part) t t (Err refusal)
    put_nowhere part refusal none = refused (put_act name path part) t refusal (λ ps. rw none refl)

    pub annotated_nowhere : (us : List Tree) (refusal : Refusal) → place_of (contents t.store) name path ≡ Err refusal
        → PerformsOn {X = Unit {0}} (annotate name path us) t t (Err refusal)
    annotated_nowhere us refusal none = refused (annotate name path us) t refusal (λ ps. rw none refl)

-- ---- a place in a name's tree

module _ (t : Logged) (name path : List ℕ) (i : ℕ) (there : IsPlaceOf t.store name path i) where
  pub place_held : finmap.get (contents t.store).trees name ≡ Some there.tree
  place_held = tree_held t.store name i there.tree there.is

  -- the same place in the definitions
  pub seen_place : (part : Tree)
      × (place_of (contents t.store) name path ≡ Ok (record { tree = there.tree; part = part }))
  seen_place = let part = some_there (at there.tree path) there.there in
      (part.0, place_there (contents t.store) name path there.tree part.0 place_held part.1)

  -- the subterm there
  pub part_there : at there.tree path ≡ Some seen_place.0
  unfolding seen_place
  part_there = (some_there (at there.tree path) there.there).1

  abbrev pub the_place : Located
  the_place = record { tree = there.tree; part = seen_place.0 }

  pub put_big : (part : Tree) → fits t.limits.max_terms (length path) part
      ≡ false → PerformsOn {X = Unit {0}} (put_act name path part) t t (Err Big)
  put_big part big = refused (put_act name path part) t Big (λ ps. rw (seen_place.1, big) refl)

  pub annotations_big : (us : List Tree) → list_all (fits t.limits.max_terms (length path + 1)) us
      ≡ false → PerformsOn {X = Unit {0}} (annotate name path us) t t (Err Big)
  annotations_big us big = refused (annotate name path us) t Big (λ ps. rw (seen_place.1, big) refl)

  module _ (n : Logged) where
    pub put_done : (part : Tree) → fits t.limits.max_terms (length path) part ≡ true → Puts (subterm i path part) t n
        → PerformsOn {X = Unit {0}} (put_act name path part) t n (Ok tt)
    put_done part fit change = done (put_act name path part) t n
        (λ ps. rw (seen_place.1, fit) (ap Ok (change.made ps ∙ ap (λ c. changed c (unfolded ps t))
        (ap contents (subterm_put t.store i path there.tree part there.is.held)
        ∙ tree_put t.store name i (set_at there.tree path part) there.is.named)))) tt

    pub annotated : (us : List Tree)
        → list_all (fits t.limits.max_terms (length path + 1)) us ≡ true → Puts (subterm_annotations i path us) t n
        → PerformsOn {X = Unit {0}} (annotate name path us) t n (Ok tt)
    annotated us fit change = done (annotate name path us) t n
        (λ ps. rw (seen_place.1, fit) (ap Ok (change.made ps ∙ ap (λ c. changed c (unfolded ps t))
        (ap contents (annotations_put t.store i path there.tree us there.is.held)
        ∙ tree_put t.store name i (set_annotations_at there.tree path us) there.is.named)))) tt

-- ---- outside a group, and inside one

pub closed_group : (t : Logged) (ps : List Signature) → t.group ≡ None → (unfolded ps t).group ≡ None
closed_group t ps closed =
    ap (option_map (λ g. record { begun = contents (before t.current t.store); changed = g.changed })) closed

module _ {X : Type 0} (t : Logged) where
  module _ (inside : IsSome t.group) where
    pub begin_inside : PerformsSurelyOn {X = X} begin t t (Err Group)
    begin_inside = refused_surely begin t Group (λ ps. rw (some_there t.group inside).1 refl)

    pub undo_inside : (k : ℕ) → PerformsSurelyOn {X = X} (undo k) t t (Err Group)
    undo_inside k = refused_surely (undo k) t Group (λ ps. rw (some_there t.group inside).1 refl)

    pub redo_inside : (k : ℕ) → PerformsSurelyOn {X = X} (redo k) t t (Err Group)
    redo_inside k = refused_surely (redo k) t Group (λ ps. rw (some_there t.group inside).1 refl)

  module _ (closed : t.group ≡ None) where
    pub abandon_outside : PerformsSurelyOn {X = X} abandon t t (Err NoGroup)
    abandon_outside = refused_surely abandon t NoGroup (λ ps. rw closed refl)

    module _ (k : ℕ) where
      pub undo_short : length (past_contents t) < k → PerformsSurelyOn {X = X} (undo k) t t (Err NoUndo)
      undo_short short = refused_surely (undo k) t NoUndo (λ ps. goes_nowhere (unfolded ps t) (unfolded ps t)
          (undone k (unfolded ps t)) NoUndo (closed_group t ps closed) (undone_past k (unfolded ps t) short))

      pub redo_short : length (later_contents t) < k → PerformsSurelyOn {X = X} (redo k) t t (Err NoRedo)
      redo_short short = refused_surely (redo k) t NoRedo (λ ps. goes_nowhere (unfolded ps t) (unfolded ps t)
          (redone k (unfolded ps t)) NoRedo (closed_group t ps closed) (redone_past k (unfolded ps t) short))

      module _ (n : Logged) (touched : Bool) (x : X) where
        pub undo_done : Moves (undone k) touched t n → PerformsSurelyOn (undo k) t n (Ok x)
        undo_done moves = led (undo k) t n x (record {
          to = λ ps. goes (unfolded ps t) (unfolded ps n) (undone k (unfolded ps t)) NoUndo (closed_group t ps closed)
              (moves.value ps);
        })

        pub redo_done : Moves (redone k) touched t n → PerformsSurelyOn (redo k) t n (Ok x)
        redo_done moves = led (redo k) t n x (record {
          to = λ ps. goes (unfolded ps t) (unfolded ps n) (redone k (unfolded ps t)) NoRedo (closed_group t ps closed)
              (moves.value ps);
        })

-- what makes the answers to acts out of what the calls in them say
pub ruleset acting = (
  keeps_itself,
  keeps_further,
  wants_on,
  led,
  is_place_of,
  place_there,
  set_done,
  copied,
  put_big,
  put_done,
  annotations_big,
  annotated,
  begin_inside,
  undo_inside,
  redo_inside,
  abandon_outside,
  undo_short,
  redo_short,
  undo_done,
  redo_done,
)

-- ---- the modules that a session keeps

module _ (ps : List Signature) (old new : Logged) (k : ModuleCache) where
  -- they stay if the texts do
  pub kept_still : (unfolded ps new).now.modules ≡ (unfolded ps old).now.modules
      → IsKept ps (contents old.store).modules k → IsKept ps (contents new.store).modules k
  kept_still same = subst (λ (texts : Texts). IsKept ps texts k) (sym same)

  pub kept_same : KeepsHistory old new → IsKept ps (contents old.store).modules k
      → IsKept ps (contents new.store).modules k
  kept_same kept = kept_still (ap (λ (h : History). h.now.modules) (kept.same ps))

  pub kept_closed : Commits old new → IsKept ps (contents old.store).modules k
      → IsKept ps (contents new.store).modules k
  kept_closed commits = kept_still (ap (λ (c : Contents). c.modules) (by (unfolded ps old).group (commits.made ps)))
    where
      by : (o : Option HistoryGroup) → IsSomeAnd o (λ g. unfolded ps new ≡ committed g (unfolded ps old))
          → (unfolded ps new).now ≡ (unfolded ps old).now
      by None left = absurd left
      by (Some g) left = ap (λ (h : History). h.now) left ∙ committed_leaves g (unfolded ps old)
