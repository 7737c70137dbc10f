-- A dump reads back: its commands, their replies, and what they leave.
use Rattle.std.proofs.Common.{◌≡◌, ◌≤◌, ◌+◌, ℕ, Bool, cond, true, false, ◌&&◌, List, [], ◌∷◌, ◌++◌, length, map, codes, Some, None, Ok, Err, Result, is_none, ok_or, refl, sym, ap, ◌∙◌, subst, arith, append_assoc, if◌then◌else◌}
use Rattle.std.specs.Prelude.{is_ok, is_err, count_by}
use Rattle.std.specs.Result.{MatchResult}
use Rattle.std.specs.declared.option.Option.{Option}
use Rattle.std.specs.List.{AllByRecursion, flat_map, repeat}
use Rattle.std.specs.Cmp.Derive.{both_true}
use Rattle.std.specs.FinMap as finmap
use Rattle.std.specs.FinMap.{entries}
use Rattle.std.proofs.lemmas.Bool.{le-leb, le-ltb}
use Rattle.std.proofs.Math.Bool.{and-false}
use Rattle.std.proofs.lemmas.List.{length-append}
use Rattle.std.proofs.lemmas.List.Sums.{sum_by-cons}
use Rattle.std.specs.Bool.{MatchBool}
use Rattle.term_core.specs.Size.{height, size, fits}
use Rattle.term_core.specs.declared.TheConstants.{MAX_HEIGHT, MAX_SIZE}
use Rattle.aterm_text.specs.Printed.{print}
use Rattle.aterm_text.specs.Laws.{PrintedTextReadsBack, PrintedTextIsOneLine, PrintedTextNests, PrintedTextIsAsLong}
use Rattle.strategy_check.specs.Faults.{Fault, Primitives, faults, first}
use Rattle.strategy_check.specs.Programs.{Program, program}
use Rattle.term_changes.specs.Contents.{Contents, with_tree, with_module}
use Rattle.session_modules.specs.Modules.{Texts, Finds, GivesProgram, Checks}
use Rattle.session_history.specs.History.{HistoryGroup, History, changed}
use Rattle.session_history.specs.declared.limits.Limits.{Limits}
use Rattle.session_history.specs.Acts.{Passing, Holding, Given, Leaves, ChangesTo, ChangesModules, committed}
use Rattle.session_history.specs.Dump.{tree_line, module_line, dumped}
use Rattle.session_modules.specs.declared.refusal.Refusal.{Refusal}
use Rattle.session_modules.specs.declared.refusal.Refusal.TheVariants.{Big, Group, NoGroup}
use Rattle.script_text.specs.declared.TheConstants.{MAX_COMMAND}
use Rattle.script_text.specs.declared.framing.Framing.{Framing}
use Rattle.script_text.specs.Script.{commands}
use Rattle.script_text.specs.Form.{Form, tree, set_module, begin, commit, command_of}
use Rattle.script_text.specs.Handed.{Handed, text, long, handed_as, handed}
use Rattle.script_text.specs.Replies.{Reply, line, ok_with, Replies, budgets_in, ReplyTo, history_after}
use Rattle.script_text.specs.Answer.{ReplyInRun}
use Rattle.session_history.specs.Applying.{Meaning}
use Rattle.script_text.specs.Run.{Replied, out}
use Rattle.script_text.specs.Laws.{OneRun, CanBeGiven, IsBare, AreClear, DumpReadsBack, DumpIsAnswered}
use Rattle.script_text.proofs.RunLemmas.{end_of_one}
use Rattle.script_text.proofs.DumpText.{tree_command, module_command, IsDumped, IsWhole, script_of, commands-script, command-is, module_command-is, tree_whole, module_whole, begin_whole, commit_whole}
use Rattle.script_text.proofs.DumpContents.{TreeEntry, TextEntry, IsGiven, IsTold, inserted, inserted-all, trees_given, modules_told, group_text, dumped-is}

abbrev IsShort : List ℕ → Type 0
IsShort command = length command ≤ MAX_COMMAND

-- ---- histories after changes

now-changed : (c : Contents) (h : History) → (changed c h).now ≡ c
now-changed c h = grind arith

primitives-changed : (c : Contents) (h : History) → (changed c h).primitives ≡ h.primitives
primitives-changed c h = grind arith

limits-changed : (c : Contents) (h : History) → (changed c h).limits ≡ h.limits
limits-changed c h = grind arith

outside-changed : (c : Contents) (h : History) → h.group ≡ None → (changed c h).group ≡ None
outside-changed c h none = grind arith

inside-changed : (c : Contents) (h : History) (g : HistoryGroup) → h.group ≡ Some g
    → (changed c h).group ≡ Some (record g { changed = true })
inside-changed c h g some = grind arith

-- the history after the trees, one after another
abbrev trees_after : History → List TreeEntry → History
trees_after h [] = h
trees_after h (e ∷ es) = trees_after (changed (with_tree h.now e.0 e.1) h) es

record HasTrees (es : List TreeEntry) (h g : History) : Type 0 where
  now : g.now ≡ record h.now { trees = inserted h.now.trees es }
  limits : g.limits ≡ h.limits
  primitives : g.primitives ≡ h.primitives
  group : g.group ≡ None

has_trees : (es : List TreeEntry) (h : History) → h.group ≡ None → HasTrees es h (trees_after h es)
has_trees [] h none = record { now = refl; limits = refl; primitives = refl; group = none }
has_trees (e ∷ es) h none =
    let c : Contents = with_tree h.now e.0 e.1 in
    let rest = has_trees es (changed c h) (outside-changed c h none) in
    record {
      now = rest.now ∙ ap (λ (c : Contents). record c { trees = inserted c.trees es }) (now-changed c h);
      limits = rest.limits ∙ limits-changed c h;
      primitives = rest.primitives ∙ primitives-changed c h;
      group = rest.group;
    }

-- the history after the modules
abbrev modules_after : History → List TextEntry → History
modules_after h [] = h
modules_after h (e ∷ es) = modules_after (changed (with_module h.now e.0 e.1) h) es

record HasModules (es : List TextEntry) (h k : History) : Type 0 where
  now : k.now ≡ record h.now { modules = inserted h.now.modules es }
  primitives : k.primitives ≡ h.primitives
  open_group : HistoryGroup
  group : k.group ≡ Some open_group

has_modules : (es : List TextEntry) (h : History) (g : HistoryGroup) → h.group ≡ Some g
    → HasModules es h (modules_after h es)
has_modules [] h g some = record { now = refl; primitives = refl; open_group = g; group = some }
has_modules (e ∷ es) h g some =
    let c : Contents = with_module h.now e.0 e.1 in
    let rest = has_modules es (changed c h) (record g { changed = true }) (inside-changed c h g some) in
    record {
      now = rest.now ∙ ap (λ (c : Contents). record c { modules = inserted c.modules es }) (now-changed c h);
      primitives = rest.primitives ∙ primitives-changed c h;
      open_group = rest.open_group;
      group = rest.group;
    }

now-committed : (g : HistoryGroup) (h : History) → (committed g h).now ≡ h.now
now-committed g h = grind arith

-- if the checker finds no fault, there is a program
gives : (primitives : Primitives) (texts : Texts) → Finds primitives texts None
    → (p : Program) × GivesProgram primitives texts p
gives primitives texts finds = (
  program finds.modules primitives,
  record {
    modules = finds.modules;
    are = finds.are;
    faultless = no_fault (faults finds.modules primitives) finds.fault;
    given = refl;
  },
)
  where
    no_fault : (fs : List Fault) → None ≡ first fs → fs ≡ []
    no_fault [] e = refl
    no_fault (f ∷ fs) e = absurd (cc)

-- ---- commands answered with `ok`

abbrev falses : List (List ℕ) → List Bool
falses [] = []
falses (c ∷ cs) = false ∷ falses cs

module _ (meaning : Meaning) (budget : ℕ) where
  -- the commands lead from one history to another, and each is answered with `ok`
  abbrev Oks : List (List ℕ) → History → History → Type 0
  Oks [] h g = h ≡ g
  Oks (c ∷ cs) h g = (k : History) × ReplyTo meaning budget (text c) h (Ok (ok_with k)) × Oks cs k g

  oks-append : (cs ds : List (List ℕ)) (h k g : History) → Oks cs h k → Oks ds k g → Oks (cs ++ ds) h g
  oks-append [] ds h k g e p = subst (λ (x : History). Oks ds x g) (sym e) p
  oks-append (c ∷ cs) ds h k g o p = (o.0, o.1, oks-append cs ds o.0 k g o.2 p)

  -- a command of this form
  said : (command : List ℕ) (form : Form) (h : History) (reply : Reply) → command_of (budgets_in h budget) command
      ≡ Ok form → Replies meaning form h reply → ReplyTo meaning budget (text command) h reply
  said command form h reply is replies = subst (λ (form : Result Form Refusal).
      MatchResult form (λ form. Replies meaning form h reply) (λ refusal. reply ≡ Err refusal)) (sym is) replies

  abbrev replies_of : (cs : List (List ℕ)) (h g : History) → Oks cs h g → List Reply
  replies_of [] h g o = []
  replies_of (c ∷ cs) h g o = Ok (ok_with o.0) ∷ replies_of cs o.0 g o.2

  out-is : (cs : List (List ℕ)) (h g : History) (o : Oks cs h g)
      → out (replies_of cs h g o) ≡ repeat (length cs) (line (codes "ok"))
  out-is [] h g o = refl
  out-is (c ∷ cs) h g o = ap (λ (xs : List ℕ). line (codes "ok") ++ xs) (out-is cs o.0 g o.2)

  accepted-is : (cs : List (List ℕ)) (h g : History) (o : Oks cs h g) → count_by is_ok (replies_of cs h g o) ≡ length cs
  accepted-is [] h g o = refl
  accepted-is (c ∷ cs) h g o =
      let first : Reply = Ok (ok_with o.0) in
      omega
      (arith, sum_by-cons (λ (r : Reply). cond (is_ok r) 1 0) first (replies_of cs o.0 g o.2), accepted-is cs o.0 g o.2)

  refused-is : (cs : List (List ℕ)) (h g : History) (o : Oks cs h g) → count_by is_err (replies_of cs h g o) ≡ 0
  refused-is [] h g o = refl
  refused-is (c ∷ cs) h g o =
      let first : Reply = Ok (ok_with o.0) in
      omega
      (arith, sum_by-cons (λ (r : Reply). cond (is_err r) 1 0) first (replies_of cs o.0 g o.2), refused-is cs o.0 g o.2)

  -- ---- the tree commands

  module _ (back : PrintedTextReadsBack) (oneline : PrintedTextIsOneLine) (nests : PrintedTextNests)
      (lengthy : PrintedTextIsAsLong) where
    is_dumped : (e : TreeEntry) → IsGiven e → IsDumped e.0 (print e.1)
    is_dumped e g = record { label = g.label; line = oneline e.1 g.term }

    fits-given : (room : ℕ) (e : TreeEntry) → IsGiven e → IsShort (tree_command e.0 (print e.1))
        → MAX_SIZE ≤ room → fits room 0 e.1 ≡ true
    fits-given room e g short enough =
        let within : size e.1 ≤ length (tree_command e.0 (print e.1)) = omega (
          arith,
          lengthy e.1 g.term,
          length-append (codes "tree ") (e.0 ++ 32 ∷ print e.1),
          length-append e.0 (32 ∷ print e.1),
        ) in
        both_true (le-leb (0 + height e.1) MAX_HEIGHT (omega (arith, g.low)))
        (le-leb (size e.1) room (omega (arith, within, short, enough)))

    tree_said : (e : TreeEntry) → IsGiven e → IsShort (tree_command e.0 (print e.1)) → (h : History)
        → MAX_SIZE ≤ h.limits.max_terms → ReplyTo meaning budget (text (tree_command e.0 (print e.1))) h
        (Ok (ok_with (changed (with_tree h.now e.0 e.1) h)))
    tree_said e g short h room =
        said (tree_command e.0 (print e.1)) (tree e.0 (print e.1)) h
        (Ok (ok_with (changed (with_tree h.now e.0 e.1) h)))
        (command-is (budgets_in h budget) e.0 (print e.1) (is_dumped e g)) (
          Ok (changed (with_tree h.now e.0 e.1) h),
          (
            Ok e.1,
            (omega (arith, nests e.1 g.term, g.low), back e.1 g.term),
            subst (λ (b : Bool). Holding b Big (ChangesTo (with_tree h.now e.0 e.1) h)
                (Ok (changed (with_tree h.now e.0 e.1) h))) (sym (fits-given h.limits.max_terms e g short room)) refl,
          ),
          refl,
        )

    -- the commands of the trees
    abbrev tree_commands : List TreeEntry → List (List ℕ)
    tree_commands es = map (λ e. tree_command e.0 (print e.1)) es

    trees_said : (es : List TreeEntry) → AllByRecursion IsGiven es → AllByRecursion IsShort (tree_commands es)
        → (h : History) → MAX_SIZE ≤ h.limits.max_terms → Oks (tree_commands es) h (trees_after h es)
    trees_said [] g short h room = refl
    trees_said (e ∷ es) g short h room =
        let c : Contents = with_tree h.now e.0 e.1 in (
          changed c h,
          tree_said e g.0 short.0 h room,
          trees_said es g.1 short.1 (changed c h)
              (subst (λ (l : Limits). MAX_SIZE ≤ l.max_terms) (sym (limits-changed c h)) room),
        )

  -- ---- the module commands, in a group

  abbrev module_commands : List TextEntry → List (List ℕ)
  module_commands es = map (λ e. module_command e.0 e.1) es

  module_said : (framing : Framing) (e : TextEntry) (h : History) (g : HistoryGroup)
      → IsTold framing h.limits.max_tokens e → h.group ≡ Some g
      → ReplyTo meaning budget (text (module_command e.0 e.1)) h (Ok (ok_with (changed (with_module h.now e.0 e.1) h)))
  module_said framing e h g t some =
      let k : History = changed (with_module h.now e.0 e.1) h in
      said (module_command e.0 e.1) (set_module e.0 e.1) h (Ok (ok_with k))
      (module_command-is framing (budgets_in h budget) e.0 e.1 t.label t.text) (
        Ok k,
        (
          Ok t.reads.0,
          t.reads.1,
          subst (λ (o : Option HistoryGroup). ChangesModules o (with_module h.now e.0 e.1) h (Ok k)) (sym some) refl,
        ),
        refl,
      )

  modules_said : (framing : Framing) (es : List TextEntry) (h : History) (g : HistoryGroup)
      → AllByRecursion (IsTold framing h.limits.max_tokens) es → h.group ≡ Some g
      → Oks (module_commands es) h (modules_after h es)
  modules_said framing [] h g t some = refl
  modules_said framing (e ∷ es) h g t some =
      let c : Contents = with_module h.now e.0 e.1 in (
        changed c h,
        module_said framing e h g t.0 some,
        modules_said framing es (changed c h) (record g { changed = true })
            (subst (λ (l : Limits). AllByRecursion (IsTold framing l.max_tokens) es) (sym (limits-changed c h)) t.1)
            (inside-changed c h g some),
      )

  begin_said : (h : History) → h.group ≡ None → ReplyTo meaning budget (text (codes "begin")) h
      (Ok (ok_with (record h { group = Some (record { begun = h.now; changed = false }) })))
  begin_said h none =
      let k : History = record h { group = Some (record { begun = h.now; changed = false }) } in
      said (codes "begin") begin h (Ok (ok_with k)) refl
      (Ok k, subst (λ (o : Option HistoryGroup). Holding (is_none o) Group (Leaves k) (Ok k)) (sym none) refl, refl)

  commit_said : (h : History) (g : HistoryGroup) → h.group ≡ Some g → Finds h.primitives h.now.modules None
      → ReplyTo meaning budget (text (codes "commit")) h (Ok (ok_with (committed g h)))
  commit_said h g some finds =
      let k : History = committed g h in
      let checked = gives h.primitives h.now.modules finds in
      said (codes "commit") commit h (Ok (ok_with k)) refl (
        Ok k,
        subst (λ (o : Option HistoryGroup). Passing (ok_or o NoGroup)
            (λ g. Given (Checks h.primitives h.now.modules) (λ p. Leaves (committed g h))) (Ok k)) (sym some)
            (Ok checked.0, checked.1, refl),
        refl,
      )

  -- the group of all modules, if there are any
  abbrev group_commands : List TextEntry → List (List ℕ)
  group_commands [] = []
  group_commands (e ∷ es) = codes "begin" ∷ (module_commands (e ∷ es) ++ codes "commit" ∷ [])

  record IsGrouped (es : List TextEntry) (h : History) : Type 0 where
    last : History
    oks : Oks (group_commands es) h last
    now : last.now ≡ record h.now { modules = inserted h.now.modules es }

  group_said : (framing : Framing) (es : List TextEntry) (h : History)
      → AllByRecursion (IsTold framing h.limits.max_tokens) es
      → h.group ≡ None → Finds h.primitives (inserted h.now.modules es) None → IsGrouped es h
  group_said framing [] h t none finds = record { last = h; oks = refl; now = refl }
  group_said framing (e ∷ es) h t none finds =
      let g : HistoryGroup = record { begun = h.now; changed = false } in
      let begun : History = record h { group = Some g } in
      let left = has_modules (e ∷ es) begun g refl in
      let k : History = modules_after begun (e ∷ es) in
      let found : Finds k.primitives k.now.modules None =
      subst (λ (ps : Primitives). Finds ps k.now.modules None) (sym left.primitives)
      (subst (λ (c : Contents). Finds h.primitives c.modules None) (sym left.now) finds) in
      record {
        last = committed left.open_group k;
        oks = (
          begun,
          begin_said h none,
          oks-append (module_commands (e ∷ es)) (codes "commit" ∷ []) begun k (committed left.open_group k)
              (modules_said framing (e ∷ es) begun g t refl)
              (committed left.open_group k, commit_said k left.open_group left.group found, refl),
        );
        now = now-committed left.open_group k ∙ left.now;
      }

-- ---- runs of such commands

module _ (one : OneRun) (stop : Bool) (meaning : Meaning) (budget : ℕ) where
  one_reply : (c : List ℕ) (h : History) (r s : Reply) → ReplyInRun meaning budget (text c) false h r
      → ReplyInRun meaning budget (text c) false h s → r ≡ s
  one_reply c h r s p q =
      let singles : r ∷ [] ≡ s ∷ [] =
      (one meaning stop budget (text c ∷ []) (false ∷ []) h (history_after h r) (history_after h s)
      (r ∷ []) (s ∷ []) (p, end_of_one (stop && is_err r) (history_after h r) (history_after h r) refl)
      (q, end_of_one (stop && is_err s) (history_after h s) (history_after h s) refl)).0 in
      cc

  only : (cs : List (List ℕ)) (h g : History) (o : Oks meaning budget cs h g) (flags : List Bool) → AreClear flags
      → (rs : List Reply) (k : History) → Replied stop (ReplyInRun meaning budget) (map (λ c. text c) cs) flags h rs k
      → (rs ≡ replies_of meaning budget cs h g o) × (k ≡ g)
  only [] h g o [] clear [] k p = (refl, p ∙ o)
  only (c ∷ cs) h g o (flag ∷ flags) clear (r ∷ rs) k p =
      let first : r ≡ Ok (ok_with o.0) = one_reply c h r (Ok (ok_with o.0))
      (subst (λ (f : Bool). ReplyInRun meaning budget (text c) f h r) clear.0 p.0) o.1 in
      let rest : Replied stop (ReplyInRun meaning budget) (map (λ c. text c) cs) flags o.0 rs k =
      subst (λ (b : Bool). MatchBool b ((flags ≡ []) × (rs ≡ []) × (k ≡ o.0))
      (Replied stop (ReplyInRun meaning budget) (map (λ c. text c) cs) flags o.0 rs k)) (and-false stop)
      (subst (λ (x : Reply). MatchBool (stop && is_err x) ((flags ≡ []) × (rs ≡ []) × (k ≡ history_after h x))
      (Replied stop (ReplyInRun meaning budget) (map (λ c. text c) cs) flags (history_after h x) rs k)) first p.1) in
      let later = only cs o.0 g o.2 flags clear.1 rs k rest in
      (λ i. first i ∷ later.0 i, later.1)
  only cs h g o flags clear rs k p = absurd p

answered : (stop : Bool) (meaning : Meaning) (budget : ℕ) (cs : List (List ℕ)) (h g : History)
    (o : Oks meaning budget cs h g) → Replied stop (ReplyInRun meaning budget) (map (λ c. text c) cs) (falses cs) h
    (replies_of meaning budget cs h g o) g
answered stop meaning budget [] h g o = sym o
answered stop meaning budget (c ∷ cs) h g o = (
  o.1,
  subst (λ (b : Bool).
      MatchBool b ((falses cs ≡ []) × (replies_of meaning budget cs o.0 g o.2 ≡ []) × (g ≡ o.0)) (Replied stop
      (ReplyInRun meaning budget) (map (λ c. text c) cs) (falses cs) o.0 (replies_of meaning budget cs o.0 g o.2) g))
      (sym (and-false stop)) (answered stop meaning budget cs o.0 g o.2),
)

all-clear : (cs : List (List ℕ)) → AreClear (falses cs)
all-clear [] = tt
all-clear (c ∷ cs) = (refl, all-clear cs)

-- ---- the text of a dump

script-append : (cs ds : List (List ℕ)) → script_of (cs ++ ds) ≡ script_of cs ++ script_of ds
script-append [] ds = refl
script-append (c ∷ cs) ds = ap (λ (x : List ℕ). (c ++ 10 ∷ []) ++ x) (script-append cs ds)
    ∙ sym (append_assoc (c ++ 10 ∷ []) (script_of cs) (script_of ds))

tree_line-is : (name x : List ℕ) → codes "tree " ++ name ++ 32 ∷ x ++ 10 ∷ [] ≡ tree_command name x ++ 10 ∷ []
tree_line-is name x = simp append_assoc

module_line-is : (name x : List ℕ) → module_line name x ≡ module_command name x ++ 10 ∷ []
module_line-is name x = simp append_assoc

trees_script : (es : List TreeEntry)
    → flat_map (λ e. tree_line e.0 e.1) es ≡ script_of (map (λ e. tree_command e.0 (print e.1)) es)
trees_script [] = refl
trees_script (e ∷ es) = λ i. tree_line-is e.0 (print e.1) i ++ trees_script es i

modules_script : (es : List TextEntry)
    → flat_map (λ e. module_line e.0 e.1) es ≡ script_of (map (λ e. module_command e.0 e.1) es)
modules_script [] = refl
modules_script (e ∷ es) = λ i. module_line-is e.0 e.1 i ++ modules_script es i

group_script : (meaning : Meaning) (budget : ℕ) (es : List TextEntry)
    → group_text es ≡ script_of (group_commands meaning budget es)
group_script meaning budget [] = refl
group_script meaning budget (e ∷ es) =
    ap (λ (x : List ℕ). (codes "begin" ++ 10 ∷ []) ++ x)
    (ap (λ (x : List ℕ). x ++ (codes "commit" ++ 10 ∷ [])) (modules_script (e ∷ es))
    ∙ sym (script-append (map (λ e. module_command e.0 e.1) (e ∷ es)) (codes "commit" ∷ [])))

All-append-rec : {X : Type 0} (P : X → Type 0) (xs ys : List X) → AllByRecursion P xs → AllByRecursion P ys
    → AllByRecursion P (xs ++ ys)
All-append-rec P [] ys h k = k
All-append-rec P (x ∷ xs) ys h k = (h.0, All-append-rec P xs ys h.1 k)

All-front : {X : Type 0} (P : X → Type 0) (xs ys : List X) → AllByRecursion P (xs ++ ys) → AllByRecursion P xs
All-front P [] ys h = tt
All-front P (x ∷ xs) ys h = (h.0, All-front P xs ys h.1)

modules_whole : (framing : Framing) (most : ℕ) (es : List TextEntry) → AllByRecursion (IsTold framing most) es
    → AllByRecursion (IsWhole framing) (map (λ e. module_command e.0 e.1) es)
modules_whole framing most [] t = tt
modules_whole framing most (e ∷ es) t =
    (module_whole e.0 t.0.label framing e.1 t.0.text, modules_whole framing most es t.1)

group_whole : (framing : Framing) (most : ℕ) (meaning : Meaning) (budget : ℕ) (es : List TextEntry)
    → AllByRecursion (IsTold framing most) es → AllByRecursion (IsWhole framing) (group_commands meaning budget es)
group_whole framing most meaning budget [] t = tt
group_whole framing most meaning budget (e ∷ es) t = (
  begin_whole framing,
  All-append-rec (IsWhole framing) (map (λ e. module_command e.0 e.1) (e ∷ es)) (codes "commit" ∷ [])
      (modules_whole framing most (e ∷ es) t) (commit_whole framing, tt),
)

as_text : (x : List ℕ) → IsShort x → handed_as x ≡ text x
as_text x h = ap (λ (b : Bool). if b then long else text x) (le-ltb MAX_COMMAND (length x) h)

as_texts : (cs : List (List ℕ)) → AllByRecursion IsShort cs → map handed_as cs ≡ map (λ c. text c) cs
as_texts [] h = refl
as_texts (c ∷ cs) h = λ i. as_text c h.0 i ∷ as_texts cs h.1 i

module _ (back : PrintedTextReadsBack) (oneline : PrintedTextIsOneLine) (nests : PrintedTextNests)
    (lengthy : PrintedTextIsAsLong) where
  trees_whole : (framing : Framing) (es : List TreeEntry) → AllByRecursion IsGiven es
      → AllByRecursion (IsWhole framing) (map (λ e. tree_command e.0 (print e.1)) es)
  trees_whole framing [] g = tt
  trees_whole framing (e ∷ es) g = (
    tree_whole framing e.0 (print e.1) (record { label = g.0.label; line = oneline e.1 g.0.term }),
    trees_whole framing es g.1,
  )

  module _ (meaning : Meaning) (framing : Framing) (budget : ℕ) (c : Contents) (h : History)
      (can : CanBeGiven framing h.limits.max_tokens h.primitives c) where
    abbrev all_commands : List (List ℕ)
    all_commands =
        map (λ e. tree_command e.0 (print e.1)) (entries c.trees) ++ group_commands meaning budget (entries c.modules)

    trees : AllByRecursion IsGiven (entries c.trees)
    trees = trees_given c can.named.0 can.sound.0.0

    modules : AllByRecursion (IsTold framing h.limits.max_tokens) (entries c.modules)
    modules = modules_told c framing h.limits.max_tokens can.named.1 can.sound.0.1 can.texts

    text-is : dumped c ≡ script_of all_commands
    text-is =
        dumped-is c ∙ (λ i. trees_script (entries c.trees) i ++ group_script meaning budget (entries c.modules) i)
        ∙ sym (script-append (map (λ e. tree_command e.0 (print e.1)) (entries c.trees))
        (group_commands meaning budget (entries c.modules)))

    commands-are : commands framing (dumped c) ≡ all_commands
    commands-are =
        ap (commands framing) text-is
        ∙ commands-script framing all_commands
        (All-append-rec (IsWhole framing) (map (λ e. tree_command e.0 (print e.1)) (entries c.trees))
        (group_commands meaning budget (entries c.modules)) (trees_whole framing (entries c.trees) trees)
        (group_whole framing h.limits.max_tokens meaning budget (entries c.modules) modules))

    short : AllByRecursion IsShort all_commands
    short = subst (λ (cs : List (List ℕ)). AllByRecursion IsShort cs) commands-are can.short

    handed-are : handed framing (dumped c) ≡ map (λ c. text c) all_commands
    handed-are = ap (map handed_as) commands-are ∙ as_texts all_commands short

    -- the outcome of the commands
    record IsLed : Type 0 where
      last : History
      oks : Oks meaning budget all_commands h last
      now : last.now ≡ c

    led : IsBare h → IsLed
    led bare =
        let k : History = trees_after h (entries c.trees) in
        let left = has_trees (entries c.trees) h bare.group in
        let bare_now : k.now ≡ record { trees = c.trees; modules = finmap.empty } =
        left.now ∙ ap (λ (d : Contents). record d { trees = inserted d.trees (entries c.trees) }) bare.contents
        ∙ ap (λ m. record { trees = m; modules = finmap.empty }) (inserted-all c.trees) in
        let all : inserted k.now.modules (entries c.modules) ≡ c.modules =
        ap (λ (d : Contents). inserted d.modules (entries c.modules)) bare_now ∙ inserted-all c.modules in
        let grouped = group_said meaning budget framing (entries c.modules) k
        (subst (λ (l : Limits). AllByRecursion (IsTold framing l.max_tokens) (entries c.modules)) (sym left.limits)
        modules) left.group
        (subst (λ (ps : Primitives). Finds ps (inserted k.now.modules (entries c.modules)) None) (sym left.primitives)
        (subst (λ m. Finds h.primitives m None) (sym all) can.sound.1)) in
        record {
          last = grouped.last;
          oks = oks-append meaning budget (map (λ e. tree_command e.0 (print e.1)) (entries c.trees))
              (group_commands meaning budget (entries c.modules)) h k grouped.last
              (trees_said meaning budget back oneline nests lengthy (entries c.trees) trees
              (All-front IsShort (map (λ e. tree_command e.0 (print e.1)) (entries c.trees))
              (group_commands meaning budget (entries c.modules)) short) h bare.room) grouped.oks;
          now = grouped.now ∙ (λ i. record { trees = (bare_now i).trees; modules = all i });
        }

  pub dump_read_back : OneRun → DumpReadsBack
  dump_read_back one meaning framing stop budget c h g flags replies can bare clear replied =
      let there = led meaning framing budget c h can bare in
      let cs : List (List ℕ) = all_commands meaning framing budget c h can in
      let count = ap length (commands-are meaning framing budget c h can) in
      let ends : (replies ≡ replies_of meaning budget cs h there.last there.oks) × (g ≡ there.last) =
      only one stop meaning budget cs h there.last there.oks flags clear replies g
      (subst (λ (cs : List Handed). Replied stop (ReplyInRun meaning budget) cs flags h replies g)
      (handed-are meaning framing budget c h can) replied) in
      let are = ends.0 in
      record {
        contents = ap (λ (x : History). x.now) ends.1 ∙ there.now;
        answers = ap out are ∙ out-is meaning budget cs h there.last there.oks
            ∙ ap (λ (n : ℕ). repeat n (line (codes "ok"))) (sym count);
        accepted = ap (count_by is_ok) are ∙ accepted-is meaning budget cs h there.last there.oks ∙ sym count;
        refused = ap (count_by is_err) are ∙ refused-is meaning budget cs h there.last there.oks;
      }

  pub dump_answered : DumpIsAnswered
  dump_answered meaning framing stop budget c h can bare =
      let there = led meaning framing budget c h can bare in
      let cs : List (List ℕ) = all_commands meaning framing budget c h can in (
        falses cs,
        replies_of meaning budget cs h there.last there.oks,
        there.last,
        all-clear cs,
        subst (λ (cs : List Handed).
            Replied stop (ReplyInRun meaning budget) cs (falses (all_commands meaning framing budget c h can)) h
            (replies_of meaning budget (all_commands meaning framing budget c h can) h there.last there.oks) there.last)
            (sym (handed-are meaning framing budget c h can))
            (answered stop meaning budget cs h there.last there.oks),
      )
