-- Lemmas on the text of a dump: its lines, its commands and their forms.
use Rattle.std.proofs.Common.{inl, inr, ◌≡◌, ◌<◌, ◌+◌, ◌-◌, ℕ, Bool, true, false, not, ◌&&◌, cond, List, [], ◌∷◌, ◌++◌, length, take, drop, reverse, get_or, codes, Some, None, Ok, Err, is_some, refl, sym, ap, ◌∙◌, subst, arith, append_assoc, append-nil, if◌then◌else◌}
use Rattle.std.specs.List.{All, AllByRecursion, prefix_len, suffix_len, position_or_len, list_all, slice_split, onto_first, join_with_byte, flat_map}
use Rattle.std.proofs.lemmas.List.Splits.{slice_split-cons_yes, slice_split-cons_no, join_with_byte-slice_split}
use Rattle.std.proofs.lemmas.List.Elements.{All-append, All-cons, All-nil}
use Rattle.std.proofs.lemmas.Bool.{cases_Bool, false_from_ne_true, true_from_ne_false, true≢false}
use Rattle.std.proofs.lemmas.Bool.Decides.{nat_tests}
use Rattle.std.proofs.lemmas.List.Folds.{prefix_len-append, list_all-append, list_all_at}
use Rattle.std.proofs.lemmas.List.{length-reverse, reverse-append}
use Rattle.std.proofs.Math.Seq.{take-length, take-append_seam, drop-append_seam}
use Rattle.std.specs.declared.option.Option.{Option}
use Rattle.session_modules.specs.declared.refusal.Refusal.TheVariants.{Name}
use Rattle.term_core.specs.Word.{continues_word, label_of}
use Rattle.aterm_text.specs.Tokens.{is_blank, without_blanks}
use Rattle.aterm_text.specs.Laws.{IsPrinted, IsOneLine}
use Rattle.session_history.specs.Dump.{after_name}
use Rattle.script_text.specs.declared.framing.Framing.{Framing}
use Rattle.script_text.specs.declared.framing.Framing.TheVariants.{Continued, Lines}
use Rattle.script_text.specs.Script.{is_line_feed, is_carriage_return, without_end, is_comment, lines, begins_command, Cut, cut, commands, without_start, is_command}
use Rattle.script_text.specs.Laws.{IsCommandText, GoOn}
use Rattle.script_text.specs.declared.command.Budgets.{Budgets}
use Rattle.script_text.specs.Form.{Form, tree, set_module, front_word, after_word, has_bytes, with_word, last_text, form_with, checked, command_of}
use Rattle.script_text.specs.KeywordView.{module_form}
use Rattle.script_text.proofs.LineLemmas.{IsCore, with_line, first_piece, lines-line_feed, lines-kept, kept-core}
use Rattle.script_text.proofs.OwnLineLemmas.{own_command}

-- the command that sets the tree of a name to the term of a text
abbrev pub tree_command : List ℕ → List ℕ → List ℕ
tree_command name x = codes "tree " ++ (name ++ 32 ∷ x)

-- the command that sets the module of a name to that of a text
abbrev pub module_command : List ℕ → List ℕ → List ℕ
module_command name text = codes "module " ++ (name ++ after_name text)

-- a label, and the printed text of a tree
pub record IsDumped (name x : List ℕ) : Type 0 where
  pub label : label_of name ≡ Some name
  pub line : IsOneLine x

-- ---- labels

-- a byte that is no white space
abbrev IsInk : ℕ → Type 0
IsInk b = is_blank b ≡ false

all_ink : (s : List ℕ) → list_all continues_word s ≡ true → AllByRecursion IsInk s
all_ink [] h = tt
all_ink (b ∷ s) h = (grind (arith, nat_tests), all_ink s (grind (arith, nat_tests)))

record IsInkWord (name : List ℕ) : Type 0 where
  some : 0 < length name
  all : AllByRecursion IsInk name

label_ink : (name : List ℕ) → label_of name ≡ Some name → IsInkWord name
label_ink [] h = absurd (cc)
label_ink (b ∷ s) h =
    record { some = omega arith; all = (grind (arith, nat_tests), all_ink s (grind (arith, nat_tests))) }

-- ---- the words of the command

no_blanks_in_front : (b : ℕ) (x : List ℕ) → IsInk b → prefix_len is_blank (b ∷ x) ≡ 0
no_blanks_in_front b x h = ap (λ (q : Bool). cond q (1 + prefix_len is_blank x) 0) h

after_space : (x : List ℕ) → prefix_len is_blank x ≡ 0 → without_blanks (32 ∷ x) ≡ x
after_space x h = ap (λ (n : ℕ). drop (1 + n) (32 ∷ x)) h

-- a word, and what follows it: white space, or nothing
module _ (rest : List ℕ) (ends : position_or_len is_blank rest ≡ 0) where
  word_length : (name : List ℕ) → AllByRecursion IsInk name → position_or_len is_blank (name ++ rest) ≡ length name
  word_length [] h = ends
  word_length (b ∷ s) h =
      ap (λ (q : Bool). cond (not q) (1 + position_or_len is_blank (s ++ rest)) 0) h.0
      ∙ omega (arith, word_length s h.1)

  word_starts : (name : List ℕ) → IsInkWord name → without_blanks (32 ∷ (name ++ rest)) ≡ name ++ rest
  word_starts [] h = absurd (omega (arith, h.some))
  word_starts (b ∷ s) h = after_space (b ∷ (s ++ rest)) (no_blanks_in_front b (s ++ rest) h.all.0)

  first-is : (name : List ℕ) → IsInkWord name → front_word (32 ∷ (name ++ rest)) ≡ name
  first-is name h =
      ap (λ (text : List ℕ). take (position_or_len is_blank text) text) (word_starts name h)
      ∙ ap (λ (n : ℕ). take n (name ++ rest)) (word_length name h.all) ∙ take-append_seam name rest

  after-is : (name : List ℕ) → IsInkWord name → after_word (32 ∷ (name ++ rest)) ≡ rest
  after-is name h =
      ap (λ (text : List ℕ). drop (position_or_len is_blank text) text) (word_starts name h)
      ∙ ap (λ (n : ℕ). drop n (name ++ rest)) (word_length name h.all) ∙ drop-append_seam name rest

  -- the form of a name and what follows it
  named-is : (form : List ℕ → List ℕ → Form) (name x : List ℕ) → IsInkWord name → without_blanks rest ≡ x →
      with_word (32 ∷ (name ++ rest)) (λ word rest. Some (form word (last_text rest))) ≡ Some (form name x)
  named-is form [] x h is = absurd (omega (arith, h.some))
  named-is form (b ∷ s) x h is =
      (λ i. if has_bytes (first-is (b ∷ s) h i) then Some
      (form (first-is (b ∷ s) h i) (without_blanks (after-is (b ∷ s) h i))) else None)
      ∙ ap (λ (x : List ℕ). Some (form (b ∷ s) x)) is

-- ---- no white space ends the command

module _ (p : ℕ → Bool) where
  front-append : (x y : List ℕ) → 0 < length x → prefix_len p x ≡ 0 → prefix_len p (x ++ y) ≡ 0
  front-append x y some h = grind (arith, nat_tests, prefix_len-append p x y)

  end-append : (x y : List ℕ) → 0 < length y → suffix_len p y ≡ 0 → suffix_len p (x ++ y) ≡ 0
  end-append x y some h =
      ap (prefix_len p) (reverse-append x y)
      ∙ front-append (reverse y) (reverse x) (omega (arith, some, length-reverse y)) h

  no_end : (x : List ℕ) → suffix_len p x ≡ 0 → without_end p x ≡ x
  no_end x h = ap (λ (n : ℕ). take n x) (omega (arith, h)) ∙ take-length x

ink_end : (name : List ℕ) → AllByRecursion IsInk name → suffix_len is_blank name ≡ 0
ink_end [] h = refl
ink_end (b ∷ []) h = no_blanks_in_front b [] h.0
ink_end (b ∷ (d ∷ s)) h = end-append is_blank (b ∷ []) (d ∷ s) (omega arith) (ink_end (d ∷ s) h.1)

-- a keyword, a name and a text
command_ends : (keyword name x : List ℕ) → 0 < length x
    → suffix_len is_blank x ≡ 0 → suffix_len is_blank (keyword ++ (name ++ 32 ∷ x)) ≡ 0
command_ends keyword name x some end = rw seam_of (end-append is_blank (keyword ++ (name ++ 32 ∷ [])) x some end)
  where
    seam_of : keyword ++ (name ++ 32 ∷ x) ≡ (keyword ++ (name ++ 32 ∷ [])) ++ x
    seam_of = sym
        (append_assoc keyword (name ++ 32 ∷ []) x ∙ ap (λ (xs : List ℕ). keyword ++ xs) (append_assoc name (32 ∷ []) x))

-- the command is read as what was dumped
pub command-is : (budget : Budgets) (name x : List ℕ) → IsDumped name x
    → command_of budget (tree_command name x) ≡ Ok (tree name x)
command-is budget name x h =
    ap (λ (text : List ℕ). checked (form_with budget (front_word text) (after_word text)))
    (no_end is_blank (tree_command name x) (command_ends (codes "tree ") name x h.line.some h.line.end))
    ∙ ap checked (named-is (32 ∷ x) refl tree name x (label_ink name h.label) (after_space x h.line.front))
    ∙ ap (λ (label : Option (List ℕ)). if is_some label then Ok (tree name x) else Err Name) h.label

module_ends : (name text : List ℕ) → IsInkWord name
    → suffix_len is_blank text ≡ 0 → suffix_len is_blank (module_command name text) ≡ 0
module_ends name [] word end =
    rw append-nil (end-append is_blank (codes "module ") name word.some (ink_end name word.all))
module_ends name (b ∷ text) word end = command_ends (codes "module ") name (b ∷ text) (omega arith) end

module_named : (name text : List ℕ) → IsInkWord name
    → prefix_len is_blank text ≡ 0 → module_form (32 ∷ (name ++ after_name text)) ≡ Some (set_module name text)
module_named name [] word front = named-is [] refl set_module name [] word refl
module_named name (b ∷ text) word front =
    named-is (32 ∷ (b ∷ text)) refl set_module name (b ∷ text) word (after_space (b ∷ text) front)

pub module_command-is : (framing : Framing) (budget : Budgets) (name text : List ℕ) → label_of name ≡ Some name
    → IsCommandText framing text → command_of budget (module_command name text) ≡ Ok (set_module name text)
module_command-is framing budget name text label h =
    ap (λ (text : List ℕ). checked (form_with budget (front_word text) (after_word text)))
    (no_end is_blank (module_command name text) (module_ends name text (label_ink name label) h.end))
    ∙ ap checked (module_named name text (label_ink name label) h.front)
    ∙ ap (λ (label : Option (List ℕ)). if is_some label then Ok (set_module name text) else Err Name) label

-- ---- lines

-- bytes that don't end a line
abbrev is_inner : ℕ → Bool
is_inner b = not (is_line_feed b) && not (is_carriage_return b)

abbrev AreInner : List ℕ → Type 0
AreInner x = list_all is_inner x ≡ true

inner-append : (x y : List ℕ) → AreInner x → AreInner y → AreInner (x ++ y)
inner-append x y h k = grind (arith, list_all-append is_inner x y)

inner-ink : (x : List ℕ) → AllByRecursion IsInk x → AreInner x
inner-ink [] h = refl
inner-ink (b ∷ x) h = grind (arith, nat_tests, h.0, inner-ink x h.1)

inner-printed : (x : List ℕ) → AllByRecursion IsPrinted x → AreInner x
inner-printed [] h = refl
inner-printed (b ∷ x) h = grind (arith, nat_tests, h.0.0, inner-printed x h.1)

inner-at : (x : List ℕ) → AreInner x → (k d : ℕ) → k < length x → is_inner (get_or x k d) ≡ true
inner-at x h k d below = true_from_ne_false _ (λ e. true≢false (sym h ∙ list_all_at is_inner x k d below e))

inner-core : (x : List ℕ) → AreInner x → IsCore x
inner-core x h = record {
  last = λ some. let inner = inner-at x h (length x - 1) 0 (omega (arith, some)) in grind (arith, nat_tests, inner);
  one_line = λ k d below. let inner = inner-at x h k d below in grind (arith, nat_tests, inner);
}

core-append : (keyword name : List ℕ) → AreInner keyword → AllByRecursion IsInk name → (x : List ℕ) → AreInner x
    → IsCore (keyword ++ (name ++ x))
core-append keyword name h k x l =
    inner-core (keyword ++ (name ++ x)) (inner-append keyword (name ++ x) h (inner-append name x (inner-ink name k) l))

-- ---- lines and commands

-- A whole line: a line feed after it ends exactly this line.
abbrev IsLine : List ℕ → Type 0
IsLine x = (y : List ℕ) → lines (x ++ 10 ∷ y) ≡ with_line x (lines y)

core_line : (x : List ℕ) → IsCore x → IsLine x
core_line x h y = lines-line_feed x y 0 h

-- one without a line feed in it or a carriage return at its end
kept_line : (x : List ℕ) → All (λ b. is_line_feed b ≡ false) x → suffix_len is_carriage_return x ≡ 0 → IsLine x
kept_line x inner end y = lines-kept x y inner (no_end is_carriage_return x end)

-- A whole command: followed by a line feed, it is a command of its own if what comes next begins a
-- command, or is nothing.
abbrev pub IsContinued : List ℕ → Type 0
IsContinued x = (y : List ℕ) (cs : List (List ℕ)) → cut (lines y) ≡ record { going_on = []; commands = cs }
    → cut (lines (x ++ 10 ∷ y)) ≡ record { going_on = []; commands = x ∷ cs }

-- a line, depending on whether it begins a command
abbrev cut_by : Bool → List ℕ → Cut → Cut
cut_by b line rest =
    if b then record { going_on = []; commands = (line ++ rest.going_on) ∷ rest.commands } else
    record { going_on = 10 ∷ line ++ rest.going_on; commands = rest.commands }

no_comment : (line : List ℕ) → begins_command line ≡ false → is_comment line ≡ false
no_comment [] h = refl
no_comment (b ∷ line) h = grind (arith, nat_tests)

-- the lines after the first continue the command
record IsFurther (line : List ℕ) : Type 0 where
  whole : IsLine line
  goes_on : begins_command line ≡ false

abbrev after_feeds : List (List ℕ) → List ℕ
after_feeds others = flat_map (λ line. 10 ∷ line) others

abbrev followed : List (List ℕ) → List ℕ → List ℕ
followed [] y = y
followed (line ∷ others) y = line ++ 10 ∷ followed others y

seam : (first : List ℕ) (others : List (List ℕ)) (y : List ℕ)
    → (first ++ after_feeds others) ++ 10 ∷ y ≡ first ++ 10 ∷ followed others y
seam first [] y = ap (λ (x : List ℕ). x ++ 10 ∷ y) (append-nil first)
seam first (line ∷ others) y = append_assoc first (10 ∷ (line ++ after_feeds others))
    (10 ∷ y) ∙ ap (λ (x : List ℕ). first ++ 10 ∷ x) (seam line others y)

further : (others : List (List ℕ)) (y : List ℕ) (cs : List (List ℕ)) → AllByRecursion IsFurther others
    → cut (lines y) ≡ record { going_on = []; commands = cs }
    → cut (lines (followed others y)) ≡ record { going_on = after_feeds others; commands = cs }
further [] y cs h e = e
further (line ∷ others) y cs h e =
    ap cut (h.0.whole (followed others y))
    ∙ ap (λ (q : Bool). cut (if not q then line ∷ lines (followed others y) else lines (followed others y)))
    (no_comment line h.0.goes_on)
    ∙ (λ i. cut_by (h.0.goes_on i) line (further others y cs h.1 e i))

whole : (first : List ℕ) (others : List (List ℕ)) → IsLine first → is_comment first ≡ false → begins_command first
    ≡ true → AllByRecursion IsFurther others → IsContinued (first ++ after_feeds others)
whole first others line comment begins h y cs e =
    ap (λ (x : List ℕ). cut (lines x)) (seam first others y)
    ∙ ap cut (line (followed others y))
    ∙ ap (λ (q : Bool). cut (if not q then first ∷ lines (followed others y) else lines (followed others y))) comment
    ∙ (λ i. cut_by (begins i) first (further others y cs h e i))

continued_line : (x : List ℕ) → IsCore x → is_comment x ≡ false → begins_command x ≡ true → IsContinued x
continued_line x h comment begins = subst IsContinued (append-nil x) (whole x [] (core_line x h) comment begins tt)

-- The same if each line is a command.
abbrev pub IsOwnLine : List ℕ → Type 0
IsOwnLine x = (y : List ℕ) → commands Lines (x ++ 10 ∷ y) ≡ x ∷ commands Lines y

abbrev pub IsWhole : Framing → List ℕ → Type 0
IsWhole Continued x = IsContinued x
IsWhole Lines x = IsOwnLine x

one_line : (framing : Framing) (x : List ℕ) → IsCore x
    → is_comment x ≡ false → begins_command x ≡ true → without_start x ≡ x → is_command x ≡ true → IsWhole framing x
one_line Continued x h comment begins start own = continued_line x h comment begins
one_line Lines x h comment begins start own = λ y. own_command x y h.one_line (kept-core x h) start own

-- commands, each followed by a line feed
abbrev pub script_of : List (List ℕ) → List ℕ
script_of cs = flat_map (λ c. c ++ 10 ∷ []) cs

cut-script : (cs : List (List ℕ)) → AllByRecursion IsContinued cs
    → cut (lines (script_of cs)) ≡ record { going_on = []; commands = cs }
cut-script [] h = refl
cut-script (c ∷ cs) h = ap (λ (x : List ℕ). cut (lines x)) (append_assoc c (10 ∷ []) (script_of cs))
    ∙ h.0 (script_of cs) cs (cut-script cs h.1)

own-script : (cs : List (List ℕ)) → AllByRecursion IsOwnLine cs → commands Lines (script_of cs) ≡ cs
own-script [] h = refl
own-script (c ∷ cs) h = ap (commands Lines) (append_assoc c (10 ∷ []) (script_of cs)) ∙ h.0 (script_of cs)
    ∙ ap (λ (ds : List (List ℕ)). c ∷ ds) (own-script cs h.1)

pub commands-script : (framing : Framing) (cs : List (List ℕ)) → AllByRecursion (IsWhole framing) cs
    → commands framing (script_of cs) ≡ cs
commands-script Continued cs h = ap (λ (c : Cut). c.commands) (cut-script cs h)
commands-script Lines cs h = own-script cs h

pub tree_whole : (framing : Framing) (name x : List ℕ) → IsDumped name x → IsWhole framing (tree_command name x)
tree_whole framing name x h =
    one_line framing (tree_command name x) (core-append (codes "tree ") name refl (label_ink name h.label).all
    (32 ∷ x) (inner-append (32 ∷ []) x refl (inner-printed x h.line.bytes))) refl refl refl refl

pub begin_whole : (framing : Framing) → IsWhole framing (codes "begin")
begin_whole framing = one_line framing (codes "begin") (inner-core (codes "begin") refl) refl refl refl refl

pub commit_whole : (framing : Framing) → IsWhole framing (codes "commit")
commit_whole framing = one_line framing (codes "commit") (inner-core (codes "commit") refl) refl refl refl refl

-- ---- the lines of a module's text

abbrev AreLines : List (List ℕ) → Type 0
AreLines ls = AllByRecursion (λ line. All (λ b. is_line_feed b ≡ false) line) ls

abbrev AreEnded : List (List ℕ) → Type 0
AreEnded ls = AllByRecursion (λ line. suffix_len is_carriage_return line ≡ 0) ls

parts_joined : (first : List ℕ) (others : List (List ℕ))
    → join_with_byte 10 (first ∷ others) ≡ first ++ after_feeds others
parts_joined first [] = sym (append-nil first)
parts_joined first (next ∷ others) = ap (λ (x : List ℕ). first ++ 10 ∷ x) (parts_joined next others)

parts_are_lines : (text : List ℕ) → AreLines (slice_split is_line_feed text)
parts_are_lines [] = (All-nil _, tt)
parts_are_lines (b ∷ text) = elim (cases_Bool (is_line_feed b)) [
  | inl e ↦ rw (slice_split-cons_yes is_line_feed b text e) (All-nil _, parts_are_lines text)
  | inr e ↦
      let rest = first_piece text in
      let parts = rw rest.1.1 at (parts_are_lines text) in
      rw (slice_split-cons_no is_line_feed b text e, rest.1.1)
      (All-cons (λ b. is_line_feed b ≡ false) b rest.0 e parts.0, parts.1)
]

-- a module's text: its first line, and the lines after it
record HasLines (framing : Framing) (text : List ℕ) : Type 0 where
  first : List ℕ
  others : List (List ℕ)
  same : first ++ after_feeds others ≡ text
  some : 0 < length first
  inner : AreLines (first ∷ others)
  ended : AreEnded (first ∷ others)
  goes_on : GoOn framing others

has_lines : (framing : Framing) (b : ℕ) (text : List ℕ) → IsCommandText framing (b ∷ text) → HasLines framing (b ∷ text)
has_lines framing b text h =
    let rest = first_piece text in
    let no_feed : is_line_feed b ≡ false = false_from_ne_true _
    (λ e. let blank : is_blank b ≡ true = grind (arith, nat_tests) in absurd (grind (arith, blank, h.front))) in
    let split : slice_split is_line_feed (b ∷ text) ≡ (b ∷ rest.0) ∷ rest.1.0 =
    slice_split-cons_no is_line_feed b text no_feed ∙ ap (onto_first b) rest.1.1 in
    record {
      first = b ∷ rest.0;
      others = rest.1.0;
      same = sym (parts_joined (b ∷ rest.0) rest.1.0) ∙ sym (ap (join_with_byte 10) split)
          ∙ join_with_byte-slice_split 10 (b ∷ text);
      some = omega arith;
      inner = subst AreLines split (parts_are_lines (b ∷ text));
      ended = subst AreEnded split h.lines;
      goes_on = subst (λ (ps : List (List ℕ)). GoOn framing (drop 1 ps)) split h.goes_on;
    }

-- the lines after the first, as a command keeps them
further_lines : (others : List (List ℕ)) → AreLines others → AreEnded others → GoOn Continued others
    → AllByRecursion IsFurther others
further_lines [] inner end goes_on = tt
further_lines (line ∷ others) inner end goes_on =
    (record { whole = kept_line line inner.0 end.0; goes_on = goes_on.0 }, further_lines others inner.1 end.1 goes_on.1)

-- the keyword and the name, followed by lines
module _ (name : List ℕ) (label : label_of name ≡ Some name) where
  abbrev front : List ℕ
  front = codes "module " ++ (name ++ 32 ∷ [])

  front_append : (x : List ℕ) → codes "module " ++ (name ++ 32 ∷ x) ≡ front ++ x
  front_append x = ap (λ (xs : List ℕ). codes "module " ++ xs) (sym (append_assoc name (32 ∷ []) x))
      ∙ sym (append_assoc (codes "module ") (name ++ 32 ∷ []) x)

  front_line : (x : List ℕ) → All (λ b. is_line_feed b ≡ false) x → All (λ b. is_line_feed b ≡ false) (front ++ x)
  front_line x inner = All-append (λ b. is_line_feed b ≡ false) front x
      (core-append (codes "module ") name refl (label_ink name label).all (32 ∷ []) refl).one_line inner

  module_lines : (framing : Framing) (text : List ℕ) → HasLines framing text → IsWhole framing (front ++ text)
  module_lines Continued text h =
      subst IsContinued (append_assoc front h.first (after_feeds h.others) ∙ ap (λ (x : List ℕ). front ++ x) h.same)
      (whole (front ++ h.first) h.others (kept_line (front ++ h.first) (front_line h.first h.inner.0)
      (end-append is_carriage_return front h.first h.some h.ended.0)) refl refl
      (further_lines h.others h.inner.1 h.ended.1 h.goes_on))
  module_lines Lines text h =
      let line : text ≡ h.first = sym h.same ∙ ap (λ (ls : List (List ℕ)). h.first ++ after_feeds ls) h.goes_on
      ∙ append-nil h.first in
      rw line (λ y. own_command (front ++ h.first) y (front_line h.first h.inner.0) (no_end is_carriage_return
      (front ++ h.first) (end-append is_carriage_return front h.first h.some h.ended.0)) refl refl)

  pub module_whole : (framing : Framing) (text : List ℕ) → IsCommandText framing text
      → IsWhole framing (module_command name text)
  module_whole framing [] h = one_line framing (module_command name [])
      (core-append (codes "module ") name refl (label_ink name label).all [] refl) refl refl refl refl
  module_whole framing (b ∷ text) h =
      rw (front_append (b ∷ text)) (module_lines framing (b ∷ text) (has_lines framing b text h))
