-- Values of the form NAME=FILE.
use Rattle.std.proofs.Common.{◌≡◌, ◌≤◌, ◌<◌, ◌+◌, ap₂, ℕ, zero, suc, Bool, true, false, not, ◌&&◌, ◌||◌, cond, List, [], ◌∷◌, ◌++◌, length, take, get_or, map, is_some, Some, None, inl, inr, Ok, Err, IfErr, Result, refl, sym, ap, subst, ◌∙◌, arith, nat_lt}
use Rattle.std.specs.Prelude.{unwrap_or, option_map, if◌then◌else◌}
use Rattle.std.specs.declared.option.Option.{Option}
use Rattle.std.specs.List.{list_all, list_any, before_first, position_or_len}
use Rattle.std.specs.Borrow.{Bor}
use Rattle.std.specs.Result.{IsErrAnd}
use Rattle.std.proofs.Math.Bool.{and-false}
use Rattle.std.proofs.lemmas.Bool.{le-ltb, lt-ltb}
use Rattle.std.proofs.lemmas.List.{map-append, take_more}
use Rattle.std.proofs.lemmas.List.Folds.{list_all-append}
use Rattle.term_core.specs.Word.{label_of}
use Rattle.clap.specs.Words.{App, FailsBy, HasKind, IsAmong, Kinds, Text, fault_of, kind_of}
use Rattle.clap.specs.Kinds.{or_else}
use Rattle.clap.specs.declared.error.Error.{Error}
use Rattle.clap.specs.declared.error.kind.ErrorKind.{ErrorKind}
use Rattle.clap.specs.declared.error.kind.ErrorKind.TheVariants.{ValueValidation}
use Rattle.command_line.specs.declared.named.Named.{Named}
use Rattle.command_line.specs.declared.named.Load.{Load}
use Rattle.command_line.specs.declared.named.Load.TheVariants.{Module, Tree}
use Rattle.command_line.specs.declared.named.Untaken.{Untaken}
use Rattle.command_line.specs.declared.named.Untaken.TheVariants.{Malformed, Memory}
use Rattle.command_line.specs.Line.{are_named_all, are_taken, as_given, budget_of, given, is_equals, is_named, line, line_fault, modules_of, most_steps_of, trees_of}
use Rattle.command_line.specs.inside.Malformed.{IfMalformed}

none_equals : (text : Text) → position_or_len is_equals text ≡ length text → list_any is_equals text ≡ false
none_equals [] e = refl
none_equals (b ∷ text) e = by (is_equals b) refl e (none_equals text)
  where
    by : (q : Bool) → is_equals b ≡ q → cond (not q) (1 + position_or_len is_equals text) 0 ≡ suc (length text)
        → (position_or_len is_equals text ≡ length text → list_any is_equals text ≡ false)
        → (q || list_any is_equals text) ≡ false
    by true is e rest = absurd (omega (arith, e))
    by false is e rest = rest (omega (arith, e))

pub not_named : (text : Text) → position_or_len is_equals text ≡ length text → is_named text ≡ false
not_named text e = ap (λ (b : Bool). b && is_some (label_of (before_first is_equals text))) (none_equals text e)

modules_more : (loads others : List Load) → modules_of (loads ++ others) ≡ modules_of loads ++ modules_of others
modules_more [] others = refl
modules_more (Module named ∷ loads) others = ap (λ (l : List Named). named ∷ l) (modules_more loads others)
modules_more (Tree named ∷ loads) others = modules_more loads others

trees_more : (loads others : List Load) → trees_of (loads ++ others) ≡ trees_of loads ++ trees_of others
trees_more [] others = refl
trees_more (Module named ∷ loads) others = trees_more loads others
trees_more (Tree named ∷ loads) others = ap (λ (l : List Named). named ∷ l) (trees_more loads others)

pub module_added : (loads : List Load) (named : Named)
    → map as_given (modules_of (loads ++ Module named ∷ [])) ≡ map as_given (modules_of loads) ++ as_given named ∷ []
module_added loads named =
    ap (map as_given) (modules_more loads (Module named ∷ [])) ∙ map-append as_given (modules_of loads) (named ∷ [])

pub tree_added : (loads : List Load) (named : Named)
    → map as_given (trees_of (loads ++ Tree named ∷ [])) ≡ map as_given (trees_of loads) ++ as_given named ∷ []
tree_added loads named =
    ap (map as_given) (trees_more loads (Tree named ∷ [])) ∙ map-append as_given (trees_of loads) (named ∷ [])

-- ---- the values up to one

abbrev pub texts : List (Bor Text) → List Text
texts = map (λ value. value.now)

get_or_default : (values : List (Bor Text)) (k : ℕ) (d e : Bor Text) → k < length values
    → get_or values k d ≡ get_or values k e
get_or_default [] k d e h = absurd (omega (arith, h))
get_or_default (v ∷ values) zero d e h = refl
get_or_default (v ∷ values) (suc k) d e h = get_or_default values k d e (omega (arith, h))

pub one_more_text : (values : List (Bor Text)) (k : ℕ) (value : Bor Text) → (k < length values)
    × (value ≡ get_or values k value) → texts (take (k + 1) values) ≡ texts (take k values) ++ value.now ∷ []
one_more_text values k value h =
    ap texts (take_more values k value h.0 ∙ ap (λ (v : Bor Text). take k values ++ v ∷ []) (sym h.1))
    ∙ map-append (λ (v : Bor Text). v.now) (take k values) (value ∷ [])

pub one_more_named : (values : List (Bor Text)) (k : ℕ) (value : Bor Text)
    → (k < length values) × (value ≡ get_or values k value)
    → list_all is_named (texts (take k values)) ≡ true → is_named value.now
    ≡ true → list_all is_named (texts (take (k + 1) values)) ≡ true
one_more_named values k value h before is =
    ap (list_all is_named) (one_more_text values k value h)
    ∙ list_all-append is_named (texts (take k values)) (value.now ∷ [])
    ∙ ap (λ (b : Bool). b && (is_named value.now && true)) before ∙ ap (λ (b : Bool). b && true) is

pub one_not_named : (values : List (Bor Text)) (k : ℕ) (value : Bor Text) → (k < length values)
    × (value ≡ get_or values k value) → is_named value.now ≡ false → list_all is_named (texts values) ≡ false
one_not_named [] k value h other = absurd (omega (arith, h.0))
one_not_named (v ∷ values) zero value h other =
    ap (λ (b : Bool). b && list_all is_named (texts values)) (ap (λ (it : Bor Text). is_named it.now) (sym h.1) ∙ other)
one_not_named (v ∷ values) (suc k) value h other =
    by (is_named v.now) (one_not_named values k value (omega (arith, h.0), h.1) other)
  where
    by : (q : Bool) → list_all is_named (texts values) ≡ false → (q && list_all is_named (texts values)) ≡ false
    by true e = e
    by false e = refl

pub malformed_at : (values : List (Bor Text)) (k : ℕ) (d : Bor Text) (untaken : Untaken) → k < length values
    → IfMalformed untaken (is_named (get_or values k d).now ≡ false)
    → IfMalformed untaken (list_all is_named (texts values) ≡ false)
malformed_at values k d Memory h it = tt
malformed_at values k d (Malformed option value) h it =
    one_not_named values k (get_or values k d) (h, get_or_default values k d (get_or values k d) h) it

-- ---- the files that are loaded

trees_kept : (loads : List Load) (named : Named) → trees_of (loads ++ Module named ∷ []) ≡ trees_of loads
trees_kept [] named = refl
trees_kept (Module other ∷ loads) named = trees_kept loads named
trees_kept (Tree other ∷ loads) named = ap (λ (l : List Named). other ∷ l) (trees_kept loads named)

modules_kept : (loads : List Load) (named : Named) → modules_of (loads ++ Tree named ∷ []) ≡ modules_of loads
modules_kept [] named = refl
modules_kept (Module other ∷ loads) named = ap (λ (l : List Named). other ∷ l) (modules_kept loads named)
modules_kept (Tree other ∷ loads) named = modules_kept loads named

one_more_text_at : (values : List (Bor Text)) (k : ℕ) (d : Bor Text) → k < length values
    → texts (take (k + 1) values) ≡ texts (take k values) ++ (get_or values k d).now ∷ []
one_more_text_at values k d h =
    one_more_text values k (get_or values k d) (h, get_or_default values k d (get_or values k d) h)

-- a module is read
pub module_read : (loads made : List Load) (named : Named) (values : List (Bor Text)) (k : ℕ) (d : Bor Text)
    → made ≡ loads ++ Module named ∷ [] → k < length values
    → as_given named ≡ (get_or values k d).now → map as_given (modules_of loads) ≡ texts (take k values)
    → map as_given (modules_of made) ≡ texts (take (k + 1) values)
module_read loads made named values k d is h given before =
    ap (λ (l : List Load). map as_given (modules_of l)) is ∙ module_added loads named
    ∙ ap₂ (λ (l : List Text) (t : Text). l ++ t ∷ []) before given ∙ sym (one_more_text_at values k d h)

pub module_keeps : (loads made : List Load) (named : Named) (so_far : List Text)
    → made ≡ loads ++ Module named ∷ [] → map as_given (trees_of loads) ≡ so_far → map as_given (trees_of made) ≡ so_far
module_keeps loads made named so_far is before = ap (λ (l : List Load). map as_given (trees_of l)) is
    ∙ ap (map as_given) (trees_kept loads named) ∙ before

-- a tree is read
pub tree_read : (loads made : List Load) (named : Named) (values : List (Bor Text)) (k : ℕ) (d : Bor Text)
    → made ≡ loads ++ Tree named ∷ [] → k < length values
    → as_given named ≡ (get_or values k d).now → map as_given (trees_of loads) ≡ texts (take k values)
    → map as_given (trees_of made) ≡ texts (take (k + 1) values)
tree_read loads made named values k d is h given before =
    ap (λ (l : List Load). map as_given (trees_of l)) is ∙ tree_added loads named
    ∙ ap₂ (λ (l : List Text) (t : Text). l ++ t ∷ []) before given ∙ sym (one_more_text_at values k d h)

pub tree_keeps : (loads made : List Load) (named : Named) (so_far : List Text) → made ≡ loads ++ Tree named
    ∷ [] → map as_given (modules_of loads) ≡ so_far → map as_given (modules_of made) ≡ so_far
tree_keeps loads made named so_far is before = ap (λ (l : List Load). map as_given (modules_of l)) is
    ∙ ap (map as_given) (modules_kept loads named) ∙ before

pub name_read : (values : List (Bor Text)) (k : ℕ) (d : Bor Text) → k < length values
    → list_all is_named (texts (take k values)) ≡ true → is_named (get_or values k d).now ≡ true
    → list_all is_named (texts (take (k + 1) values)) ≡ true
name_read values k d h before is =
    one_more_named values k (get_or values k d) (h, get_or_default values k d (get_or values k d) h) before is

pub first_malformed : (untaken : Untaken) (a b : Bool)
    → IfMalformed untaken (a ≡ false) → IfMalformed untaken ((a && b) ≡ false)
first_malformed Memory a b it = tt
first_malformed (Malformed option value) a b it = ap (λ (x : Bool). x && b) it

pub second_malformed : (untaken : Untaken) (a b : Bool)
    → IfMalformed untaken (b ≡ false) → IfMalformed untaken ((a && b) ≡ false)
second_malformed Memory a b it = tt
second_malformed (Malformed option value) true b it = it
second_malformed (Malformed option value) false b it = refl

-- the values that `clap` gives of an option, none if it isn't given
pub strs_are : (o : Option (Bor (List (Bor Text)))) (d x : Bor (List (Bor Text))) (v : Option (List Text))
    → d.now ≡ [] → x ≡ unwrap_or o d → option_map (λ s. texts s.now) o ≡ v → texts x.now ≡ unwrap_or v []
strs_are (Some s) d x v empty is same = ap (λ (b : Bor (List (Bor Text))). texts b.now) is
    ∙ ap (λ (p : Option (List Text)). unwrap_or p []) same
strs_are None d x v empty is same =
    ap (λ (b : Bor (List (Bor Text))). texts b.now) is ∙ ap texts empty
    ∙ ap (λ (p : Option (List Text)). unwrap_or p []) same

pub all_named : (a b c x y z : List Text)
    → a ≡ x → b ≡ y → c ≡ z → (list_all is_named a && list_all is_named b) ≡ true → list_all is_named c ≡ true
    → ((list_all is_named x && list_all is_named y) && list_all is_named z) ≡ true
all_named a b c x y z p q r ab only =
    ap₂ (λ (s t : Bool). s && t) (sym (ap₂ (λ (s t : List Text). list_all is_named s && list_all is_named t) p q) ∙ ab)
    (sym (ap (list_all is_named) r) ∙ only)

pub loads_malformed : (untaken : Untaken) (a b x y : List Text) (c : Bool)
    → a ≡ x → b ≡ y → IfMalformed untaken ((list_all is_named a && list_all is_named b) ≡ false)
    → IfMalformed untaken (((list_all is_named x && list_all is_named y) && c) ≡ false)
loads_malformed untaken a b x y c p q it =
    first_malformed untaken (list_all is_named x && list_all is_named y) c
    (subst (λ (s : Bool). IfMalformed untaken (s ≡ false))
    (ap₂ (λ (s t : List Text). list_all is_named s && list_all is_named t) p q) it)

pub writes_malformed : (untaken : Untaken) (a x : List Text) (c : Bool) → a ≡ x → IfMalformed untaken
    (list_all is_named a ≡ false) → IfMalformed untaken ((c && list_all is_named x) ≡ false)
writes_malformed untaken a x c p it =
    second_malformed untaken c (list_all is_named x)
    (subst (λ (s : Bool). IfMalformed untaken (s ≡ false)) (ap (list_all is_named) p) it)

-- ---- why words are refused

among_or_else : (k : ErrorKind) (ks next : Kinds) → IsAmong k ks → IsAmong k (or_else ks next)
among_or_else k [] next is = absurd is
among_or_else k (x ∷ xs) next is = is

pub fault_comes : (app : App) (words : List Text) (e : Error) → app ≡ line → HasKind (fault_of app words) e
    → HasKind (line_fault words) e
fault_comes app words e is (inl memory) = inl memory
fault_comes app words e is (inr among) =
    inr (among_or_else (kind_of e) (fault_of line words) _
    (subst (λ (a : App). IsAmong (kind_of e) (fault_of a words)) is among))

pub no_fault : (words : List Text) → fault_of line words ≡ [] → are_taken (given words) ≡ true → line_fault words ≡ []
no_fault words none taken =
    ap (λ (ks : Kinds). or_else ks (if are_taken (given words) then [] else ValueValidation ∷ [])) none
    ∙ ap (λ (b : Bool). if b then [] else ValueValidation ∷ []) taken

pub untaken_fault : (words : List Text) (e : Error) → fault_of line words ≡ [] → are_taken (given words)
    ≡ false → kind_of e ≡ ValueValidation → HasKind (line_fault words) e
untaken_fault words e none untaken kind =
    inr (subst (IsAmong (kind_of e))
    (sym (ap (λ (ks : Kinds). or_else ks (if are_taken (given words) then [] else ValueValidation ∷ [])) none
    ∙ ap (λ (b : Bool). if b then [] else ValueValidation ∷ []) untaken)) (inl kind))

-- the numbers of a line, and whether its files have names, say whether it is taken
pub is_taken : (words : List Text) (budget most : ℕ) → budget ≡ budget_of (given words)
    → most ≡ most_steps_of (given words) → budget ≤ most
    → are_named_all (given words) ≡ true → are_taken (given words) ≡ true
is_taken words budget most b m fits named =
    ap₂ (λ (x y : Bool). not x && y) (ap₂ nat_lt (sym m) (sym b) ∙ le-ltb most budget fits) named

pub is_beyond : (words : List Text) (budget most : ℕ) → budget ≡ budget_of (given words)
    → most ≡ most_steps_of (given words) → most < budget
    → are_taken (given words) ≡ false
is_beyond words budget most b m more =
    ap (λ (x : Bool). not x && are_named_all (given words)) (ap₂ nat_lt (sym m) (sym b) ∙ lt-ltb most budget more)

pub is_malformed : (words : List Text) → are_named_all (given words) ≡ false → are_taken (given words) ≡ false
is_malformed words malformed =
    ap (λ (y : Bool). not (nat_lt (most_steps_of (given words)) (budget_of (given words))) && y) malformed
    ∙ and-false (not (nat_lt (most_steps_of (given words)) (budget_of (given words))))

-- ---- what `?` returns

pub err_is : {T E : Type 0} (r : Result T E) (e : E) (P : E → Type 0) → IsErrAnd r (λ x. x ≡ e) → P e → IfErr r P
err_is (Ok x) e P is p = tt
err_is (Err x) e P is p = subst P (sym is) p

pub err_fails : {T : Type 0} (r : Result T Error) (e : Error) (kinds : Kinds)
    → IsErrAnd r (λ x. x ≡ e) → HasKind kinds e → FailsBy kinds r
err_fails (Ok x) e kinds is p = absurd is
err_fails (Err x) e kinds is p = subst (HasKind kinds) (sym is) p

pub malformed_holds : (untaken : Untaken) (option value : Bor Text) (It : Type 0) → untaken ≡ Malformed option value
    → IfMalformed untaken It → It
malformed_holds untaken option value It is it = subst (λ (u : Untaken). IfMalformed u It) is it
