-- Searching strings, the parts between separators, characters, and strings joined.
use Rattle.std.proofs.Common.{◌≡◌, ℕ, zero, suc, ◌+◌, ◌-◌, ◌<◌, ◌≤◌, ◌⊎◌, inl, inr, ⊎_elim, Bool, true, false, List, [], ◌∷◌, ◌++◌, length, take, drop, map, get_or, cond, Some, None, refl, sym, ap, subst, ◌∙◌, arith, append_assoc, append-nil}
use Rattle.std.proofs.lemmas.List.{length-take, length-append, take-append-drop, drop_all}
use Rattle.std.specs.Prelude.{option_and_then, slice_index}
use Rattle.std.specs.declared.option.Option.{Option}
use Rattle.std.specs.List.{flat_map, join_by, onto_first, prefix_len}
use Rattle.std.specs.Option.{option_map}
use Rattle.std.proofs.lemmas.Slice.Eq.{bytes_eq-Decides}
use Rattle.memchr.specs.Find.{FindsNeedle, OccursAt}
use Rattle.memchr.proofs.lemmas.MatchLemmas.{OccursAt-part, OccursAt-from_part}
use Rattle.term_core.specs.Tree.{Tree, list_term}
use Rattle.prim_core.specs.Values.{string_term, string_value}
use Rattle.prim_extended.specs.Bytes.{each, string_in_range}
use Rattle.prim_extended.specs.StringPrimitives.{begins, characters, first_goes_on, found, goes_on, joined_string, joined_texts, parts, split, CharactersMakeTheText, PartsMakeTheText}
use Rattle.prim_extended.proofs.BytesLemmas.{front, out_of_range}
use Rattle.prim_extended.proofs.ListLemmas.{onto}

-- ---- search

begins_here : (part text : List ℕ) → OccursAt text part 0 → begins part text ≡ true
begins_here part text o = (bytes_eq-Decides (take (length part) text) part).1 (OccursAt-part text part 0 o)

occurs_here : (part text : List ℕ) → begins part text ≡ true → OccursAt text part 0
occurs_here part text e =
    let same : take (length part) text ≡ part = (bytes_eq-Decides (take (length part) text) part).0 e in
    let short = length-take (length part) text in
    let long : length (take (length part) text) ≡ length part = ap length same in
    OccursAt-from_part text part 0 (omega arith) same

not_true : (b : Bool) → (b ≡ true → ⊥) → b ≡ false
not_true true h = absurd (h refl)
not_true false h = refl

not_begun : (part text : List ℕ) → (OccursAt text part 0 → ⊥) → begins part text ≡ false
not_begun part text h = not_true (begins part text) (λ e. h (occurs_here part text e))

suc_plus : (k j : ℕ) → suc k + j ≡ suc (k + j)
suc_plus k j = omega arith

one_on : (b : ℕ) (text part : List ℕ) (k : ℕ) → OccursAt text part k → OccursAt (b ∷ text) part (suc k)
one_on b text part k o =
    record { fits = omega (arith, o.fits); reads = λ j h. ap (slice_index (b ∷ text)) (suc_plus k j) ∙ o.reads j h }

one_back : (b : ℕ) (text part : List ℕ) (k : ℕ) → OccursAt (b ∷ text) part (suc k) → OccursAt text part k
one_back b text part k o =
    record {
      fits = omega (arith, o.fits);
      reads = λ j h. ap (slice_index (b ∷ text)) (sym (suc_plus k j)) ∙ o.reads j h;
    }

nowhere : (part text : List ℕ) → ((k : ℕ) → k < length text + 1 → OccursAt text part k → ⊥) → found part text ≡ None
nowhere part [] h = ap (λ c. cond c (Some 0) None) (not_begun part [] (h 0 (omega arith)))
nowhere part (b ∷ bs) h =
    ap (λ c. cond c (Some 0) (option_map suc (found part bs))) (not_begun part (b ∷ bs) (h 0 (omega arith)))
    ∙ ap (option_map suc) (nowhere part bs (λ k below o. h (suc k) (omega arith) (one_on b bs part k o)))

first : (part text : List ℕ) (k : ℕ) → ((j : ℕ) → j < k → OccursAt text part j → ⊥) → OccursAt text part k
    → found part text ≡ Some k
first part [] zero before o = ap (λ c. cond c (Some 0) None) (begins_here part [] o)
first part [] (suc k) before o = absurd (omega (arith, o.fits))
first part (b ∷ bs) zero before o =
    ap (λ c. cond c (Some 0) (option_map suc (found part bs))) (begins_here part (b ∷ bs) o)
first part (b ∷ bs) (suc k) before o =
    ap (λ c. cond c (Some 0) (option_map suc (found part bs))) (not_begun part (b ∷ bs) (before 0 (omega arith)))
    ∙ ap (option_map suc)
    (first part bs k (λ j below at. before (suc j) (omega arith) (one_on b bs part j at)) (one_back b bs part k o))

-- what a search finds
pub found_value : (part text : List ℕ) (r : Option ℕ) → FindsNeedle text part 0 r → r ≡ found part text
found_value part text None h = sym (nowhere part text (λ k below o. h k (omega arith) below o))
found_value part text (Some k) h = sym (first part text k (λ j below o. h.0.before j (omega arith) below o) h.1)

-- ---- parts

passed_over : (separator : List ℕ) (n : ℕ) (bs : List ℕ) → parts separator n bs ≡ parts separator 0 (drop n bs)
passed_over separator zero bs = refl
passed_over separator (suc n) [] = refl
passed_over separator (suc n) (b ∷ bs) = passed_over separator n bs

not_here : (c : Bool) (o : Option ℕ) → None ≡ cond c (Some 0) (option_map suc o) → (c ≡ false) × (None ≡ o)
not_here true o e = absurd (cc)
not_here false None e = (refl, refl)
not_here false (Some n) e = absurd (cc)

-- where no separator is found, the text is the only part
pub last_part : (separator text : List ℕ) → None ≡ found separator text → parts separator 0 text ≡ text ∷ []
last_part separator [] e = refl
last_part separator (b ∷ bs) e =
    let h = not_here (begins separator (b ∷ bs)) (found separator bs) e in
    ap (λ c. cond c ([] ∷ parts separator (length separator - 1) bs) (onto_first b (parts separator 0 bs))) h.0
    ∙ ap (onto_first b) (last_part separator bs h.1)

here_or_later : (c : Bool) (o : Option ℕ) (k : ℕ) → Some k ≡ cond c (Some 0) (option_map suc o)
    → ((c ≡ true) × (k ≡ 0)) ⊎ ((j : ℕ) × (c ≡ false) × (k ≡ suc j) × (Some j ≡ o))
here_or_later true o k e = inl (refl, cc)
here_or_later false None k e = absurd (cc)
here_or_later false (Some j) k e = inr (j, refl, cc, refl)

abbrev IsNext : List ℕ → List ℕ → ℕ → Type 0
IsNext separator text k =
    parts separator 0 text ≡ take k text ∷ parts separator 0 (drop (length separator) (drop k text))

one_less : (n : ℕ) → suc n - 1 ≡ n
one_less n = omega arith

abbrev parts_by : List ℕ → ℕ → List ℕ → Bool → List (List ℕ)
parts_by separator b bs c =
    cond c ([] ∷ parts separator (length separator - 1) bs) (onto_first b (parts separator 0 bs))

next_here : (s b : ℕ) (ss bs : List ℕ) → begins (s ∷ ss) (b ∷ bs) ≡ true → IsNext (s ∷ ss) (b ∷ bs) 0
next_here s b ss bs e =
    ap (parts_by (s ∷ ss) b bs) e ∙ ap (λ m. [] ∷ parts (s ∷ ss) m bs) (one_less (length ss))
    ∙ ap (λ ps. [] ∷ ps) (passed_over (s ∷ ss) (length ss) bs)

next_later : (s b j : ℕ) (ss bs : List ℕ) → begins (s ∷ ss) (b ∷ bs) ≡ false → IsNext (s ∷ ss) bs j
    → IsNext (s ∷ ss) (b ∷ bs) (suc j)
next_later s b j ss bs e h = ap (parts_by (s ∷ ss) b bs) e ∙ ap (onto_first b) h

-- what is before the first separator is the first part
next_part : (s : ℕ) (ss text : List ℕ) (k : ℕ) → Some k ≡ found (s ∷ ss) text → IsNext (s ∷ ss) text k
next_part s ss [] k e = absurd (cc)
next_part s ss (b ∷ bs) k e =
    ⊎_elim
    (λ h. subst (IsNext (s ∷ ss) (b ∷ bs)) (sym h.1) (next_here s b ss bs h.0))
    (λ h.
    subst (IsNext (s ∷ ss) (b ∷ bs)) (sym h.2) (next_later s b h.0 ss bs h.1 (next_part s ss bs h.0 h.3)))
    (here_or_later (begins (s ∷ ss) (b ∷ bs)) (found (s ∷ ss) bs) k e)

next : (separator text : List ℕ) (k : ℕ) → 0 < length separator → FindsNeedle text separator 0 (Some k)
    → IsNext separator text k
next [] text k h o = absurd (omega (arith, h))
next (s ∷ ss) text k h o = next_part s ss text k (found_value (s ∷ ss) text (Some k) o)

-- the parts so far, and those of what is left: a part more
pub more_parts : (separator text left now : List ℕ) (k : ℕ) (before after : List Tree) (t : Tree) → 0 < length separator
    → FindsNeedle left separator 0 (Some k) → t ≡ string_term (take k left)
    → after ≡ before ++ t ∷ [] → now ≡ drop (length separator) (drop k left)
    → map string_term (parts separator 0 text) ≡ before ++ map string_term (parts separator 0 left)
    → map string_term (parts separator 0 text) ≡ after ++ map string_term (parts separator 0 now)
more_parts separator text left now k before after t h found is added rest so_far =
    let others = map string_term (parts separator 0 (drop (length separator) (drop k left))) in
    so_far ∙ ap (λ ps. before ++ map string_term ps) (next separator left k h found)
    ∙ sym (append_assoc before (string_term (take k left) ∷ []) others)
    ∙ ap (λ u. (before ++ u ∷ []) ++ others) (sym is) ∙ ap (λ us. us ++ others) (sym added)
    ∙ ap (λ us. after ++ map string_term (parts separator 0 us)) (sym rest)

-- and none more
pub no_more_parts : (separator text left : List ℕ) (before after : List Tree) (t : Tree)
    → FindsNeedle left separator 0 None
    → t ≡ string_term left → after ≡ before ++ t ∷ []
    → map string_term (parts separator 0 text) ≡ before ++ map string_term (parts separator 0 left)
    → after ≡ map string_term (parts separator 0 text)
no_more_parts separator text left before after t h is added so_far =
    added ∙ ap (λ u. before ++ u ∷ []) is ∙ sym
    (so_far ∙ ap (λ ps. before ++ map string_term ps) (last_part separator left (found_value separator left None h)))

pub split_nothing : (text separator : List ℕ) → length separator ≡ 0 → split text separator ≡ None
split_nothing text [] h = refl
split_nothing text (b ∷ bs) h = absurd (omega (arith, h))

pub split_parts : (text separator : List ℕ) → 0 < length separator
    → split text separator ≡ Some (list_term (map string_term (parts separator 0 text)))
split_parts text [] h = absurd (omega (arith, h))
split_parts text (b ∷ bs) h = refl

pub ruleset splits = (split_nothing, split_parts)

-- ---- parts joined again

abbrev joined : List ℕ → List (List ℕ) → List ℕ
joined separator ps = join_by (λ p. p) separator ps

after : (separator : List ℕ) (ps : List (List ℕ)) → 0 < length ps
    → joined separator ([] ∷ ps) ≡ separator ++ joined separator ps
after separator [] h = absurd (omega arith)
after separator (p ∷ ps) h = append_assoc separator p (flat_map (λ q. separator ++ q) ps)

onto_joined : (separator : List ℕ) (b : ℕ) (ps : List (List ℕ))
    → joined separator (onto_first b ps) ≡ b ∷ joined separator ps
onto_joined separator b [] = refl
onto_joined separator b (p ∷ ps) = refl

some_onto : (b : ℕ) (ps : List (List ℕ)) → 0 < length (onto_first b ps)
some_onto b [] = omega arith
some_onto b (p ∷ ps) = omega arith

some_by : (c : Bool) (b : ℕ) (ps qs : List (List ℕ)) → 0 < length (cond c ([] ∷ ps) (onto_first b qs))
some_by true b ps qs = omega arith
some_by false b ps qs = some_onto b qs

some_part : (separator : List ℕ) (n : ℕ) (text : List ℕ) → 0 < length (parts separator n text)
some_part separator n [] = omega arith
some_part separator zero (b ∷ bs) =
    some_by (begins separator (b ∷ bs)) b (parts separator (length separator - 1) bs) (parts separator 0 bs)
some_part separator (suc n) (b ∷ bs) = some_part separator n bs

joined_by : (c : Bool) (s b : ℕ) (ss bs : List ℕ) → begins (s ∷ ss) (b ∷ bs) ≡ c
    → joined (s ∷ ss) (parts (s ∷ ss) (length (s ∷ ss) - 1) bs) ≡ drop (length ss) bs
    → joined (s ∷ ss) (parts (s ∷ ss) 0 bs) ≡ bs → joined (s ∷ ss) (parts_by (s ∷ ss) b bs c) ≡ b ∷ bs
joined_by true s b ss bs is rest whole =
    let same : take (length (s ∷ ss)) (b ∷ bs) ≡ s ∷ ss =
    (bytes_eq-Decides (take (length (s ∷ ss)) (b ∷ bs)) (s ∷ ss)).0 is in
    after (s ∷ ss) (parts (s ∷ ss) (length (s ∷ ss) - 1) bs) (some_part (s ∷ ss) (length (s ∷ ss) - 1) bs)
    ∙ ap (λ us. (s ∷ ss) ++ us) rest ∙ ap (λ us. us ++ drop (length ss) bs) (sym same)
    ∙ take-append-drop (length (s ∷ ss)) (b ∷ bs)
joined_by false s b ss bs is rest whole = onto_joined (s ∷ ss) b (parts (s ∷ ss) 0 bs) ∙ ap (λ us. b ∷ us) whole

joined_again : (s : ℕ) (ss : List ℕ) (n : ℕ) (text : List ℕ) → joined (s ∷ ss) (parts (s ∷ ss) n text) ≡ drop n text
joined_again s ss zero [] = refl
joined_again s ss (suc n) [] = refl
joined_again s ss zero (b ∷ bs) =
    joined_by (begins (s ∷ ss) (b ∷ bs)) s b ss bs refl
    (ap (λ n. joined (s ∷ ss) (parts (s ∷ ss) n bs)) (one_less (length ss)) ∙ joined_again s ss (length ss) bs)
    (joined_again s ss 0 bs)
joined_again s ss (suc n) (b ∷ bs) = joined_again s ss n bs

pub parts_make_the_text : PartsMakeTheText
parts_make_the_text [] text h = absurd (omega arith)
parts_make_the_text (s ∷ ss) text h = joined_again s ss 0 text

-- ---- characters

character_by : (t : Bool) (b c n m : ℕ) (cs : List ℕ) → m ≡ suc n
    → characters (c ∷ cs) ≡ (c ∷ take n cs) ∷ characters (drop n cs)
    → cond t (onto_first b (characters (c ∷ cs))) ((b ∷ []) ∷ characters (c ∷ cs))
    ≡ (b ∷ take (cond t m 0) (c ∷ cs)) ∷ characters (drop (cond t m 0) (c ∷ cs))
character_by true b c n m cs one_more e =
    ap (onto_first b) e ∙ ap (λ k. (b ∷ take k (c ∷ cs)) ∷ characters (drop k (c ∷ cs))) (sym one_more)
character_by false b c n m cs one_more e = refl

character : (b : ℕ) (bs : List ℕ)
    → characters (b ∷ bs) ≡ (b ∷ take (prefix_len goes_on bs) bs) ∷ characters (drop (prefix_len goes_on bs) bs)
character b [] = refl
character b (c ∷ cs) =
    let n = prefix_len goes_on cs in
    character_by (goes_on c) b c n (1 + n) cs (omega arith) (character c cs)

abbrev IsFirst : List ℕ → ℕ → Type 0
IsFirst text n = characters text ≡ take n text ∷ characters (drop n text)

first_character : (left after : List ℕ) (b n : ℕ) → left ≡ b ∷ after → n ≡ 1 + prefix_len goes_on after → IsFirst left n
first_character left after b n is count =
    let one_more : n ≡ suc (prefix_len goes_on after) = omega (arith, count) in
    subst (λ bs. IsFirst bs n) (sym is) (subst (IsFirst (b ∷ after)) (sym one_more) (character b after))

-- the characters so far, and those of what is left: a character more
pub more_characters : (text left after now : List ℕ) (b n : ℕ) (before all : List Tree) (t : Tree) → left ≡ b ∷ after
    → n ≡ 1 + prefix_len goes_on after → t ≡ string_term (take n left) → all ≡ before ++ t ∷ [] → now ≡ drop n left
    → map string_term (characters text) ≡ before ++ map string_term (characters left)
    → map string_term (characters text) ≡ all ++ map string_term (characters now)
more_characters text left after now b n before all t is count made added rest so_far =
    let others = map string_term (characters (drop n left)) in
    so_far ∙ ap (λ cs. before ++ map string_term cs) (first_character left after b n is count)
    ∙ sym (append_assoc before (string_term (take n left) ∷ []) others)
    ∙ ap (λ u. (before ++ u ∷ []) ++ others) (sym made) ∙ ap (λ us. us ++ others) (sym added)
    ∙ ap (λ us. all ++ map string_term (characters us)) (sym rest)

-- and none more
pub no_more_characters : (text left : List ℕ) (all : List Tree) → left ≡ []
    → map string_term (characters text) ≡ all ++ map string_term (characters left)
    → all ≡ map string_term (characters text)
no_more_characters text left all none so_far =
    sym (so_far ∙ ap (λ us. all ++ map string_term (characters us)) none ∙ append-nil all)

-- ---- characters joined again

nothing_between : (cs : List (List ℕ)) → flat_map (λ q. [] ++ q) cs ≡ joined [] cs
nothing_between [] = refl
nothing_between (c ∷ cs) = refl

joined_character : (t : Bool) (b : ℕ) (bs : List ℕ) (cs : List (List ℕ)) → joined [] cs ≡ bs
    → joined [] (cond t (onto_first b cs) ((b ∷ []) ∷ cs)) ≡ b ∷ bs
joined_character true b bs cs e = onto_joined [] b cs ∙ ap (λ us. b ∷ us) e
joined_character false b bs cs e = ap (λ us. b ∷ us) (nothing_between cs ∙ e)

pub characters_make_the_text : CharactersMakeTheText
characters_make_the_text [] = refl
characters_make_the_text (b ∷ bs) =
    joined_character (first_goes_on bs) b bs (characters bs) (characters_make_the_text bs)

-- ---- strings joined

-- what follows the first string
abbrev pub joined_after : List ℕ → List Tree → Option (List ℕ)
joined_after separator ts = option_map (flat_map (λ text. separator ++ text)) (each string_value ts)

abbrev after_next : List ℕ → Option (List ℕ) → List Tree → Option (List ℕ)
after_next separator o ts = option_map (flat_map (λ text. separator ++ text))
    (option_and_then (λ text. option_map (λ texts. text ∷ texts) (each string_value ts)) o)

longer : (separator before now text : List ℕ) (o : Option (List (List ℕ))) → now ≡ before ++ (separator ++ text)
    → onto before (option_map (flat_map (λ t. separator ++ t)) (option_map (λ ts. text ∷ ts) o))
    ≡ onto now (option_map (flat_map (λ t. separator ++ t)) o)
longer separator before now text None e = refl
longer separator before now text (Some ts) e =
    let others = flat_map (λ t. separator ++ t) ts in
    ap Some (sym (append_assoc before (separator ++ text) others) ∙ ap (λ us. us ++ others) (sym e))

-- one string more
pub one_text_more : (separator before now text : List ℕ) (t : Tree) (ts : List Tree) → Some text ≡ string_value t
    → now ≡ (before ++ separator) ++ text
    → onto before (joined_after separator (t ∷ ts)) ≡ onto now (joined_after separator ts)
one_text_more separator before now text t ts is e =
    ap (λ o. onto before (after_next separator o ts)) (sym is)
    ∙ longer separator before now text (each string_value ts) (e ∙ append_assoc before separator text)

pub no_text : (separator before : List ℕ) (t : Tree) (ts : List Tree) → None ≡ string_value t
    → None ≡ onto before (joined_after separator (t ∷ ts))
no_text separator before t ts is = ap (λ o. onto before (after_next separator o ts)) is

first_by : (separator text : List ℕ) (o : Option (List (List ℕ)))
    → option_map (join_by (λ t. t) separator) (option_map (λ ts. text ∷ ts) o)
    ≡ onto text (option_map (flat_map (λ t. separator ++ t)) o)
first_by separator text None = refl
first_by separator text (Some texts) = refl

-- a text and the strings after it
pub with_text : (separator text : List ℕ) (ts : List Tree)
    → joined_texts separator (string_term text ∷ ts) ≡ onto text (joined_after separator ts)
with_text separator text ts = first_by separator text (each string_value ts)

abbrev beginning : List ℕ → List Tree → Option (List ℕ) → Option Tree
beginning separator ts o =
    option_and_then string_in_range (option_map (join_by (λ t. t) separator)
    (option_and_then (λ t. option_map (λ us. t ∷ us) (each string_value ts)) o))

pub first_text : (separator text : List ℕ) (t : Tree) (ts : List Tree) → Some text ≡ string_value t
    → joined_string separator (string_term text ∷ ts) ≡ joined_string separator (t ∷ ts)
first_text separator text t ts is = ap (beginning separator ts) is

pub no_first_text : (separator : List ℕ) (t : Tree) (ts : List Tree) → None ≡ string_value t
    → None ≡ joined_string separator (t ∷ ts)
no_first_text separator t ts is = ap (beginning separator ts) is

pub ruleset first_texts = (first_text, no_first_text)

pub too_long : (bytes : List ℕ) (o : Option (List ℕ)) → 65536 < length bytes
    → None ≡ option_and_then string_in_range (onto bytes o)
too_long bytes None h = refl
too_long bytes (Some more) h = sym (out_of_range (bytes ++ more) (omega (arith, length-append bytes more)))

-- the bytes so far, and those of the strings that are left
abbrev IsLeft : List ℕ → List ℕ → List Tree → ℕ → List ℕ → Type 0
IsLeft separator text ts i bytes =
    onto text (joined_after separator ts) ≡ onto bytes (joined_after separator (drop i ts))

-- what is said of the strings that are left is said of all
left_of_all : (separator text : List ℕ) (ts : List Tree) (i : ℕ) (bytes : List ℕ) (o : Option Tree)
    → IsLeft separator text ts i bytes
    → o ≡ option_and_then string_in_range (onto bytes (joined_after separator (drop i ts)))
    → o ≡ joined_string separator (string_term text ∷ ts)
left_of_all separator text ts i bytes o so_far e =
    e ∙ ap (option_and_then string_in_range) (sym so_far)
    ∙ ap (option_and_then string_in_range) (sym (with_text separator text ts))

pub more_text : (separator text : List ℕ) (ts : List Tree) (i : ℕ) (t : Tree) (next before between now : List ℕ)
    → i < length ts → t ≡ get_or ts i t
    → Some next ≡ string_value t
    → between ≡ before ++ separator → now ≡ between ++ next → IsLeft separator text ts i before
    → IsLeft separator text ts (i + 1) now
more_text separator text ts i t next before between now h is value first then so_far =
    so_far ∙ ap (λ us. onto before (joined_after separator us)) (front ts i t h is)
    ∙ one_text_more separator before now next t (drop (i + 1) ts) value (then ∙ ap (λ us. us ++ next) first)

pub other_than_text : (separator text : List ℕ) (ts : List Tree) (i : ℕ) (t : Tree) (bytes : List ℕ) → i < length ts
    → t ≡ get_or ts i t
    → None ≡ string_value t → IsLeft separator text ts i bytes → None ≡ joined_string separator (string_term text ∷ ts)
other_than_text separator text ts i t bytes h is value so_far =
    left_of_all separator text ts i bytes None so_far
    (ap (option_and_then string_in_range) (no_text separator bytes t (drop (i + 1) ts) value
    ∙ ap (λ us. onto bytes (joined_after separator us)) (sym (front ts i t h is))))

pub too_long_already : (separator text : List ℕ) (ts : List Tree) (i : ℕ) (bytes : List ℕ) → 65536 < length bytes
    → IsLeft separator text ts i bytes
    → None ≡ joined_string separator (string_term text ∷ ts)
too_long_already separator text ts i bytes h so_far =
    left_of_all separator text ts i bytes None so_far (too_long bytes (joined_after separator (drop i ts)) h)

pub no_text_left : (separator text : List ℕ) (ts : List Tree) (i : ℕ) (bytes : List ℕ) (o : Option Tree)
    → length ts ≤ i → IsLeft separator text ts i bytes
    → o ≡ string_in_range bytes → o ≡ joined_string separator (string_term text ∷ ts)
no_text_left separator text ts i bytes o h so_far e =
    left_of_all separator text ts i bytes o so_far
    (e ∙ ap string_in_range (sym (append-nil bytes))
    ∙ ap (λ us. option_and_then string_in_range (onto bytes (joined_after separator us))) (sym (drop_all i ts h)))
