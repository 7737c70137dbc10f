-- Lemmas on the keywords of commands: words that are read byte by byte, and the forms that they start.
use Rattle.std.proofs.Common.{◌≡◌, ℕ, suc, Bool, true, false, List, [], ◌∷◌, length, get_or, refl, sym, ap, ◌∙◌, arith, if◌then◌else◌}
use Rattle.script_text.specs.declared.keyword.Keyword.{Keyword}
use Rattle.aterm_text.specs.Tokens.{is_blank}
use Rattle.script_text.specs.Script.{without_end}
use Rattle.script_text.specs.declared.command.Budgets.{Budgets}
use Rattle.script_text.specs.Form.{form_of, form_with, front_word, after_word}
use Rattle.script_text.specs.KeywordView.{keyword_at, form_after}

-- the bytes of a text from an index on are these
abbrev pub HasBytes : List ℕ → ℕ → List ℕ → Type 0
HasBytes text k [] = Unit {0}
HasBytes text k (b ∷ bytes) = (get_or text k 0 ≡ b) × HasBytes text (suc k) bytes

HasBytes-rest : (x : ℕ) (text : List ℕ) (k : ℕ) (bytes : List ℕ) → HasBytes (x ∷ text) (suc k) bytes
    → HasBytes text k bytes
HasBytes-rest x text k [] h = tt
HasBytes-rest x text k (b ∷ bytes) h = (h.0, HasBytes-rest x text (suc k) bytes h.1)

pub same_bytes : (bytes text : List ℕ) → length text ≡ length bytes → HasBytes text 0 bytes → text ≡ bytes
same_bytes [] [] e h = refl
same_bytes [] (x ∷ text) e h = absurd (omega (arith, e))
same_bytes (b ∷ bytes) [] e h = absurd (omega (arith, e))
same_bytes (b ∷ bytes) (x ∷ text) e h =
    let rest : text ≡ bytes = same_bytes bytes text (omega (arith, e)) (HasBytes-rest x text 0 bytes h.1) in
    (λ i. h.0 i ∷ rest i)

form_if : (b : Bool) (k l : Keyword) (budget : Budgets) (rest : List ℕ)
    → form_after (if b then k else l) budget rest ≡ (if b then form_after k budget rest else form_after l budget rest)
form_if true k l budget rest = refl
form_if false k l budget rest = refl

pub form_at : (word : List ℕ) (budget : Budgets) (rest : List ℕ)
    → form_with budget word rest ≡ form_after (keyword_at word) budget rest
form_at word budget rest = simp form_if

-- a command that is split into its keyword and the rest
pub split_form : (budget : Budgets) (command text word rest : List ℕ) (keyword : Keyword)
    → text ≡ without_end is_blank command → word ≡ front_word text → rest ≡ after_word text → keyword_at word ≡ keyword
    → form_of budget command ≡ form_after keyword budget rest
split_form budget command text word rest keyword text_is word_is rest_is keyword_is =
    let front : word ≡ front_word (without_end is_blank command) = word_is ∙ ap front_word text_is in
    let after : rest ≡ after_word (without_end is_blank command) = rest_is ∙ ap after_word text_is in
    sym (λ i. form_with budget (front i) (after i)) ∙ form_at word budget rest
    ∙ ap (λ k. form_after k budget rest) keyword_is
