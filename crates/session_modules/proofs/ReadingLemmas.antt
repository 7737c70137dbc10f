-- Reading the texts of modules.
use Rattle.std.proofs.Common.{◌≡◌, ◌<◌, ◌≤◌, ◌⊎◌, ◌↔◌, ℕ, max, min, Bool, true, false, cond, List, Option, Some, None, option_and_then, Result, Ok, Err, length, inl, inr, refl, sym, ap, ◌∙◌, arith}
use Rattle.std.specs.FinMap as finmap
use Rattle.std.proofs.lemmas.Bool.Decides.{nat_tests}
use Rattle.term_changes.specs.Slots.{Store, HaveDistinctLabels, contents, content, slot_of}
use Rattle.term_changes.proofs.ContentsLemmas.{module_of_name}
use Rattle.strategy_syntax.specs.Modules.{Module}
use Rattle.strategy_tokens.specs.declared.TheConstants.{MAX_TOKENS, MODULE_TOKENS}
use Rattle.strategy_tokens.specs.declared.token.Token.{Token}
use Rattle.strategy_tokens.specs.Items.{items_fit, module_tokens}
use Rattle.strategy_tokens.specs.Tokens.{tokens}
use Rattle.strategy_parse.specs.declared.fault.ParseFault.{ParseFault}
use Rattle.strategy_parse.specs.declared.fault.ParseFault.TheVariants.{Deep as TooDeep, Syntax as NoSyntax, Memory as NoParseMemory}
use Rattle.session_modules.specs.Modules.{ReadsWithin, ReadsAsModule, ReadsAsModuleOf}
use Rattle.session_modules.specs.Refusal.{parse_refusal}
use Rattle.session_modules.specs.declared.refusal.Refusal.TheVariants.{Memory, Syntax}

pub few_tokens : (n m : ℕ) → (m < n → ⊥) → n ≤ m
few_tokens n m h = omega (arith, h)

-- why a text isn't parsed, by what its parser says
pub unread_as : {X : Type 0} (Gives : X → Type 0) (n most : ℕ) (r : Result X ParseFault)
    → (r ≡ Err TooDeep) ↔ (most < n) → (r ≡ Err NoSyntax → (x : X) → Gives x → ⊥)
    → (fault : ParseFault) → r ≡ Err fault
    → (parse_refusal fault ≡ Memory) ⊎ ReadsWithin n most Gives Syntax (Err (parse_refusal fault))
unread_as Gives n most r deep none TooDeep is = inr (inl (refl, deep.0 is))
unread_as Gives n most r deep none NoSyntax is = inr (inr (
  refl,
  few_tokens n most (λ (more : most < n). let other : Err NoSyntax ≡ Err TooDeep = sym is ∙ deep.1 more in absurd (cc)),
  none is,
))
unread_as Gives n most r deep none NoParseMemory is = inl refl

more-at : (few many : ℕ) → few ≤ many → (fit : Bool)
    → cond fit (max MAX_TOKENS (min few MODULE_TOKENS)) MAX_TOKENS ≤ cond fit (max MAX_TOKENS (min many MODULE_TOKENS))
    MAX_TOKENS
more-at few many h true = grind (arith, nat_tests)
more-at few many h false = omega arith

any-at : (most : ℕ) (fit : Bool)
    → cond fit (max MAX_TOKENS (min most MODULE_TOKENS)) MAX_TOKENS ≤ cond fit
    (max MAX_TOKENS (min MODULE_TOKENS MODULE_TOKENS)) MAX_TOKENS
any-at most true = grind (arith, nat_tests)
any-at most false = omega arith

-- so many tokens are allowed whatever is asked for
usual-at : (most n : ℕ) → n ≤ MAX_TOKENS → (fit : Bool)
    → n ≤ cond fit (max MAX_TOKENS (min most MODULE_TOKENS)) MAX_TOKENS
usual-at most n h true = grind (arith, nat_tests)
usual-at most n h false = h

pub usual_tokens : (most : ℕ) (ts : List Token) → length ts ≤ MAX_TOKENS → length ts ≤ module_tokens most ts
usual_tokens most ts h = usual-at most (length ts) h (items_fit ts)

-- a text that is a module with so many tokens is one with more
pub more_tokens : (few many : ℕ) (ts : List Token) → few ≤ many → module_tokens few ts ≤ module_tokens many ts
more_tokens few many ts h = more-at few many h (items_fit ts)

any_tokens : (most : ℕ) (ts : List Token) → module_tokens most ts ≤ module_tokens MODULE_TOKENS ts
any_tokens most ts = any-at most (items_fit ts)

pub any_module : (most : ℕ) (text : List ℕ) (m : Module) → ReadsAsModuleOf most text (Ok m) → ReadsAsModule text (Ok m)
any_module most text m (few, gives) = let more = any_tokens most (tokens text) in (omega (arith, few, more), gives)

-- the text under a name, by its slot, if it has one
module _ (s : Store) (name : List ℕ) (apart : HaveDistinctLabels s.modules) where
  pub no_text : None ≡ slot_of s.modules name → None ≡ finmap.get (contents s).modules name
  no_text none = sym (module_of_name s name apart ∙ ap (option_and_then (content s.modules)) (sym none))

  pub text_in : (i : ℕ) (x : Option (List ℕ)) → Some i ≡ slot_of s.modules name → x ≡ content s.modules i
      → x ≡ finmap.get (contents s).modules name
  text_in i x here is = is ∙ sym (module_of_name s name apart ∙ ap (option_and_then (content s.modules)) (sym here))

pub ruleset reading = (no_text, text_in)
