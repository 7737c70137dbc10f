-- The tokens of texts, computed on worked rows.
use Rattle.std.specs.Prelude.{◌≡◌, refl, ℕ, pos, negsuc, List, [], ◌∷◌, ◌++◌, codes, false, true}
use Rattle.strategy_tokens.specs.Tokens.{tokens}
use Rattle.strategy_tokens.specs.declared.token.Token.{Token}
use Rattle.strategy_tokens.specs.declared.token.Token.TheVariants.{Ident, Wildcard, Reserved, Integer, Text, Sign, Bad}
use Rattle.strategy_tokens.specs.declared.token.Keyword.TheVariants.{Id}
use Rattle.strategy_tokens.specs.declared.token.Sign.TheVariants.{Arrow, Less, LeftChoice, Plus, FatArrow, Equals, Greater}

abbrev word : List ℕ → Token
word x = Ident (record { text = x; is_quoted = false })

abbrev string : List ℕ → Token
string x = Text (record { text = x; is_quoted = true })

-- a `-` followed by `>` doesn't belong to an identifier
pub arrow : tokens (codes "x-->y") ≡ word (codes "x-") ∷ (Sign Arrow ∷ (word (codes "y") ∷ []))
arrow = refl

pub minus : tokens (codes "a-b") ≡ word (codes "a-b") ∷ []
minus = refl

pub integers : tokens (codes "1-1 x -1 x-1 -0") ≡ Integer (pos 1)
    ∷ (Integer (negsuc 0) ∷ (word (codes "x") ∷ (Integer (negsuc 0) ∷ (word (codes "x-1") ∷ (Integer (pos 0) ∷ [])))))
integers = refl

pub minus_alone : tokens (codes "--1 -") ≡ Bad ∷ (Integer (negsuc 0) ∷ (Bad ∷ []))
minus_alone = refl

pub out_of_range : tokens (codes "9223372036854775807 9223372036854775808 -9223372036854775808")
    ≡ Integer (pos 9223372036854775807) ∷ (Bad ∷ (Integer (negsuc 9223372036854775807) ∷ []))
out_of_range = refl

pub choices : tokens (codes "< + <+ =>= = >") ≡ Sign Less
    ∷ (Sign Plus ∷ (Sign LeftChoice ∷ (Sign FatArrow ∷ (Sign Equals ∷ (Sign Equals ∷ (Sign Greater ∷ []))))))
choices = refl

pub reserved : tokens (codes "id _ _id id_ f'")
    ≡ Reserved Id ∷ (Wildcard ∷ (word (codes "_id") ∷ (word (codes "id_") ∷ (word (codes "f'") ∷ []))))
reserved = refl

-- each byte that begins no token is one bad token
pub bad_bytes : tokens (36 ∷ (36 ∷ (195 ∷ (169 ∷ (47 ∷ []))))) ≡ Bad ∷ (Bad ∷ (Bad ∷ (Bad ∷ (Bad ∷ []))))
bad_bytes = refl

-- a comment ends at the next `*/` after its `/*`
pub comments : tokens (codes "a/**/ b /* /* c */ // d") ≡ word (codes "a") ∷ (word (codes "b") ∷ [])
comments = refl

pub line_comment : tokens (codes "a // b */" ++ 10 ∷ codes "c") ≡ word (codes "a") ∷ (word (codes "c") ∷ [])
line_comment = refl

pub unclosed_comment : tokens (codes "a /*/ b") ≡ word (codes "a") ∷ (Bad ∷ [])
unclosed_comment = refl

-- `"a\"b\n\101"`
pub strings : tokens (34 ∷ (97 ∷ (92 ∷ (34 ∷ (98 ∷ (92 ∷ (110 ∷ (92 ∷ (49 ∷ (48 ∷ (49 ∷ (34 ∷ []))))))))))))
    ≡ string (97 ∷ (34 ∷ (98 ∷ (10 ∷ (65 ∷ []))))) ∷ []
strings = refl

-- an invalid escape ends at the next quote; an unclosed string extends to the end
pub bad_strings : tokens
    (34 ∷ (92 ∷ (113 ∷ (34 ∷ (97 ∷ (34 ∷ (98 ∷ (32 ∷ (99 ∷ []))))))))) ≡ Bad ∷ (word (codes "a") ∷ (Bad ∷ []))
bad_strings = refl
