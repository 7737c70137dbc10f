-- The places of the tokens of a text.
use Rattle.std.specs.Prelude.{ℕ, zero, suc, ◌+◌, List, [], ◌∷◌, Some, None}
use Rattle.std.specs.declared.option.Option.{Option}
use Rattle.strategy_tokens.specs.declared.token.Token.{Token}
use Rattle.strategy_tokens.specs.declared.place.TokenPlace.{TokenPlace}
use Rattle.strategy_tokens.specs.Tokens.{piece_at}

-- this place before the others, if there is a token
abbrev pub and_place : Option Token → TokenPlace → List TokenPlace → List TokenPlace
and_place None p places = places
and_place (Some t) p places = p ∷ places

-- a token that begins at this offset and has n bytes after its first
abbrev pub place_at : ℕ → ℕ → TokenPlace
place_at at n = record { start = at; end = at + 1 + n }

-- the places of the tokens after the first n bytes, if `at` bytes come before these
abbrev pub places_after : ℕ → ℕ → List ℕ → List TokenPlace
places_after at n [] = []
places_after at (suc n) (b ∷ bs) = places_after (suc at) n bs
places_after at zero (b ∷ bs) =
    let piece = piece_at b bs in
    and_place piece.token (place_at at piece.more) (places_after (suc at) piece.more bs)

-- the place of each token of a text
abbrev pub places : List ℕ → List TokenPlace
places x = places_after 0 0 x
