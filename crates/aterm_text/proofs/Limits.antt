-- The value of the limit that the definitions name.
use Rattle.std.proofs.Common.{◌≡◌, refl}
use Rattle.aterm_text.specs.declared.TheConstants.{MAX_NESTING}

limit : MAX_NESTING ≡ 1000
limit = refl
