-- The values of the limits that the definitions name.
use Rattle.std.proofs.Common.{◌≡◌, refl}
use Rattle.term_core.specs.declared.TheConstants.{MAX_HEIGHT, MAX_SIZE, MAX_ROOM}
use Rattle.term_core.specs.declared.label.TheConstants.{MAX_LABEL}

limits : (MAX_LABEL ≡ 64) × (MAX_HEIGHT ≡ 1000) × (MAX_SIZE ≡ 100000) × (MAX_ROOM ≡ 1000000000)
limits = (refl, refl, refl, refl)
