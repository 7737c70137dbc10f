-- What stands at the places that are kept while a term is read.
use Rattle.std.specs.Prelude.{◌<◌, ℕ, List, length, ⊤}
use Rattle.text_faults.specs.Places.{HasByte, IsPlaceOf}
use Rattle.text_faults.specs.declared.terms.TermState.{TermState}
use Rattle.text_faults.specs.declared.terms.TermState.TheVariants.{Annotations, Expected, Entered, Named, Base, Whole, Word, Minus, Digits, Quoted, Escape}
use Rattle.text_faults.specs.declared.terms.Next.{Next}
use Rattle.text_faults.specs.declared.terms.Next.TheVariants.{Goes, Opens, Closes, Ended, Stuck}

-- a token that was begun began at its place
abbrev pub KeepsPlaces : TermState → List ℕ → Type 0
KeepsPlaces Annotations text = ⊤
KeepsPlaces Expected text = ⊤
KeepsPlaces Entered text = ⊤
KeepsPlaces Named text = ⊤
KeepsPlaces Base text = ⊤
KeepsPlaces Whole text = ⊤
KeepsPlaces Word text = ⊤
KeepsPlaces (Minus start) text = start < length text
KeepsPlaces (Digits start) text = start < length text
KeepsPlaces (Quoted start) text = HasByte text start 34
KeepsPlaces (Escape start backslash read) text = HasByte text start 34 × HasByte text backslash 92

-- the same after the next byte
abbrev pub LeadsOn : Next → List ℕ → Type 0
LeadsOn (Goes state) text = KeepsPlaces state text
LeadsOn (Opens closing) text = ⊤
LeadsOn (Closes state) text = KeepsPlaces state text
LeadsOn (Ended state) text = KeepsPlaces state text
LeadsOn (Stuck at fault) text = IsPlaceOf fault text at
