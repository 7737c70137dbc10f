use Rattle.std.proofs.Common.{◌≡◌, length, drop}
use Rattle.std.specs.List.{slice_split}
use Rattle.term_paths.specs.PathText.{parts_of, is_slash}
use Rattle.term_paths.proofs.TextLemmas.{after}
use Rattle.term_paths.proofs.text.read_parts.Given as goal

-- the parts so far, followed by those of the remaining pieces, are the parts of the text
abbrev pub invariant-loop-piece : goal.invariant-loop-piece
invariant-loop-piece l =
    parts_of (slice_split is_slash l.text)
    ≡ after l.parts.items (parts_of (drop (length l.yielded) (slice_split is_slash l.text)))
