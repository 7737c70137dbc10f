use Rattle.std.proofs.Common.{◌≡◌, ◌++◌, length, drop, map}
use Rattle.session_loading.specs.Loading.{module_text_of}
use Rattle.session_loading.proofs.TextLemmas.{kept, lines_in, rest_of}
use Rattle.session_loading.proofs.module_text.module_text.Given as goal

-- the text so far, followed by what the remaining lines add, is the whole
abbrev pub invariant-loop-line : goal.invariant-loop-line
invariant-loop-line l =
    module_text_of l.text ≡ l.made.items ++ rest_of l.started (map kept (drop (length l.yielded) (lines_in l.text)))
