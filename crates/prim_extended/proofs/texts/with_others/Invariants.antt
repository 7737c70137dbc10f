use Rattle.std.proofs.Common.{◌≡◌, ◌++◌, drop}
use Rattle.prim_extended.proofs.ListLemmas.{onto}
use Rattle.prim_extended.proofs.StringLemmas.{joined_after}
use Rattle.prim_extended.proofs.texts.with_others.Given as goal

-- the bytes so far, and those of the strings that are left
abbrev pub invariant-loop-other : goal.invariant-loop-other
invariant-loop-other l = onto l.fn.text (joined_after l.separator l.others)
    ≡ onto l.bytes.items (joined_after l.separator (drop l.other-index l.others))
