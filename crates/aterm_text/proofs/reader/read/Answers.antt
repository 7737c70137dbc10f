use Rattle.aterm_text.specs.inside.Unread.{expected}
use Rattle.aterm_text.proofs.ReadLemmas.{spells-unread, unread-spells, stands-expected, met_term}
use Rattle.aterm_text.proofs.reader.read.Goals as goal

pub returns-in-Ok-clause-spelled : goal.returns-in-Ok-clause-spelled
returns-in-Ok-clause-spelled c =
    unread-spells c.args.text.now _ (c.in-Ok.ensures.found expected (stands-expected _ c.new.ensures))

pub returns-in-Ok-clause-only : goal.returns-in-Ok-clause-only
returns-in-Ok-clause-only c =
    λ u h. c.in-Ok.ensures.only expected (stands-expected _ c.new.ensures) u (spells-unread c.args.text.now u h)

pub returns-in-Err-clause-no_term : goal.returns-in-Err-clause-no_term
returns-in-Err-clause-no_term c = λ e u h.
    c.in-Err.ensures.none (met_term _ _ c.first_fault.ensures.other e) expected (stands-expected _ c.new.ensures) u
    (spells-unread c.args.text.now u h)
