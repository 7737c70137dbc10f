use Rattle.aterm_text.proofs.ReadLemmas.{way_shorter, end-is, no-end}
use Rattle.aterm_text.proofs.reader.machine.read_from.Goals as goal

pub loop-stack-smaller : goal.loop-stack-smaller
loop-stack-smaller c = way_shorter c.requires.stands.0 c.args.text.now _ _ _
    (c.loop-stack.invariant.0 c.requires.stands.0 c.requires.stands.1) _ _ _ _ c.in-More.is c.in_ok-next.ensures.leads

pub returns-in-Some-clause-found : goal.returns-in-Some-clause-found
returns-in-Some-clause-found c = λ r stands.
    (end-is r c.args.text.now _ _ _ (c.loop-stack.invariant.0 r stands) _ _ c.in-Done.is c.in_ok-next.ensures.leads
    c.into_term.result c.into_term.ensures c.in-Some.term c.in-Some.is).found

pub returns-in-Some-clause-only : goal.returns-in-Some-clause-only
returns-in-Some-clause-only c = λ r stands.
    (end-is r c.args.text.now _ _ _ (c.loop-stack.invariant.0 r stands) _ _ c.in-Done.is c.in_ok-next.ensures.leads
    c.into_term.result c.into_term.ensures c.in-Some.term c.in-Some.is).only

pub returns-in-None-clause-none : goal.returns-in-None-clause-none
returns-in-None-clause-none c = λ e r stands.
    absurd (no-end r c.args.text.now _ _ _ (c.loop-stack.invariant.0 r stands) _ _ c.in-Done.is
    c.in_ok-next.ensures.leads c.into_term.result c.into_term.ensures c.in-None.is)
