use Rattle.std.proofs.Common.{List, sym, ap, ◌∙◌}
use Rattle.term_core.specs.Tree.{Tree, branch, application, list, tuple, of_list, children, annotations}
use Rattle.term_core.specs.Kind.{made_of}
use Rattle.term_core.specs.declared.kind.Kind.{Kind}
use Rattle.aterm_text.proofs.RoomLemmas.{annotated-leaves, application-leaves, list-leaves, tuple-leaves, bracketed-leaves}
use Rattle.aterm_text.proofs.room.+room.Goals as goal

pub room_after-returns : goal.room_after-returns
room_after-returns t c =
    annotated-leaves c.args.term.now c.annotations.result.now c.args.room c.in_ok-left.left
    c.room_after_bracketed.result c.annotations.ensures c.in_ok-left.ensures c.room_after_bracketed.ensures

pub room_after_bare-returns-in_ok-left-in-Application : goal.room_after_bare-returns-in_ok-left-in-Application
room_after_bare-returns-in_ok-left-in-Application t c =
    application-leaves c.args.term.now c.in-Application.name.now c.children.result.now
    (of_list (annotations c.args.term.now)) c.args.room c.in_ok-left-in-Application.left c.room_after_bracketed.result
    (c.in-Application.ensures ∙ ap (λ (us : List Tree). branch (application c.in-Application.name.now) (of_list us)
    (of_list (annotations c.args.term.now))) (sym c.children.ensures))
    c.in_ok-left-in-Application.ensures c.room_after_bracketed.ensures

pub room_after_bare-returns-in-List : goal.room_after_bare-returns-in-List
room_after_bare-returns-in-List t c =
    list-leaves c.args.term.now c.children-in-List.result.now (of_list (annotations c.args.term.now)) c.args.room
    c.room_after_between.result
    (c.kind.ensures ∙ ap (λ (k : Kind). made_of k (children c.args.term.now) (annotations c.args.term.now)) c.in-List.is
    ∙ ap (λ (us : List Tree). branch list (of_list us) (of_list (annotations c.args.term.now)))
    (sym c.children-in-List.ensures))
    c.room_after_between.ensures

pub room_after_bare-returns-in-Tuple : goal.room_after_bare-returns-in-Tuple
room_after_bare-returns-in-Tuple t c =
    tuple-leaves c.args.term.now c.children-in-Tuple.result.now (of_list (annotations c.args.term.now)) c.args.room
    c.room_after_between-in-Tuple.result
    (c.kind.ensures ∙ ap (λ (k : Kind). made_of k (children c.args.term.now) (annotations c.args.term.now))
    c.in-Tuple.is
    ∙ ap (λ (us : List Tree). branch tuple (of_list us) (of_list (annotations c.args.term.now)))
    (sym c.children-in-Tuple.ensures))
    c.room_after_between-in-Tuple.ensures

pub room_after_bracketed-returns : goal.room_after_bracketed-returns
room_after_bracketed-returns t c =
    bracketed-leaves c.args.room c.args.terms.now c.room_after_between.result
    (sym c.is_empty.ensures ∙ c.if-is_empty.false) c.room_after_between.ensures
