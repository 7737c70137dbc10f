use Rattle.std.proofs.Common.{arith, ◌∙◌, ap}
use Rattle.std.specs.List.{slice_get}
use Rattle.std.proofs.lemmas.Grind.{common_steps}
use Rattle.strategy_tokens.specs.inside.Pieces.{piece_token}
use Rattle.strategy_tokens.specs.Places.{place_at}
use Rattle.strategy_tokens.proofs.PlaceLemmas.{places_step, place-past, nothing-left, white-same, token-less}
use Rattle.strategy_tokens.proofs.place.token_place.Goals as goal
use Rattle.strategy_tokens.proofs.place.token_place.Goals.{in-White, in_default-matches, then-not-matches+else-before-eq0, else-not-matches}

pub loop-first-preserved : goal.loop-first-preserved
loop-first-preserved c =
    let step = places_step c.loop-first.left.now c.in-Some.rest.now _ c.first_piece-more.result.1 c.loop-first.start
    (piece_token c.first_piece-more.result.0) c.in-Some.ensures.cases.0
    c.first_piece-more.ensures.token c.first_piece-more.ensures.more c.first_piece-more.ensures.bound in
    let at = place_at c.loop-first.start c.first_piece-more.result.1 in (
      c.loop-first.invariant.0 ∙ (ap (λ l. slice_get l c.loop-first.before) step ∙
          elim c.match-matches.branch [
            | in-White w ↦ elim c.if-not-matches.branch [
              | then-not-matches+else-before-eq0 v ↦ absurd (cc (w.matches-is, v.if-not-matches.true))
              | else-not-matches v ↦ white-same c.first_piece-more.result.0 at c.loop-first.before
                  c.if-not-matches.before _ w.in-White.is v.before-is
            ]
            | in_default-matches w ↦ elim c.if-not-matches.branch [
              | then-not-matches+else-before-eq0 v ↦ token-less c.first_piece-more.result.0 at c.loop-first.before
                  c.if-not-matches.before _ w.in_default-matches.not-White v.if-before-eq0.false v.before-is
              | else-not-matches v ↦ absurd (cc (w.matches-is, v.if-not-matches.false))
            ]
          ]),
      grind (arith, common_steps, c.first_piece-more.ensures.bound),
    )

pub returns-clause-none : goal.returns-clause-none
returns-clause-none c =
    place-past c.args.text.now c.args.number
    (c.loop-first.invariant.0 ∙ nothing-left c.loop-first.start c.loop-first.before c.loop-first.left.now
    c.in_default.ensures.cases)
