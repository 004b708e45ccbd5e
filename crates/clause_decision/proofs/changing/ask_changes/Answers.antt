use Rattle.std.proofs.Common.{◌∙◌, get_or, subst, sym, take}
use Rattle.std.specs.List.{All}
use Rattle.clause_decision.proofs.Common.{take_all, take_more, All-push, problem, HasNoModelUnder, change_literals}
use Rattle.clause_queries.specs.Queries.{IsReply}
use Rattle.clause_decision.proofs.changing.ask_changes.Goals as goal

pub loop-place-preserved : goal.loop-place-preserved
loop-place-preserved c =
    let p = problem c.args.swept.now.cone.formula in
    let inside = c.args.swept.now.cone.inside in
    let allowed = c.args.swept.now.cone.allowed in
    let after = c.args.swept.now.copies.items in
    let places = c.args.places.now in
    let n = c.loop-place.place-index in (
      c.in_ok-reply.ensures.unchanged ∙ c.loop-place.invariant.0,
      subst (All (λ i. HasNoModelUnder p (change_literals inside allowed c.args.before.now after i))) (sym (take_more places n 0 c.loop-place-test.true))
          (All-push (λ i. HasNoModelUnder p (change_literals inside allowed c.args.before.now after i)) (take n places) (get_or places n 0) c.loop-place.invariant.1
          (subst (IsReply p (change_literals inside allowed c.args.before.now after (get_or places n 0))) c.in-NoModel.is c.in_ok-reply.ensures.reply)),
    )

pub returns : goal.returns
returns c =
    let p = problem c.args.swept.now.cone.formula in
    subst (All (λ i. HasNoModelUnder p (change_literals c.args.swept.now.cone.inside c.args.swept.now.cone.allowed c.args.before.now c.args.swept.now.copies.items i)))
    (take_all c.loop-place.place-index c.args.places.now c.loop-place-test.false) c.loop-place.invariant.1
