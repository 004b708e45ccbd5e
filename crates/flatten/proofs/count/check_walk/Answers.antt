use Rattle.std.proofs.Common.{ap, ◌∙◌, ◌++◌, ◌∷◌, []}
use Rattle.flatten.proofs.Common.{BlifModel}
use Rattle.flatten.proofs.Counting.{fault_of_walk, lines_of_walk}
use Rattle.flatten.proofs.Results.{handed_on}
use Rattle.flatten.proofs.count.check_walk.Goals as goal

pub returns-in_err-_left-clause-fault : goal.returns-in_err-_left-clause-fault
returns-in_err-_left-clause-fault c =
    let trail = c.in_ok-push.ensures.items ∙ ap (λ ts. ts ++ (c.args.top ∷ [])) c.new-trail.ensures.items in
    let body = c.items-body.ensures ∙ ap (λ (m : BlifModel). m.body) c.model.ensures in
    handed_on _ c.from_residual-in_err-_left.result _ c.from_residual-in_err-_left.ensures.1 c.in_err-_left.ensures.fault
    (fault_of_walk c.args.hierarchy.now.depth c.args.limit c.args.hierarchy.now.models c.args.top c.push.new.self.items c.items-body.result.now c.in_err-_left.field-0.0 trail body)

pub returns-clause-lines : goal.returns-clause-lines
returns-clause-lines c =
    let trail = c.in_ok-push.ensures.items ∙ ap (λ ts. ts ++ (c.args.top ∷ [])) c.new-trail.ensures.items in
    let body = c.items-body.ensures ∙ ap (λ (m : BlifModel). m.body) c.model.ensures in
    lines_of_walk c.args.hierarchy.now.depth c.args.limit c.args.hierarchy.now.models c.args.top c.push.new.self.items c.items-body.result.now c.in_ok-_left._left trail body c.in_ok-_left.ensures.left
