use Rattle.std.proofs.lemmas.Result.{IfOk-weaker}
use Rattle.refusals.specs.declared.observe.Observe.TheVariants.{Outputs}
use Rattle.case_search.proofs.SplitLemmas.{of_small}
use Rattle.rewriting.specs.Rewriting.{IsLoopFreeForm}
use Rattle.rewriting.proofs.by_cases.rewrite_looped.Goals as goal

pub returns-in-Accepted-clause-form : goal.returns-in-Accepted-clause-form
returns-in-Accepted-clause-form c =
    let net = c.args.looped.now.net in
    let care = c.args.care.now in
    let told = rw (c.net-net.ensures.net, c.blocks-blocks.ensures.blocks, c.cut-cut.ensures.cut) at (rw c.in-Ok.is at c.decide-decision.ensures.verdict) in
    let accepted = rw c.in-Accepted.is at told in
    of_small (IsLoopFreeForm net care) c.rewrite.result c.rewritten_if_small.result c.rewritten_if_small.ensures
    (IfOk-weaker c.rewrite.result _ _ (λ other rewriting. let is = rewriting care Outputs accepted.accepts accepted.sweeps in is.form) (rw c.new-counted.ensures at c.rewrite.ensures.rewriting))
