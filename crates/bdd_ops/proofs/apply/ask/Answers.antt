use Rattle.std.proofs.Common.{arith}
use Rattle.bdd_ops.proofs.StepLemmas.{asked-fewer}
use Rattle.bdd_ops.proofs.apply.ask.Goals as goal

pub returns-in_ok-push-in-None-clause-fewer : goal.returns-in_ok-push-in-None-clause-fewer
returns-in_ok-push-in-None-clause-fewer c root chain =
    let question = c.pose-question.result.0 in
    grind (arith, asked-fewer c.args.operation c.args.store.now root c.args.waiting.now.items c.push.new.self.items c.args.q question c.pose-question.result.1 c.in_ok-push-in-None.ensures.items chain)
