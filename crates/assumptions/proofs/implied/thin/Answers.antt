use Rattle.std.proofs.lemmas.Result.{on_ok_weaker}
use Rattle.assumptions.proofs.ImpliedLemmas.{thinned_then}
use Rattle.assumptions.proofs.implied.thin.Goals as goal

pub returns : goal.returns
returns c =
    on_ok_weaker c.leave_out_each-2.result
    (λ second. thinned_then c.args.looped.now.net c.args.values.now.items c.leave_out_each.new.values.items c.leave_out_each-2.new.values.items c.in_ok-leave_out_each.ensures second)
    c.leave_out_each-2.ensures
