use Rattle.std.proofs.Common.{arith, ◌+◌}
use Rattle.explanations.specs.Explained.{IsWithoutRun}
use Rattle.explanations.proofs.NeedLemmas.{without_below}
use Rattle.explanations.proofs.needs.leave_out.Goals as goal

pub with_fewer-requires-clause-fewer : goal.with_fewer-requires-clause-fewer
with_fewer-requires-clause-fewer c =
    let run = c.args.run in
    let is : IsWithoutRun c.args.kept.now run.first (run.first + run.count) c.args.holding.now.given.items c.in_ok-given.given.items = rw c.deref.ensures.value at c.in_ok-given.ensures in
    without_below c.args.kept.now c.args.holding.now.given.items c.in_ok-given.given.items run.first (run.first + run.count) c.requires.kept is

pub returns-else-out-clause-tried : goal.returns-else-out-clause-tried
returns-else-out-clause-tried c = grind arith

pub are_marked-out-requires : goal.are_marked-out-requires
are_marked-out-requires c = grind arith
