use Rattle.cyc_tool.proofs.problem.Accepted.counted.Goals as goal

pub new-requires : goal.new-requires
new-requires c = rw c.looped.ensures.looped c.self.invariant.is.sweeps.width
