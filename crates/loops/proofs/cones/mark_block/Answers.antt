use Rattle.loops.proofs.cones.mark_block.Goals as goal

pub mark_gates-requires : goal.mark_gates-requires
mark_gates-requires c = c.requires
