use Rattle.std.proofs.Common.{arith}
use Rattle.aig_core.proofs.DepthLemmas.{marked_more}
use Rattle.aig_core.proofs.depth.place.Goals as goal

pub returns-clause-marks : goal.returns-clause-marks
returns-clause-marks c = grind (arith, marked_more c.args.placed.now.nodes.items c.args.placed.now.marks.items c.args.node c.requires.within c.requires.marks)
