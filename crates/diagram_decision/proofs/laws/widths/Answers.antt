use Rattle.std.proofs.Common.{arith}
use Rattle.cyc_base.proofs.VectorLemmas.{more_vectors}
use Rattle.dual_rail.proofs.SizeLemmas.{nodes-below_power}
use Rattle.diagram_decision.proofs.Common.{columns}
use Rattle.diagram_decision.proofs.laws.widths.Goals as goal

pub returns : goal.returns
returns c net care = grind (arith, more_vectors (columns net), nodes-below_power (columns net))
