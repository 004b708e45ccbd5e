use Rattle.std.proofs.Common.{arith}
use Rattle.cyc_base.proofs.VectorLemmas.{more_vectors}
use Rattle.dual_rail.proofs.SizeLemmas.{nodes-below_power}
use Rattle.isolation.proofs.Common.{first_gate}
use Rattle.isolation.proofs.laws.widths.Goals as goal

pub returns : goal.returns
returns c net = grind (arith, more_vectors (first_gate net), nodes-below_power (first_gate net))
