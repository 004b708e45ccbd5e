-- What holds of each sound graph.
use Rattle.std.proofs.Common.{arith}
use Rattle.aig_core.proofs.Common.{Graph, IsSound}
use Rattle.aig_core.specs.Soundness.{IsLawful}
use Rattle.aig_core.proofs.GraphLemmas.{den-complement, den-constant, den-column, den-and}

pub IsLawful-sound : (g : Graph) → IsSound g → IsLawful g
IsLawful-sound g sound = grind (arith, den-constant g, den-column g, den-and g, den-complement g)
