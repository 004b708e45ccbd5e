use Rattle.std.proofs.Common.{arith}
use Rattle.flatten.proofs.Libraries.{distinct_once}
use Rattle.flatten.proofs.library.library_of.Goals as goal

pub returns : goal.returns
returns c = grind (arith, distinct_once)
