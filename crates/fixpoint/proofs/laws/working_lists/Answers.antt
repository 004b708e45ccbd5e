use Rattle.dual_rail.proofs.WidthLemmas.{IsWide-some}
use Rattle.fixpoint.proofs.Common.{IsWorking}
use Rattle.fixpoint.proofs.laws.working_lists.Goals as goal

pub returns : goal.returns
returns c net loops v vars = IsWide-some vars (IsWorking net loops v)
