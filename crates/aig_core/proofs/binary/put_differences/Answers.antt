use Rattle.aig_core.proofs.Common.{appended_then, appended_cut}
use Rattle.aig_core.proofs.binary.put_differences.Goals as goal

pub returns-in_err-put_groups : goal.returns-in_err-put_groups
returns-in_err-put_groups g c = appended_cut _ _ _ _ _ c.in_err-put_groups.ensures c.from_residual.ensures.0

pub returns : goal.returns
returns g c = appended_then _ _ _ _ _ _ _ _ _ _ c.in_ok-put_groups.ensures c.put_groups-2.ensures
