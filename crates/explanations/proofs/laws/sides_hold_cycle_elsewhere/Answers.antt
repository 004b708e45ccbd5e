use Rattle.explanations.proofs.CycleSideLemmas.{sides_hold_cycle}
use Rattle.explanations.proofs.laws.sides_hold_cycle_elsewhere.Goals as goal

pub returns : goal.returns
returns c = sides_hold_cycle
