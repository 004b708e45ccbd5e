use Rattle.std.proofs.Common.{arith}
use Rattle.std.proofs.lemmas.Grind.{common_steps}
use Rattle.cover_logic.proofs.Parts.{width_from_none}
use Rattle.cover_logic.proofs.cover.Cover.new.Goals as goal
use Rattle.cover_logic.proofs.cover.Cover.new.Goals.{then-plane}

pub invariant_of-result : goal.invariant_of-result
invariant_of-result c = grind (arith, width_from_none c.args.pins c.args.rows.items 0, then-plane, common_steps)
