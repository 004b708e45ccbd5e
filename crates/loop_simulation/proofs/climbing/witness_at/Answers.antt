use Rattle.std.proofs.Common.{List, Bool, arith}
use Rattle.refusals.proofs.ShowingLemmas.{care_vector_decides}
use Rattle.loop_simulation.proofs.Common.{LoopAt}
use Rattle.loop_simulation.proofs.climbing.witness_at.Goals as goal

pub returns : goal.returns
returns c =
    let l : LoopAt = c.args.on_care.now.block.now in
    let v : List Bool = c.args.vector.items in
    grind (arith, care_vector_decides l.net c.args.on_care.now.care.now v)
