use Rattle.std.proofs.Common.{length, arith}
use Rattle.dual_rail.proofs.Common.{range_with_len}
use Rattle.dual_rail.proofs.LiveLemmas.{remainder-first}
use Rattle.dual_rail.proofs.LocalLemmas.{NewAreParts-alike}
use Rattle.dual_rail.proofs.expand.expand_rows.Goals as goal

pub returns-clause-node : goal.returns-clause-node
returns-clause-node c = grind arith

pub returns-clause-parts : goal.returns-clause-parts
returns-clause-parts c =
    NewAreParts-alike (λ bits len. remainder-first c.args.rows.now c.args.plane c.in-Ok-at_first.live.pin c.in-Ok-at_first.live.rows.items (range_with_len 0 (length c.args.rows.now)) c.in-Ok-at_first.ensures.pin c.in-Ok-at_first.ensures.rows bits) c.expand.ensures.parts

pub returns-clause-full : goal.returns-clause-full
returns-clause-full c is_full = grind arith
