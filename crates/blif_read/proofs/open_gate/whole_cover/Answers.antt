use Rattle.std.proofs.Common.{arith}
use Rattle.blif_read.proofs.GateLemmas.{no_fault}
use Rattle.blif_read.proofs.open_gate.whole_cover.Goals as goal

pub unreachable-requires : goal.unreachable-requires
unreachable-requires c = grind (arith, no_fault c.args.pins c.args.rows.items c.requires.pins c.requires.width)
