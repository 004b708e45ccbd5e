use Rattle.std.proofs.Common.{take}
use Rattle.probes.specs.Tables.{IsRoundsTable}
use Rattle.probes.proofs.last.rounds_of.Given as goal

abbrev pub invariant-loop-change : goal.invariant-loop-change
invariant-loop-change l = IsRoundsTable l.net (take l.change-index l.changes) l.ticks l.rounds.items
