use Rattle.std.proofs.Common.{◌+◌, take}
use Rattle.probes.specs.Texts.{last_tick}
use Rattle.probes.specs.Tables.{IsTally}
use Rattle.probes.proofs.glitches.tally_of.Given as goal

abbrev pub invariant-loop-i : goal.invariant-loop-i
invariant-loop-i l =
    IsTally l.net (take l.i l.changes) (last_tick l.changes + 1) l.tally.turns.keys l.tally.counts.items l.tally.total
