use Rattle.std.proofs.Common.{length, drop, arith}
use Rattle.std.proofs.lemmas.List.{take-append-le, take_all}
use Rattle.probes.proofs.RoundLemmas.{rounds_more}
use Rattle.probes.proofs.last.rounds_of.Goals as goal

pub loop-change-preserved : goal.loop-change-preserved
loop-change-preserved c =
    let new = c.note_round.new.rounds in
    let old = c.loop-change.rounds.items in
    let len = c.loop-change.rounds.len in
    grind (arith, take-append-le len new (drop (length new) old), take_all len new, rounds_more c.args.net.now c.args.changes.now c.loop-change.change-index _ c.args.ticks _ _ c.loop-change-test.true c.note_round.ensures)
