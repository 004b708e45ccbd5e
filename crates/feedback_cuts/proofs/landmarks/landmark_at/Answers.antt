use Rattle.std.proofs.Common.{length, sym, arith}
use Rattle.feedback_cuts.proofs.KeptLemmas.{ready_as}
use Rattle.feedback_cuts.proofs.LandmarkLemmas.{at_gate}
use Rattle.feedback_cuts.proofs.landmarks.landmark_at.Goals as goal

pub returns : goal.returns
returns c =
    at_gate c.args.links.readers.now c.args.links.sources.now c.args.links.levels.now 4294967295 c.args.gate (length c.args.links.levels.now) c.in_ok-ahead.ahead c.spread.new.self c.in_ok-behind.behind c.spread-2.new.self _ _
    (omega (arith, c.requires.gates, c.requires.gate, c.ranges.gates.fits)) c.requires.back (ready_as c.args.gates (length c.args.links.levels.now) 0 c.in_ok-ahead.ahead.marks.items (sym c.requires.gates) c.in_ok-ahead.ensures)
    (ready_as c.args.gates (length c.args.links.levels.now) 0 c.in_ok-behind.behind.marks.items (sym c.requires.gates) c.in_ok-behind.ensures) c.in_ok-spread.ensures c.in_ok-spread-2.ensures
