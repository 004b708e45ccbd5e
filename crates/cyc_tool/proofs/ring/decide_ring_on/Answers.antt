use Rattle.cyc_tool.proofs.Common.{err_from_is_err_and, cells_seen, IsDecided, Demonstrates, end_of, stop_outcome}
use Rattle.plain_commands.specs.Plans.{ring_decision}
use Rattle.plain_commands.proofs.PlanLemmas.{ends_or_lacks}
use Rattle.cyc_tool.proofs.RingLemmas.{ring_care_stops, ring_ends}
use Rattle.cyc_tool.proofs.ring.decide_ring_on.Goals as goal

pub returns-in_err-care : goal.returns-in_err-care
returns-in_err-care c =
    let q = err_from_is_err_and c.from_residual.result c.from_residual.ensures.1 in
    rw (q.1, q.2)
    (ring_care_stops (cells_seen c.args.cells) c.args.care.now c.args.net.now c.args.d.now (stop_outcome c.in_err-care.field-0.0) c.requires.care c.in_err-care.ensures.bad)

pub returns : goal.returns
returns c =
    ring_ends (cells_seen c.args.cells) c.args.care.now c.args.net.now c.in_ok-care.care c.tell_decision.new.d
    (end_of c.or_stop.result) c.requires.care c.in_ok-care.ensures.good c.requires.valid
    (ends_or_lacks c.tell_decision.result
    (IsDecided (ring_decision c.args.net.now c.in_ok-care.care) (Demonstrates (cells_seen c.args.cells)) c.tell_decision.new.d)
    _ c.or_stop.ensures c.tell_decision.ensures)
