use Rattle.cyc_tool.proofs.Common.{err_from_is_err_and, cells_seen, end_of, stop_outcome}
use Rattle.cyc_tool.proofs.RingLemmas.{ring_goes_on, ring_stops}
use Rattle.cyc_tool.proofs.ring.decide_ring.Goals as goal

pub returns-in_err-net : goal.returns-in_err-net
returns-in_err-net c =
    let q = err_from_is_err_and c.from_residual.result c.from_residual.ensures.1 in
    rw (q.1, q.2) (ring_stops (cells_seen c.args.cells) c.args.text.items c.args.d.now (stop_outcome c.in_err-net.field-0.0) c.requires.text c.in_err-net.ensures.bad)

pub returns : goal.returns
returns c =
    ring_goes_on (cells_seen c.args.cells) c.args.text.items c.in_ok-net.net c.decide_ring_on.new.d (end_of c.decide_ring_on.result) c.requires.text c.in_ok-net.ensures.good c.decide_ring_on.ensures
