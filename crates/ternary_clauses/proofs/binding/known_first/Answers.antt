use Rattle.std.proofs.Common.{arith}
use Rattle.ternary_clauses.proofs.binding.known_first.Goals as goal
use Rattle.ternary_clauses.proofs.binding.known_first.Goals.{then-index-eq0+in_ok-bring_forward, else-index-eq0}

pub loop-place-preserved : goal.loop-place-preserved
loop-place-preserved c = elim c.if-index-eq0.branch [
  | then-index-eq0+in_ok-bring_forward w ↦ (omega (arith, w.front-is, c.loop-place.invariant.0), rw w.pinned-is (w.in_ok-bring_forward.ensures c.args.cover.now c.args.pins.now c.loop-place.invariant.1))
  | else-index-eq0 w ↦ (omega (arith, w.front-is, c.loop-place.invariant.0), rw w.pinned-is c.loop-place.invariant.1)
]
