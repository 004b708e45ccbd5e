use Rattle.std.proofs.Common.{sym, subst}
use Rattle.ternary_clauses.proofs.Common.{All-push, All, AreWithin}
use Rattle.ternary_clauses.proofs.SweepLemmas.{seen-step}
use Rattle.ternary_clauses.proofs.sweeps.LoopCopy.seen_pins.Goals as goal

pub loop-pin-preserved : goal.loop-pin-preserved
loop-pin-preserved c = record {
  seen = seen-step c.args.self.now c.items-signals.result.now c.loop-pin.pin-index _ c.loop-pin.pins.items c.push.new.self.items c.seen.result c.loop-pin-test.true c.in_ok-push.ensures.items c.loop-pin.invariant.seen c.seen.ensures.seen;
  within = λ v within. subst (All (AreWithin v)) (sym c.in_ok-push.ensures.items) (All-push (AreWithin v) c.loop-pin.pins.items c.seen.result (c.loop-pin.invariant.within v within) (c.seen.ensures.within v within));
}
