use Rattle.std.proofs.Common.{◌<◌, length, sym, subst, arith}
use Rattle.std.proofs.lemmas.List.{get_or_default}
use Rattle.std.specs.Prelude.{slice_index_or}
use Rattle.explanations.specs.declared.pins.Pin.TheVariants.{Known, Free}
use Rattle.std.proofs.Common.{false}
use Rattle.assumptions.specs.Making.{AreKnownPins}
use Rattle.assumptions.proofs.PinLemmas.{known_none, known_next}
use Rattle.assumptions.proofs.rows.row_of.Goals as goal

pub loop-signal-init : goal.loop-signal-init
loop-signal-init c = subst (AreKnownPins c.args.pins.now 0) (sym c.new-values.ensures.items) (known_none c.args.pins.now)

pub loop-signal-preserved : goal.loop-signal-preserved
loop-signal-preserved c =
    let inside : c.loop-signal.signal < length c.args.pins.now = grind (arith, c.loop-signal-test.true) in
    known_next c.args.pins.now c.loop-signal.signal (slice_index_or c.args.pins.now c.loop-signal.signal (Known false)) c.loop-signal.values.items c.push_known.new.values.items
    (get_or_default c.args.pins.now c.loop-signal.signal Free (Known false) inside) c.in_ok-push_known.ensures c.loop-signal.invariant
