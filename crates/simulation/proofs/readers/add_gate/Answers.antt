-- The gate is added to the readers of one pin more.
use Rattle.std.proofs.Common.{◌<◌, ◌+◌, ℕ, List, length, get_or, set, sym, subst, arith}
use Rattle.simulation.proofs.Common.{get_or_default, Sig, AreListed}
use Rattle.simulation.proofs.ReaderLemmas.{listed_more}
use Rattle.simulation.proofs.readers.add_gate.Goals as goal

pub loop-pin-preserved : goal.loop-pin-preserved
loop-pin-preserved c =
    let pins = c.args.pins.now in
    let k = c.loop-pin.pin-index in
    let lists = c.loop-pin.lists in
    let d : Sig = record { 0 = 0 } in
    let s = get_or pins k d in
    let size = c.loop-pin.invariant.size in
    let below = c.requires k d c.loop-pin-test.true in
    let within : s.0 < length lists = omega arith in
    subst (λ (list : List ℕ). AreListed c.args.gate pins (k + 1) c.args.lists.now (set lists s.0 list)) (sym c.in_ok-push.ensures)
    (listed_more c.args.gate pins k s c.args.lists.now lists _ (λ e. get_or_default pins k e d c.loop-pin-test.true) within
    (get_or_default lists s.0 _ _ within) c.loop-pin.invariant)
