use Rattle.std.proofs.Common.{◌+◌, ◌<◌, [], ◌∷◌, ℕ, List, length, map, drop, subst, ap, arith}
use Rattle.std.proofs.lemmas.List.{drop_all, take_all}
use Rattle.flatten.proofs.Common.{drop-item, latch_with, sig_or, LatchLine}
use Rattle.flatten.proofs.Names.{mapped_next}
use Rattle.flatten.proofs.Reading.{IsLeft, fault_left, fewer_left, none_left}
use Rattle.flatten.proofs.Results.{handed_on}
use Rattle.flatten.proofs.link.flat_latches.Goals as goal

abbrev sources : List LatchLine → List (List ℕ)
sources latches = map (λ l. l.from) latches

pub returns-in_err-flat_latch-clause-fault : goal.returns-in_err-flat_latch-clause-fault
returns-in_err-flat_latch-clause-fault c =
    let latches = c.args.latches.now in
    let i = c.loop-latch.latch-index in
    let x = c.latch-item.result in
    let inside : i < length latches = omega arith in
    handed_on _ c.from_residual-in_err-flat_latch.result _ c.from_residual-in_err-flat_latch.ensures.1 c.in_err-flat_latch.ensures.fault
    (λ e. fault_left c.args.drivers.now (sources latches) (sources (drop i latches)) (x.from ∷ []) (sources (drop (i + 1) latches))
    c.args.clock.now c.loop-latch.clock c.in_err-flat_latch.field-0.0 (ap sources (drop-item latches i x inside c.latch-item.is)) c.loop-latch.invariant.left e)

pub loop-latch-preserved : goal.loop-latch-preserved
loop-latch-preserved c =
    let d = c.args.drivers.now in
    let latches = c.args.latches.now in
    let i = c.loop-latch.latch-index in
    let x = c.latch-item.result in
    let inside : i < length latches = omega arith in
    record {
      flat = mapped_next (latch_with (sig_or d)) latches i x c.loop-latch.flat.items c.push_reserved.new.self.items inside c.latch-item.is c.loop-latch.invariant.flat (grind arith);
      left = fewer_left d (sources latches) (sources (drop i latches)) (x.from ∷ []) (sources (drop (i + 1) latches))
          c.args.clock.now c.loop-latch.clock c.flat_latch.new.clock (ap sources (drop-item latches i x inside c.latch-item.is)) c.loop-latch.invariant.left c.in_ok-flat_latch.ensures.read;
      len = omega (arith, c.push_reserved.ensures.len, c.loop-latch.invariant.len);
      room = omega (arith, c.push_reserved.ensures.capacity, c.loop-latch.invariant.room);
    }

pub returns-clause-read : goal.returns-clause-read
returns-clause-read c =
    let d = c.args.drivers.now in
    let latches = c.args.latches.now in
    let past = ap sources (drop_all c.loop-latch.latch-index latches c.loop-latch-test.false) in
    none_left d (sources latches) c.args.clock.now c.loop-latch.clock
    (subst (λ (left : List (List ℕ)). IsLeft d (sources latches) left c.args.clock.now c.loop-latch.clock) past c.loop-latch.invariant.left)

pub returns-clause-latches : goal.returns-clause-latches
returns-clause-latches c = grind (arith, take_all c.loop-latch.latch-index c.args.latches.now)
