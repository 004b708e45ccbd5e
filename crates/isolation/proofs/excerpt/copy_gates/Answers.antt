use Rattle.std.proofs.Common.{◌≡◌, length, subst, arith}
use Rattle.isolation.proofs.Common.{gate_at, origins, AreCopies}
use Rattle.isolation.specs.Building.{IsCopyOf}
use Rattle.isolation.proofs.BuildingLemmas.{copies_more, copies_none, not_there, read_all}
use Rattle.isolation.proofs.excerpt.copy_gates.Goals as goal

pub loop-gate-init : goal.loop-gate-init
loop-gate-init c = copies_none c.args.net.now (origins c.args.net.now c.args.outside.now.keys c.args.gates.now) c.args.gates.now c.in_ok-made.made.items c.in_ok-made.ensures.items

pub copy_gate-requires : goal.copy_gate-requires
copy_gate-requires c = c.requires c.loop-gate.gate-index 0 c.loop-gate-test.true

pub loop-gate-preserved : goal.loop-gate-preserved
loop-gate-preserved c =
    let net = c.args.net.now in
    let gates = c.args.gates.now in
    let signals = origins net c.args.outside.now.keys gates in
    let copy : IsCopyOf signals (gate_at net _) c.in-Some.copy = rw c.in-Some.is at c.in_ok-copy.ensures.copy in
    copies_more net signals gates c.loop-gate.made.items c.push.new.self.items c.loop-gate.gate-index _ c.in-Some.copy c.loop-gate-test.true c.loop-gate.invariant copy c.in_ok-push.ensures.items

pub returns-in_default-clause-some : goal.returns-in_default-clause-some
returns-in_default-clause-some c numerable closed =
    let here = c.in_ok-copy.ensures.some numerable (read_all c.args.net.now c.args.gates.now c.args.outside.now.keys c.loop-gate.gate-index _ c.loop-gate-test.true closed) in
    absurd (not_there c.in_default.not-Some here)

pub returns-clause-copies : goal.returns-clause-copies
returns-clause-copies c =
    let all : c.loop-gate.gate-index ≡ length c.args.gates.now = omega (arith, c.loop-gate-test.false, c.loop-gate.auto.gate-index-end) in
    subst (AreCopies c.args.net.now (origins c.args.net.now c.args.outside.now.keys c.args.gates.now) c.args.gates.now c.loop-gate.made.items) all c.loop-gate.invariant
