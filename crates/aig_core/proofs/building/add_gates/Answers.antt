use Rattle.std.proofs.Common.{◌≡◌, ◌+◌, get_or, take, arith}
use Rattle.std.proofs.lemmas.List.{get_or_default}
use Rattle.aig_core.proofs.Common.{building}
use Rattle.aig_core.specs.Building.{with_gate}
use Rattle.aig_core.proofs.AnswerLemmas.{IsFault-grows, builds_refused}
use Rattle.aig_core.proofs.BuildingLemmas.{building-none, building_next, building-grows, nothing_is_built}
use Rattle.aig_core.proofs.building.add_gates.Goals as goal
use Rattle.aig_core.proofs.building.add_gates.Goals.{After-add_gate}

pub loop-number-init : goal.loop-number-init
loop-number-init c =
    let net = c.args.net.now in
    grind (arith, building-none net, nothing_is_built net)

next_is : (c : After-add_gate) → with_gate c.args.net.now (record { graph = c.loop-number.aig; edges = c.loop-number.edges }) (get_or c.args.gates.now c.loop-number.number-index 0) ≡ building c.args.net.now (take (c.loop-number.number-index + 1) c.args.gates.now)
next_is c =
    let gates = c.args.gates.now in
    let k = c.loop-number.number-index in
    grind (arith, building_next c.args.net.now gates k (get_or gates k 0) c.loop-number-test.true (get_or_default gates k 0 (get_or gates k 0) c.loop-number-test.true), get_or_default gates k 0 (get_or gates k 0) c.loop-number-test.true)

pub returns-in_err-add_gate-clause-builds : goal.returns-in_err-add_gate-clause-builds
returns-in_err-add_gate-clause-builds c =
    let net = c.args.net.now in
    let gates = c.args.gates.now in
    let k = c.loop-number.number-index in
    grind (arith, next_is ((goal.at.returns-in_err-add_gate-clause-builds c).After-add_gate), builds_refused c.from_residual.result c.in_err-add_gate.field-0.0 c.add_gate.new.aig c.add_gate.new.edges (building net gates) c.from_residual.ensures.1, IsFault-grows, building-grows net gates (k + 1))

pub loop-number-preserved : goal.loop-number-preserved
loop-number-preserved c = grind (arith, next_is ((goal.at.loop-number-preserved c).After-add_gate))
