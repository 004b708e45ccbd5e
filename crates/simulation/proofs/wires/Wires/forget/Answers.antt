-- One gate more of the block is unknown.
use Rattle.std.proofs.Common.{◌≡◌, get_or, sym, ap, ◌∙◌, arith}
use Rattle.simulation.proofs.Common.{get_or_default, Sig, X, gate_sig, home_of}
use Rattle.simulation.proofs.PinLemmas.{contains_at}
use Rattle.simulation.proofs.LoadLemmas.{vector-set}
use Rattle.simulation.proofs.GateLemmas.{settled_set}
use Rattle.simulation.proofs.ForgetLemmas.{begins, gate_of_block, unknown_more}
use Rattle.simulation.proofs.wires.Wires.forget.Goals as goal

pub gate_sig-requires : goal.gate_sig-requires
gate_sig-requires c =
    let gates = c.args.gates.now in
    let k = c.loop-gate.gate-index in
    (gate_of_block c.args.net.now c.args.plan.now.blocks c.requires.plan.blocks c.args.place gates c.requires.gates (get_or gates k 0) (contains_at gates k 0 c.loop-gate-test.true)).0

pub change-requires-clause-signal : goal.change-requires-clause-signal
change-requires-clause-signal c =
    let gates = c.args.gates.now in
    let k = c.loop-gate.gate-index in
    grind (arith, gate_of_block c.args.net.now c.args.plan.now.blocks c.requires.plan.blocks c.args.place gates c.requires.gates (get_or gates k 0) (contains_at gates k 0 c.loop-gate-test.true), contains_at gates k 0 c.loop-gate-test.true)

pub change-requires-clause-due : goal.change-requires-clause-due
change-requires-clause-due c = λ n l e.
    let gates = c.args.gates.now in
    let k = c.loop-gate.gate-index in
    let home : home_of c.args.plan.now.blocks (get_or gates k 0) ≡ c.args.place = (gate_of_block c.args.net.now c.args.plan.now.blocks c.requires.plan.blocks c.args.place gates c.requires.gates (get_or gates k 0) (contains_at gates k 0 c.loop-gate-test.true)).1 in
    let is : (gate_sig c.args.net.now (get_or gates k 0)).0 ≡ (gate_sig c.args.net.now n).0 = ap (λ (s : Sig). s.0) (sym c.gate_sig.ensures.sig ∙ e) in
    let same : n ≡ get_or gates k 0 = omega arith in
    rw (same, home) c.loop-gate.invariant.unsettled

pub loop-gate-preserved : goal.loop-gate-preserved
loop-gate-preserved c =
    let net = c.args.net.now in
    let blocks = c.args.plan.now.blocks in
    let gates = c.args.gates.now in
    let k = c.loop-gate.gate-index in
    let g = get_or gates k 0 in
    let values = c.loop-gate.self.values.items in
    grind (arith, gate_of_block net blocks c.requires.plan.blocks c.args.place gates c.requires.gates g (contains_at gates k 0 c.loop-gate-test.true), contains_at gates k 0 c.loop-gate-test.true, settled_set net blocks values c.args.place g X, vector-set net values g X, unknown_more net gates values k g, get_or_default gates k)

pub returns-clause-rising : goal.returns-clause-rising
returns-clause-rising c =
    let gates = c.args.gates.now in
    grind (arith, begins c.args.net.now c.args.plan.now c.args.place c.loop-gate.self.values.items c.loop-gate.self.due.items gates c.requires.plan c.requires.gates c.loop-gate.invariant.kept c.loop-gate.invariant.settled c.loop-gate.invariant.unsettled)
