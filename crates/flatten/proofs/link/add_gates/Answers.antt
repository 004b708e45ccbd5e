use Rattle.std.proofs.Common.{◌<◌, length, ◌∙◌, arith}
use Rattle.flatten.proofs.Common.{GateLine}
use Rattle.flatten.proofs.Added.{added_by}
use Rattle.flatten.proofs.link.add_gates.Goals as goal

pub loop-gate-preserved : goal.loop-gate-preserved
loop-gate-preserved c =
    let gates = c.args.gates.now in
    let i = c.loop-gate.gate-index in
    let inside : i < length gates = omega arith in
    let one_more = added_by (λ (line : GateLine). line.output) c.args.set.now.keys c.loop-gate.set.keys c.add_copy.new.set.keys gates i c.gate-item.result c.in_ok-add_copy.field-0 inside c.gate-item.is
    c.loop-gate.invariant.keys c.in_ok-add_copy.ensures.names c.in_ok-add_copy.ensures.is_new c.if-not-branch.false in
    record { keys = one_more.0; rest = one_more.1 ∙ c.loop-gate.invariant.rest }
