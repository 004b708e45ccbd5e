use Rattle.std.proofs.Common.{ℕ, ◌<◌, length, ap, arith}
use Rattle.std.proofs.lemmas.List.Elements.{All-push}
use Rattle.netlist.specs.declared.parts.Parts.{Parts}
use Rattle.case_split.proofs.marking.looped_gates.Goals as goal
use Rattle.case_split.proofs.marking.looped_gates.Goals.{then-are_in_one_loop+in_ok-push, else-are_in_one_loop}

pub loop-gate-preserved : goal.loop-gate-preserved
loop-gate-preserved c =
    elim c.if-are_in_one_loop.branch [
      | then-are_in_one_loop+in_ok-push w ↦
          rw (w.gates-is, w.in_ok-push.ensures.items)
          (All-push (λ (n : ℕ). n < length c.args.looped.now.net.gates) c.loop-gate.gates.items c.loop-gate.gate c.loop-gate.invariant
          (let below = c.loop-gate-test.true in
          let all = c.gates-gate-end.ensures.gates in
          let same = ap (λ (net : Parts). length net.gates) c.net.ensures.net in
          omega arith))
      | else-are_in_one_loop w ↦ rw w.gates-is c.loop-gate.invariant
    ]
