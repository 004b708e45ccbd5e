use Rattle.std.proofs.Common.{None, Some, ap, ◌∙◌, arith}
use Rattle.std.proofs.lemmas.List.{append-nil, take_all}
use Rattle.case_split.specs.Cofactors.{wires_of}
use Rattle.case_split.proofs.CofactorLemmas.{wires_next}
use Rattle.case_split.proofs.cofactors.wires_of.Goals as goal
use Rattle.case_split.proofs.cofactors.wires_of.Goals.{in-Some+in_ok-push, in_default}

pub loop-pin-preserved : goal.loop-pin-preserved
loop-pin-preserved c =
    elim c.match-pin.branch [
      | in-Some+in_ok-push w ↦
          grind (arith, w.wires-is, w.in_ok-push.ensures.items, c.loop-pin.invariant, wires_next c.args.left.now c.loop-pin.pin-index (Some w.in-Some.wire) None c.loop-pin-test.true w.in-Some.is)
      | in_default w ↦
          grind (arith, w.wires-is, c.loop-pin.invariant, append-nil, wires_next c.args.left.now c.loop-pin.pin-index None None c.loop-pin-test.true w.in_default.is)
    ]

pub returns : goal.returns
returns c = c.loop-pin.invariant ∙ ap wires_of (take_all c.loop-pin.pin-index c.args.left.now c.loop-pin-test.false)
