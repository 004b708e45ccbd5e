use Rattle.std.proofs.Common.{◌≡◌, ◌∙◌, ℕ, Bool, false, List, length, drop, replicate, ap, arith}
use Rattle.diagram_decision.proofs.Common.{take_at}
use Rattle.diagram_decision.proofs.MarkLemmas.{all-marked, none-marked}
use Rattle.diagram_decision.proofs.observing.observed_gates.Goals as goal
use Rattle.diagram_decision.proofs.observing.observed_gates.Goals.{After-deref_mut}

pub returns-in_ok-vec-in-All-clause-marks : goal.returns-in_ok-vec-in-All-clause-marks
returns-in_ok-vec-in-All-clause-marks c =
    let net = c.args.net.now in
    grind (arith, all-marked net)

-- nothing is marked first
begun : (c : After-deref_mut) → c.deref_mut.result.now ≡ replicate (length c.args.net.now.gates) false
begun c = c.deref_mut.ensures.value ∙ c.in_ok-marks-in-Outputs.ensures.items_if_clones_equal (λ y e. e) ∙ ap (λ (n : ℕ). replicate n false) c.gates-gates.ensures.gates

pub mark_outputs-requires : goal.mark_outputs-requires
mark_outputs-requires c = rw (begun (goal.at.mark_outputs-requires c).After-deref_mut) (none-marked c.args.net.now)

pub returns-in_ok-marks-in-Outputs-clause-marks : goal.returns-in_ok-marks-in-Outputs-clause-marks
returns-in_ok-marks-in-Outputs-clause-marks c =
    let last : List Bool = c.mark_outputs.new.marks in
    grind (arith, take_at last (drop (length last) c.in_ok-marks-in-Outputs.marks.items) c.in_ok-marks-in-Outputs.marks.len)
