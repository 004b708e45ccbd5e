use Rattle.std.proofs.Common.{◌≤◌, ◌<◌, ◌∙◌, length, sym, arith, true≢false}
use Rattle.verdict.proofs.LooseLemmas.{marked-unknown, unmarked-known}
use Rattle.diagram_decision.proofs.PartLemmas.{known-more, loose-all, loose-more, loose-same, undetermined-none}
use Rattle.verdict.proofs.unknown.count_loose.Goals as goal
use Rattle.verdict.proofs.unknown.count_loose.Goals.{then-unknown-gate+else-observed-gate, else-unknown-gate}

pub loop-gate-preserved : goal.loop-gate-preserved
loop-gate-preserved c =
    let net = c.args.net.now in
    let gate = c.loop-gate.gate in
    let loose = c.loop-gate.loose in
    let unknown = c.args.unknown.now in
    let before = c.loop-gate.invariant in
    let few = c.loop-gate.invariant.few in
    let inside : gate < length net.gates = omega (arith, c.loop-gate-test.true, c.gates-gate-end.ensures.gates) in
    elim c.if-unknown-gate.branch [
      | then-unknown-gate+else-observed-gate w ↦
          let same = w.loose-is in
          record {
            known = λ care what seen are. known-more net care c.args.observed.now gate (before.known care what seen are) (λ marked. absurd (true≢false (sym marked ∙ w.if-observed-gate.false)));
            loose = λ care are. w.loose-is ∙ loose-more net care gate loose inside (before.loose care are) (marked-unknown net care unknown are gate inside w.if-unknown-gate.true);
            few = omega (arith, few, same);
          }
      | else-unknown-gate w ↦
          let same = w.loose-is in
          record {
            known = λ care what seen are. known-more net care c.args.observed.now gate (before.known care what seen are) (λ marked. unmarked-known net care unknown are gate inside w.if-unknown-gate.false);
            loose = λ care are. w.loose-is ∙ loose-same net care gate loose inside (before.loose care are) (unmarked-known net care unknown are gate inside w.if-unknown-gate.false);
            few = omega (arith, few, same);
          }
    ]

pub returns : goal.returns
returns c care what seen are =
    let net = c.args.net.now in
    let gate = c.loop-gate.gate in
    let all : length net.gates ≤ gate = omega (arith, c.loop-gate-test.false, c.gates-gate-end.ensures.gates) in
    record {
      none = undetermined-none net care what (λ k less is. c.loop-gate.invariant.known care what seen are k (omega (arith, less, all)) (seen.each k less ∙ is));
      number = loose-all net care gate c.loop-gate.loose all (c.loop-gate.invariant.loose care are);
    }
