use Rattle.std.proofs.Common.{◌≡◌}
use Rattle.verdict.proofs.Common.{block_at}
use Rattle.verdict.proofs.LooseLemmas.{fed-known, says-not}
use Rattle.verdict.proofs.loose.is_fed_known.Goals as goal

pub returns-in_ok-others-in-Marked : goal.returns-in_ok-others-in-Marked
returns-in_ok-others-in-Marked c known =
    let s = c.args.question.now in
    let gates_are : c.gates_at-gates.result.now ≡ (block_at s.blocks c.args.place).gates = rw c.looped.ensures.looped at c.gates_at-gates.ensures.is in
    rw (← gates_are)
    (fed-known s.net s.care c.in-Marked.unknown.now (rw c.in-Marked.is at c.requires.unknown).0 c.gates_at-gates.result.now c.deref.result.now
    (rw c.deref.ensures.value c.in_ok-others-in-Marked.ensures) (says-not c.are_reached.result (rw c.net.ensures.net at c.are_reached.ensures) known))
