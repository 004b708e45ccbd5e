use Rattle.std.proofs.Common.{◌≡◌, arith}
use Rattle.verdict.proofs.Common.{block_at, gate_home}
use Rattle.verdict.proofs.LooseLemmas.{says-not, unreached-known}
use Rattle.verdict.proofs.loose.is_known_around.Goals as goal

pub returns-in-Nowhere : goal.returns-in-Nowhere
returns-in-Nowhere c known = grind arith

pub returns-in-Marked : goal.returns-in-Marked
returns-in-Marked c known =
    let s = c.args.question.now in
    let gates_are : c.gates_at-gates.result.now ≡ (block_at s.blocks c.args.place).gates = rw c.looped.ensures.looped at c.gates_at-gates.ensures.is in
    unreached-known s.net s.care c.in-Marked.unknown.now (rw c.in-Marked.is at c.requires.unknown).0 (block_at s.blocks c.args.place).gates
    (λ n among. (gate_home s.net s.blocks c.looped.ensures.is.blocks c.args.place n c.requires.place among).0)
    (rw gates_are at (says-not c.are_reached.result (rw c.net.ensures.net at c.are_reached.ensures) known))
