use Rattle.std.proofs.Common.{◌∙◌, ℕ, List, ap, get_or, arith}
use Rattle.care_rows.proofs.Common.{Blocks, get_or_default}
use Rattle.care_rows.proofs.SteadyLemmas.{block_done, block_read, gate_more}
use Rattle.care_rows.proofs.steady.mark_block.Goals as goal

pub loop-gate-preserved : goal.loop-gate-preserved
loop-gate-preserved c =
    let l = c.args.looped.now in
    let gates : List ℕ = c.gates_at-gate-items.result.now in
    let i = c.loop-gate.gate-index in
    let marked = rw c.net.ensures.net at c.mark_gate.ensures in
    gate_more l.net c.gates_at-gate-items.ensures.valid l.blocks c.blocks-2.ensures.looped.blocks c.args.place c.requires.place i (get_or gates i 0) c.loop-gate.marks c.mark_gate.new.marks gates (get_or c.items.result.now c.args.place c.index-items-place.result).looped
    c.gates_at-gate-items.ensures.is
    (block_read l.blocks.list c.items.result.now c.args.place c.index-items-place.result (c.items.ensures ∙ ap (λ (b : Blocks). b.list) c.blocks-2.ensures.blocks) c.requires.place)
    c.loop-gate-test.true (get_or_default gates i (get_or gates i 0) 0 c.loop-gate-test.true) marked c.loop-gate.invariant

pub returns : goal.returns
returns c =
    let l = c.args.looped.now in
    block_done l.net c.gates_at-gate-items.ensures.valid l.blocks c.blocks-2.ensures.looped.blocks c.args.place c.requires.place c.loop-gate.gate-index c.gates_at-gate-items.result.now c.loop-gate.marks
    c.gates_at-gate-items.ensures.is (omega arith) c.loop-gate.invariant
