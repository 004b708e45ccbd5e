use Rattle.std.proofs.Common.{ℕ, List, take, get_or, arith}
use Rattle.std.proofs.lemmas.List.{with_items_is}
use Rattle.loop_simulation.proofs.Common.{LoopAt, gates_in}
use Rattle.loop_simulation.proofs.LoopLemmas.{gates-fit}
use Rattle.loop_simulation.proofs.ReaderLemmas.{readers-more, taken-next}
use Rattle.loop_simulation.proofs.readers.readers_in.Goals as goal

pub add_reader-requires-clause-gate : goal.add_reader-requires-clause-gate
add_reader-requires-clause-gate c = gates-fit c.args.block.now c.gates-gate-items.ensures.is c.gates-gate-items.result.now c.gates-gate-items.ensures.gates c.loop-gate.gate-index 0 c.loop-gate-test.true

pub loop-gate-preserved : goal.loop-gate-preserved
loop-gate-preserved c =
    let l : LoopAt = c.args.block.now in
    let i : ℕ = c.loop-gate.gate-index in
    let n : ℕ = get_or c.gates-gate-items.result.now i 0 in
    let old : List (List ℕ) = c.loop-gate.readers.items in
    let new : List (List ℕ) = c.add_reader.new.readers in
    grind (arith, with_items_is c.loop-gate.readers new, taken-next c.gates-gate-items.result.now (gates_in l) i 0 c.gates-gate-items.ensures.gates c.loop-gate-test.true, readers-more l (take i (gates_in l)) n old new)
