-- The first gate of a block is one of its gates.
use Rattle.std.proofs.Common.{◌≡◌, ◌<◌, ℕ, List, length, get_or, ap, ◌∙◌, arith}
use Rattle.loops.specs.declared.structure.Block.{Block}
use Rattle.simulation.proofs.Common.{Blocks, AreBlocksOf, home_of, Parts}
use Rattle.loops.specs.Blocks.{block_at, gates_at}
use Rattle.loops.proofs.OrderLemmas.{block_gates}
use Rattle.simulation.proofs.PinLemmas.{contains_at}
use Rattle.simulation.proofs.ForgetLemmas.{gate_of_block}
use Rattle.simulation.proofs.wires.Wires.settle_block.Goals as goal

first_gate_of : (net : Parts) (blocks : Blocks) → AreBlocksOf net blocks → (items : List Block) (place : ℕ) (block : Block) (gates : List ℕ) → place < length blocks.list → items ≡ blocks.list → block ≡ get_or items place block → gates ≡ block.gates → (get_or gates 0 0 < length net.gates) × (home_of blocks (get_or gates 0 0) ≡ place)
first_gate_of net blocks are items place block gates within items_are block_is gates_are =
    let here : gates ≡ (block_at blocks place).gates =
    block_gates blocks items gates place block within items_are (gates_are ∙ ap (λ (b : Block). b.gates) block_is) in
    let listed : gates ≡ gates_at blocks place = here ∙ are.gates place within in
    let some = are.filled place within in
    let size : length gates ≡ length (block_at blocks place).gates = ap (λ (l : List ℕ). length l) here in
    let filled : 0 < length gates = omega arith in
    gate_of_block net blocks are place gates listed (get_or gates 0 0) (contains_at gates 0 0 filled)

pub settle_gate-requires-clause-gate : goal.settle_gate-requires-clause-gate
settle_gate-requires-clause-gate c =
    (first_gate_of c.args.net.now c.args.plan.now.blocks c.requires.plan.blocks c.items.result.now c.args.place c.index-items-place.result c.items-gates.result.now c.requires.within c.items.ensures c.index-items-place.is c.items-gates.ensures).0

pub settle_gate-requires-clause-home : goal.settle_gate-requires-clause-home
settle_gate-requires-clause-home c =
    (first_gate_of c.args.net.now c.args.plan.now.blocks c.requires.plan.blocks c.items.result.now c.args.place c.index-items-place.result c.items-gates.result.now c.requires.within c.items.ensures c.index-items-place.is c.items-gates.ensures).1
