use Rattle.std.proofs.Common.{◌≡◌, ◌∙◌, ◌<◌, All, length, ap, arith}
use Rattle.std.proofs.lemmas.List.Elements.{All-from_get_or}
use Rattle.loop_simulation.proofs.Common.{Blocks, Cut, block_at, Looped}
use Rattle.loops.proofs.OrderLemmas.{gates_within}
use Rattle.loop_simulation.proofs.looped_block.LoopedBlock.of.Goals as goal

pub cut_places-requires : goal.cut_places-requires
cut_places-requires c =
    let l : Looped = c.args.looped.now in
    let is = c.cut.ensures.looped in
    let same : c.gates_of-gates.result.now ≡ (block_at l.blocks c.args.number).gates = c.gates_of-gates.ensures ∙ ap (λ (b : Blocks). (block_at b c.args.number).gates) c.blocks-2.ensures.blocks in
    let width : length c.items.result.now ≡ length l.net.gates = ap length c.items.ensures ∙ ap (λ (w : Cut). length w.wires) c.cut.ensures.cut ∙ is.cut.width in
    let within : All (λ n. n < length l.net.gates) c.gates_of-gates.result.now = All-from_get_or (λ n. n < length l.net.gates) c.gates_of-gates.result.now 0 (gates_within l.net l.blocks is.blocks c.args.number c.requires.number c.gates_of-gates.result.now same) in
    λ k d low. (let at = within k d low in omega (arith, at, width))
