use Rattle.std.proofs.Common.{ℕ, ◌≡◌, ◌∙◌, ◌<◌, ap, length, subst}
use Rattle.loops.proofs.Common.{Blocks, block_at, get_or_default}
use Rattle.loops.proofs.OrderLemmas.{block_gates, gates_within}
use Rattle.loops.proofs.looped_netlist.gates_at.Goals as goal

pub returns-clause-within : goal.returns-clause-within
returns-clause-within c k d l =
    let looped = c.args.looped.now in
    let same : c.items-2.result.now ≡ (block_at looped.blocks c.args.place).gates =
    block_gates looped.blocks c.items.result.now _ c.args.place _ c.requires (c.items.ensures ∙ ap (λ (blocks : Blocks). blocks.list) c.blocks-2.ensures.blocks) c.items-2.ensures in
    let within = gates_within looped.net looped.blocks c.blocks-2.ensures.looped.blocks c.args.place c.requires c.items-2.result.now same k l in
    subst (λ (n : ℕ). n < length looped.net.gates) (get_or_default c.items-2.result.now k 0 d l) within
