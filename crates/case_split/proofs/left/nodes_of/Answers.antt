use Rattle.std.proofs.Common.{ℕ, ◌<◌, length, arith}
use Rattle.std.proofs.lemmas.List.Elements.{All-push}
use Rattle.case_split.proofs.left.nodes_of.Goals as goal

pub loop-node-preserved : goal.loop-node-preserved
loop-node-preserved c =
    rw c.in_ok-push.ensures.items
    (All-push (λ (node : ℕ). node < length c.args.graph.now) c.loop-node.nodes.items c.loop-node.node c.loop-node.invariant
    (let below = c.loop-node-test.true in let all = c.len-node-end.ensures in omega arith))
