use Rattle.std.proofs.Common.{ℕ, ◌<◌, length}
use Rattle.std.proofs.lemmas.List.Sorted.{All-permutation}
use Rattle.case_split.proofs.left.nodes_in_order.Goals as goal

pub returns : goal.returns
returns c = All-permutation (λ (node : ℕ). node < length c.args.graph.now) c.in_ok-nodes.nodes.items c.sort_by_key.new.self.items c.in_ok-sort_by_key.ensures.permutation c.in_ok-nodes.ensures
