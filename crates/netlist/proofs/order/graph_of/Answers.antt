use Rattle.std.proofs.Common.{◌≡◌, ◌++◌, ◌+◌, ◌<◌, [], ◌∷◌, ℕ, List, length, map, take, get_or, ◌∙◌, ap, arith}
use Rattle.std.proofs.lemmas.List.{length-map, length-take, map_push, take_all, take_more}
use Rattle.netlist.specs.declared.parts.Gate.{Gate}
use Rattle.netlist.specs.Orders.{numbers_from, gates_read}
use Rattle.netlist.proofs.order.graph_of.Goals as goal

one_more : (first : ℕ) (graph : List (List ℕ)) (gates : List Gate) (i : ℕ) (gate : Gate) (reads : List ℕ) → i < length gates → graph ≡ map (gates_read first) (take i gates) →
    gate ≡ get_or gates i gate → reads ≡ gates_read first gate → graph ++ reads ∷ [] ≡ map (gates_read first) (take (i + 1) gates)
one_more first graph gates i gate reads within so_far at is = grind (arith, map_push (gates_read first) (take i gates) (get_or gates i gate), take_more gates i gate within)

pub loop-gate-init : goal.loop-gate-init
loop-gate-init c = c.new-graph.ensures

pub loop-gate-preserved : goal.loop-gate-preserved
loop-gate-preserved c =
    let reads : c.deref.result.now ≡ gates_read c.args.first c.gate-item.result =
    c.deref.ensures.value ∙ c.in_ok-add_gates_read.ensures
    ∙ ap (λ (l : List ℕ). l ++ numbers_from c.args.first c.items.result.now) c.clear.ensures.items
    ∙ ap (numbers_from c.args.first) c.items.ensures in
    c.in_ok-add_node.ensures.added
    ∙ one_more c.args.first c.loop-gate.graph c.args.gates.now c.loop-gate.gate-index c.gate-item.result c.deref.result.now
    c.loop-gate-test.true c.loop-gate.invariant c.gate-item.is reads

pub add_node-requires : goal.add_node-requires
add_node-requires c = grind (arith, length-map (take c.loop-gate.gate-index c.args.gates.now) (gates_read c.args.first), length-take c.loop-gate.gate-index c.args.gates.now)

pub returns : goal.returns
returns c = c.loop-gate.invariant ∙ ap (map (gates_read c.args.first)) (take_all c.loop-gate.gate-index c.args.gates.now (omega arith))
