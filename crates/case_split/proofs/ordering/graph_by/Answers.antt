use Rattle.std.proofs.Common.{◌≡◌, ◌+◌, [], ◌∷◌, length, ap, ◌∙◌, arith}
use Rattle.std.proofs.lemmas.List.{length-append}
use Rattle.case_split.proofs.ordering.graph_by.Goals as goal

pub loop-gate-preserved : goal.loop-gate-preserved
loop-gate-preserved c = ap length c.in_ok-add_node.ensures.added ∙ length-append c.loop-gate.graph (c.deref.result.now ∷ []) ∙ ap (λ n. n + 1) c.loop-gate.invariant

pub returns : goal.returns
returns c = let i : length c.loop-gate.graph ≡ c.loop-gate.gate-index = c.loop-gate.invariant in let t = c.loop-gate-test.false in let e = c.loop-gate.auto.gate-index-end in omega arith
