use Rattle.std.proofs.Common.{ℕ, arith, sym, ◌∙◌, subst, get_or, true≢false, eq-eqb, inl, inr, []}
use Rattle.std.specs.List.{Contains}
use Rattle.std.proofs.lemmas.Bool.{cases_eq}
use Rattle.components.proofs.order.has_self_edge.Goals as goal

pub loop-node-preserved : goal.loop-node-preserved
loop-node-preserved c a l edge =
    elim (cases_eq a c.loop-node.node-counter) [
      | inr ne ↦ c.loop-node.invariant a (omega (arith, ne)) edge
      | inl e ↦
          let listed = subst (λ (x : ℕ). Contains (get_or c.args.graph.now x []) x) e edge.listed in
          let own : Contains c.successors.result.now c.loop-node.node-counter = rw c.successors.ensures listed in
          let k = c.if-contains.ensures.cases in
          true≢false (sym (eq-eqb _ _ own.2) ∙ k own.0 c.loop-node.node-counter (omega arith) own.1)
    ]

pub returns-clause-none : goal.returns-clause-none
returns-clause-none c e a edge = c.loop-node.invariant a (let source = edge.source in let len = c.len-node-end.ensures in let done = c.loop-node-test.false in omega arith) edge
