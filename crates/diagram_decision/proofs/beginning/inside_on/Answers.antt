use Rattle.std.proofs.Common.{◌≡◌, ◌∙◌, ◌-◌, List, Bool, length, take, drop, ap, arith}
use Rattle.diagram_decision.proofs.Common.{length-drop, within_moved, Rails, values_of, bits, state_of, laid, order}
use Rattle.std.proofs.lemmas.List.{take_rest}
use Rattle.diagram_decision.proofs.DecisionLemmas.{decision_list, decision-wide}
use Rattle.diagram_decision.proofs.PartLemmas.{IfOk-both, invariant-reads}
use Rattle.diagram_decision.proofs.VerdictLemmas.{state-values}
use Rattle.diagram_decision.proofs.WorkLemmas.{invariant-bounded}
use Rattle.diagram_decision.proofs.beginning.inside_on.Goals as goal
use Rattle.diagram_decision.proofs.beginning.inside_on.Goals.{After-invariant_on}

-- the latches' rails are those behind the inputs
abbrev latches : (c : After-invariant_on) → List Rails
latches c = take (length c.args.rails.now - c.inputs-first.result) (drop c.inputs-first.result c.args.rails.now)

values : (c : After-invariant_on) (v : List Bool) → length v ≡ c.args.d.now.vars → values_of c.args.d.now (latches c) (laid c.args.question.now.net v) ≡ bits (state_of c.args.question.now.net v)
values c v long = grind (arith, state-values c.args.question.now.net c.args.d.now c.args.rails.now (latches c) v c.requires.columns, take_rest c.args.rails.now c.inputs-first.result)

pub invariant_on-requires-clause-reads : goal.invariant_on-requires-clause-reads
invariant_on-requires-clause-reads c =
    let net = c.args.question.now.net in
    let rails = c.args.rails.now in
    let first = rw c.net.ensures.net at c.inputs-first.ensures.inputs in
    let cut = ap length (take_rest rails c.inputs-first.result) ∙ length-drop c.inputs-first.result rails in
    let width : length (take (length rails - c.inputs-first.result) (drop c.inputs-first.result rails)) ≡ length net.latches = omega (arith, cut, c.requires.columns.width, c.requires.vars, first) in
    rw (c.care.ensures.care, first) (invariant-reads net c.args.question.now.care _ c.care.ensures.is.care (rw first at width))

pub returns-clause-told : goal.returns-clause-told
returns-clause-told g =
    let c : After-invariant_on = (goal.at.returns-clause-told g).After-invariant_on in
    let inside = rw g.care.ensures.care at g.invariant_on.ensures.inside in
    IfOk-both g.invariant_on.result (λ set node is. record {
      node = node;
      value = λ v wide. is (state_of g.args.question.now.net v) (laid g.args.question.now.net v) (values c v (wide ∙ g.invariant_on.ensures.grows.keeps.vars));
    }) g.invariant_on.ensures.node inside

pub returns-clause-grows : goal.returns-clause-grows
returns-clause-grows g =
    let c : After-invariant_on = (goal.at.returns-clause-grows g).After-invariant_on in
    let q = g.args.question.now in
    within_moved (λ w wide. invariant-bounded (decision_list q.net q.care) (order q.net) g.requires.vars (decision-wide g.requires.vars wide) (values_of g.args.d.now (latches c)) (values c))
    (rw g.care.ensures.care at g.invariant_on.ensures.grows)
