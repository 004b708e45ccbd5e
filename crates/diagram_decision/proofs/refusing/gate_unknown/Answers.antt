use Rattle.std.proofs.Common.{◌≡◌, ◌∙◌, ◌+◌, ◌<◌, ◌&&◌, ap, ap₂, arith}
use Rattle.diagram_decision.proofs.Common.{within_moved, within_only, Sig, bits, fix, value_in, count, columns, AreFixed, is_x}
use Rattle.diagram_decision.proofs.DecisionLemmas.{signal-value, unknown-bounded}
use Rattle.diagram_decision.proofs.PartLemmas.{IfOk-both}
use Rattle.diagram_decision.proofs.refusing.gate_unknown.Goals as goal
use Rattle.diagram_decision.proofs.refusing.gate_unknown.Goals.{After-unknown_on}

-- the gate's place among the signals
place-is : (c : After-unknown_on) → c.gate_sig-wire.result.0 ≡ columns c.args.question.now.net + c.args.gate
place-is c = ap (λ (s : Sig). s.0) (rw c.net.ensures.net at c.gate_sig-wire.ensures.sig)

within : (c : After-unknown_on) → c.gate_sig-wire.result.0 < count c.args.question.now.net
within c = omega (arith, place-is c, c.requires.gate)

fixed : (c : After-unknown_on) → AreFixed c.args.question.now.net c.args.d.now c.items.result.now
fixed c = rw c.items.ensures c.requires.fixed

pub returns-clause-grows : goal.returns-clause-grows
returns-clause-grows g =
    let c : After-unknown_on = (goal.at.returns-clause-grows g).After-unknown_on in
    let q = c.args.question.now in
    within_only (within_moved (λ w wide. unknown-bounded q.net q.care c.args.d.now c.items.result.now c.requires.vars (fixed c) c.gate_sig-wire.result.0 (within c) c.args.found.now.set c.requires.set wide) c.unknown_on.ensures.grows)

pub returns-clause-told : goal.returns-clause-told
returns-clause-told g =
    let c : After-unknown_on = (goal.at.returns-clause-told g).After-unknown_on in
    let q = c.args.question.now in
    let keeps = c.unknown_on.ensures.grows.keeps in
    IfOk-both c.unknown_on.result (λ set node unknown. record {
      node = node;
      value = λ v wide.
          let long = wide ∙ keeps.vars in
          unknown _ ∙ ap₂ (λ x t. x && is_x t) (c.requires.set.value v long) (signal-value q.net q.care c.args.d.now c.items.result.now c.requires.vars (fixed c) c.gate_sig-wire.result.0 (within c) v (long ∙ c.requires.vars) ∙ ap (value_in (fix q.net (bits v))) (place-is c));
    }) c.unknown_on.ensures.node c.unknown_on.ensures.unknown
