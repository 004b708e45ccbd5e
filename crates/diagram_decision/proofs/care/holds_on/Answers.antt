use Rattle.std.proofs.Common.{◌≡◌, ◌<◌, ◌∙◌, ℕ, List, length, sym, ap, subst, get_or, arith}
use Rattle.std.proofs.lemmas.List.{get_or_read}
use Rattle.diagram_decision.proofs.Common.{IsNodeOf, den, within_moved, within_answered, within_refused, Sig, Rails, values_of, BoundsEach, fix, count, rails_at, IsOfModel, model_of}
use Rattle.fixpoint.specs.Sweeping.{unknown}
use Rattle.fixpoint.specs.Working.{no_loops, IsGatePart}
use Rattle.diagram_decision.proofs.CareLemmas.{inputs-proper, inputs-values, inputs-bounded, output-holds}
use Rattle.diagram_decision.proofs.care.holds_on.Goals as goal
use Rattle.diagram_decision.proofs.care.holds_on.Goals.{After-lift_gates}

pub lift_gates-requires-clause-rails : goal.lift_gates-requires-clause-rails
lift_gates-requires-clause-rails c = inputs-proper c.args.d.now c.args.columns.now c.args.first c.args.rails.now c.deref.result.now c.requires.rails (c.deref.ensures.value ∙ c.in-Ok.ensures)

-- what the lift of the model works with
bounded : (c : After-lift_gates) (w : ℕ) → BoundsEach c.args.d.now.vars (IsOfModel (model_of c.args.model.now c.args.first c.args.columns.now) (values_of c.args.d.now c.args.rails.now)) w →
    BoundsEach c.args.d.now.vars (IsGatePart c.args.model.now no_loops (values_of c.args.d.now c.deref.result.now)) w
bounded c w bounds = inputs-bounded c.args.d.now c.args.model.now c.args.columns.now c.args.first c.args.rails.now c.deref.result.now c.requires.columns (c.deref.ensures.value ∙ c.in-Ok.ensures) bounds

pub returns-clause-grows : goal.returns-clause-grows
returns-clause-grows c = within_answered (within_moved (bounded (goal.at.returns-clause-grows c).After-lift_gates) c.lift_gates.ensures.grows)

pub returns-in_err-wires-clause-grows : goal.returns-in_err-wires-clause-grows
returns-in_err-wires-clause-grows c = within_refused c.in_err-wires.was c.from_residual.ensures.1 (within_moved (bounded (goal.at.returns-in_err-wires-clause-grows c).After-lift_gates) c.lift_gates.ensures.grows)

pub returns-clause-holds : goal.returns-clause-holds
returns-clause-holds c values v are =
    let net = c.args.model.now in
    let wires = c.in_ok-wires.wires.items in
    let none : Sig = record { 0 = 0 } in
    let outputs : c.outputs.result.now ≡ net.outputs = c.outputs.ensures.outputs in
    let some : 0 < length net.outputs = omega (arith, c.requires.model.outputs) in
    let output : Sig = get_or c.outputs.result.now 0 none in
    let same : output ≡ get_or net.outputs 0 none = ap (λ (os : List Sig). get_or os 0 none) outputs in
    let within : (get_or net.outputs 0 none).0 < count net = c.outputs.ensures.valid.outputs 0 none some in
    let inside : output.0 < length wires = omega (arith, within, c.in_ok-wires.ensures.width, ap (λ (s : Sig). s.0) same) in
    ap (λ (r : Rails). den c.lift_gates.new.d r.one v) (get_or_read wires output.0 c.index.result.now inside c.index.ensures unknown)
    ∙ ap (λ (s : Sig). den c.lift_gates.new.d (rails_at wires s.0).one v) same
    ∙ output-holds c.lift_gates.new.d net c.args.columns.now c.args.first wires none values v c.in_ok-wires.ensures.width c.outputs.ensures.valid some
    (c.in_ok-wires.ensures.values v
    ∙ ap (fix net) (inputs-values c.args.d.now net c.args.columns.now c.args.first c.args.rails.now c.deref.result.now values v c.requires.columns (c.deref.ensures.value ∙ c.in-Ok.ensures) are))

pub returns-clause-node : goal.returns-clause-node
returns-clause-node c =
    let net = c.args.model.now in
    let none : Sig = record { 0 = 0 } in
    let output : Sig = get_or c.outputs.result.now 0 none in
    let same : output ≡ get_or net.outputs 0 none = ap (λ (os : List Sig). get_or os 0 none) c.outputs.ensures.outputs in
    let within = c.outputs.ensures.valid.outputs 0 none (let some = c.requires.model.outputs in omega (arith, some)) in
    let proper = c.in_ok-wires.ensures.rails output.0 c.index.result.now (omega (arith, within, c.in_ok-wires.ensures.width, ap (λ (s : Sig). s.0) same)) in
    subst (λ (r : Rails). IsNodeOf c.lift_gates.new.d r.one) (sym c.index.ensures) proper.one
