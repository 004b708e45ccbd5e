use Rattle.std.proofs.Common.{◌≡◌, ◌≢◌, ◌+◌, ◌-◌, ℕ, length, ap, subst, ◌∙◌, arith}
use Rattle.cyc_tool.proofs.Common.{IfOk, Sig, bits, Parts, fix}
use Rattle.std.specs.Prelude.{IfNone, IfSome}
use Rattle.cyc_base.specs.declared.trit.Trit.TheVariants.{X}
use Rattle.netlist.specs.Fixpoint.{wire}
use Rattle.explanations.specs.Explained.{Explains}
use Rattle.cyc_tool.proofs.ExplainedLemmas.{number_of_gate}
use Rattle.cyc_tool.proofs.explained.explanation_of.Goals as goal

pub explain-requires-clause-gate : goal.explain-requires-clause-gate
explain-requires-clause-gate c =
    let net = c.net-net.ensures.net in
    let columns = c.columns.ensures.columns ∙ ap (λ (n : Parts). length n.inputs + length n.latches) net in
    let gates = ap (λ (n : Parts). length n.gates) net in
    let behind = c.args.refused.now.at.gate.behind in
    let within = c.args.refused.now.at.gate.within in
    omega (arith, columns, gates, behind, within)

pub returns-clause-found : goal.returns-clause-found
returns-clause-found c =
    let refused = c.args.refused.now in
    let net = refused.looped.now.net in
    let columns = c.columns.ensures.columns ∙ ap (λ (n : Parts). length n.inputs + length n.latches) c.net-net.ensures.net in
    let number : refused.wire.0 - c.columns.result ≡ refused.wire.0 - (length net.inputs + length net.latches) = omega (arith, columns) in
    subst (λ (g : ℕ). IfOk c.explain.result (λ found. IfSome found (Explains net refused.vector.now g))) number
    (rw c.net-net.ensures.net at c.explain.ensures.found)

pub returns-clause-none : goal.returns-clause-none
returns-clause-none c =
    let refused = c.args.refused.now in
    let net = refused.looped.now.net in
    let columns = c.columns.ensures.columns ∙ ap (λ (n : Parts). length n.inputs + length n.latches) c.net-net.ensures.net in
    let behind = refused.at.gate.behind in
    let gate = refused.wire.0 - c.columns.result in
    let number : length net.inputs + length net.latches + gate ≡ refused.wire.0 = omega (arith, columns, behind) in
    subst (λ (s : Sig). IfOk c.explain.result (λ found. IfNone found (wire (fix net (bits refused.vector.now)) s ≢ X))) (number_of_gate net refused.wire gate number)
    (rw c.net-net.ensures.net at c.explain.ensures.none)
