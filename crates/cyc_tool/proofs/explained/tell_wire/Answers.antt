use Rattle.cyc_tool.proofs.Common.{IfOk-weaker}
use Rattle.explanations.specs.Explained.{Explains}
use Rattle.loops.specs.Sweeps.{gate_of}
use Rattle.cyc_tool.proofs.ExplainedLemmas.{fits_netlist, was_explained}
use Rattle.cyc_tool.proofs.explained.tell_wire.Goals as goal

pub tell_why-requires-clause-some : goal.tell_why-requires-clause-some
tell_why-requires-clause-some c =
    let refused = c.args.refused.now in
    let net = refused.looped.now.net in
    let explains : Explains net refused.vector.now (gate_of net refused.wire) c.in-Some.why = rw c.in-Some.is at c.in_ok-found.ensures.found in
    explains.cycle.some

pub tell_why-requires-clause-why : goal.tell_why-requires-clause-why
tell_why-requires-clause-why c =
    let refused = c.args.refused.now in
    let net = refused.looped.now.net in
    let explains : Explains net refused.vector.now (gate_of net refused.wire) c.in-Some.why = rw c.in-Some.is at c.in_ok-found.ensures.found in
    fits_netlist net refused.vector.now _ c.in-Some.why refused.at.width explains

pub returns : goal.returns
returns c =
    let refused = c.args.refused.now in
    let net = refused.looped.now.net in
    let explains : Explains net refused.vector.now (gate_of net refused.wire) c.in-Some.why = rw c.in-Some.is at c.in_ok-found.ensures.found in
    IfOk-weaker c.tell_why.result _ _ (λ told same.
    was_explained c.args.form net refused.vector.now refused.wire c.in-Some.why _ explains same)
    c.tell_why.ensures

pub unreachable-requires : goal.unreachable-requires
unreachable-requires c =
    let known = rw c.in-None.is at c.in_ok-found.ensures.none in
    known c.args.refused.now.unknown
