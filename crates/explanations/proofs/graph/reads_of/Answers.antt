use Rattle.std.proofs.Common.{arith, ◌≡◌, ◌+◌, length, ap, subst, ℕ}
use Rattle.std.proofs.lemmas.Result.{IfOk-weaker}
use Rattle.cyc_base.specs.declared.sig.Sig.{Sig}
use Rattle.netlist.specs.Netlists.{gate_at, gate_sig}
use Rattle.explanations.specs.Graph.{IsOpenSignal, HasOpenReads, ReadsOpen}
use Rattle.explanations.proofs.GraphLemmas.{reads_these}
use Rattle.explanations.proofs.graph.reads_of.Goals as goal

pub returns : goal.returns
returns c =
    let net = c.args.net.now in
    let known = c.args.known.now in
    let first : c.columns-first.result ≡ length net.inputs + length net.latches = c.columns-first.ensures.columns in
    let number : c.gate_sig.result.0 ≡ (gate_sig net c.args.gate).0 = ap (λ (s : Sig). s.0) c.gate_sig.ensures.sig in
    let is : IsOpenSignal (length net.inputs + length net.latches) known (gate_sig net c.args.gate).0 =
    subst (λ (n : ℕ). IsOpenSignal n known (gate_sig net c.args.gate).0) first
    (subst (λ (n : ℕ). IsOpenSignal (c.columns-first.result) known n) number (c.is_open.ensures.0 c.if-not-is_open.false)) in
    let same : c.gate-gate.result.now ≡ gate_at net c.args.gate = c.gate-gate.ensures.at in
    IfOk-weaker c.open_reads.result
    (λ reads. HasOpenReads (c.columns-first.result) known c.gate-gate.result.now (length c.gate-gate.result.now.pins) reads.items)
    (λ reads. ReadsOpen net known c.args.gate reads.items)
    (λ reads h. reads_these net known c.args.gate reads.items c.columns-first.ensures.valid c.requires.gate is (rw (first, same) at h)) c.open_reads.ensures

pub open_reads-requires-clause-within : goal.open_reads-requires-clause-within
open_reads-requires-clause-within c = grind arith

pub open_reads-requires-clause-size : goal.open_reads-requires-clause-size
open_reads-requires-clause-size c = grind arith
