use Rattle.std.proofs.Common.{arith}
use Rattle.std.proofs.lemmas.List.Elements.{All-more}
use Rattle.cyc_base.proofs.ListLemmas.{item_at}
use Rattle.blif_write.proofs.Common.{IsCover, Gate, gate_text, appended_none, appended_item, appended_in_item, appended_items}
use Rattle.blif_write.proofs.gates.put_gates.Goals as goal

pub loop-i-init : goal.loop-i-init
loop-i-init g c = record { text = appended_none _ _ _; covers = λ k d inside. absurd (omega (arith, inside)) }

pub loop-i-preserved : goal.loop-i-preserved
loop-i-preserved g c = record {
  text = appended_item (gate_text c.args.net.now) c.args.net.now.gates c.loop-i.i c.gate.result.now _ _ _ _ _ _ _ _ (omega arith) (item_at c.args.net.now.gates c.loop-i.i c.gate.result.now c.gate.ensures.gate) c.loop-i.invariant.text c.in_ok-put_gate.ensures.text;
  covers = All-more (λ (gate : Gate). IsCover gate.cover) c.args.net.now.gates c.loop-i.i c.gate.result.now (omega arith) c.loop-i.invariant.covers (rw (← item_at c.args.net.now.gates c.loop-i.i c.gate.result.now c.gate.ensures.gate) c.in_ok-put_gate.ensures.proper);
}

pub returns-in_err-put_gate-clause-text : goal.returns-in_err-put_gate-clause-text
returns-in_err-put_gate-clause-text g c = appended_in_item (gate_text c.args.net.now) c.args.net.now.gates c.loop-i.i c.gate.result.now _ _ _ _ _ _ _ _ _ (omega arith) (item_at c.args.net.now.gates c.loop-i.i c.gate.result.now c.gate.ensures.gate) c.loop-i.invariant.text c.in_err-put_gate.ensures.text c.from_residual.ensures.0

pub returns-clause-text : goal.returns-clause-text
returns-clause-text g c = appended_items (gate_text c.args.net.now) c.args.net.now.gates c.loop-i.i _ _ (omega arith) c.loop-i.invariant.text
