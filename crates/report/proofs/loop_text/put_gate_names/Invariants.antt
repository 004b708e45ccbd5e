use Rattle.std.proofs.Common.{take}
use Rattle.report.proofs.Common.{flat_map, gate_name, IsAppendedWhole, sink_call}
use Rattle.report.proofs.loop_text.put_gate_names.Given as goal

abbrev pub invariant-loop-gate : goal.invariant-loop-gate
invariant-loop-gate g l = IsAppendedWhole (flat_map (gate_name l.net) (take l.gate-index l.gates)) (sink_call g.K.Sink.put g.K.Sink.faults l.fn.sink l.sink)
