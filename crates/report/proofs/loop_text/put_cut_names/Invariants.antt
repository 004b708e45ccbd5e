use Rattle.std.proofs.Common.{take}
use Rattle.report.proofs.Common.{flat_map, if◌then◌else◌, loops_of, gate_name, IsAppendedWhole, sink_call}
use Rattle.std.proofs.Common.{[]}
use Rattle.report.proofs.loop_text.put_cut_names.Given as goal

abbrev pub invariant-loop-gate : goal.invariant-loop-gate
invariant-loop-gate g l = IsAppendedWhole (flat_map (λ gate. if (loops_of l.looped.net).cut gate then gate_name l.looped.net gate else []) (take l.gate-index l.gates)) (sink_call g.K.Sink.put g.K.Sink.faults l.fn.sink l.sink)
