use Rattle.std.proofs.Common.{take}
use Rattle.blif_write.proofs.Common.{All, flat_map, IsCover, gate_text, IsAppendedWhole, sink_call}
use Rattle.blif_write.proofs.gates.put_gates.Given as goal

abbrev pub invariant-loop-i : goal.invariant-loop-i
invariant-loop-i g l = record {
  text : IsAppendedWhole (flat_map (gate_text l.net) (take l.i l.net.gates)) (sink_call g.K.Sink.put g.K.Sink.faults l.fn.sink l.sink);
  covers : All (λ gate. IsCover gate.cover) (take l.i l.net.gates);
}
