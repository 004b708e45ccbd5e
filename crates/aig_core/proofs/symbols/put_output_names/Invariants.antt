use Rattle.std.proofs.Common.{take, map}
use Rattle.aig_core.proofs.Common.{codes, flat_map, enumerate_from, symbol_line, signal_name, IsAppendedWhole, sink_call}
use Rattle.aig_core.proofs.symbols.put_output_names.Given as goal

abbrev pub invariant-loop-place : goal.invariant-loop-place
invariant-loop-place g l = IsAppendedWhole (flat_map (λ item. symbol_line (codes "o") item.0 item.1) (take l.place (enumerate_from 0 (map (signal_name l.net) l.net.outputs)))) (sink_call g.K.Sink.put g.K.Sink.faults l.fn.sink l.sink)
