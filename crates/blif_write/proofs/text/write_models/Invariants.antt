use Rattle.std.proofs.Common.{take}
use Rattle.blif_write.proofs.Common.{All, flat_map, IsNetlist, IsAppendedWhole, sink_call}
use Rattle.blif_write.specs.Laws.{HasCovers}
use Rattle.blif_write.specs.Written.{written}
use Rattle.blif_write.proofs.text.write_models.Given as goal

abbrev pub invariant-loop-net : goal.invariant-loop-net
invariant-loop-net g l = record {
  text : IsAppendedWhole (flat_map (λ net. written net.now) (take l.net-index l.nets)) (sink_call g.K.Sink.put g.K.Sink.faults l.fn.sink l.sink);
  covers : All (λ net. HasCovers net.now) (take l.net-index l.nets);
  valid : All (λ net. IsNetlist net.now) (take l.net-index l.nets);
}
