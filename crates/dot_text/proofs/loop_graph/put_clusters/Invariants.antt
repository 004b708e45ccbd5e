use Rattle.std.proofs.Common.{length}
use Rattle.dot_text.proofs.Common.{IsAppendedWhole, sink_call, loops_of}
use Rattle.dot_text.specs.LoopGraphs.{loop_graph}
use Rattle.report.proofs.LoopTextLemmas.{told_first}
use Rattle.dot_text.proofs.loop_graph.put_clusters.Given as goal

abbrev pub invariant-loop-listed : goal.invariant-loop-listed
invariant-loop-listed g l =
    (goal.iterator-loop-listed g).can_next l.listed-iterator
    × IsAppendedWhole (told_first (loop_graph l.looped.net (loops_of l.looped.net)) l.looped.net (length l.yielded)) (sink_call g.K.Sink.put g.K.Sink.faults l.fn.sink l.sink)
