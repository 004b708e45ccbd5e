use Rattle.std.proofs.Common.{length}
use Rattle.report.proofs.Common.{IsAppendedWhole, sink_call, loop_lines}
use Rattle.report.proofs.LoopTextLemmas.{told_first}
use Rattle.report.proofs.loop_text.put_each_loop.Given as goal

abbrev pub invariant-loop-listed : goal.invariant-loop-listed
invariant-loop-listed g l =
    (goal.iterator-loop-listed g).can_next l.listed-iterator
    × IsAppendedWhole (told_first (loop_lines l.looped.net) l.looped.net (length l.yielded)) (sink_call g.K.Sink.put g.K.Sink.faults l.fn.sink l.sink)
