use Rattle.std.proofs.Common.{take}
use Rattle.report.proofs.Common.{flat_map, topic_text, IsAppendedWhole, sink_call}
use Rattle.report.proofs.help.put_topics.Given as goal

abbrev pub invariant-loop-topic : goal.invariant-loop-topic
invariant-loop-topic g l = IsAppendedWhole (flat_map topic_text (take l.topic-index l.topics)) (sink_call g.K.Sink.put g.K.Sink.faults l.fn.sink l.sink)
