use Rattle.explanations.specs.Held.{AreChangedReaders}
use Rattle.explanations.proofs.held.changed_readers.Given as goal

abbrev pub invariant-loop-signal : goal.invariant-loop-signal
invariant-loop-signal l = AreChangedReaders l.net l.before l.known l.signal l.queue.items
