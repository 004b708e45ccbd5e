use Rattle.std.proofs.Common.{rules, arith, inl, inr}
use Rattle.cyc_io.proofs.memory_sink.MemorySinkSink.write.Goals as goal
use Rattle.cyc_io.proofs.memory_sink.MemorySinkSink.write.Goals.{then-count-eq0-via-then-count-eq0, then-count-eq0-via-else-count-eq0+then-contains}

pub returns-then-count-eq0-clause-fails : goal.returns-then-count-eq0-clause-fails
returns-then-count-eq0-clause-fails c = rw (← c.self.view_is) (elim c.then-count-eq0.branch [
  | then-count-eq0-via-then-count-eq0 w ↦ inr (grind (arith, c.self.invariant.2, c.requires))
  | then-count-eq0-via-else-count-eq0+then-contains w ↦ inl (rw (← w.deref.ensures.value) (search rules))
])
