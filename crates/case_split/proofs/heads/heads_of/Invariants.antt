use Rattle.case_split.specs.Heads.{AreHeads}
use Rattle.case_split.proofs.heads.heads_of.Given as goal

abbrev pub invariant-loop-gate : goal.invariant-loop-gate
invariant-loop-gate l = AreHeads l.base.net.now l.base.copied.now l.roots l.gate l.heads.items
