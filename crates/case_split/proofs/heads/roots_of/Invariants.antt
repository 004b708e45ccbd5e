use Rattle.std.proofs.Common.{map, take}
use Rattle.std.specs.Vec.{vec_items}
use Rattle.case_split.specs.Heads.{AreRoots}
use Rattle.case_split.proofs.heads.roots_of.Given as goal

abbrev pub invariant-loop-gate : goal.invariant-loop-gate
invariant-loop-gate l = AreRoots l.base.net.now l.cases (map vec_items l.tables) (take l.gate-index l.gates) l.fn.added.gates.items l.added.gates.items l.roots.items
