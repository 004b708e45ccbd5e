use Rattle.std.proofs.Common.{take}
use Rattle.std.specs.Prelude.{All}
use Rattle.cover_logic.specs.Covers.{IsCover}
use Rattle.rewriting.proofs.covers.have_covers.Given as goal

abbrev pub invariant-loop-i : goal.invariant-loop-i
invariant-loop-i l = All (λ gate. IsCover gate.cover) (take l.i l.net.gates)
