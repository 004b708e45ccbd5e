use Rattle.std.proofs.Common.{◌<◌, ℕ, get_or}
use Rattle.feedback_cuts.proofs.Common.{Sig, gate_at}
use Rattle.loops.specs.Links.{IsLoopSource}
use Rattle.feedback_cuts.proofs.kept.reads_itself.Given as goal

abbrev pub invariant-loop-pin : goal.invariant-loop-pin
invariant-loop-pin l = (j : ℕ) (d : Sig) → j < l.pin-index →
    ¬ IsLoopSource l.grouped.net l.grouped.blocks l.gate (get_or (gate_at l.grouped.net l.gate).pins j d) l.gate
