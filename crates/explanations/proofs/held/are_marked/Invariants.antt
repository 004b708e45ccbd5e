use Rattle.std.proofs.Common.{ℕ, ◌<◌, ◌≡◌, true, get_or}
use Rattle.netlist.specs.Netlists.{gate_sig, is_marked}
use Rattle.explanations.proofs.held.are_marked.Given as goal

abbrev pub invariant-loop-gate : goal.invariant-loop-gate
invariant-loop-gate l = (k : ℕ) → k < l.gate-index → is_marked l.marks (gate_sig l.net (get_or l.gates k 0)).0 ≡ true
