use Rattle.std.proofs.Common.{◌≡◌, ◌≢◌, ◌⊎◌, ℕ, true}
use Rattle.netlist.specs.Netlists.{is_marked}
use Rattle.loop_simulation.proofs.Common.{X, wire, gate_sig}
use Rattle.loop_simulation.proofs.known.mark_known.Given as goal

abbrev pub invariant-loop-gate : goal.invariant-loop-gate
invariant-loop-gate l = (n : ℕ) → is_marked l.known n ≡ true → (is_marked l.fn.known n ≡ true) ⊎ (wire l.values (gate_sig l.net n) ≢ X)
