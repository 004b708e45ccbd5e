use Rattle.std.proofs.Common.{◌≡◌, ◌<◌, ℕ, Bool, List, true, length}
use Rattle.std.specs.List.{Contains}
use Rattle.loop_simulation.proofs.Common.{bits, columns, fix, is_cut, CutsAreFixed, sweeps, value_in, IsReady, gates_in, loops_in}
use Rattle.loop_simulation.proofs.simulating.count_in.Given as goal

abbrev pub invariant-loop-sweeps : goal.invariant-loop-sweeps
invariant-loop-sweeps l = record {
  ready : IsReady l.simulation.block.now l.simulation.outside.now l.before.items l.after.items l.waiting.items;
  at : (v : List Bool) → l.simulation.outside.now ≡ fix l.simulation.block.now.net (bits v) → (n : ℕ) → Contains (gates_in l.simulation.block.now) n → is_cut l.simulation.block.now.cut.wires n ≡ true → value_in l.before.items n ≡ value_in (sweeps l.simulation.block.now.net (loops_in l.simulation.block.now) (bits v) l.sweeps) n;
  more : (v : List Bool) → length v ≡ columns l.simulation.block.now.net → l.simulation.outside.now ≡ fix l.simulation.block.now.net (bits v) → (a j : ℕ) → Contains (gates_in l.simulation.block.now) a → j < l.sweeps → ¬ CutsAreFixed l.simulation.block.now.net (loops_in l.simulation.block.now) (bits v) a j;
}
