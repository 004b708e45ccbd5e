-- What is met on the way upstream: marks and weights of signals, gates and columns.
use Rattle.std.specs.Prelude.{◌≡◌, ◌<◌, ℕ, Bool, List, length, All}
use Rattle.netlist.specs.declared.parts.Parts.{Parts}
use Rattle.netlist.specs.Netlists.{count}
use Rattle.loops.specs.Sweeps.{first_gate}

pub record IsWay (net : Parts) (seen : List Bool) (weights gates columns : List ℕ) : Type 0 where
  pub width : length seen ≡ count net
  pub weighed : length weights ≡ count net
  pub gates_are : All (λ n. n < length net.gates) gates
  pub columns_are : All (λ column. column < first_gate net) columns
