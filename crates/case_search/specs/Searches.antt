-- What cases are picked for.
use Rattle.std.specs.Prelude.{◌<◌, length, All}
use Rattle.ternary_run.specs.Reading.{IsFanoutOf}
use Rattle.case_search.specs.declared.cones.RegionCone.{RegionCone}

-- a netlist with some of its gates, and its fanout
pub record IsCone (cone : RegionCone) : Type 0 where
  pub gates_are : All (λ n. n < length cone.net.gates) cone.gates.items
  pub few : length cone.gates.items < 4294967295
  pub fanout_is : IsFanoutOf cone.net cone.fanout
