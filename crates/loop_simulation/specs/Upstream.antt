-- What lies upstream of a loop, as far as it is relied on: columns and blocks of the netlist.
use Rattle.std.specs.Prelude.{◌<◌, length, All}
use Rattle.netlist.specs.Netlists.{columns}
use Rattle.loop_simulation.specs.declared.upstream.Upstream.{Upstream}
use Rattle.loop_simulation.specs.LoopsAt.{LoopAt}

pub record IsUpstreamIn (l : LoopAt) (u : Upstream) : Type 0 where
  pub columns : All (λ column. column < columns l.net) u.columns.items
  pub blocks : All (λ place. place < length l.blocks.list) u.blocks.items
