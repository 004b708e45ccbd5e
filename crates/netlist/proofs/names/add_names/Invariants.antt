use Rattle.std.proofs.Common.{take, map}
use Rattle.netlist.specs.Naming.{AddsAll}
use Rattle.netlist.proofs.names.add_names.Given as goal

-- the items so far have been given their names
abbrev pub invariant-loop-item : goal.invariant-loop-item
invariant-loop-item g l = AddsAll l.initial.names.keys (map g.T.Named.bytes_of (take l.item-index l.items)) l.names.keys
