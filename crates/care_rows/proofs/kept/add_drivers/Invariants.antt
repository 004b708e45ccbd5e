use Rattle.std.proofs.Common.{◌≡◌, ◌++◌, map, take}
use Rattle.netlist.specs.Orders.{numbers_from}
use Rattle.care_rows.proofs.kept.add_drivers.Given as goal

abbrev pub invariant-loop-asked : goal.invariant-loop-asked
invariant-loop-asked l = l.gates.items ≡ l.initial.gates.items ++ numbers_from l.columns (map (λ e. e.wire) (take l.asked-index l.asked-items))
