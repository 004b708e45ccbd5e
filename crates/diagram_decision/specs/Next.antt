-- What latches load at the vectors of a set.
use Rattle.std.specs.Prelude.{Bool, List, length, replicate, if◌then◌else◌}
use Rattle.bdd_store.specs.declared.node.Node.{Node}
use Rattle.bdd_store.specs.Arena.{Arena, den}
use Rattle.cyc_base.specs.declared.trit.Trit.{Trit}
use Rattle.cyc_base.specs.declared.trit.Trit.TheVariants.{X}
use Rattle.cyc_base.specs.Values.{bits}
use Rattle.netlist.specs.declared.parts.Parts.{Parts}
use Rattle.netlist.specs.Fixpoint.{next}
use Rattle.fixpoint.specs.Orders.{laid}

-- the latches' next values at a vector of the set, and X elsewhere
abbrev pub next_within : Parts → Arena → Node → List Bool → List Trit
next_within net a set v = if den a set (laid net v) then next net (bits v) else replicate (length net.latches) X
