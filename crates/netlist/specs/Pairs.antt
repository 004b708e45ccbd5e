-- Pairs of wires of one netlist, and the vectors at which the two of a pair differ.
use Rattle.std.specs.Prelude.{Bool, true, false, List}
use Rattle.std.specs.List.{list_any}
use Rattle.cyc_base.specs.declared.trit.Trit.{Trit}
use Rattle.cyc_base.specs.declared.trit.Trit.TheVariants.{Zero, One, X}
use Rattle.cyc_base.specs.Values.{bits}
use Rattle.netlist.specs.declared.pair.Pair.{Pair}
use Rattle.netlist.specs.declared.parts.Parts.{Parts}
use Rattle.netlist.specs.Netlists.{IsSignal}
use Rattle.netlist.specs.Fixpoint.{wire, fix}

-- both wires are the netlist's
pub record IsPairOf (net : Parts) (pair : Pair) : Type 0 where
  pub here : IsSignal net pair.here
  pub there : IsSignal net pair.there

-- one value is 1, and the other 0
abbrev pub are_apart : Trit → Trit → Bool
are_apart Zero One = true
are_apart One Zero = true
are_apart Zero Zero = false
are_apart One One = false
are_apart Zero X = false
are_apart One X = false
are_apart X value = false

-- the wires of a pair are apart in the fixpoint at a vector
abbrev pub is_apart_at : Parts → List Bool → Pair → Bool
is_apart_at net v pair = are_apart (wire (fix net (bits v)) pair.here) (wire (fix net (bits v)) pair.there)

-- those of some pair are
abbrev pub some_is_apart : Parts → List Pair → List Bool → Bool
some_is_apart net pairs v = list_any (is_apart_at net v) pairs
