-- Rows without values that their others imply.
use Rattle.std.specs.Prelude.{◌≡◌, ◌+◌, ◌++◌, Bool, true, false, not, List, [], ◌∷◌, length, map, All}
use Rattle.cyc_base.specs.Values.{bit, bits}
use Rattle.netlist.specs.Netlists.{columns}
use Rattle.netlist.specs.Fixpoint.{fix, wire}
use Rattle.netlist.specs.declared.parts.Parts.{Parts}
use Rattle.care_rows.specs.Rows.{IsSteadySignal}
use Rattle.care_rows.specs.declared.rows.Row.{Row}
use Rattle.care_rows.specs.declared.rows.WireValue.{WireValue}

-- the wires have these values in the fixpoint
abbrev pub HaveValues : Parts → List Bool → List WireValue → Type 0
HaveValues net v values = All (λ e. wire (fix net (bits v)) e.wire ≡ bit e.value) values

-- each vector that has the others has this one
abbrev pub Implies : Parts → List WireValue → WireValue → Type 0
Implies net others e = (v : List Bool) → length v ≡ columns net → HaveValues net v others → wire (fix net (bits v)) e.wire ≡ bit e.value

-- Values of wires, fewer of them, that the same vectors have.
pub record IsThinned (net : Parts) (old new : List WireValue) : Type 0 where
  pub steady : All (λ e. IsSteadySignal net e.wire) old → All (λ e. IsSteadySignal net e.wire) new
  pub fewer : (v : List Bool) → HaveValues net v old → HaveValues net v new
  pub same : (v : List Bool) → length v ≡ columns net → HaveValues net v new → HaveValues net v old

-- a value is left out, or else nothing changes
abbrev pub HasTriedWithout : Parts → List WireValue → List WireValue → Bool → Type 0
HasTriedWithout net old new true = IsThinned net old new × (length new + 1 ≡ length old)
HasTriedWithout net old new false = new ≡ old

-- a row of one value
abbrev pub excluded_row : WireValue → Row
excluded_row e = record { values = e ∷ [] }

abbrev pub other_value : WireValue → WireValue
other_value e = record { wire = e.wire; value = not e.value }

-- rows that exclude each vector but those that have the others and not this value
abbrev pub refuted_rows : List WireValue → WireValue → List Row
refuted_rows others e = map (λ other. excluded_row (other_value other)) others ++ excluded_row e ∷ []
