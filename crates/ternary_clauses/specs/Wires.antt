-- Rails for the gates of a netlist, and gates that are bound one after another.
use Rattle.std.specs.Prelude.{◌≡◌, ℕ, ◌<◌, ◌+◌, Bool, true, false, List, length, All, map, ◌++◌, slice_index_or}
use Rattle.cyc_base.specs.declared.sig.Sig.{Sig}
use Rattle.cyc_base.specs.declared.trit.Trit.{Trit}
use Rattle.cyc_base.specs.declared.trit.Trit.TheVariants.{X}
use Rattle.netlist.specs.declared.parts.Gate.{Gate}
use Rattle.netlist.specs.declared.parts.Parts.{Parts}
use Rattle.netlist.specs.Netlists.{gate_at, is_marked}
use Rattle.netlist.specs.Fixpoint.{wires, gate_value}
use Rattle.loops.specs.Sweeps.{first_gate, value_in}
use Rattle.clause_formulas.specs.declared.formula.Formula.{Formula}
use Rattle.ternary_clauses.specs.declared.rails.Rails.{Rails}
use Rattle.clause_formulas.specs.Formulas.{IsModel, HasModelFrom, Grows}
use Rattle.ternary_clauses.specs.Rails.{is_known, Reads, AreWithin, AreRailsOf, no_rails, rails_at}
use Rattle.ternary_clauses.specs.Encoding.{IsWanted, IsStill, gate_rails, ReadsGates, Fits}

-- a model, with values for these further variables, in which the rails stand for this value
pub record TakesValue (f : Formula) (r : Rails) (m : List Bool) (t : Trit) : Type 0 where
  pub more : List Bool
  pub width : length (m ++ more) ≡ f.variables
  pub model : IsModel (m ++ more) f
  pub reads : Reads (m ++ more) r t

-- The new formula says nothing but that new rails stand for a value, which may be each, or each that is known.
pub record HasNewRails (old new : Formula) (sure : Bool) (r : Rails) : Type 0 where
  pub grows : Grows old new
  pub own : AreRailsOf new r
  pub known : sure ≡ true → r.known ≡ 0
  pub takes : (m : List Bool) (t : Trit) → (sure ≡ true → is_known t ≡ true) → length m ≡ old.variables → IsModel m old → TakesValue new r m t

-- the rails of a gate's pins
abbrev pub pin_rails : List Rails → Gate → List Rails
pin_rails rails gate = map (λ (pin : Sig). rails_at rails pin.0) gate.pins

-- under the assignment the rails of the wanted ones of the first k gates stand for their values in the state
abbrev pub ReadsFirst : Parts → List Bool → ℕ → List Rails → List Bool → List Trit → Type 0
ReadsFirst net wanted k rails m s = (n : ℕ) → IsWanted net wanted n → n < k → Reads m (gate_rails net rails n) (value_in s n)

-- a model, with values for these further variables, that reads as a state of the first k gates
pub record HasFirst (net : Parts) (wanted : List Bool) (k : ℕ) (f : Formula) (rails : List Rails) (m : List Bool) (s : List Trit) : Type 0 where
  pub more : List Bool
  pub width : length (m ++ more) ≡ f.variables
  pub model : IsModel (m ++ more) f
  pub reads : ReadsFirst net wanted k rails (m ++ more) s

-- The first k gates have rails, which may stand for each state in which no marked one is X.
pub record AreWires (net : Parts) (wanted never : List Bool) (given : List Rails) (old new : Formula) (rails : List Rails) (k : ℕ) : Type 0 where
  pub grows : Grows old new
  pub within : All (AreWithin new.variables) rails
  pub size : length rails ≡ first_gate net + k
  pub columns : (n : ℕ) → n < first_gate net → rails_at rails n ≡ rails_at given n
  pub others : (n : ℕ) → n < k → is_marked wanted n ≡ false → gate_rails net rails n ≡ no_rails
  pub own : (n : ℕ) → IsWanted net wanted n → n < k → AreRailsOf new (gate_rails net rails n)
  pub complete : (m : List Bool) (s : List Trit) → length m ≡ old.variables → IsModel m old → Fits net wanted never s →
      HasFirst net wanted k new rails m s

-- under the assignment the rails of the columns and of the wanted gates stand for these values
pub record ReadsSignals (net : Parts) (wanted : List Bool) (rails : List Rails) (m : List Bool) (v s : List Trit) : Type 0 where
  pub width : length v ≡ first_gate net
  pub columns : (n : ℕ) → n < first_gate net → Reads m (rails_at rails n) (slice_index_or v n X)
  pub gates : ReadsGates net wanted rails m s

-- The wanted ones of the first k gates are bound to their pins.
pub record AreBound (net : Parts) (wanted : List Bool) (rails : List Rails) (old new : Formula) (k : ℕ) : Type 0 where
  pub grows : Grows old new
  pub reads : (m : List Bool) (v s : List Trit) → IsModel m new → ReadsSignals net wanted rails m v s →
      (n : ℕ) → IsWanted net wanted n → n < k → Reads m (gate_rails net rails n) (gate_value (wires v s) (gate_at net n))
  pub complete : (m : List Bool) (v s : List Trit) → length m ≡ old.variables → IsModel m old → ReadsSignals net wanted rails m v s →
      IsStill net wanted v s → HasModelFrom new m
