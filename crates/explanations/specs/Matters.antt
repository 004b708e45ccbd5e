-- The pins that matter where some pins are unknown, and the steps from gate to gate along them.
use Rattle.std.specs.Prelude.{◌≡◌, ◌≢◌, ◌<◌, ℕ, Bool, true, false, not, List, length, map, slice_get, slice_index_or, slice_set, zip, Some}
use Rattle.cyc_base.specs.declared.trit.Trit.{Trit}
use Rattle.cyc_base.specs.declared.trit.Trit.TheVariants.{Zero, One, X}
use Rattle.cyc_base.specs.Values.{Completes}
use Rattle.cover_logic.specs.declared.row.Lit.{Lit}
use Rattle.cover_logic.specs.declared.row.Lit.TheVariants as lit
use Rattle.cover_logic.specs.declared.row.Row.{Row}
use Rattle.cover_logic.specs.Covers.{Cover, matches, value}
use Rattle.netlist.specs.declared.parts.Parts.{Parts}
use Rattle.netlist.specs.Fixpoint.{wire}
use Rattle.netlist.specs.Netlists.{gate_at, gate_sig}

-- the values, with that of one pin flipped
abbrev pub flipped : List Bool → ℕ → List Bool
flipped values pin = slice_set values pin (not (slice_index_or values pin false))

-- An unknown pin matters where some values of the unknown pins let a flip of this one flip the cover: its Boolean
-- difference is not 0 at what is known of the pins (Akers 1959).
pub record Matters (cover : Cover) (trits : List Trit) (pin : ℕ) : Type 0 where
  pub unknown : slice_get trits pin ≡ Some X
  pub values : List Bool
  pub completes : Completes trits values
  pub flips : value cover (flipped values pin) ≢ value cover values

-- a flip of gate a may flip gate b: it is on a pin of b that matters where the signals have these values
pub record Sways (net : Parts) (known : List Trit) (a b : ℕ) : Type 0 where
  pub source : a < length net.gates
  pub reader : b < length net.gates
  pub pin : ℕ
  pub reads : slice_get (gate_at net b).pins pin ≡ Some (gate_sig net a)
  pub matters : Matters (gate_at net b).cover (map (wire known) (gate_at net b).pins) pin

-- ---- the code's own

-- what is known of a pin where a row matches, and of all pins
abbrev pub met : Lit → Trit → Trit
met lit.Zero X = Zero
met lit.One X = One
met literal trit = trit

abbrev pub cube_of : List Lit → List Trit → List Trit
cube_of lits trits = map (λ pin. met pin.0 pin.1) (zip lits trits)

-- the pin matters by values at which this row matches
pub record MattersBy (cover : Cover) (row : Row) (trits : List Trit) (pin : ℕ) : Type 0 where
  pub values : List Bool
  pub completes : Completes trits values
  pub matched : matches row.lits values ≡ true
  pub flips : value cover (flipped values pin) ≢ value cover values
