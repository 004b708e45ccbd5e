-- The rails of what latches load.
use Rattle.std.specs.Prelude.{◌<◌, ◌≤◌, ◌-◌, ℕ, false, List, [], length, map, All, slice_index_or}
use Rattle.netlist.specs.declared.parts.Init.TheVariants.{Zero}
use Rattle.netlist.specs.declared.parts.Latch.{Latch}
use Rattle.netlist.specs.declared.parts.Parts.{Parts}
use Rattle.netlist.specs.Netlists.{signal}
use Rattle.ternary_clauses.specs.declared.rails.Rails.{Rails}
use Rattle.ternary_clauses.specs.Rails.{rails_at}

-- a latch that loads the first signal
abbrev pub no_latch : Latch
no_latch = record { name = []; from = signal 0; init = Zero; clocked = false }

-- the latch of a column
abbrev pub latch_of : Parts → ℕ → Latch
latch_of net column = slice_index_or net.latches (column - length net.inputs) no_latch

-- the rails of what it loads
abbrev pub load_rails : Parts → List Rails → ℕ → Rails
load_rails net rails column = rails_at rails (latch_of net column).from.0

abbrev pub loads_rails : Parts → List Rails → List ℕ → List Rails
loads_rails net rails columns = map (load_rails net rails) columns

-- the columns are those of latches
pub record AreLatchColumns (net : Parts) (columns : List ℕ) : Type 0 where
  pub late : All (λ column. length net.inputs ≤ column) columns
  pub within : All (λ column. column - length net.inputs < length net.latches) columns
