-- The table of drivers, and the signal that it gives a name.
use Rattle.std.specs.Prelude.{◌≡◌, ◌+◌, ◌-◌, ◌≤◌, ℕ, nat_lt, Bool, not, if◌then◌else◌, List, [], length, Some, None, option_map, position, is_some, unwrap_or}
use Rattle.std.specs.declared.option.Option.{Option}
use Rattle.std.specs.List.{find}
use Rattle.std.specs.Option.{option_or, option_and_then}
use Rattle.std.specs.Str.{bytes_eq}
use Rattle.cyc_base.specs.declared.sig.Sig.{Sig}
use Rattle.netlist.specs.Netlists.{signal}
use Rattle.blif_read.specs.declared.models.BlifModel.{BlifModel}
use Rattle.blif_read.specs.declared.models.LatchLine.{LatchLine}
use Rattle.flatten.specs.declared.fault.FlatFault.{FlatFault}
use Rattle.flatten.specs.declared.fault.FlatFault.TheVariants.{Undriven}
use Rattle.flatten.specs.declared.link.Drivers.{Drivers as DriverTable}
use Rattle.flatten.specs.Instances.{is_among}
use Rattle.flatten.specs.Walk.{FlatLines}
use Rattle.flatten.specs.Linking.{own_clocks, drivers, bad_clock}

-- the table of the drivers of these lines
pub record IsDriversOf (top : BlifModel) (lines : FlatLines) (table : DriverTable) : Type 0 where
  pub names : table.names.keys ≡ drivers top lines
  pub inputs : table.inputs ≡ length top.inputs
  pub clocks : table.clocks ≡ length (own_clocks top)

-- the numbers of its signals fit
pub record HasSignals (table : DriverTable) : Type 0 where
  pub within : table.inputs + table.clocks ≤ length table.names.keys
  pub fit : length table.names.keys ≤ table.clocks + 4294967295

-- the signal of the driver at this place, where the clocks stand behind the inputs and are no signals
abbrev pub sig_of_place : ℕ → ℕ → ℕ → Option Sig
sig_of_place inputs clocks place =
    if nat_lt place inputs then Some (signal place)
    else (if nat_lt place (inputs + clocks) then None else Some (signal (place - clocks)))

abbrev pub sig_at : DriverTable → List ℕ → Option Sig
sig_at table name = option_and_then (sig_of_place table.inputs table.clocks) (position (bytes_eq name) table.names.keys)

-- the same, where a name without a signal has 0
abbrev pub sig_or : DriverTable → List ℕ → Sig
sig_or table name = unwrap_or (sig_at table name) (signal 0)

-- a name without a signal
abbrev pub is_unread : DriverTable → List ℕ → Bool
is_unread table name = not (is_some (sig_at table name))

-- the fault at the first of these names that no driver has
abbrev pub undriven_among : DriverTable → List (List ℕ) → Option FlatFault
undriven_among table names = option_map Undriven (find (λ name. not (is_among table.names.keys name)) names)

-- the fault at the first of these latches whose control is bad
abbrev pub bad_clock_among : BlifModel → List LatchLine → Option FlatFault
bad_clock_among top latches = bad_clock top (record { latches = latches; gates = [] })

-- these names were read: each is a driver's, and the first clock among them is noted, unless one was before
pub record AreRead (table : DriverTable) (names : List (List ℕ)) (before after : Option (List ℕ)) : Type 0 where
  pub driven : undriven_among table names ≡ None
  pub clock : after ≡ option_or before (find (is_unread table) names)
