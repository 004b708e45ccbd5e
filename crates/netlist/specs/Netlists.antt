-- What a netlist is, and the numbers and names of its signals.
use Rattle.std.specs.Prelude.{◌≡◌, ◌≢◌, ◌≤◌, ◌<◌, ◌+◌, ◌++◌, ◌==◌, ◌||◌, ℕ, Bool, true, false, List, [], length, map, All, IfSome, is_some, slice_index_or, codes}
use Rattle.std.specs.List.{IsDistinct, list_any}
use Rattle.std.specs.Str.{bytes_eq}
use Rattle.cyc_base.specs.Names.{IsBlifName}
use Rattle.cyc_base.specs.declared.sig.Sig.{Sig}
use Rattle.netlist.specs.declared.parts.Gate.{Gate}
use Rattle.netlist.specs.declared.parts.Parts.{Parts}

-- the signal of this number
abbrev pub signal : ℕ → Sig
signal n = record { 0 = n }

-- how many signals there are: first the inputs, then the latches, then the gates
abbrev pub count : Parts → ℕ
count net = length net.inputs + length net.latches + length net.gates

-- the signal of a gate
abbrev pub gate_sig : Parts → ℕ → Sig
gate_sig net n = signal (length net.inputs + length net.latches + n)

-- a gate without pins and rows: its value is 0
abbrev pub no_gate : Gate
no_gate = record { name = []; pins = []; cover = record { pins = 0; plane = true; rows = [] } }

-- a gate by its number
abbrev pub gate_at : Parts → ℕ → Gate
gate_at net n = slice_index_or net.gates n no_gate

-- the names of the signals that latches and gates drive
abbrev pub driven_names : Parts → List (List ℕ)
driven_names net = map (λ latch. latch.name) net.latches ++ map (λ gate. gate.name) net.gates

-- the names of all signals, in the order of their numbers
abbrev pub signal_names : Parts → List (List ℕ)
signal_names net = net.inputs ++ driven_names net

-- the name of a signal, and the names of the outputs
abbrev pub signal_name : Parts → Sig → List ℕ
signal_name net s = slice_index_or (signal_names net) s.0 []

abbrev pub output_names : Parts → List (List ℕ)
output_names net = map (signal_name net) net.outputs

-- how many columns a vector has: the inputs, and then the latches
abbrev pub columns : Parts → ℕ
columns net = length net.inputs + length net.latches

-- whether a gate or a signal is marked, by a list with one entry for each
abbrev pub is_marked : List Bool → ℕ → Bool
is_marked marks n = slice_index_or marks n false

-- a latch or a gate has this name
abbrev pub is_driven : Parts → List ℕ → Bool
is_driven net name =
    list_any (λ latch. bytes_eq name latch.name) net.latches || list_any (λ gate. bytes_eq name gate.name) net.gates

-- the netlist with other gates and outputs
abbrev pub with_gates : Parts → List Gate → List Sig → Parts
with_gates net gates outputs = record { name = net.name; inputs = net.inputs; clock = net.clock; latches = net.latches; gates = gates; outputs = outputs }

abbrev pub IsSignal : Parts → Sig → Type 0
IsSignal net s = s.0 < count net

-- two signals are one
abbrev pub sig_eq : Sig → Sig → Bool
sig_eq a b = a.0 == b.0

-- a name that a clock may have: no latch and no gate drives it
pub record IsClockName (net : Parts) (name : List ℕ) : Type 0 where
  pub blif : IsBlifName name
  pub named : name ≢ codes "NIL"
  pub undriven : is_driven net name ≡ false

-- parts that make a netlist
pub record IsNetlist (net : Parts) : Type 0 where
  pub fits : count net ≤ 4294967295
  pub pins : All (λ gate. All (IsSignal net) gate.pins) net.gates
  pub sources : All (λ latch. IsSignal net latch.from) net.latches
  pub outputs : All (IsSignal net) net.outputs
  pub pin_counts : All (λ gate. length gate.pins ≡ gate.cover.pins) net.gates
  pub name : IsBlifName net.name
  pub names : All IsBlifName (signal_names net)
  pub names_differ : IsDistinct bytes_eq (signal_names net)
  pub outputs_differ : IsDistinct sig_eq net.outputs
  pub clocked : list_any (λ latch. latch.clocked) net.latches ≡ is_some net.clock
  pub clock : IfSome net.clock (λ clock. IsClockName net clock.name)
