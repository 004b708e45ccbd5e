-- Which pins read which signals.
use Rattle.std.specs.Prelude.{◌+◌, ◌++◌, ◌==◌, ℕ, Bool, List, [], ◌∷◌, map, filter}
use Rattle.std.specs.List.Sorted.{IsPermutation, IsNonDecreasingBy}
use Rattle.cyc_base.specs.declared.sig.Sig.{Sig}
use Rattle.netlist.specs.declared.parts.Gate.{Gate}
use Rattle.netlist.specs.declared.parts.Parts.{Parts}
use Rattle.ternary_run.specs.declared.fanout.Read.{Read}

-- the pins of the gate of this number
abbrev pub reads_of_pins : ℕ → List Sig → List Read
reads_of_pins gate = map (λ signal. record { signal = signal; gate = gate })

-- those of gates whose numbers begin at n
abbrev pub reads_from : ℕ → List Gate → List Read
reads_from n [] = []
reads_from n (gate ∷ gates) = reads_of_pins n gate.pins ++ reads_from (n + 1) gates

-- the pins of all gates, gate by gate
abbrev pub reads : Parts → List Read
reads net = reads_from 0 net.gates

abbrev pub reads_signal : Sig → Read → Bool
reads_signal signal read = read.signal.0 == signal.0

-- the gates that read a signal, once for each pin
abbrev pub readers_of : List Read → Sig → List ℕ
readers_of list signal = map (λ read. read.gate) (filter (reads_signal signal) list)

-- the pins of all gates, in the order of the signals that they read
pub record IsFanoutOf (net : Parts) (list : List Read) : Type 0 where
  pub complete : IsPermutation (reads net) list
  pub sorted : IsNonDecreasingBy (λ read. read.signal.0) list
