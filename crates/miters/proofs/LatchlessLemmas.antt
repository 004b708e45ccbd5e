-- A netlist whose latches are taken as inputs: it stands where the netlist stands.
use Rattle.std.proofs.Common.{◌≡◌, ℕ, [], map, None, sym, arith}
use Rattle.miters.proofs.Common.{IsDistinct, append_assoc, length-append, length-map, Sig, Gate, Latch, Parts, signal_names, sig_eq, IsNetlist, first_gate, column_names}
use Rattle.miters.proofs.PartLemmas.{IsPartOf}

-- the latches are inputs, and nothing is an output
abbrev pub bare : Parts → Parts
bare net = record { name = net.name; inputs = column_names net; clock = None; latches = []; gates = net.gates; outputs = [] }

-- ---- its signals

pub first-bare : (net : Parts) → first_gate (bare net) ≡ first_gate net
first-bare net =
    let one = length-append net.inputs (map (λ (latch : Latch). latch.name) net.latches) in
    let two = length-map net.latches (λ (latch : Latch). latch.name) in
    omega (arith, one, two)

names-bare : (net : Parts) → signal_names net ≡ signal_names (bare net)
names-bare net = sym (append_assoc net.inputs (map (λ (latch : Latch). latch.name) net.latches) (map (λ (gate : Gate). gate.name) net.gates))

pub nothing_twice : IsDistinct sig_eq []
unfolding IsDistinct
nothing_twice = tt

pub valid-bare : (net : Parts) → IsNetlist net → IsNetlist (bare net)
valid-bare net valid = grind (arith, first-bare net, names-bare net, nothing_twice)

-- it stands where the netlist stands
pub part-of-bare : (net big : Parts) (at : Sig → Sig) (place : ℕ → ℕ) → IsPartOf net big at place → IsPartOf (bare net) big at place
part-of-bare net big at place part = grind (arith, first-bare net)
