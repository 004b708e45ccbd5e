-- Walks from gate to gate along pins.
use Rattle.std.specs.Prelude.{◌<◌, ℕ, List, [], ◌∷◌, length, Contains}
use Rattle.netlist.specs.declared.parts.Parts.{Parts}
use Rattle.netlist.specs.Netlists.{gate_at, gate_sig}

-- gate a is a pin of gate b
pub record Feeds (net : Parts) (a b : ℕ) : Type 0 where
  pub source : a < length net.gates
  pub reader : b < length net.gates
  pub pin : Contains (gate_at net b).pins (gate_sig net a)

-- a walk of two or more gates, from a to b with these in between: each is a pin of the next
abbrev pub Walk : Parts → ℕ → List ℕ → ℕ → Type 0
Walk net a [] b = Feeds net a b
Walk net a (x ∷ via) b = Feeds net a x × Walk net x via b

-- no walk ends at the gate where it begins
abbrev pub IsLoopFree : Parts → Type 0
IsLoopFree net = (a : ℕ) (via : List ℕ) → ¬ Walk net a via a
