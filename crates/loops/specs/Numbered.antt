-- The loops of a netlist in the order of their first gates.
use Rattle.std.specs.Prelude.{◌≡◌, ◌≤◌, ◌<◌, ℕ, ◌+◌, ◌-◌, List, [], ◌∷◌, length, filter}
use Rattle.std.specs.List.{range_with_len}
use Rattle.netlist.specs.declared.parts.Parts.{Parts}
use Rattle.loops.specs.Listed.{begins_with, first_gates, loop_of}

-- a loop by its number, its first gate, and its gates
pub record Listed : Type 0 where
  pub number : ℕ
  pub first : ℕ
  pub gates : List ℕ

-- the loops that begin at these gates, numbered from here on
abbrev pub numbered : Parts → ℕ → List ℕ → List Listed
numbered net number [] = []
numbered net number (first ∷ rest) = record { number = number; first = first; gates = loop_of net first } ∷ numbered net (number + 1) rest

abbrev pub listed_loops : Parts → List Listed
listed_loops net = numbered net 1 (first_gates net)

-- the first gates of loops, from gate n on
abbrev pub first_gates_from : Parts → ℕ → List ℕ
first_gates_from net n = filter (λ g. begins_with (loop_of net g) g) (range_with_len n (length net.gates - n))

-- behind gate n the next loop begins at gate `first`, and has these gates
pub record IsNextLoop (net : Parts) (n first : ℕ) (gates : List ℕ) : Type 0 where
  pub next : first_gates_from net n ≡ first ∷ first_gates_from net (first + 1)
  pub later : n ≤ first
  pub few : first + 1 ≤ 4294967295
  pub are : gates ≡ loop_of net first

-- a loop of the netlist
pub record IsLoopOf (net : Parts) (l : Listed) : Type 0 where
  pub first : l.first < length net.gates
  pub gates : l.gates ≡ loop_of net l.first
