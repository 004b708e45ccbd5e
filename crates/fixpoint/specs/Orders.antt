-- An order of a netlist's columns for the variables of diagrams: as gates first read them.
use Rattle.std.specs.Prelude.{◌≡◌, ◌<◌, ◌==◌, ◌++◌, ℕ, nat_lt, Bool, false, not, List, [], ◌∷◌, length, map, filter, slice_index_or}
use Rattle.std.specs.List.{flat_map, list_any, range_with_len}
use Rattle.bdd_ops.specs.Least.{by_variable}
use Rattle.cyc_base.specs.declared.sig.Sig.{Sig}
use Rattle.netlist.specs.declared.parts.Gate.{Gate}
use Rattle.netlist.specs.declared.parts.Parts.{Parts}
use Rattle.loops.specs.Sweeps.{first_gate}

-- each number of a list once, at its first place
abbrev pub each_once : List ℕ → List ℕ
each_once [] = []
each_once (n ∷ ns) = n ∷ filter (λ m. not (n == m)) (each_once ns)

-- the first so many signals among those that pins read
abbrev pub first_signals : ℕ → List Sig → List ℕ
first_signals n pins = filter (λ signal. nat_lt signal n) (map (λ pin. pin.0) pins)

-- the columns that gates read, gate by gate and pin by pin
abbrev pub columns_read : ℕ → List Gate → List ℕ
columns_read n gates = flat_map (λ gate. first_signals n gate.pins) gates

-- the columns by variable: as they are first read, and then the others by number
abbrev pub order : Parts → List ℕ
order net = each_once (columns_read (first_gate net) net.gates ++ range_with_len 0 (first_gate net))

-- a vector by column, by variable
abbrev pub laid : Parts → List Bool → List Bool
laid net v = by_variable (order net) v

-- the columns of a list are taken, each once, and marked
pub record AreTaken (from : List ℕ) (marks : List Bool) (columns : List ℕ) : Type 0 where
  pub taken : columns ≡ each_once from
  pub marked : (c : ℕ) → c < length marks → slice_index_or marks c false ≡ list_any (λ m. c == m) from
