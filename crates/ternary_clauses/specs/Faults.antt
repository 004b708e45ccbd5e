-- When clauses are too many: variables run out, or a gate's cover has too large a diagram.
use Rattle.std.specs.Prelude.{ℕ, ◌+◌, ◌<◌, Bool, List, Contains}
use Rattle.cover_logic.specs.Covers.{Cover}
use Rattle.dual_rail.specs.Local.{size}
use Rattle.netlist.specs.declared.parts.Parts.{Parts}
use Rattle.netlist.specs.Netlists.{gate_at}
use Rattle.clause_formulas.specs.declared.formula.Formula.{Formula}
use Rattle.ternary_clauses.specs.Encoding.{IsWanted}

-- no three variables more have room
abbrev pub IsFull : Formula → Type 0
IsFull f = 2147483647 < f.variables + 3

-- the size of a cover is over the most nodes of a diagram
abbrev pub IsLarge : Cover → Type 0
IsLarge cover = 262144 < size cover

-- a wanted gate whose cover is large
pub record HasLargeGate (net : Parts) (wanted : List Bool) : Type 0 where
  pub gate : ℕ
  pub is_wanted : IsWanted net wanted gate
  pub large : IsLarge (gate_at net gate).cover

-- one of these gates whose cover is large
pub record HasLargeIn (net : Parts) (gates : List ℕ) : Type 0 where
  pub gate : ℕ
  pub listed : Contains gates gate
  pub large : IsLarge (gate_at net gate).cover
