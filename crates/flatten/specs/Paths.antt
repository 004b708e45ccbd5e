-- Paths of instances, and the wire that a name means there.
use Rattle.std.specs.Prelude.{ℕ, List, [], ◌∷◌, ◌++◌, map, Some, None, option_map}
use Rattle.std.specs.declared.option.Option.{Option}
use Rattle.std.specs.Map.{lookup}
use Rattle.std.specs.Str.{bytes_eq}
use Rattle.netlist.specs.declared.parts.Clock.{Clock}
use Rattle.blif_read.specs.declared.models.GateLine.{GateLine}
use Rattle.blif_read.specs.declared.models.LatchLine.{LatchLine}
use Rattle.blif_read.specs.declared.models.PartLine.{PartLine}
use Rattle.flatten.specs.Wires.{Wire, printed}

-- an instance on the way from the top: its `.subckt` line, and the number of this line among those of its
-- model, counted from 1
pub record Instance : Type 0 where
  pub number : ℕ
  pub part : PartLine

-- a path has the innermost instance first, and its numbers the outermost
abbrev pub numbers : List Instance → List ℕ
numbers [] = []
numbers (o ∷ up) = numbers up ++ (o.number ∷ [])

-- what the pairs bind a formal to, if they do
abbrev pub actual_of : List (List ℕ × List ℕ) → List ℕ → Option (List ℕ)
actual_of pairs name = lookup (bytes_eq name) pairs

-- a bound formal stands for its actual in the parent, one level at a time; any other name is a wire there
abbrev pub climb : List Instance → List ℕ → Wire
climb [] name = record { path = []; name = name }
climb (o ∷ up) name =
    elim (actual_of o.part.pairs name) [
      | Some actual ↦ climb up actual
      | None ↦ record { path = numbers up ++ (o.number ∷ []); name = name }
    ]

-- the printed name of the wire that a name means on a path, where the file has this mark
abbrev pub name_at : List ℕ → List Instance → List ℕ → List ℕ
name_at m path name = printed m (climb path name)

-- a gate and a latch of the flat netlist: those of the line, with the printed name for each name
abbrev pub gate_at : List ℕ → List Instance → GateLine → GateLine
gate_at m path gate = record {
  pins = map (name_at m path) gate.pins;
  output = name_at m path gate.output;
  cover = gate.cover;
}

abbrev pub clock_at : List ℕ → List Instance → Clock → Clock
clock_at m path clock = record { edge = clock.edge; name = name_at m path clock.name }

abbrev pub latch_at : List ℕ → List Instance → LatchLine → LatchLine
latch_at m path latch = record {
  from = name_at m path latch.from;
  output = name_at m path latch.output;
  control = option_map (clock_at m path) latch.control;
  init = latch.init;
}
