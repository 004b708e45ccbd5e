-- What is true of all that the walk prints.
use Rattle.std.specs.Prelude.{◌≡◌, ℕ, List, length, All}
use Rattle.cyc_base.specs.Names.{IsBlifByte, IsBlifName}
use Rattle.blif_read.specs.Flattening.{CanBeFlattened}
use Rattle.blif_read.specs.declared.models.BlifModel.{BlifModel}
use Rattle.blif_read.specs.declared.models.GateLine.{GateLine}
use Rattle.blif_read.specs.declared.models.LatchLine.{LatchLine}
use Rattle.flatten.specs.declared.walk.Level.{Level}
use Rattle.flatten.specs.declared.walk.Walk.{Walk}
use Rattle.flatten.specs.Walk.{FlatLines}

-- a gate with a BLIF name and as many pins as its cover
pub record IsPrintedGate (gate : GateLine) : Type 0 where
  pub output : IsBlifName gate.output
  pub width : length gate.pins ≡ gate.cover.pins

abbrev pub IsPrintedLatch : LatchLine → Type 0
IsPrintedLatch latch = IsBlifName latch.output

-- a formal that is bound to a BLIF name
abbrev pub IsPrintedPair : (List ℕ × List ℕ) → Type 0
IsPrintedPair pair = IsBlifName pair.1

pub record IsPrintedLevel (level : Level) : Type 0 where
  pub prefix : All IsBlifByte level.scope.prefix
  pub table : All IsPrintedPair level.scope.table.entries

pub record IsPrinted (walk : Walk) : Type 0 where
  pub levels : All IsPrintedLevel walk.levels.items
  pub latches : All IsPrintedLatch walk.latches.items
  pub gates : All IsPrintedGate walk.gates.items

-- the same of the lines that are collected
pub record ArePrintedLines (lines : FlatLines) : Type 0 where
  pub latches : All IsPrintedLatch lines.latches
  pub gates : All IsPrintedGate lines.gates

-- a step keeps this
abbrev pub PrintsOn : List BlifModel → Walk → Level → Walk → Type 0
PrintsOn models old level new = CanBeFlattened models → IsPrintedLevel level → IsPrinted old → IsPrinted new
