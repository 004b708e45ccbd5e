-- Loops that are settled by themselves.
use Rattle.std.specs.Prelude.{◌≡◌, ◌<◌, ℕ, Bool, true, List, length}
use Rattle.netlist.specs.Netlists.{is_marked}
use Rattle.netlist.specs.declared.parts.Parts.{Parts}
use Rattle.loops.specs.declared.structure.Blocks.{Blocks}
use Rattle.loops.specs.Blocks.{block_at}
use Rattle.isolation.specs.Settled.{SettleInSweeps}

-- each loop at a marked place is settled by itself in one sweep
abbrev pub SettleInOneSweep : Parts → Blocks → List Bool → Type 0
SettleInOneSweep net blocks settled = (b : ℕ) → b < length blocks.list → (block_at blocks b).looped ≡ true → is_marked settled b ≡ true →
    SettleInSweeps net (block_at blocks b).gates 1
