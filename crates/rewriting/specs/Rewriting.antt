-- The netlist without loops that an accepted netlist is rewritten into, on its care set, and what a user has of it.
use Rattle.std.specs.Prelude.{◌≡◌, ◌<◌, ℕ}
use Rattle.cyc_base.specs.declared.limits.TheConstants.{MAX_REWRITTEN_ITEMS}
use Rattle.netlist.specs.declared.parts.Parts.{Parts}
use Rattle.netlist.specs.Walks.{IsLoopFree}
use Rattle.loops.specs.Found.{loops_of}
use Rattle.care_sets.specs.Care.{CareSet}
use Rattle.schedules.specs.Accepted.{TellsAsMuch}
use Rattle.schedules.specs.Settling.{Same}
use Rattle.unroll.specs.Counted.{Counted}
use Rattle.unroll.specs.Unrolled.{unrolled, unrolled_size}
use Rattle.unroll.specs.declared.fault.UnrollFault.{UnrollFault}
use Rattle.unroll.specs.declared.fault.UnrollFault.TheVariants.{TooLarge, Memory}
use Rattle.loop_simulation.specs.Sweeping.{AreSweepsOnCare, sweeps_needed}
use Rattle.blif_write.specs.Laws.{ReadsBack}

-- each loop is counted with the sweeps that it needs on care
abbrev pub IsCountedOnCare : Counted → CareSet → Type 0
IsCountedOnCare counted care = AreSweepsOnCare counted.net counted.blocks counted.cut care counted.sweeps

-- the rewritten netlist: for each sweep that a loop needs on care a copy of the loop's gates, and then the gates
abbrev pub rewritten : Parts → CareSet → Parts
rewritten net care = unrolled net (loops_of net) (sweeps_needed net care)

-- its size, in gates and latches
abbrev pub rewritten_size : Parts → CareSet → ℕ
rewritten_size net care = unrolled_size net (loops_of net).same (sweeps_needed net care)

-- a netlist without loops that stands in the place of this one within care
pub record IsLoopFreeForm (net : Parts) (care : CareSet) (other : Parts) : Type 0 where
  -- no walk along pins leads from a gate back to it
  pub loop_free : IsLoopFree other
  -- its text is read as one model, which flattens to it
  pub reads_back : ReadsBack other
  -- on each care vector its fixpoint tells of the outputs and of what latches load at least what the netlist's does
  pub tells : TellsAsMuch net other care
  -- each run of the netlist within care shows what each run of this one does, whatever their windows, pasts and schedules
  pub same : Same net other care

-- what a user has of the rewritten netlist
pub record IsRewriting (net : Parts) (care : CareSet) (other : Parts) : Type 0 where
  pub is : other ≡ rewritten net care
  pub form : IsLoopFreeForm net care other

-- a fault of rewriting by cases, where the rewritten netlist has this size: it is too large, or memory ran out
abbrev pub IsCaseFault : ℕ → UnrollFault → Type 0
IsCaseFault size (TooLarge answered) = (MAX_REWRITTEN_ITEMS < size) × (answered ≡ size)
IsCaseFault size Memory = Unit {0}
