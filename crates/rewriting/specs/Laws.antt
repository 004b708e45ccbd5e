-- The laws of rewriting.
use Rattle.std.specs.Prelude.{◌≡◌, ◌+◌, ℕ, length}
use Rattle.netlist.specs.declared.parts.Parts.{Parts}
use Rattle.netlist.specs.Netlists.{IsNetlist}
use Rattle.netlist.specs.Walks.{IsLoopFree}
use Rattle.care_sets.specs.Care.{CareSet}
use Rattle.refusals.specs.declared.observe.Observe.{Observe}
use Rattle.refusals.specs.Acceptance.{Accepts}
use Rattle.schedules.specs.Settling.{Same}
use Rattle.aig_core.specs.declared.building.Built.{Built}
use Rattle.aig_core.specs.Answers.{HasValues}
use Rattle.rewriting.specs.Graphs.{RunsAs, machine_of}
use Rattle.rewriting.specs.Rewriting.{rewritten, rewritten_size}

-- the rewritten netlist has no loop
abbrev pub RewrittenIsLoopFree : Type 0
RewrittenIsLoopFree = (net : Parts) (care : CareSet) → IsLoopFree (rewritten net care)

-- it has as many gates and latches as its size says
abbrev pub RewrittenHasItsSize : Type 0
RewrittenHasItsSize = (net : Parts) (care : CareSet) →
    length (rewritten net care).gates + length (rewritten net care).latches ≡ rewritten_size net care

-- and of an accepted netlist it shows the same in all runs
abbrev pub RewrittenShowsTheSame : Type 0
RewrittenShowsTheSame = (net : Parts) (care : CareSet) (what : Observe) → IsNetlist net → Accepts net care what →
    Same net (rewritten net care) care

-- So do the machines of all graphs that have the rewritten netlist's values, over all runs.
abbrev pub GraphsShowTheSame : Type 0
GraphsShowTheSame = (net : Parts) (care : CareSet) (what : Observe) (graph : Built) → IsNetlist net → Accepts net care what →
    HasValues (rewritten net care) graph → RunsAs net care (machine_of graph)
