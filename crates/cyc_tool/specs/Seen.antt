-- How clauses see the values of the code.
use Rattle.std.specs.Prelude.{◌≡◌, ◌+◌, Ok, Err}
use Rattle.std.specs.declared.result.Result.{Result}
use Rattle.netlist.specs.declared.parts.Parts.{Parts}
use Rattle.aig_core.specs.declared.building.Built.{Built}
use Rattle.aig_core.specs.declared.fault.AigFault.{AigFault}
use Rattle.aig_core.specs.declared.fault.AigFault.TheVariants.{TooLarge as ManyAnds, Memory as NoRoom}
use Rattle.assumptions.specs.declared.assumption.Assumption.{Assumption}
use Rattle.assumptions.specs.declared.assumption.Assumption.TheVariants as assumptions
use Rattle.care_sets.specs.Binding.{IsCareOf}
use Rattle.commands.specs.declared.encoding.Encoding.{Encoding}
use Rattle.blif_write.specs.Written.{written}
use Rattle.refusals.specs.Refusals.{IsRefusalOf}
use Rattle.plain_commands.specs.Texts.{graph_text, told as done}
use Rattle.unroll.specs.declared.fault.UnrollFault.{UnrollFault}
use Rattle.unroll.specs.declared.fault.UnrollFault.TheVariants.{TooLarge, Memory as NoMemory}
use Rattle.rewriting.specs.Graphs.{most_ands}
use Rattle.equal.specs.declared.fault.EqualFault.{EqualFault}
use Rattle.equal.specs.declared.fault.EqualFault.TheVariants.{NodeLimit as PairLimit, Memory as NoPair}
use Rattle.verdict.specs.declared.fault.DecideFault.{DecideFault}
use Rattle.verdict.specs.declared.fault.DecideFault.TheVariants.{NodeLimit, Memory as NoNodes}
use Rattle.plain_commands.specs.Plans as plans
use Rattle.plain_commands.specs.Texts as texts
use Rattle.plain_commands.specs.declared.outcome.Outcome.{Outcome}
use Rattle.plain_commands.specs.Seen.{outcome_of}

-- what is told of a netlist that isn't made: its size
abbrev pub IsOutgrown : UnrollFault → Outcome → Type 0
IsOutgrown (TooLarge size) told = outcome_of told ≡ done (plans.Outgrows size)
IsOutgrown NoMemory told = ⊥

-- what is told of rewriting: the text of the netlist that was made, or its size
abbrev pub IsToldOf : Result Parts UnrollFault → Outcome → Type 0
IsToldOf (Ok other) told = outcome_of told ≡ done (plans.Prints (written other))
IsToldOf (Err fault) told = IsOutgrown fault told

-- what is told of a graph that isn't made: the first number of ANDs that is too great
abbrev pub IsOverfull : AigFault → Outcome → Type 0
IsOverfull ManyAnds told = outcome_of told ≡ done (plans.Outgrows (most_ands + 1))
IsOverfull NoRoom told = ⊥

-- what is told of the graph of a netlist: its text, or that number
abbrev pub IsToldOfGraph : Encoding → Parts → Result Built AigFault → Outcome → Type 0
IsToldOfGraph encoding other (Ok graph) told = outcome_of told ≡ done (plans.Prints (graph_text encoding other graph))
IsToldOfGraph encoding other (Err fault) told = IsOverfull fault told

-- what is told of a decision without a verdict: the limit that it met
abbrev pub IsLimitOf : DecideFault → Outcome → Type 0
IsLimitOf (NodeLimit nodes) told = outcome_of told ≡ texts.limit_reached nodes
IsLimitOf NoNodes told = ⊥

-- and of a comparison
abbrev pub IsComparisonLimitOf : EqualFault → Outcome → Type 0
IsComparisonLimitOf (PairLimit nodes) told = outcome_of told ≡ texts.limit_reached nodes
IsComparisonLimitOf NoPair told = ⊥

-- what is found where an assumption is looked for, and can be told: a care set is the netlist's, and what refuses it has
-- its widths
abbrev pub IsTellableAssumption : Parts → Assumption → Type 0
IsTellableAssumption net (assumptions.Weakest stronger) = IsCareOf net stronger
IsTellableAssumption net (assumptions.Refused refused) = IsRefusalOf net refused
IsTellableAssumption net answer = Unit {0}
