-- The answers to a request, by its files. There is one, but for a wire that is to be explained, for an assumption, and for a
-- netlist that is split by cases.
use Rattle.std.specs.Prelude.{◌≡◌, ◌<◌, ◌≤◌, ◌⊎◌, ◌+◌, ◌-◌, Bool, List, length, Some, None, MatchOption}
use Rattle.std.specs.declared.option.Option.{Option}
use Rattle.aig_core.specs.Building.{built}
use Rattle.blif_write.specs.Written.{written}
use Rattle.cyc_base.specs.declared.limits.TheConstants.{MAX_REWRITTEN_ITEMS}
use Rattle.cyc_base.specs.declared.sig.Sig.{Sig}
use Rattle.cyc_io.specs.Files.{Files}
use Rattle.netlist.specs.declared.parts.Parts.{Parts}
use Rattle.assumptions.specs.Assumptions.{IsAssumption}
use Rattle.assumptions.specs.declared.assumption.Assumption.{Assumption}
use Rattle.explanations.specs.Explained.{Explains as ExplainsGate}
use Rattle.explanations.specs.declared.explanation.Explanation.{Explanation}
use Rattle.refusals.specs.Refusals.{refusal}
use Rattle.refusals.specs.declared.refusal.Refusal.{Refusal}
use Rattle.refusals.specs.declared.refusal.Refusal.TheVariants.{Undetermined}
use Rattle.rewriting.specs.Graphs.{most_ands, IsGraphIn}
use Rattle.rewriting.specs.Rewriting.{rewritten_size, IsLoopFreeForm}
use Rattle.commands.specs.Words.{command_of, Purpose, Rewrites, WritesGraph, Explains}
use Rattle.commands.specs.declared.encoding.Encoding.{Encoding}
use Rattle.commands.specs.declared.form.Form.{Form}
use Rattle.cyc_tool.specs.Endings.{accepted_told, aiger_told, refused_told, wire_explained, assumption_told, comparison_told}
use Rattle.plain_commands.specs.Plans.{Prints, Refuses, Outgrows, Decision, Comparison, Plan, Reads, Faulty, WantsMemory, Ends, Decides, Assumes, Compares, plan_of}
use Rattle.plain_commands.specs.Requests.{Request}
use Rattle.plain_commands.specs.Texts.{Outcome, told, usage, has_fault, no_memory, read_failed}

-- what refuses the netlist of a decision, if anything does
abbrev pub verdict_of : Decision → Option Refusal
verdict_of decision = refusal decision.net decision.care decision.observe

-- A wire, undetermined at a vector, is told with why, as lines or as a graph: behind the refusal, or with it as the label, a
-- cycle of unknown gates, with the fewest of those that lead to the wire along pins that matter, what holds the cycle open,
-- the shortest way from it, and the further values of the vector that hold the way open.
pub record IsWireExplained (form : Form) (net : Parts) (v : List Bool) (wire : Sig) (end : Outcome) : Type 0 where
  pub why : Explanation
  pub explains : ExplainsGate net v (wire.0 - (length net.inputs + length net.latches)) why
  pub is : end ≡ told (Refuses (wire_explained form net v wire why))

-- An outcome of a refusal. That of a wire which is to be explained isn't the only one: another cycle may have as few gates.
abbrev pub IsRefusalOutcome : Parts → Purpose → Refusal → Outcome → Type 0
IsRefusalOutcome net (Explains form) (Undetermined v wire) end = IsWireExplained form net v wire end
IsRefusalOutcome net purpose refused end = end ≡ told (refused_told net purpose refused)

-- The text of a netlist without loops is told that stands in the place of the decision's. It isn't the only one: other
-- columns may be picked for the cases.
pub record IsWrittenByCases (decision : Decision) (end : Outcome) : Type 0 where
  pub other : Parts
  pub form : IsLoopFreeForm decision.net decision.care other
  pub is : end ≡ told (Prints (written other))

-- The same of its graph.
pub record IsGraphedByCases (encoding : Encoding) (decision : Decision) (end : Outcome) : Type 0 where
  pub other : Parts
  pub form : IsLoopFreeForm decision.net decision.care other
  pub graph : length (built other).aig.ands ≤ most_ands → IsGraphIn decision.net decision.care other (built other)
  pub is : end ≡ told (aiger_told encoding other (built other))

-- The netlist without loops is too large, also where it isn't split, and its size is told.
pub record IsTooLarge (decision : Decision) (end : Outcome) : Type 0 where
  pub over : MAX_REWRITTEN_ITEMS < rewritten_size decision.net decision.care
  pub is : end ≡ told (Outgrows (rewritten_size decision.net decision.care))

-- an outcome of a decision that accepts
abbrev pub IsAcceptedOutcome : Decision → Purpose → Outcome → Type 0
IsAcceptedOutcome decision (Rewrites (Some cases)) end = IsWrittenByCases decision end ⊎ IsTooLarge decision end
IsAcceptedOutcome decision (WritesGraph encoding (Some cases)) end = IsGraphedByCases encoding decision end ⊎ IsTooLarge decision end
IsAcceptedOutcome decision purpose end = end ≡ told (accepted_told decision purpose)

-- an outcome of a decision with this verdict
abbrev pub IsVerdictOutcome : Decision → Purpose → Option Refusal → Outcome → Type 0
IsVerdictOutcome decision purpose None end = IsAcceptedOutcome decision purpose end
IsVerdictOutcome decision purpose (Some refused) end = IsRefusalOutcome decision.net purpose refused end

-- What is found where an assumption is looked for is told. It isn't the only one: an assumption may be found by other rows.
pub record IsAssumed (decision : Decision) (end : Outcome) : Type 0 where
  pub answer : Assumption
  pub found : IsAssumption decision.net decision.care decision.observe answer
  pub is : end ≡ told (assumption_told decision.net decision.care answer)

-- the outcome of a comparison
abbrev pub compared : Comparison → Outcome
compared c = told (comparison_told c)

-- an outcome of a plan, where these are the files
abbrev pub IsOutcomeAt : Files → Plan → Outcome → Type 0
IsOutcomeAt files (Reads role name next) end = MatchOption (files name) (end ≡ read_failed name) (λ bytes. IsOutcomeAt files (next bytes) end)
IsOutcomeAt files (Faulty name fault) end = end ≡ has_fault name fault
IsOutcomeAt files WantsMemory end = end ≡ no_memory
IsOutcomeAt files (Ends ending) end = end ≡ told ending
IsOutcomeAt files (Decides decision purpose) end = IsVerdictOutcome decision purpose (verdict_of decision) end
IsOutcomeAt files (Assumes decision) end = IsAssumed decision end
IsOutcomeAt files (Compares c) end = end ≡ compared c

-- an answer to a request, where these are the files
abbrev pub IsAnswer : Request → Files → Outcome → Type 0
IsAnswer request files end = MatchOption (command_of request.words) (end ≡ usage) (λ command. IsOutcomeAt files (plan_of request.shows command) end)
