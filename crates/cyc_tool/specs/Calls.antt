-- What a call of `run` did with its shelf and its sinks.
use Rattle.std.specs.Prelude.{◌≡◌, ◌≤◌, ◌⊎◌, ℕ, [], length, All, Some, None, Ok}
use Rattle.std.specs.declared.option.Option.{Option}
use Rattle.assumptions.specs.Limits.{RunsOutOfNodes}
use Rattle.assumptions.specs.declared.assumption.Assumption.{Assumption}
use Rattle.assumptions.specs.declared.assumption.Assumption.TheVariants.{Stands, Weakest}
use Rattle.bdd_store.specs.Arena.{Arena}
use Rattle.blif_write.specs.Laws.{IsSmall}
use Rattle.care_sets.specs.Care.{CareSet}
use Rattle.netlist.specs.Netlists.{IsNetlist}
use Rattle.netlist.specs.declared.parts.Parts.{Parts}
use Rattle.diagram_decision.specs.Causes.{IsOutOfNodes}
use Rattle.diagram_decision.specs.Enough.{IsBelowEnough}
use Rattle.commands.specs.Words.{Decide, Command, Assume, Equal, Demo, command_of, Purpose, Judges, Rewrites, WritesGraph, Explains, Demonstrates, Storms}
use Rattle.parsed_files.specs.CareFiles.{care_of}
use Rattle.parsed_files.specs.CareTexts.{AreNamed, models_of}
use Rattle.cyc_base.specs.declared.limits.TheConstants.{MAX_FILE_BYTES, MAX_REWRITTEN_ITEMS}
use Rattle.refusals.specs.declared.refusal.Refusal.{Refusal}
use Rattle.equal.specs.Bounds.{IsLimited as IsComparisonLimited}
use Rattle.miters.specs.Shown.{ShowsItself}
use Rattle.rewriting.specs.Graphs.{graph_of, most_ands, IsGraphing}
use Rattle.rewriting.specs.Rewriting.{rewritten, rewritten_size, IsRewriting}
use Rattle.plain_commands.specs.Plans.{Decision, Comparison, Plan, Decides, Assumes, Compares, plan_of}
use Rattle.plain_commands.specs.Requests.{Request, Shows}
use Rattle.plain_commands.specs.Shelves.{ShelfCall, ChangesCountsOf, EndsBy, FollowsBy}
use Rattle.plain_commands.specs.Sinks.{SinkCall, Tells}
use Rattle.plain_commands.specs.Texts.{Outcome, usage, limit_reached, no_memory}
use Rattle.cyc_tool.specs.Answer.{verdict_of, IsAcceptedOutcome, IsVerdictOutcome, IsAssumed, compared}
use Rattle.cyc_tool.specs.Endings.{care_text}

-- The diagrams are full, or a cover is too large for them, and the limit is below what is enough.
pub record IsLimited (decision : Decision) (nodes : Arena) : Type 0 where
  pub cause : IsOutOfNodes nodes decision.net decision.care decision.limit
  pub below : IsBelowEnough decision.net decision.care decision.limit

-- What is made for the purpose of a decision whose netlist is accepted, unless it would be too large: to rewrite, a netlist
-- without loops that shows the same in all runs; to write a graph, one whose machine does. What is made by cases is told so.
abbrev pub IsMade : Decision → Purpose → Type 0
IsMade decision (Rewrites None) =
    rewritten_size decision.net decision.care ≤ MAX_REWRITTEN_ITEMS
    → IsRewriting decision.net decision.care (rewritten decision.net decision.care)
IsMade decision (Rewrites (Some cases)) = Unit {0}
IsMade decision (WritesGraph encoding (Some cases)) = Unit {0}
IsMade decision (WritesGraph encoding None) =
    rewritten_size decision.net decision.care ≤ MAX_REWRITTEN_ITEMS
    → length (graph_of decision.net decision.care).aig.ands ≤ most_ands
    → IsGraphing decision.net decision.care (graph_of decision.net decision.care)
IsMade decision Judges = Unit {0}
IsMade decision (Explains form) = Unit {0}
IsMade decision (Demonstrates cells) = Unit {0}
IsMade decision (Storms rounds) = Unit {0}

-- Of a netlist that is refused nothing is made.
abbrev pub IsMadeFor : Decision → Purpose → Option Refusal → Type 0
IsMadeFor decision purpose None = IsMade decision purpose
IsMadeFor decision purpose (Some refused) = Unit {0}

-- an accepted netlist is told so
pub record IsAccepted (decision : Decision) (purpose : Purpose) (end : Outcome) : Type 0 where
  pub is : IsAcceptedOutcome decision purpose end
  pub made : IsMade decision purpose

-- A decision came to its verdict, of which this is told, or met its limit of nodes.
pub data IsDecided (decision : Decision) (purpose : Purpose) (nodes : Arena) (end : Outcome) : Type 0 where
  Verdict : IsVerdictOutcome decision purpose (verdict_of decision) end → IsMadeFor decision purpose (verdict_of decision)
      → IsDecided decision purpose nodes end
  Limit : IsLimited decision nodes → end ≡ limit_reached decision.limit → IsDecided decision purpose nodes end

-- A decision on a stronger care set met the limit of nodes.
abbrev pub IsSearchLimited : Decision → Arena → Type 0
IsSearchLimited decision nodes = RunsOutOfNodes nodes decision.net decision.care decision.observe decision.limit

-- The text of a care set is a care file of this care set, where its models have the names of one and neither they nor the
-- text are too large.
abbrev pub IsCareFile : Parts → CareSet → Type 0
IsCareFile net care =
    AreNamed care → All IsSmall (models_of care) → length (care_text care) ≤ MAX_FILE_BYTES → care_of net (care_text care) ≡ Ok care

-- So is what is written of an assumption.
abbrev pub IsWritten : Parts → CareSet → Assumption → Type 0
IsWritten net care Stands = IsCareFile net care
IsWritten net care (Weakest stronger) = IsCareFile net stronger
IsWritten net care answer = Unit {0}

-- An assumption was looked for, and what is found is told, or the limit of nodes was met.
pub data IsSought (decision : Decision) (nodes : Arena) (end : Outcome) : Type 0 where
  Sought : (is : IsAssumed decision end) → IsWritten decision.net decision.care is.answer → IsSought decision nodes end
  Undecided : IsSearchLimited decision nodes → end ≡ limit_reached decision.limit → IsSought decision nodes end

-- A comparison came to what is found, which shows itself, or met its limit of nodes: it is below what is enough for both
-- decisions and the comparison.
pub data IsCompared (c : Comparison) (nodes : Arena) (end : Outcome) : Type 0 where
  Found : end ≡ compared c → ShowsItself c.first c.second c.care → IsCompared c nodes end
  Unfinished : IsComparisonLimited nodes c.first c.second c.care c.limit → end ≡ limit_reached c.limit → IsCompared c nodes end

-- what comes of a decision, of a search for an assumption and of a comparison, as these diagrams show
abbrev pub ComesOf : Arena → Plan → Outcome → Type 0
ComesOf nodes (Decides decision purpose) end = IsNetlist decision.net × IsDecided decision purpose nodes end
ComesOf nodes (Assumes decision) end = IsNetlist decision.net × IsSought decision nodes end
ComesOf nodes (Compares c) end = IsCompared c nodes end
ComesOf nodes plan end = ⊥

-- how a call ends at what is left of its plan
abbrev pub EndsAt : ShelfCall → Arena → Outcome → Plan → Type 0
EndsAt shelf nodes end plan = EndsBy (ComesOf nodes) shelf end plan

-- A call went along a plan to this outcome, by what the shelf gave and these diagrams show, or it wants memory. It
-- read no file but those of the plan, in its order.
abbrev pub Follows : Plan → ShelfCall → Arena → Outcome → Type 0
Follows plan shelf nodes end = FollowsBy (ComesOf nodes) plan shelf end

-- Words outside the grammar come to the usage, and nothing is read.
pub record ComesToUsage (shelf : ShelfCall) (end : Outcome) : Type 0 where
  pub counts : ChangesCountsOf [] shelf
  pub ends : (end ≡ usage) ⊎ (end ≡ no_memory)

abbrev pub ComesTo : Shows → Option Command → ShelfCall → Arena → Outcome → Type 0
ComesTo shows None shelf nodes end = ComesToUsage shelf end
ComesTo shows (Some command) shelf nodes end = Follows (plan_of shows command) shelf nodes end

-- A command that decides a netlist, looks for an assumption or compares two netlists uses the diagrams. Any other leaves them as they were, and so do words outside the grammar.
abbrev pub KeepsNodes : Option Command → Arena → Arena → Type 0
KeepsNodes (Some (Decide file options purpose)) before now = Unit {0}
KeepsNodes (Some (Assume file options)) before now = Unit {0}
KeepsNodes (Some (Equal file second options)) before now = Unit {0}
KeepsNodes (Some (Demo cells)) before now = Unit {0}
KeepsNodes other before now = now ≡ before

-- the theorem of a run, from which all the others follow
pub record Runs (request : Request) (shelf : ShelfCall) (nodes : Arena) (out err : SinkCall) (status : ℕ) : Type 0 where
  pub end : Outcome
  pub comes : ComesTo request.shows (command_of request.words) shelf nodes end
  pub tells : Tells end out err status
