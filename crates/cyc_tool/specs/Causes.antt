-- What follows of a run for each status, and where the files are told.
use Rattle.std.specs.Prelude.{◌≡◌, ◌≢◌, ◌≤◌, ◌↔◌, ◌⊎◌, codes, ℕ, Bool, true, List, length, Some, None, IfSome, IsSomeAnd}
use Rattle.std.specs.declared.option.Option.{Option}
use Rattle.netlist.specs.Netlists.{columns}
use Rattle.assumptions.specs.Assumptions.{IsRefused, IsStrengthened}
use Rattle.bdd_store.specs.Arena.{Arena}
use Rattle.care_rows.specs.declared.rows.Row.{Row}
use Rattle.care_sets.specs.Care.{CareSet, is_allowed, is_in_invariant, state_of}
use Rattle.schedules.specs.Harmless.{IsHarmless}
use Rattle.cyc_io.specs.Files.{Files}
use Rattle.refusals.specs.Acceptance.{AreDetermined, observed}
use Rattle.refusals.specs.Refusals.{IsUnknownAt, Proves}
use Rattle.refusals.specs.declared.refusal.Refusal.{Refusal}
use Rattle.refusals.specs.declared.refusal.Refusal.TheVariants.{EmptyCare, Undetermined}
use Rattle.diagram_decision.specs.Enough.{IsEnough}
use Rattle.aig_core.specs.Building.{built}
use Rattle.blif_write.specs.Written.{written}
use Rattle.commands.specs.declared.encoding.Encoding.{Encoding}
use Rattle.netlist.specs.declared.parts.Parts.{Parts}
use Rattle.commands.specs.Words.{Command, Help, HelpOn, Version, command_of, Purpose, Rewrites, WritesGraph, Storms}
use Rattle.cyc_base.specs.declared.sig.Sig.{Sig}
use Rattle.storm.specs.Laws.{PlaysAsStorm}
use Rattle.storm.specs.Storms.{storm_of}
use Rattle.plain_commands.specs.Storms.{storm_text}
use Rattle.miters.specs.Matching.{unmatched}
use Rattle.equal.specs.Bounds.{IsEnoughForBoth, IsLimited as IsComparisonLimited}
use Rattle.miters.specs.Runs.{RunAlike}
use Rattle.miters.specs.Shown.{ShowsItself}
use Rattle.rewriting.specs.Graphs.{graph_of, IsGraphIn, IsGraphing}
use Rattle.rewriting.specs.Rewriting.{rewritten, IsLoopFreeForm, IsRewriting}
use Rattle.plain_commands.specs.Texts.{told, graph_text, Outcome, no_memory}
use Rattle.cyc_tool.specs.Answer.{verdict_of, IsVerdictOutcome, IsAssumed, compared, IsAnswer}
use Rattle.plain_commands.specs.Shelves.{ShelfCall, ReadFailed, AreGiven, rest_of}
use Rattle.plain_commands.specs.Sinks.{SinkCall, WriteFailed, Takes, IsTold}
use Rattle.cyc_tool.specs.Calls.{IsLimited, IsSearchLimited, IsCareFile}
use Rattle.cyc_tool.specs.Endings.{accepted_told, care_text}
use Rattle.plain_commands.specs.Plans.{Decision, Comparison, Plan, Reads, Faulty, Ends, Decides, Assumes, Compares, plan_of}
use Rattle.plain_commands.specs.Requests.{Request}

-- Words outside the grammar get their status, unless a write failed or memory ran out.
abbrev pub IsWithoutCommand : Option Command → ℕ → Type 0
IsWithoutCommand None status = status ≡ 2 ⊎ status ≡ 5 ⊎ status ≡ 7
IsWithoutCommand (Some command) status = status ≡ 2 → ⊥

-- Help and the version are told, unless a write failed or memory ran out.
abbrev pub IsHelped : ℕ → Type 0
IsHelped status = status ≡ 0 ⊎ status ≡ 5 ⊎ status ≡ 7

abbrev pub IsHelpedBy : Option Command → ℕ → Type 0
IsHelpedBy (Some Help) status = IsHelped status
IsHelpedBy (Some (HelpOn topic)) status = IsHelped status
IsHelpedBy (Some Version) status = IsHelped status
IsHelpedBy other status = Unit {0}

-- What the shelf gave leads through a plan to a rest of it of which this holds.
pub record Leads (P : Plan → Type 0) (shelf : ShelfCall) (plan : Plan) : Type 0 where
  pub given : List (List ℕ)
  pub gave : AreGiven shelf.files given plan
  pub holds : P (rest_of given plan)

-- The same for the plan of a request whose words are a command.
abbrev pub Reaches : (Plan → Type 0) → Request → ShelfCall → Type 0
Reaches P request shelf = IsSomeAnd (command_of request.words) (λ command. Leads P shelf (plan_of request.shows command))

-- The file that was read has a fault.
abbrev pub IsFaulty : Plan → Type 0
IsFaulty (Faulty name fault) = Unit {0}
IsFaulty plan = ⊥

-- The read of the next file failed.
abbrev pub IsUnread : ShelfCall → Plan → Type 0
IsUnread shelf (Reads role name next) = ReadFailed shelf name
IsUnread shelf plan = ⊥

-- The decision or the comparison that is next met its limit of nodes, or the search for an assumption.
abbrev pub MeetsLimit : Arena → Plan → Type 0
MeetsLimit nodes (Decides decision purpose) = IsLimited decision nodes
MeetsLimit nodes (Assumes decision) = IsSearchLimited decision nodes
MeetsLimit nodes (Compares c) = IsComparisonLimited nodes c.first c.second c.care c.limit
MeetsLimit nodes plan = ⊥

-- This refuses the netlist. Its vector shows why; an empty care set alone has none.
pub record IsRefusedBy (decision : Decision) (refused : Refusal) : Type 0 where
  pub is : verdict_of decision ≡ Some refused
  pub shown : refused ≢ EmptyCare → Proves decision.net decision.care refused

-- What a verdict shows: an accepted netlist is harmless, in each run within care, whatever its past, its window of older
-- reads, its starting values and its fair schedules are.
abbrev pub IsVerdict : Decision → Option Refusal → Type 0
IsVerdict decision None = IsHarmless decision.net decision.care decision.observe
IsVerdict decision (Some refused) = IsRefusedBy decision refused

-- An outcome of which this holds was told whole.
pub record IsToldAs (P : Outcome → Type 0) (out err : SinkCall) (status : ℕ) : Type 0 where
  pub end : Outcome
  pub is : P end
  pub told : IsTold end out err status

-- A refused wire has its storm on out: a fair schedule of the refusal's vector on which each gate that the fixpoint leaves
-- unknown falls and rises in each round, and all else stands at the fixpoint.
pub record IsStormed (decision : Decision) (rounds : ℕ) (out : SinkCall) : Type 0 where
  pub vector : List Bool
  pub wire : Sig
  pub refused : verdict_of decision ≡ Some (Undetermined vector wire)
  pub shown : IsUnknownAt decision.net decision.care vector wire
  pub storm : PlaysAsStorm decision.net vector (storm_of decision.net vector rounds)
  pub text : Takes out (storm_text decision.net vector rounds)

-- By cases, the text of some netlist without loops is on out, which reads back and shows the same in all runs.
pub record HasFormByCases (decision : Decision) (out : SinkCall) : Type 0 where
  pub other : Parts
  pub form : IsLoopFreeForm decision.net decision.care other
  pub text : Takes out (written other)

-- Or that of its graph.
pub record HasGraphByCases (encoding : Encoding) (decision : Decision) (out : SinkCall) : Type 0 where
  pub other : Parts
  pub form : IsLoopFreeForm decision.net decision.care other
  pub graph : IsGraphIn decision.net decision.care other (built other)
  pub text : Takes out (graph_text encoding other (built other))

-- What is on out for a decision whose status is 0, and what a user has of it: to rewrite, the text of a netlist without
-- loops, which reads back and shows the same in all runs; to write a graph, the AIGER text of the rewritten netlist's, whose
-- machine has the outputs and the latches of each run within care at each tick; for a storm, one; else that the netlist is
-- accepted.
abbrev pub HasMade : Decision → Purpose → SinkCall → Type 0
HasMade decision (Rewrites None) out =
    IsRewriting decision.net decision.care (rewritten decision.net decision.care)
    × Takes out (written (rewritten decision.net decision.care))
HasMade decision (Rewrites (Some cases)) out = HasFormByCases decision out
HasMade decision (WritesGraph encoding (Some cases)) out = HasGraphByCases encoding decision out
HasMade decision (WritesGraph encoding None) out =
    IsGraphing decision.net decision.care (graph_of decision.net decision.care)
    × Takes out (graph_text encoding (rewritten decision.net decision.care) (graph_of decision.net decision.care))
HasMade decision (Storms rounds) out = IsStormed decision rounds out
HasMade decision purpose out = Takes out (told (accepted_told decision purpose)).out

-- A verdict was told, and it shows itself. A wire that is to be explained was told with why.
pub record IsVerdictDone (decision : Decision) (purpose : Purpose) (out err : SinkCall) (status : ℕ) : Type 0 where
  pub verdict : Option Refusal
  pub shown : IsVerdict decision verdict
  pub told : IsToldAs (IsVerdictOutcome decision purpose verdict) out err status
  pub made : status ≡ 0 → HasMade decision purpose out

-- A care set lets a vector through just where that of a decision does and each observed wire is determined at it, within the
-- invariant, which is the same.
pub record IsExact (decision : Decision) (stronger : CareSet) : Type 0 where
  pub invariant : stronger.invariant ≡ decision.care.invariant
  pub lets : (v : List Bool) → length v ≡ columns decision.net → is_in_invariant decision.care (state_of decision.net v) ≡ true →
      (is_allowed stronger v ≡ true) ↔ ((is_allowed decision.care v ≡ true) × AreDetermined decision.net v (observed decision.net decision.observe))

-- What a user has of the care models that are on out: on their care set the netlist is harmless, and it is the weakest such.
pub record HasWeakest (decision : Decision) (out : SinkCall) : Type 0 where
  pub stronger : CareSet
  pub exact : IsExact decision stronger
  pub harmless : IsHarmless decision.net stronger decision.observe
  pub text : Takes out (care_text stronger)
  pub reads_back : IsCareFile decision.net stronger

-- This refuses the netlist on a stronger care set, and isn't an undetermined wire. It shows itself.
pub record IsRefusedStill (decision : Decision) : Type 0 where
  pub refused : Refusal
  pub still : IsRefused decision.net decision.care decision.observe refused
  pub shown : refused ≢ EmptyCare → Proves decision.net still.refused.stronger refused

-- What was found where an assumption was looked for was told, and it shows itself.
pub record IsAssumptionDone (decision : Decision) (out err : SinkCall) (status : ℕ) : Type 0 where
  pub told : IsToldAs (IsAssumed decision) out err status
  pub harmless : status ≡ 0 → HasWeakest decision out
  pub refused : status ≡ 1 → IsRefusedStill decision

-- What two netlists that are told equal have: each run of the first within care and each run of the second, over the same
-- inputs and from equal latches, have equal outputs and latches by name at each tick, whatever their windows of older reads,
-- their pasts and their fair schedules are.
abbrev pub AreToldEqual : Comparison → SinkCall → Type 0
AreToldEqual c out = RunAlike c.first c.second c.care × Takes out (codes "equal\n")

-- What is found of two netlists was told, and it shows itself.
pub record IsComparisonDone (c : Comparison) (out err : SinkCall) (status : ℕ) : Type 0 where
  pub shown : ShowsItself c.first c.second c.care
  pub told : IsTold (compared c) out err status
  pub equal : status ≡ 0 → AreToldEqual c out

-- The plan is at its end, and of this end both hold: what the status says, and what is on out and on err. A plan that reads
-- on, has a fault or wants memory is at no end.
abbrev pub IsDoneWith : SinkCall → SinkCall → ℕ → Plan → Type 0
IsDoneWith out err status (Ends ending) = IsTold (told ending) out err status
IsDoneWith out err status (Decides decision purpose) = IsVerdictDone decision purpose out err status
IsDoneWith out err status (Assumes decision) = IsAssumptionDone decision out err status
IsDoneWith out err status (Compares c) = IsComparisonDone c out err status
IsDoneWith out err status plan = ⊥

-- No read failed of a file that is there.
abbrev pub NoneFailed : ShelfCall → Files → Plan → Type 0
NoneFailed shelf files (Reads role name next) =
    IfSome (files name) (λ bytes. (ReadFailed shelf name → ⊥) × NoneFailed shelf files (next bytes))
NoneFailed shelf files plan = Unit {0}

-- The files are told, no read failed of one that is there, and no write.
pub record IsWell (request : Request) (shelf : ShelfCall) (out err : SinkCall) (files : Files) : Type 0 where
  pub reads : IfSome (command_of request.words) (λ command. NoneFailed shelf files (plan_of request.shows command))
  pub writes_out : WriteFailed out → ⊥
  pub writes_err : WriteFailed err → ⊥

-- Over files that are told, where no read or write failed, the call gives an answer, or met the limit of nodes, or wants
-- memory.
abbrev pub GivesAnswer : Request → ShelfCall → Arena → SinkCall → SinkCall → ℕ → Type 0
GivesAnswer request shelf nodes out err status = IfSome shelf.files (λ files. IsWell request shelf out err files
    → IsToldAs (IsAnswer request files) out err status ⊎ (Reaches (MeetsLimit nodes) request shelf × (status ≡ 6)) ⊎ IsTold no_memory out err status)

-- The limit of the decision that is next is enough, or that of the comparison, unless a name isn't matched. For an
-- assumption it is enough on each stronger care set.
abbrev pub IsEnoughFor : Plan → Type 0
IsEnoughFor (Decides decision purpose) = IsEnough decision.net decision.care decision.limit
IsEnoughFor (Assumes decision) =
    (rows : List Row) (stronger : CareSet) → IsStrengthened decision.net decision.care decision.observe rows stronger → IsEnough decision.net stronger decision.limit
IsEnoughFor (Compares c) = unmatched c.first c.second ≡ None → IsEnoughForBoth c.first c.second c.care c.limit
IsEnoughFor plan = Unit {0}

-- It is enough for whatever the shelf gave. A command that neither decides nor compares has none.
abbrev pub HasEnoughNodes : Request → ShelfCall → Type 0
HasEnoughNodes request shelf = IfSome (command_of request.words) (λ command.
    (given : List (List ℕ)) → AreGiven shelf.files given (plan_of request.shows command) → IsEnoughFor (rest_of given (plan_of request.shows command)))

-- With enough nodes it gives an answer, or wants memory.
abbrev pub IsComplete : Request → ShelfCall → SinkCall → SinkCall → ℕ → Type 0
IsComplete request shelf out err status = IfSome shelf.files (λ files. IsWell request shelf out err files
    → HasEnoughNodes request shelf → IsToldAs (IsAnswer request files) out err status ⊎ IsTold no_memory out err status)

-- what the next call may rest on: no count of faults fell
pub record NoneFell (shelf : ShelfCall) (out err : SinkCall) : Type 0 where
  pub reads : (name : List ℕ) → shelf.before name ≤ shelf.now name
  pub writes_out : out.before ≤ out.now
  pub writes_err : err.before ≤ err.now
