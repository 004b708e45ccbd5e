-- What a call does for its command, step by step: which files it reads, and what comes of what they mean.
use Rattle.std.specs.Prelude.{ℕ, Bool, true, false, List, length, ◌++◌, Some, None, Ok, Err, unwrap_or, codes}
use Rattle.std.specs.declared.option.Option.{Option}
use Rattle.std.specs.declared.result.Result.{Result}
use Rattle.cyc_base.specs.declared.limits.TheConstants.{DEFAULT_NODES}
use Rattle.cyc_base.specs.declared.trit.Trit.{Trit}
use Rattle.netlist.specs.declared.parts.Parts.{Parts}
use Rattle.delay_core.specs.declared.plan.Schedule.{Schedule}
use Rattle.delay_core.specs.Changes.{changes}
use Rattle.commands.specs.declared.kind.Kind.{Kind}
use Rattle.commands.specs.declared.kind.Kind.TheVariants.{Vcd}
use Rattle.delay_core.specs.declared.change.Change.{Change}
use Rattle.blif_write.specs.Written.{written}
use Rattle.care_sets.specs.Care.{CareSet}
use Rattle.refusals.specs.declared.observe.Observe.{Observe}
use Rattle.refusals.specs.declared.observe.Observe.TheVariants as observe
use Rattle.commands.specs.Words.{Options, Purpose, Demonstrates, Command, Decide, Assume, Equal, Flat, Loops, Sim, Delays, Demo, Help, HelpOn, Version}
use Rattle.commands.specs.declared.form.Form.{Form}
use Rattle.commands.specs.declared.form.Form.TheVariants.{Lines, Dot}
use Rattle.parsed_files.specs.CareFiles.{no_care, care_of}
use Rattle.parsed_files.specs.Faults.{Fault}
use Rattle.parsed_files.specs.NetlistFiles.{netlist_of}
use Rattle.parsed_files.specs.ScheduleFiles.{vectors_of, schedule_of}
use Rattle.dot_text.specs.LoopGraphs.{loops_graph}
use Rattle.maker.specs.Ring.{ring_text, care_text}
use Rattle.report.specs.Help.{help_text, topic_text, version_text}
use Rattle.report.specs.LoopTexts.{loops_text}
use Rattle.plain_commands.specs.Plays.{known, played, delays_text}
use Rattle.plain_commands.specs.Requests.{Shows}
use Rattle.plain_commands.specs.Simulation.{sim_text}

-- the part that a file plays
pub data Role : Type 0 where
  Netlist : Role
  Care : Role
  Vectors : Role
  Recorded : Role

-- what a command tells once nothing stops it any more
pub data Ending : Type 0 where
  -- its result
  Prints : List ℕ → Ending
  -- its result, which stands alone on out, and lines beside it
  PrintsBeside : List ℕ → List ℕ → Ending
  -- why the netlist is refused, or what two netlists differ in, which is a result
  Refuses : List ℕ → Ending
  -- the same in place of a result
  Declines : List ℕ → Ending
  -- a result would have so many gates and latches, or ANDs, which are too many
  Outgrows : ℕ → Ending
  -- an assumption would have more rows than so many
  WantsRows : ℕ → Ending

-- a netlist to be decided on a care set, with at most so many nodes, where these wires are observed
pub record Decision : Type 0 where
  pub net : Parts
  pub care : CareSet
  pub limit : ℕ
  pub observe : Observe

-- two netlists to be compared on a care set of the first, with at most so many nodes
pub record Comparison : Type 0 where
  pub first : Parts
  pub second : Parts
  pub care : CareSet
  pub limit : ℕ

-- what is done next
pub data Plan : Type 0 where
  -- the file of this name is read, and its bytes say what is done then
  Reads : Role → List ℕ → (List ℕ → Plan) → Plan
  -- the call ends at this fault of the file of this name
  Faulty : List ℕ → Fault → Plan
  -- the call ends for want of memory
  WantsMemory : Plan
  -- the call ends with this
  Ends : Ending → Plan
  -- a decision is made, and its verdict says what the call ends with
  Decides : Decision → Purpose → Plan
  -- the weakest assumption is looked for under which the decision accepts, and what is found says what the call ends with
  Assumes : Decision → Plan
  -- two netlists are compared, and what is found says what the call ends with
  Compares : Comparison → Plan

-- A text is used for what it means, or its first fault ends the call as one of the file of this name.
abbrev pub using : {T : Type 0} → List ℕ → Result T (Option Fault) → (T → Plan) → Plan
using name (Ok x) next = next x
using name (Err (Some fault)) next = Faulty name fault
using name (Err None) next = WantsMemory

abbrev pub with_netlist : List ℕ → (Parts → Plan) → Plan
with_netlist name next = Reads Netlist name (λ bytes. using name (netlist_of bytes) next)

-- the care set of a netlist: every vector counts where there is no care file
abbrev pub with_care : Option (List ℕ) → Parts → (CareSet → Plan) → Plan
with_care None net next = next no_care
with_care (Some name) net next = Reads Care name (λ bytes. using name (care_of net bytes) next)

-- the vectors for a netlist; unknown values are allowed or not
abbrev pub with_vectors : List ℕ → Parts → Bool → (List (List Trit) → Plan) → Plan
with_vectors name net unknowns next = Reads Vectors name (λ bytes. using name (vectors_of net unknowns bytes) next)

-- a recorded schedule for a netlist and so many ticks
abbrev pub with_schedule : List ℕ → Parts → ℕ → (Schedule → Plan) → Plan
with_schedule name net ticks next = Reads Recorded name (λ bytes. using name (schedule_of net ticks bytes) next)

abbrev pub decision : Parts → CareSet → Options → Decision
decision net care options = record {
  net = net;
  care = care;
  limit = unwrap_or options.nodes DEFAULT_NODES;
  observe = unwrap_or options.observe observe.All;
}

-- a decision of a netlist on its care set
abbrev pub deciding_on : Parts → Options → Purpose → Plan
deciding_on net options purpose = with_care options.care net (λ care. Decides (decision net care options) purpose)

-- and of the netlist of a file
abbrev pub deciding : List ℕ → Options → Purpose → Plan
deciding file options purpose = with_netlist file (λ net. deciding_on net options purpose)

-- the weakest assumption of a netlist, within its care set
abbrev pub assuming_on : Options → Parts → Plan
assuming_on options net = with_care options.care net (λ care. Assumes (decision net care options))

-- and of the netlist of a file
abbrev pub assuming : List ℕ → Options → Plan
assuming file options = with_netlist file (assuming_on options)

abbrev pub comparison : Parts → Parts → CareSet → Options → Comparison
comparison first second care options = record { first = first; second = second; care = care; limit = unwrap_or options.nodes DEFAULT_NODES }

-- a comparison of a netlist with a second one, on a care set of the first
abbrev pub comparing_on : Options → Parts → Parts → Plan
comparing_on options first second = with_care options.care first (λ care. Compares (comparison first second care options))

-- with that of a file
abbrev pub comparing_with : List ℕ → Options → Parts → Plan
comparing_with file options first = with_netlist file (comparing_on options first)

-- and of the netlists of both files
abbrev pub comparing : List ℕ → List ℕ → Options → Plan
comparing file second options = with_netlist file (comparing_with second options)

-- The texts of the ring arbiter are taken for files of these names.
abbrev pub ring_file : List ℕ
ring_file = codes "ring.blif"

abbrev pub ring_care_file : List ℕ
ring_care_file = codes "ring.care"

abbrev pub ring_decision : Parts → CareSet → Decision
ring_decision net care = record { net = net; care = care; limit = DEFAULT_NODES; observe = observe.All }

-- what is told of a run with these lines of its ticks, of which probes of a kind show this: a dump stands alone on out
abbrev pub probed_told : Kind → List ℕ → List ℕ → Ending
probed_told Vcd lines text = PrintsBeside text lines
probed_told kind lines text = Prints (lines ++ text)

-- what is told of a run with these changes, where the changes are told to the probes of a kind or to none
abbrev pub run_told : Shows → Option Kind → Parts → List Change → List ℕ → Ending
run_told shows None net changes lines = Prints lines
run_told shows (Some kind) net changes lines = probed_told kind lines (shows kind net changes)

-- what comes of a recorded schedule on these vectors: a fault of its play is one of its file
abbrev pub playing : Shows → Option Kind → List ℕ → Parts → List (List Bool) → Schedule → Plan
playing shows probe recorded net vectors schedule =
    using recorded (played net vectors schedule) (λ ends. Ends (run_told shows probe net (changes net schedule vectors) (delays_text ends)))

abbrev pub play_on : Shows → Option Kind → List ℕ → Parts → List (List Bool) → Plan
play_on shows probe recorded net vectors = with_schedule recorded net (length vectors) (λ schedule. playing shows probe recorded net vectors schedule)

abbrev pub flattening : List ℕ → Plan
flattening file = with_netlist file (λ net. Ends (Prints (written net)))

-- the loops of a netlist, as lines or as a graph
abbrev pub loops_shown : Form → Parts → List ℕ
loops_shown Lines net = loops_text net
loops_shown Dot net = loops_graph net

abbrev pub finding_loops : Form → List ℕ → Plan
finding_loops form file = with_netlist file (λ net. Ends (Prints (loops_shown form net)))

abbrev pub simulating_on : List ℕ → Parts → Plan
simulating_on vectors net = with_vectors vectors net true (λ found. Ends (Prints (sim_text net found)))

abbrev pub simulating : List ℕ → List ℕ → Plan
simulating file vectors = with_netlist file (simulating_on vectors)

abbrev pub replaying_on : Shows → Option Kind → List ℕ → List ℕ → Parts → Plan
replaying_on shows probe recorded vectors net = with_vectors vectors net false (λ found. play_on shows probe recorded net (known found))

abbrev pub replaying : Shows → Option Kind → List ℕ → List ℕ → List ℕ → Plan
replaying shows probe file vectors recorded = with_netlist file (replaying_on shows probe recorded vectors)

-- the decision of the ring arbiter of so many cells
abbrev pub ring_deciding_on : ℕ → Parts → Plan
ring_deciding_on cells net = using ring_care_file (care_of net (care_text cells)) (λ care. Decides (ring_decision net care) (Demonstrates cells))

abbrev pub ring_deciding : ℕ → Plan
ring_deciding cells = using ring_file (netlist_of (ring_text cells)) (ring_deciding_on cells)

-- The files of a command are read in the order netlist, second netlist, care file, vectors, schedule, and all faults of one are looked
-- for before the next is read.
abbrev pub plan_of : Shows → Command → Plan
plan_of shows (Decide file options purpose) = deciding file options purpose
plan_of shows (Assume file options) = assuming file options
plan_of shows (Equal file second options) = comparing file second options
plan_of shows (Flat file) = flattening file
plan_of shows (Loops file form) = finding_loops form file
plan_of shows (Sim file vectors) = simulating file vectors
plan_of shows (Delays file vectors recorded probe) = replaying shows probe file vectors recorded
plan_of shows (Demo cells) = ring_deciding cells
plan_of shows Help = Ends (Prints help_text)
plan_of shows (HelpOn topic) = Ends (Prints (topic_text topic))
plan_of shows Version = Ends (Prints version_text)
