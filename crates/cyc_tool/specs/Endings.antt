-- What a call ends with that makes a decision, by its verdict: nothing, or what refuses the netlist. And what one ends
-- with that looks for an assumption, or compares two netlists.
use Rattle.std.specs.Prelude.{ℕ, ◌+◌, ◌++◌, Bool, true, false, List, length, nat_le, if◌then◌else◌, Some, None}
use Rattle.std.specs.declared.option.Option.{Option}
use Rattle.cyc_base.specs.declared.limits.TheConstants.{MAX_REWRITTEN_ITEMS}
use Rattle.cyc_base.specs.declared.sig.Sig.{Sig}
use Rattle.cyc_base.specs.Values.{bits}
use Rattle.care_sets.specs.Care.{CareSet}
use Rattle.commands.specs.declared.form.Form.{Form}
use Rattle.commands.specs.declared.form.Form.TheVariants.{Lines, Dot}
use Rattle.dot_text.specs.ExplanationGraphs.{explanation_graph}
use Rattle.dot_text.specs.RefusalGraphs.{refusal_graph}
use Rattle.explanations.specs.declared.explanation.Explanation.{Explanation}
use Rattle.netlist.specs.Fixpoint.{fix}
use Rattle.netlist.specs.declared.parts.Parts.{Parts}
use Rattle.assumptions.specs.declared.assumption.Assumption.{Assumption}
use Rattle.assumptions.specs.declared.assumption.Assumption.TheVariants.{Stands, Weakest, Refused, TooManyRows, TooLarge}
use Rattle.assumptions.specs.declared.search.TheConstants.{MAX_ROWS}
use Rattle.blif_write.specs.Written.{models_written, written}
use Rattle.aig_core.specs.declared.building.Built.{Built}
use Rattle.commands.specs.declared.encoding.Encoding.{Encoding}
use Rattle.parsed_files.specs.CareTexts.{models_of}
use Rattle.refusals.specs.Refusals.{loose_gates}
use Rattle.refusals.specs.declared.observe.Observe.{Observe}
use Rattle.refusals.specs.declared.observe.Observe.TheVariants.{All, Outputs}
use Rattle.refusals.specs.declared.refusal.Refusal.{Refusal}
use Rattle.refusals.specs.declared.refusal.Refusal.TheVariants.{Undetermined}
use Rattle.explain_text.specs.Graphs.{told_graph}
use Rattle.explain_text.specs.Lines.{told_loops}
use Rattle.explain_text.specs.Explanations.{explanation_text}
use Rattle.report.specs.Verdicts.{accepted_text, refusal_text, ring_line}
use Rattle.rewriting.specs.Graphs.{graph_of, most_ands}
use Rattle.loop_simulation.specs.Sweeping.{sweeps_needed}
use Rattle.rewriting.specs.Rewriting.{rewritten, rewritten_size}
use Rattle.miters.specs.Told.{are_equal, found_text}
use Rattle.commands.specs.Words.{Purpose, Judges, Rewrites, WritesGraph, Explains, Demonstrates, Storms}
use Rattle.plain_commands.specs.Plans.{Ending, Prints, Refuses, Declines, Outgrows, WantsRows, Decision, Comparison}
use Rattle.plain_commands.specs.Storms.{storm_or_refusal}
use Rattle.plain_commands.specs.Texts.{count_of_loops, graph_text}

-- a number that is told only where the outputs alone are observed
abbrev pub where_outputs : Observe → ℕ → Option ℕ
where_outputs All number = None
where_outputs Outputs number = Some number

-- how many gates are unknown on some care vector
abbrev pub loose_told : Decision → Option ℕ
loose_told decision = where_outputs decision.observe (length (loose_gates decision.net decision.care))

-- the rewritten netlist, unless it has too many gates and latches
abbrev pub rewritten_told : Decision → Ending
rewritten_told decision =
    if nat_le (rewritten_size decision.net decision.care) MAX_REWRITTEN_ITEMS
    then Prints (written (rewritten decision.net decision.care))
    else Outgrows (rewritten_size decision.net decision.care)

-- a graph of a netlist, unless it has too many ANDs. They aren't counted further than to the first that is too many
abbrev pub aiger_told : Encoding → Parts → Built → Ending
aiger_told encoding net graph =
    if nat_le (length graph.aig.ands) most_ands then Prints (graph_text encoding net graph) else Outgrows (most_ands + 1)

-- that of the rewritten netlist, unless this has too many gates and latches
abbrev pub graph_told : Encoding → Decision → Ending
graph_told encoding decision =
    if nat_le (rewritten_size decision.net decision.care) MAX_REWRITTEN_ITEMS
    then aiger_told encoding (rewritten decision.net decision.care) (graph_of decision.net decision.care)
    else Outgrows (rewritten_size decision.net decision.care)

-- The line of an accepted netlist, and behind it those of its loops, with the sweeps that they need on care. As a graph
-- the first is the label.
abbrev pub loops_explained : Form → Parts → CareSet → Option ℕ → List ℕ
loops_explained Lines net care loose = accepted_text net (count_of_loops net) loose ++ told_loops net (sweeps_needed net care)
loops_explained Dot net care loose = told_graph net (accepted_text net (count_of_loops net) loose) (sweeps_needed net care)

-- a refusal without more, or a graph that has its first words as the label
abbrev pub refusal_shown : Form → Parts → Refusal → List ℕ
refusal_shown Lines net refused = refusal_text net refused
refusal_shown Dot net refused = refusal_graph net refused

-- a wire that is undetermined at a vector, with why
abbrev pub wire_explained : Form → Parts → List Bool → Sig → Explanation → List ℕ
wire_explained Lines net v wire why = refusal_text net (Undetermined v wire) ++ explanation_text net why
wire_explained Dot net v wire why = explanation_graph net wire (fix net (bits v)) why

-- what is told of an accepted netlist that isn't split by cases
abbrev pub accepted_told : Decision → Purpose → Ending
accepted_told decision Judges = Prints (accepted_text decision.net (count_of_loops decision.net) (loose_told decision))
accepted_told decision (Rewrites cases) = rewritten_told decision
accepted_told decision (WritesGraph encoding cases) = graph_told encoding decision
accepted_told decision (Explains form) = Prints (loops_explained form decision.net decision.care (loose_told decision))
accepted_told decision (Demonstrates cells) =
    Prints (ring_line cells decision.net (count_of_loops decision.net) (length (rewritten decision.net decision.care).gates))
accepted_told decision (Storms rounds) = Declines (accepted_text decision.net (count_of_loops decision.net) (loose_told decision))

abbrev pub refused_told : Parts → Purpose → Refusal → Ending
refused_told net Judges refused = Refuses (refusal_text net refused)
refused_told net (Rewrites cases) refused = Declines (refusal_text net refused)
refused_told net (WritesGraph encoding cases) refused = Declines (refusal_text net refused)
refused_told net (Explains form) refused = Refuses (refusal_shown form net refused)
refused_told net (Demonstrates cells) refused = Refuses (refusal_text net refused)
refused_told net (Storms rounds) refused = storm_or_refusal net rounds refused

-- the text of a care set: its models, the assumption first
abbrev pub care_text : CareSet → List ℕ
care_text care = models_written (models_of care)

-- what is found where an assumption is looked for within a care set: this one or a stronger one, what refuses the netlist
-- under each assumption, or how large the assumption would be
abbrev pub assumption_told : Parts → CareSet → Assumption → Ending
assumption_told net care Stands = Prints (care_text care)
assumption_told net care (Weakest stronger) = Prints (care_text stronger)
assumption_told net care (Refused refused) = Declines (refusal_text net refused)
assumption_told net care TooManyRows = WantsRows MAX_ROWS
assumption_told net care (TooLarge gates) = Outgrows gates

-- what is found of two netlists, which are equal or aren't
abbrev pub found_told : Bool → List ℕ → Ending
found_told true text = Prints text
found_told false text = Refuses text

abbrev pub comparison_told : Comparison → Ending
comparison_told c = found_told (are_equal c.first c.second c.care) (found_text c.first c.second c.care)
