-- The names that most proofs of this crate cite, passed on from one place. Declares nothing.
pub use Rattle.bdd_store.proofs.GrowthLemmas.{adds_then}
pub use Rattle.care_sets.specs.Binding.{IsCareOf}
pub use Rattle.care_sets.specs.Care.{CareSet, IsCareVector, is_care_vector, is_in_invariant}
pub use Rattle.care_sets.specs.declared.model.CareModel.{CareModel}
pub use Rattle.clause_decision.specs.Changes.{AreFedKnown}
pub use Rattle.loop_simulation.specs.Sweeping.{IsLeastCount}
pub use Rattle.refusals.specs.Tests.{IsFirstToRefuse, is_leaving, is_unknown_at}
pub use Rattle.cyc_base.specs.Values.{bits}
pub use Rattle.cyc_base.specs.Vectors.{vectors}
pub use Rattle.cyc_base.specs.declared.sig.Sig.{Sig}
pub use Rattle.cyc_base.specs.declared.trit.Trit.{Trit}
pub use Rattle.cyc_base.specs.declared.trit.Trit.TheVariants.{X}
pub use Rattle.isolation.proofs.SettledLemmas.{unsettled_loops_decide}
pub use Rattle.loops.specs.Cones.{AddMarks, ListsMarked}
pub use Rattle.loops.proofs.Told.{gate_home, home_gate}
pub use Rattle.loops.specs.Blocks.{AreBlocksOf, block_at, home_of}
pub use Rattle.loops.specs.Cuts.{IsCutOf, Loops, loops_by}
pub use Rattle.loops.specs.Sweeps.{IsCountOfSweeps, value_in}
pub use Rattle.loops.specs.declared.structure.Blocks.{Blocks}
pub use Rattle.loops.specs.declared.structure.Cut.{Cut}
pub use Rattle.netlist.specs.Fixpoint.{fix, fix_gates, wire}
pub use Rattle.netlist.specs.Netlists.{IsNetlist, gate_sig, columns, is_marked}
pub use Rattle.netlist.specs.Walks.{Feeds}
pub use Rattle.netlist.specs.declared.parts.Latch.{Latch}
pub use Rattle.netlist.specs.declared.parts.Parts.{Parts}
pub use Rattle.refusals.proofs.FirstLemmas.{empty-filter, found_wide, none_passes}
pub use Rattle.refusals.proofs.RefusalLemmas.{gate_wire}
pub use Rattle.refusals.proofs.ShowingLemmas.{care_vector_decides, care_vector_is}
pub use Rattle.refusals.specs.Acceptance.{gate_sigs, observed}
pub use Rattle.refusals.specs.Refusals.{care_vectors, initial_refusal, is_undetermined, is_x, leaves, leaves_refusal, refusal, undetermined_refusal}
pub use Rattle.refusals.specs.declared.observe.Observe.{Observe}
pub use Rattle.refusals.specs.declared.refusal.Refusal.{Refusal}
pub use Rattle.refusals.specs.declared.refusal.Refusal.TheVariants.{EmptyCare, Initial, Leaves, Undetermined}
pub use Rattle.std.proofs.lemmas.Bool.{and_from, and_parts, cases_lt}
pub use Rattle.std.proofs.lemmas.List.{get_or-map, get_or_default, get_or_past, length-map, length_push}
pub use Rattle.std.proofs.lemmas.Option.{get_or_from_slice_get, slice_get_within}
pub use Rattle.std.proofs.lemmas.Result.{IfOk-weaker}
pub use Rattle.std.specs.List.{All}
pub use Rattle.std.specs.Option.{option_map, option_map_or}
pub use Rattle.std.specs.Prelude.{find, is_none, is_some}
pub use Rattle.verdict.specs.Fanout.{AreFanoutMarks}
pub use Rattle.isolation.specs.Alone.{SettleInOneSweep}
pub use Rattle.diagram_decision.specs.Enough.{AddsInDecision, IsFullFor}
pub use Rattle.verdict.specs.Loose.{AreLoopCounts, AreScattered, AreUnknownMarks, AreCandidates}
pub use Rattle.diagram_decision.specs.Observed.{AreMarksOf}
pub use Rattle.verdict.specs.Scopes.{AreDriversBefore, MayGoOn}
pub use Rattle.diagram_decision.specs.Judgements.{AreLoose}
pub use Rattle.loop_simulation.specs.Sweeping.{are_care_values}
