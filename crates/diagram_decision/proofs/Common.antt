-- The names that most proofs of this crate cite, passed on from one place. Declares nothing.
pub use Rattle.bdd_ops.specs.Least.{IsLayout, by_variable}
pub use Rattle.bdd_ops.specs.Operations.{conjunction}
pub use Rattle.bdd_store.proofs.GrowthLemmas.{HasGrown, adds_more, adds_moved, adds_refused, adds_then, within_answered, within_memory, within_more, within_moved, within_one, within_only, within_refused, within_then}
pub use Rattle.bdd_store.proofs.SubfunctionLemmas.{nodes-alike}
pub use Rattle.bdd_store.specs.Arena.{Arena, IsNodeOf, den}
pub use Rattle.bdd_store.specs.Growth.{AddsWithin, GrowsWithin, KeepsNodes, NoOtherCause}
pub use Rattle.bdd_store.specs.Soundness.{IsLawful}
unfoldable pub use Rattle.bdd_store.specs.Subfunctions.{nodes}
pub use Rattle.bdd_store.specs.declared.fault.StoreFault.{StoreFault}
pub use Rattle.bdd_store.specs.declared.node.Node.{Node}
pub use Rattle.care_sets.specs.Binding.{IsCareOf}
pub use Rattle.care_sets.specs.Care.{CareSet, IsCareVector, holds_at, is_care_vector, is_in_invariant, is_one, state_of, HasValues}
pub use Rattle.care_sets.specs.declared.model.CareModel.{CareModel}
pub use Rattle.refusals.specs.Tests.{IsFirstToRefuse, is_leaving, is_unknown_at}
pub use Rattle.cyc_base.specs.Values.{bit, bits}
pub use Rattle.cyc_base.specs.Vectors.{vectors}
pub use Rattle.cyc_base.specs.declared.sig.Sig.{Sig}
pub use Rattle.cyc_base.specs.declared.trit.Trit.{Trit}
pub use Rattle.cyc_base.specs.declared.trit.Trit.TheVariants.{X}
pub use Rattle.dual_rail.specs.Rails.{AreRailsOf, trit_of, value_of, values_of}
pub use Rattle.dual_rail.specs.WorkingLists.{BoundsEach, IsWide, is_bit}
pub use Rattle.dual_rail.specs.declared.rail.Rails.{Rails}
pub use Rattle.fixpoint.proofs.ColumnLemmas.{AreColumns-kept}
pub use Rattle.fixpoint.proofs.CutLemmas.{one-of, zero-of}
pub use Rattle.fixpoint.proofs.LayoutLemmas.{by_column, length-by_column, variables-back}
pub use Rattle.fixpoint.proofs.OrderLemmas.{order-is}
pub use Rattle.fixpoint.proofs.WireLemmas.{rails_at-proper}
pub use Rattle.fixpoint.specs.Columns.{AreColumns}
pub use Rattle.fixpoint.specs.Kept.{rails_under}
pub use Rattle.fixpoint.specs.Orders.{laid, order}
pub use Rattle.fixpoint.specs.Solved.{IsSolution, Vectors}
pub use Rattle.fixpoint.specs.Sweeping.{rails_at}
pub use Rattle.fixpoint.specs.Working.{HasLargeCover, IsWorking, effort}
pub use Rattle.loops.proofs.Reading.{map_agree}
pub use Rattle.loops.specs.Blocks.{AreBlocksOf, block_at, home_of}
pub use Rattle.loops.specs.Cuts.{IsCutOf, Loops, loops_by}
pub use Rattle.loops.specs.Sweeps.{IsCountOfSweeps, value_in}
pub use Rattle.loops.specs.declared.structure.Blocks.{Blocks}
pub use Rattle.loops.specs.declared.structure.Cut.{Cut}
pub use Rattle.netlist.specs.Fixpoint.{fix, fix_gates, next, wire}
pub use Rattle.netlist.specs.Netlists.{IsNetlist, count, gate_sig, columns, is_marked}
pub use Rattle.netlist.specs.declared.parts.Latch.{Latch}
pub use Rattle.netlist.specs.declared.parts.Parts.{Parts}
pub use Rattle.refusals.proofs.FirstLemmas.{empty-filter, found_wide, none_passes}
pub use Rattle.refusals.proofs.RefusalLemmas.{gate_wire}
pub use Rattle.refusals.proofs.ShowingLemmas.{care_vector_decides, care_vector_is}
pub use Rattle.refusals.specs.Acceptance.{gate_sigs, observed}
pub use Rattle.refusals.specs.Refusals.{care_vectors, initial_refusal, is_undetermined, is_x, leaves, leaves_refusal, next_state, refusal, undetermined_refusal}
pub use Rattle.refusals.specs.declared.observe.Observe.{Observe}
pub use Rattle.refusals.specs.declared.refusal.Refusal.{Refusal}
pub use Rattle.refusals.specs.declared.refusal.Refusal.TheVariants.{EmptyCare, Initial, Leaves, Undetermined}
pub use Rattle.std.proofs.lemmas.Bool.{and_from, and_parts, cases_lt, eqb-true}
pub use Rattle.std.proofs.lemmas.List.{get_or-map, get_or-replicate, get_or_append_left, get_or_default, get_or_past, length-drop, length-map, length_push, take_all, take_at, length-replicate}
pub use Rattle.std.proofs.lemmas.Option.{get_or_from_slice_get, slice_get_within}
pub use Rattle.std.proofs.lemmas.Result.{IfOk-weaker}
pub use Rattle.std.specs.List.{list_all, All}
pub use Rattle.std.specs.Option.{option_map, option_map_or}
pub use Rattle.std.specs.Prelude.{IsSomeAnd, find, is_none, IfSome}
pub use Rattle.diagram_decision.specs.Causes.{HasModelOver, HasCoverOver}
pub use Rattle.diagram_decision.specs.Costs.{assume_effort, decision_cost, invariant_effort, start_cost}
pub use Rattle.diagram_decision.specs.Enough.{AddsInDecision, BoundsModel, GrowsInDecision, IsFullFor, IsLaid, IsOfModel, SaysCare, read_by}
pub use Rattle.diagram_decision.specs.Next.{next_within}
pub use Rattle.diagram_decision.specs.Observed.{AreMarksOf}
pub use Rattle.diagram_decision.specs.Sets.{AreFixed, BoundsBoth, BoundsStarts, ReadsWithin, Tells, difference, has_state_inside, model_of, starts}
pub use Rattle.diagram_decision.specs.Solving.{AreColumnVectors}
pub use Rattle.diagram_decision.specs.Judgements.{AreLoose}
pub use Rattle.loop_simulation.specs.Sweeping.{are_care_values}
