-- The names that most proofs of this crate cite, passed on from one place. Declares nothing.
pub use Rattle.bdd_ops.specs.Least.{IsLayout}
pub use Rattle.bdd_store.proofs.GrowthLemmas.{HasGrown, adds_more, adds_moved, adds_refused, adds_swept, within_answered, within_more, within_moved, within_only, within_refused, within_then}
pub use Rattle.bdd_store.specs.Arena.{Arena, IsNodeOf, den}
pub use Rattle.bdd_store.specs.Growth.{AddsWithin, GrowsWithin, KeepsNodes, NoOtherCause}
pub use Rattle.bdd_store.specs.Soundness.{IsLawful}
pub use Rattle.bdd_store.specs.declared.fault.StoreFault.{StoreFault}
pub use Rattle.bdd_store.specs.declared.node.Node.{Node}
pub use Rattle.cover_logic.specs.Covers.{value}
pub use Rattle.cover_logic.specs.Extensions.{ext}
pub use Rattle.cyc_base.specs.declared.sig.Sig.{Sig}
pub use Rattle.cyc_base.specs.declared.trit.Trit.{Trit}
pub use Rattle.cyc_base.specs.declared.trit.Trit.TheVariants.{X}
pub use Rattle.dual_rail.proofs.SurelyLemmas.{All-rails-kept, value_of-kept}
pub use Rattle.dual_rail.specs.Local.{IsDiagramOf, size}
pub use Rattle.dual_rail.specs.Rails.{AreRailsOf, trit_of, value_of, values_of}
pub use Rattle.dual_rail.specs.WorkingLists.{BoundsEach, IsExtended, IsWide, is_bit}
pub use Rattle.dual_rail.specs.declared.rail.Rails.{Rails}
pub use Rattle.fixpoint.specs.Counts.{AgreeOn, AreCountable, AreNodes, IsCompared, IsComparedIn, IsLeastStep, SameRailsOn}
pub use Rattle.fixpoint.specs.Kept.{AreKept, GainsRoots, HoldsRails, RootsStay, rails_under, values_under}
pub use Rattle.fixpoint.specs.Lifting.{AreLifted, BoundsGate}
pub use Rattle.fixpoint.specs.Orders.{AreTaken, columns_read, first_signals}
pub use Rattle.fixpoint.specs.Solved.{AreKeptSteps, AreStepsOf, HasEachLoopOnce, IsLoopAt, IsSolution, Vectors, last_step, loop_under, step_at, steps_under}
pub use Rattle.fixpoint.specs.Sweeping.{AreFresh, AreKeptBelow, AreSwept, AreWires, HasSolvedTo, IsGateSet, IsSolvedBelow, IsSolvedTo, IsSweepable, after_sweeps, place_of, rails_at, rails_read, unknown, vectors}
pub use Rattle.fixpoint.specs.Underway.{IsAtRest, IsUnderway}
pub use Rattle.fixpoint.specs.Working.{HasLargeCover, IsGatePart, IsWorking, below_cost, block_cost, cost, effort, no_loops, order_cost, read_at_fix, total}
pub use Rattle.fixpoint.specs.declared.kept.KeptRails.{KeptRails}
pub use Rattle.fixpoint.specs.declared.solved.LoopSteps.{LoopSteps}
pub use Rattle.fixpoint.specs.declared.solved.Solved.{Solved}
pub use Rattle.fixpoint.specs.declared.solved.SweptLoop.{SweptLoop}
pub use Rattle.loops.proofs.Reading.{map_agree, wire_of_gate}
pub use Rattle.loops.proofs.Sweeps.{few_sweeps_are_enough}
pub use Rattle.loops.proofs.Told.{blocks_tell_loops, gate_home, home_gate, told_parts}
pub use Rattle.loops.proofs.Unique.{feeds_at}
pub use Rattle.loops.specs.Blocks.{AreBlocksOf, block_at, home_of, no_block}
pub use Rattle.loops.specs.Cuts.{IsCutOf, in_one_loop, is_cut, loops_by}
pub use Rattle.loops.specs.Looped.{IsLooped, Looped}
pub use Rattle.loops.specs.Orders.{IsInOrder, IsOrderOf, ReadsUncut}
pub use Rattle.loops.specs.Sweeps.{cuts_of, first_gate, gate_of, sweeps, value_in}
pub use Rattle.loops.specs.declared.structure.Block.{Block}
pub use Rattle.loops.specs.declared.structure.Blocks.{Blocks}
pub use Rattle.loops.specs.declared.structure.Cut.{Cut}
pub use Rattle.netlist.specs.Fixpoint.{fix, fix_gates, wire}
pub use Rattle.netlist.specs.Netlists.{IsNetlist, IsSignal, count, gate_at, no_gate}
pub use Rattle.netlist.specs.Walks.{Feeds}
pub use Rattle.netlist.specs.declared.parts.Gate.{Gate}
pub use Rattle.netlist.specs.declared.parts.Parts.{Parts}
pub use Rattle.std.proofs.Math.Nat.{mul-le-mul_left}
pub use Rattle.std.proofs.lemmas.Bool.{cases_Bool, cases_eq, cases_lt, eq-eqb, eqb-true}
pub use Rattle.std.proofs.lemmas.List.{append-nil, ext_get_or, get_or-map, get_or-replicate, get_or-take, get_or_append_left, get_or_default, get_or_push, length-append, length-map, length-replicate, length-take, length_push, take_all, take_more}
pub use Rattle.std.proofs.lemmas.List.Elements.{All-append, All-contains, All-get_or, All-map, All-push, All-set}
pub use Rattle.std.proofs.lemmas.List.FromFn.{length-range_with_len}
pub use Rattle.std.proofs.lemmas.List.Sums.{sum_by-take-le, sum_by_more}
pub use Rattle.std.specs.List.{All, flat_map, range_with_len, sum_by}
pub use Rattle.std.specs.Option.{option_to_list}
