-- The names that most proofs of this crate cite, passed on from one place. Declares nothing.
pub use Rattle.bdd_ops.specs.Least.{IsLayout, by_variable}
pub use Rattle.bdd_ops.specs.Operations.{conjunction}
pub use Rattle.bdd_store.proofs.GrowthLemmas.{within_answered, within_more, within_moved, within_only, within_refused, within_then}
pub use Rattle.bdd_store.specs.Arena.{Arena, den}
pub use Rattle.bdd_store.specs.Growth.{GrowsWithin, NoOtherCause}
pub use Rattle.bdd_store.specs.Subfunctions.{nodes}
pub use Rattle.bdd_store.specs.declared.node.Node.{Node}
pub use Rattle.care_sets.specs.Binding.{IsCareOf}
pub use Rattle.care_sets.specs.Care.{CareSet, is_care_vector, state_of}
pub use Rattle.netlist.specs.Pairs.{IsPairOf}
pub use Rattle.netlist.specs.declared.pair.Pair.{Pair}
pub use Rattle.cyc_base.proofs.VectorLemmas.{find-alike}
pub use Rattle.cyc_base.specs.Values.{bit, bits}
pub use Rattle.cyc_base.specs.Vectors.{vectors}
pub use Rattle.cyc_base.specs.declared.sig.Sig.{Sig}
pub use Rattle.cyc_base.specs.declared.trit.Trit.TheVariants.{X}
pub use Rattle.dual_rail.specs.Rails.{AreRailsOf, value_of, values_of}
pub use Rattle.dual_rail.specs.WorkingLists.{IsWide}
pub use Rattle.dual_rail.specs.declared.rail.Rails.{Rails}
pub use Rattle.equal.specs.Bounds.{IsBelowEnoughForBoth, IsOutOfNodesForBoth}
pub use Rattle.equal.specs.Compared.{Accepted, Compares, Matched}
pub use Rattle.equal.specs.Comparisons.{IsBelowEnoughFor, IsLaidBy}
pub use Rattle.equal.specs.Early.{IsFound, IsKnownEarly}
pub use Rattle.equal.specs.Sets.{AreFixedBy, BoundsAbove, BoundsPairs, TellsBy, is_above, some_differ}
pub use Rattle.equal.specs.declared.least.Early.{Early}
pub use Rattle.fixpoint.proofs.WireLemmas.{rails_at-proper}
pub use Rattle.fixpoint.specs.Orders.{order}
pub use Rattle.fixpoint.specs.Sweeping.{rails_at}
pub use Rattle.fixpoint.specs.Working.{IsGatePart}
pub use Rattle.loops.specs.Found.{loops_of}
pub use Rattle.miters.specs.Differences.{AreAccepted, HaveOneSource, by_name, columns_by_name, comparison, difference, latch_pairs, output_pairs, pair_of, signal_named, source_named}
pub use Rattle.miters.specs.Joined.{joined, joined_pairs, miter, miter_gates, moved, moved_gates, moved_pair_by}
pub use Rattle.miters.specs.Matching.{unmatched}
pub use Rattle.miters.specs.Pairs.{least_apart}
pub use Rattle.miters.specs.declared.answer.Answer.{Answer}
pub use Rattle.netlist.specs.Fixpoint.{fix_gates}
pub use Rattle.netlist.specs.Netlists.{IsNetlist, count, gate_at, no_gate, columns, signal_name}
pub use Rattle.netlist.specs.declared.parts.Gate.{Gate}
pub use Rattle.netlist.specs.declared.parts.Latch.{Latch}
pub use Rattle.netlist.specs.declared.parts.Parts.{Parts}
pub use Rattle.refusals.proofs.LawLemmas.{accepted_without_refusal}
pub use Rattle.refusals.specs.Refusals.{refusal}
pub use Rattle.refusals.specs.declared.refusal.Refusal.TheVariants.{Undetermined}
pub use Rattle.refusals.specs.declared.refusal.Refusal.{Refusal}
pub use Rattle.std.proofs.lemmas.Bool.{cases_lt}
pub use Rattle.std.proofs.lemmas.List.{append-nil, get_or_append_left, length-append, length-map}
pub use Rattle.std.proofs.lemmas.Simd.{map-map}
pub use Rattle.std.specs.List.{range_with_len}
pub use Rattle.std.specs.Prelude.{Err, IfOk, Ok, Result, find, option_map}
pub use Rattle.diagram_decision.specs.Causes.{IsOutOfNodes}
