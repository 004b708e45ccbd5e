-- The names that most proofs of this crate cite, passed on from one place. Declares nothing.
pub use Rattle.bdd_store.proofs.GrowthLemmas.{within_answered, within_more, within_moved, within_refused}
pub use Rattle.bdd_store.specs.Arena.{Arena, den}
pub use Rattle.bdd_store.specs.Growth.{AddsWithin, GrowsWithin, KeepsNodes, NoOtherCause}
pub use Rattle.bdd_store.specs.Soundness.{IsLawful}
pub use Rattle.bdd_store.specs.declared.node.Node.{Node}
pub use Rattle.cover_logic.specs.Extensions.{ext}
pub use Rattle.cover_logic.specs.declared.cover.Cover.{Cover}
pub use Rattle.cyc_base.specs.Values.{bit, bits}
pub use Rattle.cyc_base.specs.declared.sig.Sig.{Sig}
pub use Rattle.cyc_base.specs.declared.trit.Trit.{Trit}
pub use Rattle.cyc_base.specs.declared.trit.Trit.TheVariants.{X}
pub use Rattle.dual_rail.specs.Rails.{AreRailsOf, value_of, values_of}
pub use Rattle.dual_rail.specs.WorkingLists.{IsWide}
pub use Rattle.dual_rail.specs.declared.rail.Rails.{Rails}
pub use Rattle.fixpoint.specs.Kept.{rails_under}
pub use Rattle.fixpoint.specs.Orders.{order}
pub use Rattle.fixpoint.specs.Solved.{Vectors}
pub use Rattle.fixpoint.specs.Sweeping.{rails_at, unknown}
pub use Rattle.isolation.specs.Building.{AreClosed, AreCopies, AreNumbersOf, IsLoopNetlist, name_at}
pub use Rattle.isolation.specs.Excerpts.{IsExcerpt, gate_in, inputs_in, origin, origins}
pub use Rattle.isolation.specs.Settled.{SettleInSweeps}
pub use Rattle.isolation.specs.Settling.{AreKnown, BoundsKnown, HasUnknownRails, IsSolvedNetlist}
pub use Rattle.isolation.specs.Unsettled.{IsLaid}
pub use Rattle.loops.proofs.Existence.{loops_exist}
pub use Rattle.loops.proofs.Reading.{wire_of_gate}
pub use Rattle.loops.proofs.Sweeps.{same_within}
pub use Rattle.loops.proofs.Told.{gate_home, home_gate}
pub use Rattle.loops.proofs.Walks.{leads-trans}
pub use Rattle.loops.specs.Blocks.{AreBlocksOf, block_at, home_of}
pub use Rattle.loops.specs.Cuts.{AreLoopsOf, Loops}
pub use Rattle.loops.specs.Found.{loops_of}
pub use Rattle.loops.specs.Sweeps.{CutsAreFixed, first_gate, gate_of, sweeps, value_in}
pub use Rattle.loops.specs.Walks.{IsUpstream}
pub use Rattle.loops.specs.declared.structure.Blocks.{Blocks}
pub use Rattle.netlist.specs.Fixpoint.{fix, fix_gates, wire}
pub use Rattle.netlist.specs.Netlists.{IsNetlist, count, gate_at, gate_sig, is_marked, no_gate, signal}
pub use Rattle.netlist.specs.Walks.{Feeds}
pub use Rattle.netlist.specs.declared.parts.Gate.{Gate}
pub use Rattle.netlist.specs.declared.parts.Parts.{Parts}
pub use Rattle.std.proofs.lemmas.Bool.{and_parts, cases_Bool, cases_eq, cases_lt, eq-eqb, eqb-true}
pub use Rattle.std.proofs.lemmas.List.{ext_get_or, get_or-append_right, get_or-map, get_or-replicate, get_or_append_left, get_or_default, length-append, length-map, length_push, map-append}
pub use Rattle.std.proofs.lemmas.List.Elements.{Contains-get_or}
pub use Rattle.std.proofs.lemmas.Simd.{map-map}
pub use Rattle.std.specs.List.{All, list_any, range_with_len}
pub use Rattle.std.specs.Prelude.{IfSome}
