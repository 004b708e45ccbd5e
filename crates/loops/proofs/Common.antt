-- The names that most proofs of this crate cite, passed on from one place. Declares nothing.
pub use Rattle.components.specs.Graphs.{AreComponentsOf}
pub use Rattle.cover_logic.specs.Extensions.{ext}
pub use Rattle.cyc_base.proofs.ListLemmas.{all_append, all_weaker}
pub use Rattle.cyc_base.proofs.TruthLemmas.{same_truth}
pub use Rattle.cyc_base.specs.declared.sig.Sig.{Sig}
pub use Rattle.cyc_base.specs.declared.trit.Trit.{Trit}
pub use Rattle.cyc_base.specs.declared.trit.Trit.TheVariants.{X}
pub use Rattle.loops.specs.Blocks.{AreBlocksOf, block_at, home_of}
pub use Rattle.loops.specs.Cuts.{AreLoopsOf, Loops, MayPass, in_one_loop, is_cut}
pub use Rattle.loops.specs.Found.{loops_of}
pub use Rattle.loops.specs.Links.{IsLoopPin}
pub use Rattle.loops.specs.Listed.{begins_with, loop_of}
pub use Rattle.loops.specs.Looped.{Looped}
pub use Rattle.loops.specs.Members.{block_of}
pub use Rattle.loops.specs.Placing.{ArePlacesRead, AreUncutReads}
pub use Rattle.loops.specs.Sweeps.{first_gate, gate_of, in_loop_of, pin_in, sweep}
pub use Rattle.loops.specs.Walks.{AnyGate, Leads, SameLoop}
pub use Rattle.loops.specs.declared.structure.Block.{Block}
pub use Rattle.loops.specs.declared.structure.Blocks.{Blocks}
pub use Rattle.loops.specs.declared.structure.Cut.{Cut}
pub use Rattle.netlist.specs.Fixpoint.{fix, fix_gates, wire}
pub use Rattle.netlist.specs.Netlists.{gate_at, gate_sig}
pub use Rattle.netlist.specs.Walks.{Feeds, Walk}
pub use Rattle.netlist.specs.declared.parts.Parts.{Parts}
pub use Rattle.std.proofs.lemmas.Bool.{and_from, and_parts, cases_Bool, cases_eq, cases_lt, eqb-true, lt-ltb}
pub use Rattle.std.proofs.lemmas.List.{get_or-set_other, get_or-set_same, get_or_append_left, get_or_default, get_or_past, length-map, length-replicate, length-set}
pub use Rattle.std.proofs.lemmas.List.Elements.{Contains-append_left, Contains-get_or, Contains-push, Contains-push_cases}
pub use Rattle.std.proofs.lemmas.List.FromFn.{get_or-range_with_len, length-range_with_len}
pub use Rattle.std.specs.List.{AllByRecursion, range_with_len}
