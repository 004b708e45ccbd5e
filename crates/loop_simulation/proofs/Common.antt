-- The names that most proofs of this crate cite, passed on from one place. Declares nothing.
pub use Rattle.loop_simulation.specs.Events.{AreUnseen, IsReady, IsSweeping}
pub use Rattle.loop_simulation.specs.LoopsAt.{AreCutPlacesBelow, IsLoopAt, LoopAt, gates_in, loops_in}
pub use Rattle.loop_simulation.specs.Readers.{AreReaders, HasGainedReader}
pub use Rattle.cyc_base.specs.Values.{Below, bit, bits}
pub use Rattle.cyc_base.specs.declared.sig.Sig.{Sig}
pub use Rattle.cyc_base.specs.declared.trit.Trit.TheVariants.{X, Zero}
pub use Rattle.cyc_base.specs.declared.trit.Trit.{Trit}
pub use Rattle.loops.proofs.Reading.{map_agree}
pub use Rattle.loops.proofs.Sweeps.{cut_values_agree, fixed_cuts_give_fix}
pub use Rattle.loops.proofs.Told.{gate_home}
pub use Rattle.loops.specs.Blocks.{block_at, home_of}
pub use Rattle.loops.specs.Cuts.{Loops, is_cut}
pub use Rattle.loops.specs.Looped.{Looped}
pub use Rattle.loops.specs.Sweeps.{CutsAreFixed, cuts_of, first_gate, gate_of, sweeps, value_in}
pub use Rattle.loops.specs.declared.structure.Blocks.{Blocks}
pub use Rattle.loops.specs.declared.structure.Cut.{Cut}
pub use Rattle.netlist.specs.Fixpoint.{fix, fix_gates, wire}
pub use Rattle.netlist.specs.Netlists.{count, gate_at, gate_sig, no_gate, columns}
pub use Rattle.netlist.specs.declared.parts.Parts.{Parts}
pub use Rattle.std.proofs.lemmas.Bool.{and_parts, cases_lt, eq-eqb}
pub use Rattle.std.proofs.lemmas.List.Elements.{All-push, All-weaker, Contains-append_left, Contains-get_or, Contains-push, Contains-push_cases}
pub use Rattle.std.proofs.lemmas.List.{get_or_default, length-map, length-set, take_all, take_more}
