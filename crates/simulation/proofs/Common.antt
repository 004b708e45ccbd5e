-- The names that most proofs of this crate cite, passed on from one place. Declares nothing.
pub use Rattle.cyc_base.specs.Values.{Below}
pub use Rattle.cyc_base.specs.declared.sig.Sig.{Sig}
pub use Rattle.cyc_base.specs.declared.trit.Trit.{Trit}
pub use Rattle.cyc_base.specs.declared.trit.Trit.TheVariants.{X}
pub use Rattle.loops.specs.Blocks.{AreBlocksOf, home_of}
pub use Rattle.loops.specs.Sweeps.{first_gate}
pub use Rattle.loops.specs.declared.structure.Blocks.{Blocks}
pub use Rattle.netlist.specs.Fixpoint.{fix, fix_gates, gate_value, wire}
pub use Rattle.netlist.specs.Netlists.{IsNetlist, count, gate_at, gate_sig}
pub use Rattle.netlist.specs.declared.parts.Parts.{Parts}
pub use Rattle.simulation.specs.Listing.{AreListed}
pub use Rattle.simulation.specs.Plans.{readers_of}
pub use Rattle.simulation.specs.Rising.{IsRising, work_left}
pub use Rattle.simulation.specs.Stability.{AreKept, AreSettled, is_due, vector_of}
pub use Rattle.std.proofs.lemmas.Bool.{cases_eq, cases_lt, eqb-true}
pub use Rattle.std.proofs.lemmas.List.{get_or-set_other, get_or-set_same, get_or_default, get_or_past, length-set}
