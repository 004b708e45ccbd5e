-- The names that most proofs of this crate cite, passed on from one place. Declares nothing.
pub use Rattle.cyc_base.specs.declared.trit.Trit.{Trit}
pub use Rattle.cyc_io.proofs.ItemLemmas.{appended_copied, appended_in_copied, appended_items}
pub use Rattle.cyc_io.proofs.TakenLemmas.{appended_cut, appended_equal, appended_none, appended_then}
pub use Rattle.cyc_io.specs.Taken.{IsAppendedWhole, sink_call}
pub use Rattle.dot_text.specs.ExplanationGraphs.{gate_box, gate_node, pin_wire, pin_wires}
pub use Rattle.dot_text.specs.LoopGraphs.{loop_wire}
pub use Rattle.dot_text.specs.Seen.{picture_seen, quoted_line}
pub use Rattle.loops.specs.Found.{loops_of}
pub use Rattle.netlist.specs.Netlists.{gate_sig, is_marked}
pub use Rattle.netlist.specs.declared.parts.Parts.{Parts}
pub use Rattle.std.specs.List.{flat_map}
