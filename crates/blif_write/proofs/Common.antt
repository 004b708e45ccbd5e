-- The names that most proofs of this crate cite, passed on from one place. Declares nothing.
pub use Rattle.blif_read.specs.declared.models.BlifModel.{BlifModel}
pub use Rattle.blif_read.specs.declared.models.GateLine.{GateLine}
pub use Rattle.blif_read.specs.declared.models.LatchLine.{LatchLine}
pub use Rattle.blif_text.proofs.WrittenLines.{numbered}
pub use Rattle.blif_write.specs.Putting.{behind, gate_text}
pub use Rattle.blif_write.specs.Written.{all_gate_lines, clock_lines, control_words, edge_word, gate_lines, init_word, latch_line, latch_lines, line_text, lines_of, lit_byte, lits_words, plane_word, row_line}
pub use Rattle.cover_logic.specs.Covers.{IsCover}
pub use Rattle.cover_logic.specs.declared.row.Lit.{Lit}
pub use Rattle.cyc_base.specs.declared.sig.Sig.{Sig}
pub use Rattle.cyc_io.proofs.ItemLemmas.{appended_in_item, appended_item, appended_items}
pub use Rattle.cyc_io.proofs.TakenLemmas.{appended_cut, appended_equal, appended_none, appended_then}
pub use Rattle.cyc_io.specs.Taken.{IsAppendedWhole, sink_call}
pub use Rattle.netlist.specs.Netlists.{IsClockName, IsNetlist, driven_names, signal, signal_names, signal_name}
pub use Rattle.netlist.specs.declared.parts.Clock.{Clock}
pub use Rattle.netlist.specs.declared.parts.Edge.{Edge}
pub use Rattle.netlist.specs.declared.parts.Gate.{Gate}
pub use Rattle.netlist.specs.declared.parts.Init.{Init}
pub use Rattle.netlist.specs.declared.parts.Latch.{Latch}
pub use Rattle.netlist.specs.declared.parts.Parts.{Parts}
pub use Rattle.std.proofs.lemmas.List.{length-map}
pub use Rattle.std.proofs.lemmas.List.Elements.{All-head, All-tail}
pub use Rattle.std.specs.List.{flat_map, list_any}
pub use Rattle.std.specs.Prelude.{All, IfSome}
pub use Rattle.std.specs.Str.{bytes_eq}
pub use Rattle.std.specs.declared.option.Option.{Option}
