-- The names that most proofs of this crate cite, passed on from one place. Declares nothing.
pub use Rattle.explain_text.specs.Columns.{AreColumnsRead, IsAmong, IsReadBelow, columns_read, is_read, is_upstream, marked_columns}
pub use Rattle.explain_text.specs.Graphs.{short_cluster, told_cluster, whole_cluster}
pub use Rattle.explain_text.specs.Explanations.{needed_column, side_of}
pub use Rattle.explain_text.specs.Lines.{column_name, columns_line, sweeps_line, told_lines}
pub use Rattle.care_sets.specs.Care.{CareSet}
pub use Rattle.cyc_io.proofs.ItemLemmas.{appended_in_item, appended_item, appended_items}
pub use Rattle.cyc_io.proofs.TakenLemmas.{appended_cut, appended_equal, appended_none, appended_then}
pub use Rattle.cyc_io.specs.Taken.{IsAppendedWhole, sink_call}
pub use Rattle.cyc_io.specs.Text.{text_bytes}
pub use Rattle.dot_text.specs.LoopGraphs.{cut_cluster, labelled_cluster}
pub use Rattle.loops.specs.Cones.{AddMarks}
pub use Rattle.loops.proofs.ListLemmas.{comes_at}
pub use Rattle.loops.specs.Found.{loops_of}
pub use Rattle.loops.specs.Left.{loops_left}
pub use Rattle.loops.specs.Listed.{begins_with, gate_numbers, loop_of}
pub use Rattle.loops.specs.Sweeps.{first_gate}
pub use Rattle.netlist.specs.Netlists.{gate_at, is_marked, signal_names}
pub use Rattle.netlist.specs.declared.parts.Parts.{Parts}
pub use Rattle.refusals.proofs.ObservedLemmas.{among, member}
pub use Rattle.report.proofs.LoopTextLemmas.{told_first}
pub use Rattle.report.specs.LoopTexts.{loop_lines}
pub use Rattle.loop_simulation.proofs.NeededLemmas.{counts_are_needed}
pub use Rattle.loop_simulation.specs.Sweeping.{sweeps_needed, AreSweepsOnCare}
pub use Rattle.std.proofs.lemmas.Bool.{and_from, and_parts, eqb-true}
pub use Rattle.std.proofs.lemmas.List.FromFn.{length-range_with_len}
pub use Rattle.std.proofs.lemmas.Option.{get_or_from_slice_get}
pub use Rattle.std.proofs.lemmas.Result.{IfOk-weaker}
pub use Rattle.std.specs.List.{flat_map, range_with_len}
pub use Rattle.std.specs.Prelude.{if◌then◌else◌}
pub use Rattle.unroll.specs.Counted.{Counted, counted_sweeps, IsCounted}
