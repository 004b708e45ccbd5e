-- The names that most proofs of this crate cite, passed on from one place. Declares nothing.
pub use Rattle.cyc_io.proofs.ItemLemmas.{appended_copied, appended_in_copied, appended_in_item, appended_item, appended_items}
pub use Rattle.cyc_io.proofs.TakenLemmas.{appended_cut, appended_equal, appended_none, appended_then, over}
pub use Rattle.cyc_io.specs.Taken.{IsAppended, IsAppendedWhole, SinkCall, sink_call}
pub use Rattle.loops.proofs.ListLemmas.{comes_at}
pub use Rattle.loops.specs.Found.{loops_of}
pub use Rattle.loops.specs.Left.{loop_seen, loops_left}
pub use Rattle.netlist.specs.Netlists.{signal_names}
pub use Rattle.netlist.specs.declared.parts.Parts.{Parts}
pub use Rattle.report.specs.Help.{topic_text}
pub use Rattle.report.specs.LoopTexts.{gate_name, loop_line, loop_lines}
pub use Rattle.report.specs.Ticks.{trit_text}
pub use Rattle.report.specs.Verdicts.{column_text}
pub use Rattle.std.proofs.lemmas.Option.{get_or_from_slice_get}
pub use Rattle.std.specs.List.{flat_map, range_with_len}
pub use Rattle.std.specs.Prelude.{Err, IsErr, Ok, if◌then◌else◌}
pub use Rattle.std.specs.declared.option.Option.{Option}
pub use Rattle.std.specs.declared.result.Result.{Result}
