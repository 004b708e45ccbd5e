-- The names that most proofs of this crate cite, passed on from one place. Declares nothing.
pub use Rattle.blif_text.proofs.WrittenLines.{IsLine, numbered}
pub use Rattle.blif_text.specs.Lines.{line_at}
pub use Rattle.blif_text.specs.Texts.{Line, end_number, is_lf, lines}
pub use Rattle.cyc_base.specs.Names.{IsBlifName}
pub use Rattle.cyc_io.proofs.ItemLemmas.{appended_copied, appended_in_copied, appended_in_item, appended_item, appended_items}
pub use Rattle.cyc_io.proofs.TakenLemmas.{appended_cut, appended_equal, appended_none, appended_then}
pub use Rattle.cyc_io.specs.Taken.{IsAppendedWhole, sink_call}
pub use Rattle.delay_core.specs.declared.plan.PlannedEvent.{PlannedEvent}
pub use Rattle.delay_core.specs.declared.plan.RoundPlan.{RoundPlan}
pub use Rattle.delay_core.specs.declared.plan.Schedule.{Schedule}
pub use Rattle.netlist.specs.Netlists.{IsNetlist, gate_at}
pub use Rattle.netlist.specs.declared.parts.Latch.{Latch}
pub use Rattle.netlist.specs.declared.parts.Parts.{Parts}
pub use Rattle.sched_text.specs.Faults.{unless}
pub use Rattle.sched_text.specs.Fitting.{AreOfGates, FitsNetlist, IsOfGates}
pub use Rattle.sched_text.specs.Kinds.{is_tick, kind, lacks_lines}
pub use Rattle.sched_text.specs.LineFaults.{arguments, begins_tick, bit_of, bits_of, fault_at, fault_at_end, first_fault, first_refused, is_cut_off, nearest, permits, ticks_begun}
pub use Rattle.sched_text.specs.Numbers.{number}
pub use Rattle.sched_text.specs.Pieces.{bad_line}
pub use Rattle.sched_text.specs.Putting.{AreSmall, HasSmallAges, IsSmall, event_text, round_text, tick_text}
pub use Rattle.sched_text.specs.ReadingOn.{ReadsPiece}
pub use Rattle.sched_text.specs.Running.{Draft, ended, follow, new_draft, seen}
pub use Rattle.sched_text.specs.Schedules.{schedule}
pub use Rattle.sched_text.specs.Statements.{statement}
pub use Rattle.sched_text.specs.Vectors.{value_of}
pub use Rattle.sched_text.specs.Written.{after_blank, bits_words, event_line, line_text, lines_of, past_line, round_lines, start_word, tick_lines}
pub use Rattle.sched_text.specs.declared.fault.SchedFault.{SchedFault}
pub use Rattle.sched_text.specs.declared.fault.SchedFault.TheVariants.{BadLine, WrongWidth}
pub use Rattle.std.proofs.Math.Seq.{drop-cons}
pub use Rattle.std.proofs.lemmas.Bool.{cases_lt, ne_eqb}
pub use Rattle.std.proofs.lemmas.Bool.Decides.{nat_tests}
pub use Rattle.std.proofs.lemmas.List.{length-map}
pub use Rattle.std.proofs.lemmas.List.Elements.{All-cons, All-head, All-more, All-nil, All-tail}
pub use Rattle.std.proofs.lemmas.List.Sums.{sum_by-cons}
pub use Rattle.std.specs.List.{flat_map, list_all, list_any}
pub use Rattle.std.specs.Option.{option_or}
pub use Rattle.std.specs.Prelude.{Option, Result, codes, decimal, if◌then◌else◌, is_some, option_map, unwrap_or, vec_capacity, vec_len}
