-- The names that most proofs of this crate cite, passed on from one place. Declares nothing.
pub use Rattle.care_rows.specs.Models.{AreUsed, IsKept, IsOver, IsPlaced, IsUsed, KeepsMarks, Plan, all_marked, and_cover, and_gate, assumed_columns, assumed_gate, assumed_gates, assumed_output, assumed_signal, assumed_size, base_of, column_name, conditions, first_assumed, if_marked, inputs_of, kept_gate, kept_gates, kept_signals, link, linked_piece, literal, marked_below, marked_name, model_gates, model_of, kept_signal, old_gates, piece, placed_row, places, places_from, places_of, plan_by, plan_of, rank, row_gates, row_outputs, size_of, table_of, telling, telling_gates_of, telling_name, telling_of_rows, total_of, wire_value}
pub use Rattle.care_rows.specs.Restricted.{IsModelSize, IsRestricted, IsTooLarge, gates_of_rows, telling_gates}
pub use Rattle.care_rows.specs.Rows.{AreSteadyMarks, AreSteadyRows, IsIn, IsInNone, IsSteady, IsSteadySignal}
pub use Rattle.care_rows.specs.Steady.{AreSteadyBefore, IsAmong, IsDone}
pub use Rattle.care_rows.specs.declared.keeping.Kept.{Kept}
pub use Rattle.care_rows.specs.declared.rows.Row.{Row}
pub use Rattle.care_rows.specs.declared.rows.WireValue.{WireValue}
pub use Rattle.care_sets.specs.Binding.{AreColumnsOf, Binds, HasNoFault, IsBoundTo, IsCareModel, IsCareOf, IsCare, column_of}
pub use Rattle.care_sets.specs.Care.{CareSet, column_names, holds_at, inputs_at, is_allowed, is_one}
pub use Rattle.care_sets.specs.declared.model.CareModel.{CareModel}
pub use Rattle.cover_logic.specs.Covers.{Cover, allows, matches, value}
pub use Rattle.cover_logic.specs.Extensions.{ext}
pub use Rattle.cyc_base.specs.Names.{IsBlifName}
pub use Rattle.cyc_base.specs.Values.{bit, bits}
pub use Rattle.cyc_base.specs.declared.sig.Sig.{Sig}
pub use Rattle.cyc_base.specs.declared.trit.Trit.{Trit}
pub use Rattle.cyc_base.specs.declared.trit.Trit.TheVariants.{One, X, Zero}
pub use Rattle.loops.specs.Blocks.{AreBlocksOf, block_at, home_of}
pub use Rattle.loops.specs.Cones.{IsConeOf, LeadsToOne}
pub use Rattle.loops.specs.Walks.{AnyGate, IsUpstream, Leads, SameLoop}
pub use Rattle.loops.specs.declared.structure.Blocks.{Blocks}
pub use Rattle.netlist.specs.Fixpoint.{fix, fix_gates, gate_value, outs, steps, wire, wires}
pub use Rattle.netlist.specs.Netlists.{IsNetlist, IsSignal, count, driven_names, gate_at, gate_sig, no_gate, sig_eq, signal, signal_names, columns, is_marked}
pub use Rattle.netlist.specs.Walks.{Feeds, IsLoopFree, Walk}
pub use Rattle.netlist.specs.declared.parts.Gate.{Gate}
pub use Rattle.netlist.specs.declared.parts.Latch.{Latch}
pub use Rattle.netlist.specs.declared.parts.Parts.{Parts}
pub use Rattle.std.proofs.lemmas.Bool.{and_from, and_parts, cases_Bool, cases_eq, cases_lt, le-ltb, lt-ltb}
pub use Rattle.std.proofs.lemmas.List.{append-nil, append_assoc, get_or-append-add, get_or-append_right, get_or-map, get_or-set_other, get_or-set_same, get_or_append_left, get_or_default, get_or_past, get_or_push, length-append, length-map, length-set, length_push, map-append, take_all, take_more}
pub use Rattle.std.proofs.lemmas.List.Elements.{All-append, All-cons, All-from_recursion, All-map, All-nil, Contains-get_or, recursion_from_All}
pub use Rattle.std.proofs.lemmas.List.FromFn.{get_or-map-range_with_len, length-map-range_with_len, length-range_with_len, map-range_with_len_more}
pub use Rattle.std.specs.List.{AllByRecursion, list_all, list_any, range_with_len, sum_by}
pub use Rattle.std.specs.Option.{option_map_or}
unfoldable pub use Rattle.std.specs.List.{IsDistinct}
