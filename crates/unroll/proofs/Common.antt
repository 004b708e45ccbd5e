-- The names that most proofs of this crate cite, passed on from one place. Declares nothing.
pub use Rattle.cover_logic.specs.Extensions.{ext}
pub use Rattle.cyc_base.proofs.ListLemmas.{all_append, all_map, all_weaker, map-map}
pub use Rattle.cyc_base.specs.Names.{IsBlifName}
pub use Rattle.cyc_base.specs.declared.limits.TheConstants.{MAX_REWRITTEN_ITEMS}
pub use Rattle.cyc_base.specs.declared.sig.Sig.{Sig}
pub use Rattle.cyc_base.specs.declared.trit.Trit.{Trit}
pub use Rattle.cyc_base.specs.declared.trit.Trit.TheVariants.{X}
pub use Rattle.loops.proofs.Reading.{in_loop_from}
pub use Rattle.loops.proofs.Sweeps.{same-sym, same-trans, same_within}
pub use Rattle.loops.proofs.Unique.{feeds_at}
pub use Rattle.loops.specs.Cuts.{AreLoopsOf, Loops, loops_by}
pub use Rattle.loops.specs.Found.{loops_of}
pub use Rattle.loops.specs.Looped.{IsLooped, Looped}
pub use Rattle.loops.specs.Sweeps.{first_gate, gate_of, in_loop_of}
pub use Rattle.netlist.proofs.FixpointLemmas.{get_or-fix}
pub use Rattle.netlist.specs.Fixpoint.{fix, fix_gates, wire}
pub use Rattle.netlist.specs.Netlists.{count, gate_at, gate_sig, signal, signal_names}
pub use Rattle.netlist.specs.Walks.{Feeds}
pub use Rattle.netlist.specs.declared.parts.Clock.{Clock}
pub use Rattle.netlist.specs.declared.parts.Gate.{Gate}
pub use Rattle.netlist.specs.declared.parts.Parts.{Parts}
pub use Rattle.std.proofs.lemmas.Bool.{and_from, cases_Bool, cases_lt, false_from_ne_true, le-leb, leb-true, lt-leb}
pub use Rattle.std.proofs.lemmas.List.{append-nil, append_assoc, get_or-append-add, get_or-map, get_or-replicate, get_or_append_left, get_or_default, length-append, length-map, length-replicate, map-append, take_more}
pub use Rattle.std.proofs.lemmas.List.Elements.{All-append, All-from_recursion, All-map}
pub use Rattle.std.proofs.lemmas.List.FromFn.{get_or-map-range_with_len, get_or-range_with_len, length-range_with_len}
pub use Rattle.std.proofs.lemmas.Option.{get_or_from_slice_get, slice_get_within}
pub use Rattle.std.specs.List.{AllByRecursion, list_any, range_with_len, sum_by}
unfoldable pub use Rattle.std.specs.List.{IsDistinct}
pub use Rattle.std.specs.Option.{option_map_or}
pub use Rattle.std.specs.Str.{bytes_eq}
pub use Rattle.std.specs.declared.option.Option.{Option}
pub use Rattle.cyc_base.proofs.TildeLemmas.{longest-append}
pub use Rattle.cyc_base.specs.Tildes.{longest_run, longest_run_of}
pub use Rattle.unroll.specs.Counted.{Counted, counted_loops, counted_sweeps, looped_in, IsCounted}
pub use Rattle.unroll.specs.Marks.{clock_names, copy_name, longest_run_in, mark, zero_name}
pub use Rattle.unroll.specs.Plans.{loops_in, net_of, sweeps_in}
pub use Rattle.unroll.specs.Tables.{AreMade, at_table, copy_gate_by, copy_pin_by, entered}
pub use Rattle.unroll.specs.Unrolled.{Copy, IsOfLoops, constants, copied, copies, copies_of, copies_upto, copy_gate, copy_of, copy_pin, copy_signal, has_loop, kept_gate, kept_latch, kept_pin, most, moved, old_signal, place, shift, sweeps_of, unrolled, unrolled_size}
