-- The names that most proofs of this crate cite, passed on from one place. Declares nothing.
pub use Rattle.care_sets.proofs.BindingLemmas.{column_within}
pub use Rattle.care_sets.proofs.NameLemmas.{length-column_names}
pub use Rattle.care_sets.specs.Binding.{IsBoundTo, IsCareOf, column_of}
pub use Rattle.care_sets.specs.Care.{CareSet, IsCareVector, column_names, is_care_vector, is_one}
pub use Rattle.care_sets.specs.declared.model.CareModel.{CareModel}
pub use Rattle.netlist.specs.Pairs.{IsPairOf, are_apart, is_apart_at, some_is_apart}
pub use Rattle.netlist.specs.declared.pair.Pair.{Pair}
pub use Rattle.cover_logic.specs.Extensions.{ext}
pub use Rattle.cyc_base.proofs.ListLemmas.{list_any-map, option_map-nothing, option_or-neither}
pub use Rattle.cyc_base.specs.Names.{IsBlifName}
pub use Rattle.cyc_base.specs.Values.{bit, bits}
pub use Rattle.cyc_base.specs.Vectors.{vectors}
pub use Rattle.cyc_base.specs.declared.sig.Sig.{Sig}
pub use Rattle.cyc_base.specs.declared.trit.Trit.TheVariants.{One, X, Zero}
pub use Rattle.cyc_base.specs.declared.trit.Trit.{Trit}
pub use Rattle.cyc_io.proofs.TakenLemmas.{appended_cut, appended_then}
pub use Rattle.loops.proofs.Reading.{map_agree, wire_of_gate}
pub use Rattle.loops.specs.Sweeps.{first_gate}
pub use Rattle.miters.specs.Answers.{IsAnswerOf}
pub use Rattle.miters.specs.Differences.{AreAccepted, HaveOneSource, at_difference, by_name, column_named, columns_by_name, comparison, comparison_of_accepted, difference, differs, differs_at, latch_pairs, model_of, number_or_0, output_pairs, pair_of, signal_named, source_named}
pub use Rattle.miters.specs.Joined.{joined, joined_pairs, last_gate, link_gate, miter, miter_gates, moved, moved_gate_by, moved_gates, moved_pair_by, no_pair}
pub use Rattle.miters.specs.Matching.{has_latch, init_eq, is_input, is_latch, is_output, latch_name, latch_named, unmatched}
pub use Rattle.miters.specs.Pairs.{least_apart}
pub use Rattle.miters.specs.Rebound.{rebound}
pub use Rattle.miters.specs.Runs.{renamed}
pub use Rattle.miters.specs.declared.answer.Answer.{Answer}
pub use Rattle.netlist.proofs.Decisions.{none_found}
pub use Rattle.netlist.proofs.FixpointLemmas.{get_or-step}
pub use Rattle.netlist.proofs.NameLemmas.{length-signal_names}
pub use Rattle.netlist.specs.Fixpoint.{fix, fix_gates, steps, wire, wires}
pub use Rattle.netlist.specs.Netlists.{IsNetlist, IsSignal, count, driven_names, gate_at, gate_sig, no_gate, sig_eq, signal, signal_names, with_gates, columns, signal_name, output_names}
pub use Rattle.netlist.specs.declared.parts.Gate.{Gate}
pub use Rattle.netlist.specs.declared.parts.Latch.{Latch}
pub use Rattle.netlist.specs.declared.parts.Parts.{Parts}
pub use Rattle.refusals.proofs.FirstLemmas.{any-find, find-filter, found_passes, found_wide}
pub use Rattle.refusals.proofs.LawLemmas.{accepted_without_refusal, care_test, refusal_is_shown}
pub use Rattle.refusals.proofs.ShowingLemmas.{care_vector_decides}
pub use Rattle.refusals.specs.Acceptance.{AreDetermined, gate_sigs}
pub use Rattle.refusals.specs.Refusals.{care_vectors, refusal}
pub use Rattle.refusals.specs.declared.refusal.Refusal.TheVariants.{Undetermined}
pub use Rattle.refusals.specs.declared.refusal.Refusal.{Refusal}
pub use Rattle.std.proofs.lemmas.Bool.{cases_lt, eq-eqb, false_from_ne_true, or_parts}
pub use Rattle.std.proofs.lemmas.List.Elements.{All-append, All-cons, All-map, All-nil}
pub use Rattle.std.proofs.lemmas.List.Folds.{find-append, find_at, list_any-append, list_any_none}
pub use Rattle.std.proofs.lemmas.List.FromFn.{get_or-map-range_with_len, get_or-range_with_len, length-map-range_with_len, length-range_with_len, map-range_with_len_more}
pub use Rattle.std.proofs.lemmas.List.Quantifiers.{position-Some}
pub use Rattle.std.proofs.lemmas.List.{append-nil, append_assoc, get_or-append-add, get_or-append_right, get_or-map, get_or-replicate, get_or-take, get_or_append_left, get_or_default, length-append, length-map, length-take-le, map-append, map-id, take_more}
pub use Rattle.std.proofs.lemmas.Option.{get_or_from_slice_get, same_Some, slice_get_within}
pub use Rattle.std.proofs.lemmas.Result.{IfOk-weaker}
pub use Rattle.std.proofs.lemmas.Simd.{map-map}
unfoldable pub use Rattle.std.specs.List.{IsDistinct}
pub use Rattle.std.specs.List.{list_any, range_with_len}
pub use Rattle.std.specs.Option.{option_map_or, option_or}
pub use Rattle.std.specs.Prelude.{IfOk, find, is_none, option_map}
pub use Rattle.std.specs.Str.{bytes_eq}
pub use Rattle.unroll.specs.Marks.{mark}
