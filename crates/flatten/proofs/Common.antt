-- The names that most proofs of this crate cite, passed on from one place. Declares nothing.
pub use Rattle.blif_read.specs.declared.models.BlifModel.{BlifModel}
pub use Rattle.blif_read.specs.declared.models.GateLine.{GateLine}
pub use Rattle.blif_read.specs.declared.models.Item.{Item}
pub use Rattle.blif_read.specs.declared.models.Item.TheVariants.{Gate, Latch, Part}
pub use Rattle.blif_read.specs.declared.models.LatchLine.{LatchLine}
pub use Rattle.blif_read.specs.declared.models.PartLine.{PartLine}
pub use Rattle.cyc_base.specs.declared.sig.Sig.{Sig}
pub use Rattle.flatten.specs.Drivers.{AreRead, sig_or, undriven_among}
pub use Rattle.flatten.specs.Flat.{linked_lines}
pub use Rattle.flatten.specs.Instances.{entered, entry, find_model, formals, is_among, is_open, model_at, no_model, pairs_fault}
pub use Rattle.flatten.specs.Laws.{bound, resolved}
pub use Rattle.flatten.specs.Levels.{PassesPart, gate_by, latch_by, lines_of, passed_line, passed_part}
pub use Rattle.flatten.specs.Linking.{declared_twice, driven_twice, each_once, first_twice, gate_outputs, gate_with, has_bad_control, latch_outputs, latch_with, link_fault, linked, netlist_by, own_clocks, reads, sig_of, signal_list, twice_after}
pub use Rattle.flatten.specs.Paths.{Instance, actual_of, climb, clock_at, gate_at, latch_at, name_at}
pub use Rattle.flatten.specs.Printable.{IsPrintedGate, IsPrintedLatch}
pub use Rattle.flatten.specs.Walk.{Event, FlatLines, decided, events, fails, flat_lines, gate, latch, opens, then_gate, then_latch}
pub use Rattle.flatten.specs.Wires.{Wire, item_names, mark_of, pair_names, wire_names}
pub use Rattle.flatten.specs.declared.fault.FlatFault.{FlatFault}
pub use Rattle.flatten.specs.declared.fault.FlatFault.TheVariants.{TooLarge, Memory}
pub use Rattle.flatten.specs.declared.walk.Level.{Level}
pub use Rattle.indexmap.specs.IndexSet.{insert_key}
pub use Rattle.netlist.specs.declared.parts.Clock.{Clock}
pub use Rattle.netlist.specs.declared.parts.Parts.{Parts}
pub use Rattle.std.proofs.lemmas.Grind.{common_steps}
pub use Rattle.std.proofs.lemmas.List.{append-nil, length-map}
pub use Rattle.std.proofs.lemmas.List.Elements.{All-append, All-cons, All-head, All-nil, All-push, All-tail, All-map, All-weaker}
pub use Rattle.std.proofs.lemmas.List.Folds.{list_any-append}
pub use Rattle.std.specs.Fmt.{decimal}
pub use Rattle.std.specs.List.{AllByRecursion, find, flat_map, list_any, position, position_or_len}
unfoldable pub use Rattle.std.specs.List.{IsDistinct}
pub use Rattle.std.specs.Option.{option_or}
pub use Rattle.std.specs.Str.{bytes_eq}
pub use Rattle.std.specs.declared.option.Option.{Option}
pub use Rattle.std.specs.declared.result.Result.{Result}
pub use Rattle.cyc_base.specs.Tildes.{longest_run_of, tildes}
pub use Rattle.cyc_base.proofs.ListLemmas.{drop-item}
pub use Rattle.cyc_base.proofs.NameLemmas.{bytes_eq-true}
pub use Rattle.cyc_base.proofs.TruthLemmas.{or-false}
pub use Rattle.flatten.specs.Alone.{own_gates, own_latches}
pub use Rattle.flatten.specs.Hierarchies.{NestedModels}
pub use Rattle.std.proofs.lemmas.Bool.{cases_Bool}
