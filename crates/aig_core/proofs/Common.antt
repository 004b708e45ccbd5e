-- The names that most proofs of this crate cite, passed on from one place. Declares nothing.
pub use Rattle.aig_core.specs.Answers.{HasEdges}
pub use Rattle.aig_core.specs.Building.{Building, signal_edge}
unfoldable pub use Rattle.aig_core.specs.Building.{building}
pub use Rattle.aig_core.specs.Conjunctions.{Made, constant, entered, found, hashed, pair_of, same_pair, simple_and}
unfoldable pub use Rattle.aig_core.specs.Conjunctions.{conjunction}
pub use Rattle.aig_core.specs.Covers.{with_row}
unfoldable pub use Rattle.aig_core.specs.Covers.{row_made}
pub use Rattle.aig_core.specs.Depth.{HasRanks, postorder}
pub use Rattle.aig_core.specs.Graphs.{Graph, IsEdge, complement, edge, edge_to, first_and, with_ands}
unfoldable pub use Rattle.aig_core.specs.Graphs.{den}
pub use Rattle.aig_core.specs.Soundness.{Extends, IsSound, IsVector}
pub use Rattle.aig_core.specs.Tasks.{AreWithin, HasMarks, finished, node_of, visit}
pub use Rattle.aig_core.specs.Text.{and_groups, and_line, input_line, latch_line, load_line, output_line, symbol_line}
pub use Rattle.aig_core.specs.declared.depth.NodeTask.{NodeTask}
pub use Rattle.aig_core.specs.declared.edge.And.{And}
pub use Rattle.aig_core.specs.declared.edge.Edge.{Edge}
pub use Rattle.components.specs.Graphs.{successors}
pub use Rattle.cyc_base.proofs.ListLemmas.{item_at}
pub use Rattle.cyc_base.specs.declared.sig.Sig.{Sig}
pub use Rattle.cyc_io.proofs.ItemLemmas.{appended_copied, appended_in_copied, appended_in_item, appended_item, appended_items}
pub use Rattle.cyc_io.proofs.TakenLemmas.{appended_cut, appended_equal, appended_none, appended_then}
pub use Rattle.cyc_io.specs.Taken.{IsAppendedWhole, sink_call}
pub use Rattle.netlist.specs.Netlists.{IsSignal, no_gate, signal_name}
pub use Rattle.netlist.specs.Orders.{IsGateOrder, gate_graph, numbers_from}
pub use Rattle.netlist.specs.declared.parts.Latch.{Latch}
pub use Rattle.std.proofs.lemmas.Bool.{cases_Bool, eq-eqb}
pub use Rattle.std.proofs.lemmas.List.{append-nil, append_assoc, get_or_append_left, length-map, length_push, take-append-drop}
pub use Rattle.std.proofs.lemmas.List.Elements.{All-cons, All-head, All-nil, All-tail}
pub use Rattle.std.proofs.lemmas.List.Folds.{list_any-append}
pub use Rattle.std.proofs.lemmas.List.FromFn.{length-enumerate_from}
pub use Rattle.std.proofs.lemmas.List.Sums.{fold-append}
pub use Rattle.std.proofs.lemmas.Option.{get_or_from_slice_get, slice_get_within}
pub use Rattle.std.specs.List.{enumerate_from, flat_map, list_any, position_or_len, range_with_len, zip}
pub use Rattle.std.specs.Prelude.{codes, decimal, nat_eq}
