-- The names that most proofs of this crate cite, passed on from one place. Declares nothing.
pub use Rattle.bdd_store.specs.Arena.{den}
pub use Rattle.cover_logic.specs.Extensions.{exact}
pub use Rattle.cyc_base.specs.Values.{bit, bits}
pub use Rattle.cyc_base.specs.declared.sig.Sig.{Sig}
pub use Rattle.cyc_base.specs.declared.trit.Trit.TheVariants.{One, X, Zero}
pub use Rattle.cyc_base.specs.declared.trit.Trit.{Trit}
pub use Rattle.loops.specs.Cuts.{is_cut}
pub use Rattle.loops.specs.Sweeps.{first_gate, gate_of, value_in}
pub use Rattle.netlist.specs.Fixpoint.{wire}
pub use Rattle.netlist.specs.Netlists.{gate_at, no_gate, is_marked}
pub use Rattle.netlist.specs.declared.parts.Gate.{Gate}
pub use Rattle.netlist.specs.declared.parts.Parts.{Parts}
pub use Rattle.std.proofs.Math.Bool.{not-not}
pub use Rattle.std.proofs.lemmas.Bool.{and_from, and_parts, cases_lt}
pub use Rattle.std.proofs.lemmas.List.Elements.{All-get_or, All-head, All-nil, All-push, All-tail, All-weaker}
pub use Rattle.std.proofs.lemmas.List.{get_or_append_left, get_or_push, length-map, length_push, take_more}
pub use Rattle.std.proofs.lemmas.Result.{on_ok_weaker}
pub use Rattle.std.specs.List.{All, AllZip, list_any, slice_index_or}
pub use Rattle.ternary_clauses.specs.Columns.{SaysColumns}
pub use Rattle.ternary_clauses.specs.Encoding.{IsWanted}
pub use Rattle.clause_formulas.specs.Formulas.{Grows, HasModelFrom, IsFormula, IsModel, IsWhole, holds, negation, says}
pub use Rattle.ternary_clauses.specs.Lifts.{Extends, ForksTo, IsFork, IsLift, IsTable}
pub use Rattle.ternary_clauses.specs.Nodes.{column_rails, equal_clauses, new_rails, pick_clauses, picked, rail_clauses, same_clauses, wire_clauses}
pub use Rattle.ternary_clauses.specs.Rails.{AreRailsOf, AreWithin, Reads, ReadsAll, is_known, is_one, is_zero, no_rails, rails_at, value_read}
pub use Rattle.ternary_clauses.specs.Sums.{SaysAny}
pub use Rattle.ternary_clauses.specs.Sweeps.{AreCopied, AreCopies, CopiedLoop, IsSeen}
pub use Rattle.ternary_clauses.specs.Wires.{AreBound, AreWires, HasNewRails, TakesValue}
pub use Rattle.clause_formulas.specs.declared.formula.Formula.{Formula}
pub use Rattle.ternary_clauses.specs.declared.rails.Rails.{Rails}
pub use Rattle.ternary_clauses.specs.declared.lifting.Fork.{Fork}
