-- The names that most proofs of this crate cite, passed on from one place. Declares nothing.
pub use Rattle.care_sets.specs.Care.{CareSet, IsCareVector}
pub use Rattle.clause_decision.specs.Cones.{IsCone, ReadsAbove, ReadsFix, column_rails, vector_in}
pub use Rattle.clause_pairs.specs.Pairs.{AddLiterals, SayPairs}
pub use Rattle.clause_queries.proofs.ClauseLemmas.{models-same}
pub use Rattle.clause_queries.specs.Clauses.{IsWithin}
pub use Rattle.clause_queries.specs.Queries.{HasNoModelUnder, Problem, problem}
pub use Rattle.cyc_base.specs.Values.{bit, bits}
pub use Rattle.cyc_base.specs.declared.sig.Sig.{Sig}
pub use Rattle.cyc_base.specs.declared.trit.Trit.TheVariants.{X}
pub use Rattle.cyc_base.specs.declared.trit.Trit.{Trit}
pub use Rattle.loops.specs.Sweeps.{first_gate, gate_of, value_in}
pub use Rattle.netlist.specs.Fixpoint.{fix, wire}
pub use Rattle.netlist.specs.Netlists.{count, columns}
pub use Rattle.netlist.specs.declared.parts.Parts.{Parts}
pub use Rattle.std.proofs.lemmas.Bool.{cases_lt}
pub use Rattle.std.proofs.lemmas.List.Elements.{All-cons, All-get_or, All-map, All-nil, All-push, All-weaker}
pub use Rattle.std.proofs.lemmas.List.{get_or-map, get_or-take, get_or_default, length-map, take_all, take_more}
pub use Rattle.std.proofs.lemmas.Result.{IfOk-weaker}
pub use Rattle.std.specs.Prelude.{IfOk}
pub use Rattle.clause_formulas.proofs.ClauseLemmas.{says-negation}
pub use Rattle.ternary_clauses.proofs.ReadingLemmas.{ReadsAll-at}
pub use Rattle.ternary_clauses.specs.Encoding.{IsWanted, gate_rails}
pub use Rattle.clause_formulas.specs.Formulas.{Grows, HasModelFrom, IsModel, says}
pub use Rattle.ternary_clauses.specs.Rails.{AreWithin, Reads, is_known, no_rails, rails_at}
pub use Rattle.clause_formulas.specs.declared.formula.Formula.{Formula}
pub use Rattle.ternary_clauses.specs.declared.rails.Rails.{Rails}
