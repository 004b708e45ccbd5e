-- The names that most proofs of this crate cite, passed on from one place. Declares nothing.
pub use Rattle.care_sets.specs.Care.{CareSet, IsCareVector, holds_at, is_allowed, is_care_vector, is_in_invariant, state_of}
pub use Rattle.care_sets.specs.declared.model.CareModel.{CareModel}
pub use Rattle.clause_decision.specs.Changes.{AreFedKnown, change_literals}
pub use Rattle.clause_decision.specs.Cones.{IsCone, ReadsAbove, ReadsFix, column_rails, vector_in}
pub use Rattle.clause_decision.specs.Countings.{AreTooFewAt, TellsTooFew, first_number}
pub use Rattle.loop_simulation.specs.Climbing.{NeedAtLeast}
pub use Rattle.clause_decision.specs.Formulas.{IsOver, ReadsWithin, SaysTest}
pub use Rattle.loop_simulation.specs.LoopsAt.{AreCutPlaces, IsLoopAt, LoopAt, gates_in, loops_in}
pub use Rattle.clause_decision.specs.Questions.{IsQuestionOf}
pub use Rattle.clause_decision.specs.Scopes.{AreClosed}
pub use Rattle.loop_simulation.specs.Simulations.{IsCountAt}
pub use Rattle.clause_decision.specs.Starts.{asked_starts}
pub use Rattle.loop_simulation.specs.Sweeping.{IsLeastCount}
pub use Rattle.clause_decision.specs.Sweepings.{IsSwept}
pub use Rattle.clause_decision.specs.Unknowns.{unknown_literals}
pub use Rattle.clause_decision.specs.declared.question.Question.{Question}
pub use Rattle.clause_queries.proofs.ClauseLemmas.{models-same}
pub use Rattle.clause_queries.specs.Clauses.{IsWithin}
pub use Rattle.clause_queries.specs.Queries.{HasNoModelUnder, IsModelUnder, Problem, problem}
pub use Rattle.clause_queries.specs.Vectors.{Asks}
pub use Rattle.cyc_base.proofs.OrderLemmas.{Below-known}
pub use Rattle.cyc_base.specs.Values.{bit, bits}
pub use Rattle.cyc_base.specs.declared.sig.Sig.{Sig}
pub use Rattle.cyc_base.specs.declared.trit.Trit.TheVariants.{One, X, Zero}
pub use Rattle.cyc_base.specs.declared.trit.Trit.{Trit}
pub use Rattle.loops.proofs.Reading.{map_agree}
pub use Rattle.loops.proofs.Sweeps.{cut_values_agree, fixed_cuts_give_fix}
pub use Rattle.loops.proofs.Told.{gate_home}
pub use Rattle.loops.specs.Blocks.{block_at}
pub use Rattle.loops.specs.Cuts.{Loops, is_cut}
pub use Rattle.loops.specs.Sweeps.{CutsAreFixed, cuts_of, first_gate, gate_of, sweeps, value_in}
pub use Rattle.netlist.specs.Fixpoint.{fix, fix_gates, wire}
pub use Rattle.netlist.specs.Netlists.{IsNetlist, count, gate_at, gate_sig, no_gate, signal, columns, is_marked}
pub use Rattle.netlist.specs.declared.parts.Latch.{Latch}
pub use Rattle.netlist.specs.declared.parts.Parts.{Parts}
pub use Rattle.std.proofs.lemmas.Bool.{and_parts, cases_lt}
pub use Rattle.std.proofs.lemmas.List.Elements.{All-cons, All-contains, All-get_or, All-map, All-nil, All-push, All-take, All-weaker, Contains-get_or}
pub use Rattle.std.proofs.lemmas.List.{get_or-map, get_or-take, get_or_default, length-map, length-take-le, take_all, take_more}
pub use Rattle.std.proofs.lemmas.Result.{IfOk-weaker}
pub use Rattle.std.specs.List.{list_all}
pub use Rattle.std.specs.Option.{option_map_or}
pub use Rattle.clause_formulas.proofs.ClauseLemmas.{says-negation}
pub use Rattle.ternary_clauses.proofs.ReadingLemmas.{All-within-more, ReadsAll-at, ReadsAll-more}
pub use Rattle.ternary_clauses.specs.Columns.{SaysColumns}
pub use Rattle.ternary_clauses.specs.Encoding.{IsClosed, IsWanted, SaysNetlist, gate_rails}
pub use Rattle.clause_formulas.specs.Formulas.{Grows, HasModelFrom, IsModel, negation, says}
pub use Rattle.ternary_clauses.specs.Rails.{AreWithin, Reads, ReadsAll, is_known, is_one, no_rails, rails_at}
pub use Rattle.ternary_clauses.specs.Sums.{SaysAny}
pub use Rattle.ternary_clauses.specs.Sweeps.{ReadsPlaces}
pub use Rattle.clause_formulas.specs.declared.formula.Formula.{Formula}
pub use Rattle.ternary_clauses.specs.declared.rails.Rails.{Rails}
