use Rattle.std.proofs.Common.{◌≡◌, ℕ, ◌<◌, ◌≤◌, ◌||◌, false, get_or}
use Rattle.clause_formulas.specs.Formulas.{says}
use Rattle.clause_queries.proofs.each.note.Given as goal

abbrev pub invariant-loop-place : goal.invariant-loop-place
invariant-loop-place l = record {
  before : (i : ℕ) → i < l.place → get_or l.found i false ≡ (get_or l.fn.found i false || says l.model (get_or l.literals i 0));
  later : (i : ℕ) → l.place ≤ i → get_or l.found i false ≡ get_or l.fn.found i false;
}
