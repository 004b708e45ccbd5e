use Rattle.std.proofs.Common.{◌≡◌, ◌+◌, take}
use Rattle.ternary_clauses.proofs.Common.{SaysAny}
use Rattle.ternary_clauses.proofs.SumLemmas.{IsLast}
use Rattle.ternary_clauses.proofs.sums.add_any.Given as goal

abbrev pub invariant-loop-literal : goal.invariant-loop-literal
invariant-loop-literal l = record {
  variables : l.formula.variables ≡ l.fn.formula.variables + l.literal-index;
  sums : SaysAny l.fn.formula l.formula (take l.literal-index l.literals) l.sums.items;
  last : IsLast l.formula (take l.literal-index l.literals) l.last;
}
