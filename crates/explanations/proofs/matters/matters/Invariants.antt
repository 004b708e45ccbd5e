use Rattle.std.proofs.Common.{ℕ, ◌<◌, get_or}
use Rattle.cover_logic.specs.declared.row.Row.{Row}
use Rattle.explanations.specs.Matters.{MattersBy}
use Rattle.explanations.proofs.matters.matters.Given as goal

abbrev pub invariant-loop-row : goal.invariant-loop-row
invariant-loop-row l = (k : ℕ) (d : Row) → k < l.row-index → ¬ MattersBy l.cover (get_or l.cover.rows k d) l.trits l.pin
