use Rattle.std.proofs.Common.{ℕ, ◌<◌, get_or}
use Rattle.explanations.specs.declared.pins.Pin.TheVariants.{Free}
use Rattle.assumptions.specs.Making.{IsSteadySide}
use Rattle.assumptions.proofs.rows.are_steady_sides.Given as goal

abbrev pub invariant-loop-signal : goal.invariant-loop-signal
invariant-loop-signal l = (s : ℕ) → s < l.signal → IsSteadySide l.steady s (get_or l.sides s Free)
