use Rattle.std.proofs.Common.{◌-◌, length}
use Rattle.std.specs.Prelude.{All}
use Rattle.care_rows.specs.Rows.{IsSteadySignal}
use Rattle.assumptions.specs.Implied.{IsThinned}
use Rattle.assumptions.proofs.implied.leave_out_each.Given as goal

abbrev pub invariant-loop-place : goal.invariant-loop-place
invariant-loop-place l = IsThinned l.looped.net l.initial.values.items l.values.items × All (λ e. IsSteadySignal l.looped.net e.wire) l.values.items

abbrev pub decreases-loop-place : goal.decreases-loop-place
decreases-loop-place l = length l.values.items - l.place
