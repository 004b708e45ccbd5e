use Rattle.std.proofs.Common.{length, ap, arith}
use Rattle.delay_core.specs.ScheduledRuns.{Scheduled}
use Rattle.delay_core.proofs.scheduled_run.ScheduledRun.start.Goals as goal

pub start_at-requires-clause-inputs : goal.start_at-requires-clause-inputs
start_at-requires-clause-inputs c = omega (arith, c.inputs.ensures.width, ap (λ (r : Scheduled). length r.net.inputs) c.self.view_is)

pub returns : goal.returns
returns c = grind arith
