use Rattle.std.proofs.Common.{length, ap, ◌∙◌, arith}
use Rattle.delay_core.specs.ScheduledRuns.{Scheduled, inputs_at}
use Rattle.delay_core.proofs.scheduled_run.ScheduledRun.inputs.Goals as goal

pub bits_at-requires : goal.bits_at-requires
bits_at-requires c = omega (arith, c.requires, ap (λ (r : Scheduled). length r.vectors) c.self.view_is)

pub returns-clause-inputs : goal.returns-clause-inputs
returns-clause-inputs c = c.bits_at.ensures ∙ ap (λ (r : Scheduled). inputs_at r c.args.tick) c.self.view_is

pub returns-clause-width : goal.returns-clause-width
returns-clause-width c = grind arith
