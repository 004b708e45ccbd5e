use Rattle.std.proofs.Common.{length, ap, sym, ◌∙◌, arith}
use Rattle.delay_core.proofs.Common.{Parts, no_events}
use Rattle.delay_core.proofs.scheduled_run.ScheduledRun.open.Goals as goal

pub end_tick-requires-clause-inputs : goal.end_tick-requires-clause-inputs
end_tick-requires-clause-inputs c = c.inputs.ensures.width ∙ ap (λ (net : Parts). length net.inputs) (sym c.requires.net)

pub end_tick-requires-clause-begun : goal.end_tick-requires-clause-begun
end_tick-requires-clause-begun c = c.requires.begun ∙ ap no_events (sym c.requires.net)

pub returns : goal.returns
returns c = grind arith
