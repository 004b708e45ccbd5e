use Rattle.delay_core.proofs.Common.{zip}
use Rattle.delay_core.proofs.UnfairLemmas.{schedule_iff}
use Rattle.delay_core.proofs.laws.faults_are_unfairness.Goals as goal

pub returns : goal.returns
returns c net schedule vectors = schedule_iff net schedule (zip vectors schedule.ticks)
