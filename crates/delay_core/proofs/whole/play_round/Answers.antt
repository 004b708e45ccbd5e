use Rattle.std.proofs.Common.{arith}
use Rattle.delay_core.proofs.FairLemmas.{events_keep}
use Rattle.delay_core.proofs.whole.play_round.Goals as goal

pub returns-in-Ok-clause-played : goal.returns-in-Ok-clause-played
returns-in-Ok-clause-played c = grind (arith, events_keep c.args.play.now.state c.args.round.now.events)
