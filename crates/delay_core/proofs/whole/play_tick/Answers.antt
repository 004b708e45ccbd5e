use Rattle.std.proofs.Common.{arith}
use Rattle.delay_core.proofs.FairLemmas.{rounds_net}
use Rattle.delay_core.proofs.whole.play_tick.Goals as goal

pub tick_end-requires-clause-net : goal.tick_end-requires-clause-net
tick_end-requires-clause-net c = grind (arith, rounds_net c.args.play.now.state c.args.rounds.now)
