use Rattle.plain_commands.proofs.Common.{error_seen, Ends, Prints, delays_text, played}
use Rattle.plain_commands.proofs.PlanLemmas.{still_stopped}
use Rattle.plain_commands.proofs.replays.play_alone.Goals as goal

pub returns-in-Err : goal.returns-in-Err
returns-in-Err c shows =
    still_stopped c.args.recorded.now (played c.args.run.now.net.now c.args.run.now.vectors.now c.args.run.now.schedule.now) (λ ends. Ends (Prints (delays_text ends))) _
    (record { error = error_seen c.in-Err.error; is = c.in-Err.ensures.bad; stops = c.stop_at.ensures })
