use Rattle.plain_commands.proofs.Common.{end_of}
use Rattle.plain_commands.proofs.HearLemmas.{hears_file}
use Rattle.plain_commands.proofs.ReplayLemmas.{plays_file}
use Rattle.plain_commands.proofs.replays.play_file.Goals as goal

pub returns-clause-comes : goal.returns-clause-comes
returns-clause-comes g c =
    plays_file _ c.args.replay.now.probe c.args.replay.now.recorded.now c.args.net.now c.args.vectors.now c.in_ok-schedule.schedule _ _ _ _ (end_of c.play.result)
    c.read_schedule_file.ensures.same c.in_ok-schedule.ensures.good c.play.ensures.comes

pub returns-clause-heard : goal.returns-clause-heard
returns-clause-heard g c =
    hears_file _ _ _ c.args.replay.now.probe _ _ c.args.replay.now.recorded.now c.args.net.now c.args.vectors.now c.in_ok-schedule.schedule _ _ _ c.in_ok-schedule.ensures.good c.play.ensures.heard
