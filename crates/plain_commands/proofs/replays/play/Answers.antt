use Rattle.plain_commands.proofs.replays.play.Goals as goal

pub returns-in-Some-clause-comes : goal.returns-in-Some-clause-comes
returns-in-Some-clause-comes g c = rw c.in-Some.is c.play_probed.ensures.comes

pub returns-in-Some-clause-heard : goal.returns-in-Some-clause-heard
returns-in-Some-clause-heard g c = rw c.in-Some.is c.play_probed.ensures.heard
