use Rattle.std.proofs.Common.{ap, arith}
use Rattle.sat.specs.declared.trail.Trail.{Trail}
use Rattle.sat.specs.Values.{open_count}
use Rattle.sat.proofs.AnswerLemmas.{shows_from}
use Rattle.sat.proofs.engine.Engine.try_values.Goals as goal

pub returns-in_ok-conflict-in-Some-clause-shows : goal.returns-in_ok-conflict-in-Some-clause-shows
returns-in_ok-conflict-in-Some-clause-shows c = grind arith
