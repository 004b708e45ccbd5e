use Rattle.std.proofs.Common.{arith}
use Rattle.sat.proofs.AnswerLemmas.{shows_from}
use Rattle.sat.proofs.engine.Engine.advance.Goals as goal

pub returns-in-Some-clause-shows : goal.returns-in-Some-clause-shows
returns-in-Some-clause-shows c = grind arith

pub returns-in-None-clause-shows : goal.returns-in-None-clause-shows
returns-in-None-clause-shows c = grind arith
