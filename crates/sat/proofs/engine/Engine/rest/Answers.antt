use Rattle.std.proofs.Common.{ap, arith}
use Rattle.sat.specs.Values.{open_count}
use Rattle.sat.proofs.AnswerLemmas.{shows_from}
use Rattle.sat.proofs.engine.Engine.rest.Goals as goal

pub returns-clause-shows : goal.returns-clause-shows
returns-clause-shows c = grind arith
