use Rattle.std.proofs.Common.{◌∙◌, ◌==◌, ◌&&◌, arith}
use Rattle.std.proofs.lemmas.Grind.{common_steps}
use Rattle.probes.specs.Tables.{has_turn}
use Rattle.probes.proofs.TallyLemmas.{cond_or}
use Rattle.probes.proofs.glitches.enter.Goals as goal

pub returns-clause-entered : goal.returns-clause-entered
returns-clause-entered c other t = c.in_ok-first.ensures.updates.0 (other.0, t) ∙ cond_or (c.args.s.0 == other.0 && c.args.tick == t) (has_turn c.args.turns.now.keys other t)

pub returns-clause-first : goal.returns-clause-first
returns-clause-first c = grind (arith, common_steps)
