use Rattle.verdict.proofs.LooseLemmas.{no-loose}
use Rattle.verdict.proofs.counting.counts_by_clauses.Goals as goal

pub sweeps_on_care-requires-clause-unknown : goal.sweeps_on_care-requires-clause-unknown
sweeps_on_care-requires-clause-unknown c = no-loose c.args.question.now.net c.args.question.now.care (rw c.if-loose-eq0.true at c.requires.loose)
