use Rattle.ternary_clauses.proofs.SweepLemmas.{unknown-read}
use Rattle.ternary_clauses.proofs.sweeps.unknown_rails.Goals as goal

pub returns-clause-reads : goal.returns-clause-reads
returns-clause-reads c f m formula h = unknown-read f m formula h
