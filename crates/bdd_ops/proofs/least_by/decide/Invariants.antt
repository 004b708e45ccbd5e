use Rattle.bdd_store.specs.Arena.{den}
use Rattle.bdd_ops.specs.Least.{by_variable}
use Rattle.bdd_ops.proofs.DecideLemmas.{AreDecided}
use Rattle.bdd_ops.proofs.least_by.decide.Given as goal

abbrev pub invariant-loop-column : goal.invariant-loop-column
invariant-loop-column l = record {
  decided : AreDecided (λ v. den l.store l.n (by_variable l.columns v)) l.store.vars l.out l.column;
}
