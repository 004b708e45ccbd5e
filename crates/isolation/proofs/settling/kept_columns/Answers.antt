use Rattle.std.proofs.Common.{◌+◌, ◌≤◌, arith}
use Rattle.isolation.proofs.Common.{AddsWithin, NoOtherCause}
use Rattle.bdd_store.proofs.GrowthLemmas.{within_each, adds_refused}
use Rattle.fixpoint.proofs.KeptLemmas.{adds_nothing}
use Rattle.isolation.proofs.settling.kept_columns.Goals as goal
use Rattle.isolation.proofs.settling.kept_columns.Goals.{After-column_rails}

columns-add : (c : After-column_rails) → AddsWithin c.column_rails.result c.args.d.now c.column_rails.new.d NoOtherCause (λ w. c.args.d.now.vars + 1 ≤ w) 2
columns-add c = (within_each {count = 2} (λ w b. omega (arith, b)) c.column_rails.ensures.grows).adds

pub returns-in_err-columns-clause-adds : goal.returns-in_err-columns-clause-adds
returns-in_err-columns-clause-adds c = adds_nothing c.from_residual.ensures.1

pub returns-in_err-rails-clause-adds : goal.returns-in_err-rails-clause-adds
returns-in_err-rails-clause-adds c = adds_refused c.in_err-rails.was c.from_residual-in_err-rails.ensures.1 (columns-add ((goal.at.returns-in_err-rails-clause-adds c).After-column_rails))

pub returns-in_err-keep_rails-clause-adds : goal.returns-in_err-keep_rails-clause-adds
returns-in_err-keep_rails-clause-adds c = grind arith

pub returns-clause-adds : goal.returns-clause-adds
returns-clause-adds c = grind arith
