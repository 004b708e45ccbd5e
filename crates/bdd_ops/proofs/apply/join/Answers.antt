use Rattle.std.proofs.Common.{inl}
use Rattle.bdd_store.proofs.GrowthLemmas.{KeepsNodes-refl}
use Rattle.bdd_ops.proofs.apply.join.Goals as goal

pub returns-in-Some-clause-keeps : goal.returns-in-Some-clause-keeps
returns-in-Some-clause-keeps c = KeepsNodes-refl c.args.store.now

pub returns-in-Some-clause-new_node : goal.returns-in-Some-clause-new_node
returns-in-Some-clause-new_node c n is = inl is

pub returns-in_ok-make-in-None-clause-node : goal.returns-in_ok-make-in-None-clause-node
returns-in_ok-make-in-None-clause-node c = c.in_ok-make-in-None.ensures.node

pub returns-in_ok-make-in-None-clause-function : goal.returns-in_ok-make-in-None-clause-function
returns-in_ok-make-in-None-clause-function c = c.in_ok-make-in-None.ensures.function

pub returns-in_ok-make-in-None-clause-top : goal.returns-in_ok-make-in-None-clause-top
returns-in_ok-make-in-None-clause-top c = c.in_ok-make-in-None.ensures.top

pub returns-in_ok-make-in-None-clause-keeps : goal.returns-in_ok-make-in-None-clause-keeps
returns-in_ok-make-in-None-clause-keeps c = c.make.ensures.keeps

pub returns-in_err-make-in-None-clause-keeps : goal.returns-in_err-make-in-None-clause-keeps
returns-in_err-make-in-None-clause-keeps c = c.make.ensures.keeps
