use Rattle.std.proofs.Common.{not, ap, sym, subst, ◌≤◌, arith}
use Rattle.dual_rail.proofs.Common.{nodes}
use Rattle.bdd_store.specs.Growth.{Grows}
use Rattle.bdd_store.proofs.SubfunctionLemmas.{nodes-alike}
use Rattle.bdd_store.proofs.GrowthLemmas.{grows_refused, grows_answered, grows_more, grows_then}
use Rattle.bdd_ops.specs.Operations.{bit_at, complement}
use Rattle.dual_rail.proofs.SizeLemmas.{nodes-of_bit}
use Rattle.dual_rail.proofs.rail.var_rails.Goals as goal
use Rattle.dual_rail.proofs.rail.var_rails.Goals.{After-var, After-not}

first : (c : After-var) → Grows c.var.result c.args.d.now c.var.new.self 1
first c = grows_more (nodes-of_bit c.args.d.now.vars c.args.v (λ b. b)) c.var.ensures.grows

both : (c : After-not) → Grows c.not.result c.args.d.now c.not.new.self 2
both c =
    let one : nodes c.var.new.self.vars (complement c.var.new.self c.in_ok-one.one) ≤ 1 = subst (λ n. n ≤ 1) (sym (nodes-alike c.var.new.self.vars (complement c.var.new.self c.in_ok-one.one) (λ bits. not (bit_at c.args.v bits)) (λ bits len. ap not (c.in_ok-one.ensures.function bits)))) (nodes-of_bit c.var.new.self.vars c.args.v not) in
    grows_then (grows_more (nodes-of_bit c.args.d.now.vars c.args.v (λ b. b)) c.var.ensures.grows) (grows_more one c.not.ensures.grows)

pub returns-in_err-one-clause-grows : goal.returns-in_err-one-clause-grows
returns-in_err-one-clause-grows c = grows_more (omega arith) (grows_refused c.in_err-one.was c.from_residual.ensures.1 (first ((goal.at.returns-in_err-one-clause-grows c).After-var)))

pub returns-in_err-zero-clause-grows : goal.returns-in_err-zero-clause-grows
returns-in_err-zero-clause-grows c = grows_refused c.in_err-zero.was c.from_residual-in_err-zero.ensures.1 (both ((goal.at.returns-in_err-zero-clause-grows c).After-not))

pub returns-clause-grows : goal.returns-clause-grows
returns-clause-grows c = grows_answered (both ((goal.at.returns-clause-grows c).After-not))
