use Rattle.std.proofs.Common.{◌+◌, ◌*◌, ◌<◌, ap, subst, sym, arith}
use Rattle.fixpoint.proofs.Common.{Arena}
use Rattle.bdd_store.specs.Growth.{Grows}
use Rattle.bdd_store.proofs.GrowthLemmas.{grows_then, grows_more, grows_answered}
use Rattle.bdd_ops.specs.Least.{IsLayout}
use Rattle.fixpoint.proofs.ColumnLemmas.{columns-more, columns-end}
use Rattle.fixpoint.proofs.columns.column_rails.Goals as goal
use Rattle.fixpoint.proofs.columns.column_rails.Goals.{After-var_rails}

step : (c : After-var_rails) → Grows c.var_rails.result c.args.d.now c.var_rails.new.d (2 * c.loop-variable.variable + 2)
step c = grows_then c.loop-variable.invariant.grows c.var_rails.ensures.grows

pub loop-variable-preserved : goal.loop-variable-preserved
loop-variable-preserved c =
    let keeps = c.loop-variable.invariant.grows.keeps in
    let vars = keeps.vars in
    let all = ap (λ (a : Arena). a.vars) c.store.ensures in
    let inside : c.loop-variable.variable < c.loop-variable.d.vars = omega (arith, c.loop-variable-test.true, vars, all, c.vars-variable-end.ensures) in
    record {
      grows = grows_more (omega arith) (grows_answered (step ((goal.at.loop-variable-preserved c).After-var_rails)));
      columns = columns-more c.var_rails.ensures.grows.keeps (subst (λ n. IsLayout n c.args.columns.now) (sym vars) c.requires) inside c.loop-variable.invariant.columns
          c.in_ok-made.made c.in_ok-made.ensures.rails c.in_ok-made.ensures.value;
    }

pub returns-in_err-made-clause-grows : goal.returns-in_err-made-clause-grows
returns-in_err-made-clause-grows c = grind arith

pub returns-clause-grows : goal.returns-clause-grows
returns-clause-grows c = grind arith

pub returns-clause-rails : goal.returns-clause-rails
returns-clause-rails c =
    let vars = c.loop-variable.invariant.grows.keeps.vars in
    let all = ap (λ (a : Arena). a.vars) c.store.ensures in
    columns-end (subst (λ n. IsLayout n c.args.columns.now) (sym vars) c.requires)
    (omega (arith, c.loop-variable.auto.variable-end, c.loop-variable-test.false, c.vars-variable-end.ensures, vars, all)) c.loop-variable.invariant.columns
