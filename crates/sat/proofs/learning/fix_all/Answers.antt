use Rattle.std.proofs.Common.{◌∙◌}
use Rattle.sat.proofs.CnfLemmas.{extends_trans}
use Rattle.sat.proofs.learning.fix_all.Goals as goal

pub loop-preserved : goal.loop-preserved
loop-preserved c = record {
  extends = extends_trans c.args.database.now c.loop.database c.fix_literal.new.database c.loop.invariant.extends c.fix_literal.ensures.extends;
  values = c.fix_literal.ensures.values ∙ c.loop.invariant.values;
}

pub returns-in_err-fix_literal-clause-extends : goal.returns-in_err-fix_literal-clause-extends
returns-in_err-fix_literal-clause-extends c =
    extends_trans c.args.database.now c.loop.database c.fix_literal.new.database c.loop.invariant.extends c.fix_literal.ensures.extends

pub returns-in_err-fix_literal-clause-values : goal.returns-in_err-fix_literal-clause-values
returns-in_err-fix_literal-clause-values c = c.fix_literal.ensures.values ∙ c.loop.invariant.values
