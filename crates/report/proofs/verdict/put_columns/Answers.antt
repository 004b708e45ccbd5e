use Rattle.std.proofs.Common.{arith}
use Rattle.report.proofs.Common.{appended_none}
use Rattle.report.proofs.ColumnLemmas.{columns_more, columns_cut, columns_whole}
use Rattle.report.proofs.verdict.put_columns.Goals as goal

pub loop-i-init : goal.loop-i-init
loop-i-init g c = appended_none _ _ _

pub loop-i-preserved : goal.loop-i-preserved
loop-i-preserved g c =
    columns_more c.args.net.now c.args.first c.args.values.now c.requires.fits c.loop-i.i c.name_of.result.now _ _ _ _ _ _ _ _ _
    c.name_of.ensures.name (omega arith) c.loop-i.invariant c.in_ok-put_column.ensures

pub returns-in_err-put_column : goal.returns-in_err-put_column
returns-in_err-put_column g c =
    columns_cut c.args.net.now c.args.first c.args.values.now c.requires.fits c.loop-i.i c.name_of.result.now _ _ _ _ _ _ _ _ _ _
    c.name_of.ensures.name (omega arith) c.loop-i.invariant c.in_err-put_column.ensures c.from_residual.ensures.0

pub returns : goal.returns
returns g c =
    columns_whole c.args.net.now c.args.first c.args.values.now c.requires.fits c.loop-i.i _ _ (omega arith) c.loop-i.invariant
