use Rattle.std.proofs.Common.{false, arith}
use Rattle.std.proofs.lemmas.List.{set-get_or}
use Rattle.fixpoint.proofs.Common.{append-nil}
use Rattle.fixpoint.proofs.OrderLemmas.{taken-more}
use Rattle.fixpoint.proofs.layout.take_column.Goals as goal

pub returns-in_ok-push-clause-taken : goal.returns-in_ok-push-clause-taken
returns-in_ok-push-clause-taken c from are = grind (arith, taken-more from c.args.marks.now c.args.columns.now.items c.args.column c.requires are)

pub returns-else-not-marks-column-clause-taken : goal.returns-else-not-marks-column-clause-taken
returns-else-not-marks-column-clause-taken c from are = grind (arith, set-get_or c.args.marks.now c.args.column false, append-nil c.args.columns.now.items, taken-more from c.args.marks.now c.args.columns.now.items c.args.column c.requires are)
