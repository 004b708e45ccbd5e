use Rattle.std.proofs.Common.{arith, length}
use Rattle.std.proofs.lemmas.List.Sums.{position_or_len_is}
use Rattle.blif_read.proofs.Common.{is_equals}
use Rattle.blif_read.proofs.subckts.equals_at.Goals as goal

pub returns-clause-place : goal.returns-clause-place
returns-clause-place c = grind (arith, position_or_len_is is_equals c.args.word.now (length c.args.word.now) 0)
