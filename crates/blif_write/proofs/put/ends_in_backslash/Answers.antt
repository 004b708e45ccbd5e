use Rattle.std.proofs.Common.{arith}
use Rattle.blif_write.proofs.NameLemmas.{last_byte}
use Rattle.blif_write.proofs.put.ends_in_backslash.Goals as goal

pub returns-in-len1-up : goal.returns-in-len1-up
returns-in-len1-up c = last_byte c.args.word.now (omega arith)
