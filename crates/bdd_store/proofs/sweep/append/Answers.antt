use Rattle.std.proofs.Common.{length, ap, ◌∙◌, arith}
use Rattle.bdd_store.proofs.Common.{length_push}
use Rattle.bdd_store.proofs.RenumberLemmas.{insert-new}
use Rattle.bdd_store.proofs.sweep.append.Goals as goal

pub returns-clause-keys : goal.returns-clause-keys
returns-clause-keys c = c.in_ok-insert.ensures.keys ∙ insert-new c.args.table.now.keys c.args.entry c.requires.absent

pub returns-clause-index : goal.returns-clause-index
returns-clause-index c = omega (arith, c.len.ensures.len, ap length (c.in_ok-insert.ensures.keys ∙ insert-new c.args.table.now.keys c.args.entry c.requires.absent), length_push c.args.table.now.keys c.args.entry)
