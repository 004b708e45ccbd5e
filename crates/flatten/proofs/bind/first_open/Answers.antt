use Rattle.std.proofs.Common.{not, is_some, arith}
use Rattle.std.proofs.lemmas.List.Folds.{find-append}
use Rattle.flatten.proofs.Common.{actual_of}
use Rattle.flatten.proofs.bind.first_open.Goals as goal

pub returns-in-Some : goal.returns-in-Some
returns-in-Some c =
    let model = c.args.model.now in
    grind (arith, find-append (λ name. not (is_some (actual_of c.args.table.now.entries name))) model.inputs model.clocks)

pub returns-in-None : goal.returns-in-None
returns-in-None c =
    let model = c.args.model.now in
    grind (arith, find-append (λ name. not (is_some (actual_of c.args.table.now.entries name))) model.inputs model.clocks)
