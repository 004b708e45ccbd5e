use Rattle.std.proofs.Common.{arith}
use Rattle.flatten.proofs.Common.{bytes_eq, actual_of}
use Rattle.indexmap.proofs.CallerLemmas.{insert_entry-new}
use Rattle.flatten.proofs.Binding.{none_there}
use Rattle.flatten.proofs.bind.bind_formal.Goals as goal

pub returns : goal.returns
returns c =
    let table = c.args.table.now in
    let formal = c.args.formal.now in
    let printed = c.in_ok-printed.printed in
    grind (arith, insert_entry-new bytes_eq table formal printed (none_there (actual_of table.entries formal) c.requires), none_there (actual_of table.entries formal) c.requires)
