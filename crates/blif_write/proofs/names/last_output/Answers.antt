use Rattle.std.proofs.Common.{◌<◌, length, sym, ◌∙◌, arith}
use Rattle.std.specs.Prelude.{codes}
use Rattle.blif_write.proofs.Common.{signal_name}
use Rattle.blif_write.proofs.NameLemmas.{last_mapped}
use Rattle.blif_write.proofs.names.last_output.Goals as goal

pub returns-in-len1-up : goal.returns-in-len1-up
returns-in-len1-up c =
    let some : 0 < length c.outputs.result.now = omega arith in
    c.signal_name.ensures
    ∙ rw (← c.outputs.ensures.outputs) (sym (last_mapped (signal_name c.args.net.now) (codes ".outputs") c.outputs.result.now _ some))
