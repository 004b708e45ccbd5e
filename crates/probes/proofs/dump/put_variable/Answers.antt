use Rattle.std.proofs.Common.{◌++◌, codes}
use Rattle.probes.proofs.Common.{IfOk-equal, signal, signal_name, code, variable_line}
use Rattle.probes.proofs.PieceLemmas.{five_pieces}
use Rattle.probes.proofs.dump.put_variable.Goals as goal

pub returns : goal.returns
returns c =
    IfOk-equal c.put-3.result c.put-3.new.text.items (c.put_name.new.text.items ++ codes " $end\n")
    (c.args.text.now.items ++ variable_line c.args.net.now c.args.number) c.put-3.ensures
    (five_pieces c.args.text.now.items c.put.new.text.items c.put_code.new.text.items c.put-2.new.text.items c.put_name.new.text.items
    (codes "$var wire 1 ") (code c.args.number) (codes " ") (signal_name c.args.net.now (signal c.args.number)) (codes " $end\n")
    c.in_ok-put.ensures c.in_ok-put_code.ensures c.in_ok-put-2.ensures c.in_ok-put_name.ensures)
