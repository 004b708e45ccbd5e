use Rattle.std.proofs.Common.{◌++◌, ℕ, List, codes, ap, ◌∙◌}
use Rattle.probes.proofs.Common.{flat_map, range_with_len, IfOk-equal, count, variable_line, head_text}
use Rattle.probes.proofs.PieceLemmas.{five_pieces}
use Rattle.probes.proofs.dump.put_head.Goals as goal

pub returns : goal.returns
returns c =
    let last : List ℕ = codes "$upscope $end\n$enddefinitions $end\n#0\n$dumpvars\n" in
    IfOk-equal c.put-4.result c.put-4.new.text.items (c.put_variables.new.text.items ++ last)
    (c.args.text.now.items ++ head_text c.args.net.now) c.put-4.ensures
    (five_pieces c.args.text.now.items c.put.new.text.items c.put-2.new.text.items c.put-3.new.text.items c.put_variables.new.text.items
    (codes "$timescale 1ns $end\n$scope module ") c.args.net.now.name (codes " $end\n")
    (flat_map (variable_line c.args.net.now) (range_with_len 0 (count c.args.net.now))) last
    c.in_ok-put.ensures
    (c.in_ok-put-2.ensures ∙ ap (λ (xs : List ℕ). c.put.new.text.items ++ xs) (c.bytes.ensures ∙ c.name.ensures.name))
    c.in_ok-put-3.ensures c.in_ok-put_variables.ensures)
