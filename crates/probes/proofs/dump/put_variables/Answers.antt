use Rattle.std.proofs.Common.{◌++◌, ℕ, List, ap, sym, ◌∙◌, arith}
use Rattle.probes.proofs.Common.{flat_map, range_with_len, append_assoc, variable_line}
use Rattle.probes.proofs.TextLemmas.{lines_more}
use Rattle.probes.proofs.dump.put_variables.Goals as goal

pub loop-number-preserved : goal.loop-number-preserved
loop-number-preserved c =
    let n : ℕ = c.loop-number.number in
    let line : ℕ → List ℕ = variable_line c.args.net.now in
    let old : List ℕ = c.args.text.now.items in
    c.in_ok-put_variable.ensures
    ∙ ap (λ (xs : List ℕ). xs ++ line n) c.loop-number.invariant
    ∙ append_assoc old (flat_map line (range_with_len 0 n)) (line n)
    ∙ ap (λ (xs : List ℕ). old ++ xs) (sym (lines_more line 0 n n (omega arith)))
