use Rattle.std.proofs.Common.{◌+◌, ◌-◌, ◌/◌, ◌%◌, ◌∷◌, [], ℕ, List, arith}
use Rattle.probes.proofs.Common.{append_assoc, code}
use Rattle.probes.proofs.CodeLemmas.{code_step}
use Rattle.probes.proofs.code.put_code.Goals as goal

pub loop-n-preserved : goal.loop-n-preserved
loop-n-preserved c =
    let n : ℕ = c.loop-n.n in
    let old : List ℕ = c.loop-n.text.items in
    let rest : List ℕ = code (n / 94 - 1) in
    grind (arith, append_assoc old ((33 + n % 94) ∷ []) rest, code_step n c.loop-n-test.true)
