use Rattle.std.proofs.Common.{◌≡◌, not, take, None}
use Rattle.miters.proofs.Common.{find, is_output, output_names}
use Rattle.miters.proofs.matching.first_output_missing.Given as goal

abbrev pub invariant-loop-output : goal.invariant-loop-output
invariant-loop-output l = find (λ name. not (is_output l.other name)) (take l.output-index (output_names l.net)) ≡ None
