use Rattle.std.proofs.Common.{◌≡◌, take}
use Rattle.miters.proofs.matching.output_set.Given as goal

abbrev pub invariant-loop-output : goal.invariant-loop-output
invariant-loop-output l = l.outputs.keys ≡ take l.output-index l.own
