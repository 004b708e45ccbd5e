use Rattle.std.proofs.Common.{◌≡◌, take, drop}
use Rattle.netlist.specs.Netlists.{sig_eq}
use Rattle.netlist.specs.Faults.{repeat_after, first_repeat}
use Rattle.netlist.proofs.checks.first_repeated.Given as goal

-- the outputs so far are different, so the first repeat is among the rest
abbrev pub invariant-loop-output : goal.invariant-loop-output
invariant-loop-output l = (l.seen.keys ≡ take l.output-index l.outputs) × (first_repeat sig_eq l.outputs ≡ repeat_after sig_eq l.seen.keys (drop l.output-index l.outputs))
