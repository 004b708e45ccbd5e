use Rattle.std.proofs.Common.{◌≡◌, map}
use Rattle.care_rows.specs.Models.{kept_gate, marked_below}
use Rattle.care_rows.proofs.kept.kept_gates.Given as goal

abbrev pub invariant-loop-number : goal.invariant-loop-number
invariant-loop-number l = l.gates.items ≡ map (kept_gate l.net l.places) (marked_below l.cone l.number)
