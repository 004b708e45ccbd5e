use Rattle.std.proofs.Common.{◌<◌, All}
use Rattle.indexmap.specs.IndexMap.{values}
use Rattle.inner_pairs.proofs.hints.first_wires.Given as goal

abbrev pub invariant-loop-from_last : goal.invariant-loop-from_last
invariant-loop-from_last l = All (λ wire. wire < l.count) (values l.firsts)
