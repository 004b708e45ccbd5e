use Rattle.std.proofs.Common.{◌≡◌, length}
use Rattle.inner_pairs.specs.Beginnings.{IsLeastBeginning}
use Rattle.inner_pairs.proofs.cases.JoinedPairs.least_values.Given as goal

abbrev pub invariant-loop : goal.invariant-loop
invariant-loop l = record {
  width : length l.values.items ≡ l.counter;
  least : IsLeastBeginning l.self.looped.now.net l.self.care.now l.self.pairs.now l.values.items;
}
