-- Sorting keeps the pins.
use Rattle.std.proofs.Common.{rules}
use Rattle.std.proofs.lemmas.List.Sorted.{IsNonDecreasingBy-from_sort_by_key}
use Rattle.ternary_run.specs.declared.fanout.Read.{Read}
use Rattle.ternary_run.proofs.fanout.Fanout.of.Goals as goal

pub returns : goal.returns
returns c = record {
  complete = rw c.in_ok-reads.ensures at c.sort_unstable_by_key.ensures.permutation;
  sorted = IsNonDecreasingBy-from_sort_by_key (λ (read : Read). read.signal.0) _ c.sort_unstable_by_key.ensures.sorted (λ a r q k. search rules);
}
