use Rattle.std.proofs.lemmas.List.Filters.{dedup_is}
use Rattle.std.proofs.lemmas.Map.Keys.{IsStrictlyIncreasing-dedup}
use Rattle.dual_rail.proofs.LiveLemmas.{any_ascending}
use Rattle.dual_rail.proofs.live.ascending.Goals as goal

pub returns-clause-same : goal.returns-clause-same
returns-clause-same c = any_ascending _ _ _ c.sort_unstable.ensures.permutation c.dedup.ensures.filtered

pub returns-clause-order : goal.returns-clause-order
returns-clause-order c = rw (dedup_is _ _ _ c.dedup.ensures.filtered) (IsStrictlyIncreasing-dedup _ c.sort_unstable.ensures.sorted)
