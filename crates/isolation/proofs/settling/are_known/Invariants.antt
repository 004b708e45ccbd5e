use Rattle.std.proofs.Common.{◌≢◌, ◌<◌, ◌≤◌, ℕ, Bool, List, get_or, length}
use Rattle.bdd_store.proofs.GrowthLemmas.{HasGrown}
use Rattle.isolation.proofs.Common.{X, Rails, value_of, BoundsKnown}
use Rattle.isolation.proofs.settling.are_known.Given as goal

abbrev pub invariant-loop-one : goal.invariant-loop-one
invariant-loop-one l = record {
  grows : HasGrown l.fn.d l.d (BoundsKnown l.fn.d l.rails) l.one-index;
  within : l.one-index ≤ length l.rails;
  known : (k : ℕ) (none : Rails) → k < l.one-index → (v : List Bool) → value_of l.fn.d (get_or l.rails k none) v ≢ X;
}
