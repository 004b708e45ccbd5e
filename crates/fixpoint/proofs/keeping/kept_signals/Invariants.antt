use Rattle.std.proofs.Common.{◌≡◌, ◌++◌}
use Rattle.fixpoint.proofs.Common.{flat_map, option_to_list}
use Rattle.fixpoint.proofs.keeping.kept_signals.Given as goal

abbrev pub invariant-loop-place : goal.invariant-loop-place
invariant-loop-place l = l.rails.items ≡ l.fn.given.items ++ flat_map option_to_list l.yielded
