use Rattle.std.proofs.Common.{◌≤◌, ◌<◌, length}
use Rattle.std.specs.Prelude.{IfSome}
use Rattle.sat.specs.Values.{open_count}
use Rattle.sat.proofs.watches.sift.Given as goal

abbrev pub invariant-loop-place : goal.invariant-loop-place
invariant-loop-place l =
    record {
      fewer : open_count l.trail.values.items ≤ open_count l.initial.trail.values.items;
      found : IfSome l.found (λ number. number < length l.database);
    }
