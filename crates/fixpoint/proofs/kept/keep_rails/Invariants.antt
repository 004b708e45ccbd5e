use Rattle.std.proofs.Common.{◌≡◌, map, take}
use Rattle.fixpoint.proofs.Common.{All, rails_under, AreKept, GainsRoots}
use Rattle.fixpoint.proofs.kept.keep_rails.Given as goal

abbrev pub invariant-loop-one : goal.invariant-loop-one
invariant-loop-one l = record {
  gains : GainsRoots l.fn.d l.d;
  keys : All (AreKept l.d) l.kept.items;
  rails : map (rails_under l.d) l.kept.items ≡ take l.one-index l.rails;
}
