use Rattle.std.proofs.Common.{◌≡◌, List, length, drop}
use Rattle.loop_simulation.proofs.Common.{Trit, AreUnseen, IsSweeping, LoopAt, gates_in, AreReaders}
use Rattle.loop_simulation.specs.Events.{IsSwept}
use Rattle.loop_simulation.proofs.simulating.show.Given as goal

abbrev pub invariant-loop-wire : goal.invariant-loop-wire
invariant-loop-wire g = record {
  size : length g.before ≡ length g.initial.before;
  sweeping : (l : LoopAt) (outside : List Trit) → AreReaders l (gates_in l) g.readers → IsSwept l outside g.initial.before g.after g.changed → IsSweeping l outside g.before g.after g.waiting.items;
  unseen : (l : LoopAt) (outside : List Trit) → AreReaders l (gates_in l) g.readers → IsSwept l outside g.initial.before g.after g.changed → AreUnseen l g.before g.after (drop g.wire-index g.changed);
}
