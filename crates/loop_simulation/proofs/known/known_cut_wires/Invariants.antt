use Rattle.loop_simulation.specs.Known.{AreKnownSomewhere}
use Rattle.loop_simulation.proofs.known.known_cut_wires.Given as goal

abbrev pub invariant-loop-number : goal.invariant-loop-number
invariant-loop-number l = AreKnownSomewhere l.looped.net l.care l.known.items
