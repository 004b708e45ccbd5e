use Rattle.components.specs.Orders.{HasSeen}
use Rattle.components.proofs.order.all_differ.Given as goal

abbrev pub invariant-loop-number : goal.invariant-loop-number
invariant-loop-number l = HasSeen l.numbers l.seen.items l.count l.number-index
