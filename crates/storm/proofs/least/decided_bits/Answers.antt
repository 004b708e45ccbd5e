use Rattle.std.proofs.Common.{arith}
use Rattle.cover_logic.specs.Covers.{value}
use Rattle.storm.proofs.LeastLemmas.{least_is_known}
use Rattle.storm.proofs.least.decided_bits.Goals as goal

pub returns : goal.returns
returns c = grind (arith, least_is_known (value c.args.cover.now) c.args.wanted c.decide_pins.new.trits c.in_ok-decide_pins.ensures.known c.in_ok-decide_pins.ensures.possible)
