use Rattle.std.proofs.Common.{rules}
use Rattle.cover_logic.specs.Covers.{value as value_of}
use Rattle.storm.proofs.LeastLemmas.{zero_kept, one_taken, one_possible}
use Rattle.storm.proofs.least.decide_pin.Goals as goal

pub returns-then-eq-clause-possible : goal.returns-then-eq-clause-possible
returns-then-eq-clause-possible c =
    one_possible (value_of c.args.cover.now) c.args.wanted c.args.trits.now c.args.pin c.requires.known c.requires.pin (search rules) c.requires.possible (search rules)

pub returns-then-eq-clause-least : goal.returns-then-eq-clause-least
returns-then-eq-clause-least c =
    one_taken (value_of c.args.cover.now) c.args.wanted c.args.trits.now c.args.pin c.requires.known c.requires.pin (search rules) (search rules)

pub returns-else-eq-clause-least : goal.returns-else-eq-clause-least
returns-else-eq-clause-least c =
    zero_kept (value_of c.args.cover.now) c.args.wanted c.args.trits.now c.args.pin c.requires.known c.requires.pin (search rules) (search rules)
