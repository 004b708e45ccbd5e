use Rattle.std.proofs.Common.{◌-◌, is_ok}
use Rattle.std.specs.Vec.{vec_len}
use Rattle.bdd_ops.proofs.SlotLemmas.{All-refilled}
use Rattle.bdd_ops.proofs.slots.Slots.clear.Goals as goal

pub returns : goal.returns
returns g c = All-refilled c.self.inside.entries.items c.resize.new.self.items 256 (256 - vec_len c.truncate.new.self) c.args.idle (is_ok c.resize.result) (rw c.truncate.ensures.items at c.resize.ensures.items)
