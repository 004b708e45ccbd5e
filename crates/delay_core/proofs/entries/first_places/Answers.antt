-- A range that is collected is the list of its numbers.
use Rattle.std.proofs.Common.{refl, arith}
use Rattle.std.proofs.lemmas.Iterator.{items_from_collect, YieldsList-from_range}
use Rattle.std.specs.declared.alloc.AllocError.{AllocError}
use Rattle.std.specs.Prelude.{Ok}
use Rattle.delay_core.proofs.entries.first_places.Goals as goal

pub returns : goal.returns
returns c =
    items_from_collect {E = AllocError} (Ok c.in_ok-places.places) c.in_ok-places.ensures.ran (YieldsList-from_range 0 c.args.count c.args.count refl (omega arith))
