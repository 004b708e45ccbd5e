-- A range that is collected is the list of its numbers.
use Rattle.std.proofs.Common.{◌+◌, refl, arith}
use Rattle.std.proofs.lemmas.Iterator.{items_from_collect, YieldsList-from_range}
use Rattle.std.specs.declared.alloc.AllocError.{AllocError}
use Rattle.std.specs.Prelude.{Ok}
use Rattle.unroll.proofs.copies.numbers_from.Goals as goal

pub returns : goal.returns
returns c =
    items_from_collect {E = AllocError} (Ok c.in_ok-numbers.numbers) c.in_ok-numbers.ensures.ran
    (YieldsList-from_range c.args.first (c.args.first + c.args.count) c.args.count refl (omega arith))
