use Rattle.std.proofs.Common.{arith}
use Rattle.std.proofs.Math.Seq.{drop-cons}
use Rattle.flatten.proofs.walk.item_at.Goals as goal

pub returns-then-next-body : goal.returns-then-next-body
returns-then-next-body c =
    let body = c.items-body.result.now in
    let item = c.index-body-next.result in
    grind (arith, drop-cons body c.args.next item c.if-next-body.true)
