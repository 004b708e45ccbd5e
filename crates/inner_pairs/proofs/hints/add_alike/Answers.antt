use Rattle.std.proofs.Common.{arith}
use Rattle.std.proofs.lemmas.List.Elements.{All-push}
use Rattle.inner_pairs.proofs.AlikeLemmas.{alike_pair}
use Rattle.inner_pairs.proofs.hints.add_alike.Goals as goal

pub returns-in_ok-push-in-Some : goal.returns-in_ok-push-in-Some
returns-in_ok-push-in-Some c =
    let a = c.args.a.now in
    let b = c.args.b.now in
    grind (arith, All-push, alike_pair a b c.in-Some.alike.wire c.args.number)
