use Rattle.std.proofs.Common.{arith}
use Rattle.inner_pairs.proofs.AlikeLemmas.{count_joined}
use Rattle.inner_pairs.proofs.hints.find_hints.Goals as goal

pub alike_hints-requires-clause-prints : goal.alike_hints-requires-clause-prints
alike_hints-requires-clause-prints c = grind (arith, count_joined c.args.a.now c.args.b.now)
