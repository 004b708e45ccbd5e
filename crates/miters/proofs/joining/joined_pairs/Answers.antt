use Rattle.std.proofs.Common.{arith}
use Rattle.miters.proofs.ComparisonLemmas.{pairs_fit}
use Rattle.miters.proofs.joining.joined_pairs.Goals as goal

pub moved_pairs-requires : goal.moved_pairs-requires
moved_pairs-requires c =
    let a = c.args.a.now in
    let b = c.args.b.now in
    let table = c.args.columns.now in
    grind (arith, pairs_fit a b c.laws.ensures.valid c.laws-2.ensures.valid c.requires.matched table 4294967295 c.requires.columns c.requires.fits)
