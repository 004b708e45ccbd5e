use Rattle.std.proofs.Common.{arith}
use Rattle.aig_core.proofs.Common.{den}
use Rattle.aig_core.proofs.GraphLemmas.{den-complement}
use Rattle.aig_core.proofs.CoverLemmas.{de_morgan}
use Rattle.aig_core.proofs.aig.Aig.or.Goals as goal

pub returns-clause-value : goal.returns-clause-value
returns-clause-value c v h =
    let g = c.args.self.now in
    grind (arith, den-complement c.and.new.self c.in_ok-none.none v, den-complement g c.args.a v, den-complement g c.args.b v, de_morgan (den g c.args.a v) (den g c.args.b v))
