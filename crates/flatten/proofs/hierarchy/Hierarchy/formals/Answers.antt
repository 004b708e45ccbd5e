use Rattle.std.proofs.Common.{arith}
use Rattle.flatten.proofs.Libraries.{formals_at}
use Rattle.flatten.proofs.hierarchy.Hierarchy.formals.Goals as goal

pub returns : goal.returns
returns c = grind (arith, formals_at _ c.self.inside.library.formals.items c.self.inside.models.now c.args.place c.index-as_slice-place.result c.self.invariant.library.formals)
