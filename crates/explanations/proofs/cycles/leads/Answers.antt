use Rattle.std.proofs.Common.{◌==◌}
use Rattle.std.specs.Bool.{Decides}
use Rattle.std.specs.List.{Contains}
use Rattle.std.proofs.lemmas.Bool.Decides.{Decides-eqb}
use Rattle.std.proofs.lemmas.List.Elements.{contains_decides, Decides-contains}
use Rattle.explanations.proofs.cycles.leads.Goals as goal

pub returns : goal.returns
returns c =
    let targets = c.successors.result.now in
    let decides : Decides c.contains.result (Contains targets c.args.to) =
    Decides-contains targets c.args.to c.contains.result (contains_decides (λ x y. x == y) Decides-eqb targets c.args.to c.contains.result c.contains.ensures.cases) in
    rw c.successors.ensures at decides
