use Rattle.refusals.proofs.VectorLemmas.{vectors_are_listed}
use Rattle.refusals.proofs.laws.vectors_are_listed.Goals as goal

pub returns : goal.returns
returns c = vectors_are_listed
