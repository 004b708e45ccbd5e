use Rattle.refusals.proofs.LawLemmas.{without_care_gates_alone}
use Rattle.refusals.proofs.laws.gates_alone_refuse_without_care.Goals as goal

pub returns : goal.returns
returns c = without_care_gates_alone
