use Rattle.care_rows.proofs.TellerLemmas.{ToldSoFar}
use Rattle.care_rows.proofs.telling.Tellers.add_rows.Given as goal

abbrev pub invariant-loop-row : goal.invariant-loop-row
invariant-loop-row l = ToldSoFar l.self.mark.now l.self.total l.self.base l.places l.rows l.initial.gates.items l.initial.outputs.items l.row-index l.number l.gates.items l.outputs.items
