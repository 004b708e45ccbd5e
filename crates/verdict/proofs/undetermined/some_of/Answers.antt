use Rattle.clause_decision.specs.Witnesses.{IsWitness, TellsWitness}
use Rattle.clause_decision.specs.declared.witness.Witness.TheVariants as witnesses
use Rattle.verdict.proofs.PieceLemmas.{known-more, witness-there}
use Rattle.verdict.proofs.undetermined.some_of.Goals as goal

pub loop-start-preserved : goal.loop-start-preserved
loop-start-preserved c =
    let s = c.args.question.now in
    let piece = c.piece_at-piece.result.now in
    let none : TellsWitness s.net s.care piece witnesses.Nowhere = rw c.in-Nowhere.is at c.in_ok-some_in_cone.ensures in
    known-more s.net s.care c.args.gates.now piece c.loop-start.start c.piece_at-piece.ensures c.loop-start.invariant none

pub returns-in-Found : goal.returns-in-Found
returns-in-Found c =
    let s = c.args.question.now in
    let piece = c.piece_at-piece.result.now in
    let witness : IsWitness s.net s.care piece c.in-Found.vector.items c.in-Found.place = rw c.in-Found.is at c.in_ok-some_in_cone.ensures in
    witness-there s.net s.care c.args.gates.now piece c.loop-start.start c.piece_at-piece.ensures c.loop-start.invariant c.in-Found.vector.items c.in-Found.place witness
