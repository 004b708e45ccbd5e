use Rattle.clause_decision.specs.Tests.{IsFirstUnknown, TellsFirstUnknown}
use Rattle.clause_queries.specs.declared.first.First.TheVariants as firsts
use Rattle.verdict.proofs.PieceLemmas.{first-there, known-more}
use Rattle.verdict.proofs.undetermined.first_of.Goals as goal

pub loop-start-preserved : goal.loop-start-preserved
loop-start-preserved c =
    let s = c.args.question.now in
    let piece = c.piece_at-piece.result.now in
    let none : TellsFirstUnknown s.net s.care piece firsts.Nowhere = rw c.in-Nowhere.is at c.in_ok-first_in_cone.ensures in
    known-more s.net s.care c.args.gates.now piece c.loop-start.start c.piece_at-piece.ensures c.loop-start.invariant none

pub returns-in-At : goal.returns-in-At
returns-in-At c =
    let s = c.args.question.now in
    let piece = c.piece_at-piece.result.now in
    let first : IsFirstUnknown s.net s.care piece c.in-At.place = rw c.in-At.is at c.in_ok-first_in_cone.ensures in
    first-there s.net s.care c.args.gates.now piece c.loop-start.start c.piece_at-piece.ensures c.loop-start.invariant c.in-At.place first
