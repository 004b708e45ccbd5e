use Rattle.std.proofs.Common.{subst}
use Rattle.equal.proofs.Common.{Answer}
use Rattle.miters.specs.Told.{IsToldOf}
use Rattle.miters.proofs.ShownLemmas.{found_fits, found_shows_itself}
use Rattle.equal.proofs.telling.tell_equality.Goals as goal

pub tell_answer-requires : goal.tell_answer-requires
tell_answer-requires c =
    found_fits c.args.a.now c.args.b.now c.args.care.now c.laws.ensures.valid c.laws-2.ensures.valid c.requires.care c.laws-3.ensures.valid
    c.in_ok-answer.answer c.in_ok-answer.ensures.answer

pub returns-clause-told : goal.returns-clause-told
returns-clause-told c =
    subst (λ (answer : Answer). IsToldOf c.args.a.now c.args.b.now answer c.in_ok-tell_answer.field-0) c.in_ok-answer.ensures.answer c.in_ok-tell_answer.ensures

pub returns-clause-shown : goal.returns-clause-shown
returns-clause-shown c =
    found_shows_itself c.args.a.now c.args.b.now c.args.care.now c.laws.ensures.valid c.laws-2.ensures.valid c.requires.care
    c.laws-3.ensures.valid
