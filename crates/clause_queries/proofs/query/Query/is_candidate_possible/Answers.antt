use Rattle.std.proofs.Common.{◌∙◌, ◌||◌, ◌++◌, ◌∷◌, [], false, get_or, ap, subst, true≢false, arith}
use Rattle.clause_formulas.specs.Formulas.{says}
use Rattle.clause_queries.specs.Queries.{IsReply}
use Rattle.clause_queries.proofs.DescentLemmas.{under-last}
use Rattle.clause_queries.proofs.EachLemmas.{told-found, told-model, told-never}
use Rattle.clause_queries.proofs.query.Query.is_candidate_possible.Goals as goal

pub returns-then-found-place-clause-told : goal.returns-then-found-place-clause-told
returns-then-found-place-clause-told c = grind (arith, true≢false, told-found c.args.self.now c.args.candidates.now.literals.now c.args.candidates.now.assumptions.now c.args.place c.args.found.now)

pub returns-in-Model-clause-told : goal.returns-in-Model-clause-told
returns-in-Model-clause-told c =
    let p = c.args.self.now in
    let literals = c.args.candidates.now.literals.now in
    let assumptions = c.args.candidates.now.assumptions.now in
    let literal = get_or literals c.args.place 0 in
    let reply = subst (IsReply p (assumptions ++ literal ∷ [])) c.in-Model.is c.in_ok-model.ensures.reply in
    record {
      impossible = λ isnt. absurd (true≢false isnt);
      up_to = λ told.
          told-model p literals assumptions c.args.place c.in-Model.model.items c.args.found.now c.note.new.found c.requires.place told reply.0
          (under-last p assumptions literal c.in-Model.model.items reply.0) c.note.ensures.width
          (λ i less. c.note.ensures.each i less ∙ ap (λ m. get_or c.args.found.now i false || says m (get_or literals i 0)) c.deref.ensures.value);
    }

pub returns-in-NoModel-clause-told : goal.returns-in-NoModel-clause-told
returns-in-NoModel-clause-told c =
    let p = c.args.self.now in
    let literals = c.args.candidates.now.literals.now in
    let assumptions = c.args.candidates.now.assumptions.now in
    grind (arith, told-never p literals assumptions c.args.place c.args.found.now)
