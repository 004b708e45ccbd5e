use Rattle.std.proofs.Common.{◌≡◌, true, [], subst}
use Rattle.clause_pairs.proofs.Common.{IfOk}
use Rattle.clause_queries.specs.Each.{IsAnyPossible}
use Rattle.clause_pairs.specs.Pairs.{HaveNoModel}
use Rattle.clause_pairs.proofs.ApartLemmas.{any-refuted}
use Rattle.clause_pairs.proofs.apart.ask_pairs.Goals as goal

pub returns-in-Some : goal.returns-in-Some
returns-in-Some c = λ refuted.
    any-refuted c.args.query.now c.args.pairs.now [] c.in-Some.possible (subst (IsAnyPossible c.args.query.now c.args.pairs.now []) c.in-Some.is c.in_ok-possible.ensures.any) refuted

pub returns : goal.returns
returns c =
    subst (λ q. IfOk c.are_refuted_after.result (λ refuted. refuted ≡ true → HaveNoModel q [] c.args.pairs.now))
    c.in_ok-possible.ensures.unchanged c.are_refuted_after.ensures.refuted
