use Rattle.std.proofs.Common.{◌≡◌, true, [], subst}
use Rattle.std.specs.List.{All}
use Rattle.clause_queries.specs.Each.{AreNever}
use Rattle.clause_pairs.proofs.ApartLemmas.{all-refuted}
use Rattle.clause_pairs.proofs.apart.are_refuted_after.Goals as goal

pub returns-clause-refuted : goal.returns-clause-refuted
returns-clause-refuted c = λ refuted.
    let never = c.in_ok-never.never.items in
    let marked = subst (All (λ mark. mark ≡ true)) c.deref.ensures.value (c.are_marked.ensures.0 refuted) in
    all-refuted c.args.query.now c.args.pairs.now [] never (subst (λ q. AreNever q c.args.pairs.now [] never) c.in_ok-never_each.ensures.unchanged c.in_ok-never.ensures.each) marked
