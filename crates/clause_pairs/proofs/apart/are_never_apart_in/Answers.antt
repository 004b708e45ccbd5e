use Rattle.clause_pairs.proofs.Common.{IfOk-weaker}
use Rattle.clause_pairs.proofs.ApartLemmas.{never-apart}
use Rattle.clause_pairs.proofs.apart.are_never_apart_in.Goals as goal

pub returns-in-Ok : goal.returns-in-Ok
returns-in-Ok c =
    IfOk-weaker c.ask_all.result _ _ (λ refuted is never.
    never-apart c.args.net.now c.args.care.now c.args.scope.now c.args.cube.now c.args.search.now.pairs.now c.in-Ok.asked c.in-Ok.ensures (is never) c.requires.pairs c.requires.pairs_within)
    c.ask_all.ensures
