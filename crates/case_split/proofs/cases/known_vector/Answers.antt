use Rattle.std.proofs.Common.{All, sym, subst}
use Rattle.case_split.specs.Cases.{Holds}
use Rattle.case_split.proofs.cases.known_vector.Goals as goal

pub returns-clause-below : goal.returns-clause-below
returns-clause-below c v wide here =
    c.know.ensures.below v (c.in_ok-given.ensures.below v wide (subst (All (Holds v)) (sym c.deref.ensures.value) here.cube)) (subst (All (Holds v)) (sym c.deref-2.ensures.value) here.known)
