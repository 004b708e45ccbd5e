use Rattle.std.proofs.Common.{Bool, List, sym, subst}
use Rattle.assumptions.specs.Making.{AreSettled}
use Rattle.assumptions.proofs.search.weakest_assumption.Goals as goal

pub search-requires-clause-settled : goal.search-requires-clause-settled
search-requires-clause-settled c =
    subst (λ (marks : List Bool). AreSettled c.args.looped.now marks) (sym c.deref-2.ensures.value) (record {
      width = c.in-Ok-settled_loops.ensures.width;
      settle = c.in-Ok-settled_loops.ensures.settled;
    })
