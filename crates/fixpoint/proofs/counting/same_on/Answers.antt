use Rattle.std.proofs.Common.{sym, ◌∙◌, subst, arith}
use Rattle.fixpoint.proofs.Common.{GrowsWithin, NoOtherCause, within_then, within_more, within_refused, within_answered, IsLawful}
use Rattle.bdd_store.proofs.GrowthLemmas.{within_one}
use Rattle.fixpoint.specs.Counts.{BoundsDifference}
use Rattle.fixpoint.proofs.CompareLemmas.{difference-is}
use Rattle.fixpoint.proofs.CountLemmas.{node_from, node_to, same_from, same_to}
use Rattle.fixpoint.proofs.counting.same_on.Goals as goal
use Rattle.fixpoint.proofs.counting.same_on.Goals.{After-and}

pub returns-clause-same : goal.returns-clause-same
returns-clause-same c =
    let lawful : IsLawful c.and.new.self = subst IsLawful c.store.ensures c.laws.ensures in (
      λ same. same_from c.args.d.now c.xor.new.self c.and.new.self c.args.care c.args.m c.args.n c.in_ok-differ.differ c.in_ok-seen.seen
          c.requires.care c.requires.m c.requires.n c.xor.ensures.grows.keeps c.and.ensures.grows.keeps lawful c.in_ok-seen.ensures.node c.in_ok-differ.ensures.function c.in_ok-seen.ensures.function
          (node_from c.in_ok-seen.seen c.of.result c.eq.result c.eq.ensures same ∙ c.of.ensures.constant),
      λ same. node_to c.in_ok-seen.seen c.of.result c.eq.result c.eq.ensures
          (same_to c.args.d.now c.xor.new.self c.and.new.self c.args.care c.args.m c.args.n c.in_ok-differ.differ c.in_ok-seen.seen
          c.requires.care c.requires.m c.requires.n c.xor.ensures.grows.keeps c.and.ensures.grows.keeps lawful c.in_ok-seen.ensures.node c.in_ok-differ.ensures.function c.in_ok-seen.ensures.function same
          ∙ sym c.of.ensures.constant),
    )

-- where the nodes differ is at most one function, and where they differ on care another
both : (c : After-and) → GrowsWithin c.and.result c.args.d.now c.and.new.self NoOtherCause (BoundsDifference c.args.d.now c.args.care c.args.m c.args.n) 2
both c = grind (arith, difference-is c.args.d.now c.xor.new.self c.args.care c.args.m c.args.n c.in_ok-differ.differ c.xor.ensures.grows.keeps c.requires.care c.in_ok-differ.ensures.function, within_then, within_one)

pub returns-clause-grows : goal.returns-clause-grows
returns-clause-grows c = within_answered (both ((goal.at.returns-clause-grows c).After-and))

pub returns-in_err-differ-clause-grows : goal.returns-in_err-differ-clause-grows
returns-in_err-differ-clause-grows c = within_more (omega arith) (within_refused c.in_err-differ.was c.from_residual.ensures.1 (within_one (λ w bounds. bounds.0) c.xor.ensures.grows))

pub returns-in_err-seen-clause-grows : goal.returns-in_err-seen-clause-grows
returns-in_err-seen-clause-grows c = within_refused c.in_err-seen.was c.from_residual-in_err-seen.ensures.1 (both ((goal.at.returns-in_err-seen-clause-grows c).After-and))
