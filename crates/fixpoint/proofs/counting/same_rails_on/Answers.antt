use Rattle.std.proofs.Common.{[], ◌∷◌, inl, inr, refl, arith}
use Rattle.fixpoint.proofs.Common.{GrowsWithin, NoOtherCause, within_then, within_moved, within_more, within_refused, within_answered, IsWide, IsCompared}
use Rattle.bdd_store.proofs.GrowthLemmas.{KeepsNodes-refl}
use Rattle.fixpoint.proofs.CompareLemmas.{pair-bounds}
use Rattle.fixpoint.proofs.counting.same_rails_on.Goals as goal
use Rattle.fixpoint.proofs.counting.same_rails_on.Goals.{After-same_on, After-same_on-2}

ones : (c : After-same_on) → GrowsWithin c.same_on.result c.args.d.now c.same_on.new.d NoOtherCause (IsWide c.args.d.now.vars (IsCompared c.args.d.now c.args.care ((c.args.r ∷ c.args.s ∷ []) ∷ []))) 2
ones c = within_moved (λ w wide. pair-bounds c.args.d.now c.args.d.now c.args.care c.requires.care c.args.r c.args.s c.requires.r c.requires.s (KeepsNodes-refl c.args.d.now) c.args.r.one c.args.s.one (inl refl) (inl refl) wide) c.same_on.ensures.grows

both : (c : After-same_on-2) → GrowsWithin c.same_on-2.result c.args.d.now c.same_on-2.new.d NoOtherCause (IsWide c.args.d.now.vars (IsCompared c.args.d.now c.args.care ((c.args.r ∷ c.args.s ∷ []) ∷ []))) 4
both c =
    within_then (within_moved (λ w wide. pair-bounds c.args.d.now c.args.d.now c.args.care c.requires.care c.args.r c.args.s c.requires.r c.requires.s (KeepsNodes-refl c.args.d.now) c.args.r.one c.args.s.one (inl refl) (inl refl) wide) c.same_on.ensures.grows)
    (within_moved (λ w wide. pair-bounds c.args.d.now c.same_on.new.d c.args.care c.requires.care c.args.r c.args.s c.requires.r c.requires.s c.same_on.ensures.grows.keeps c.args.r.zero c.args.s.zero (inr refl) (inr refl) wide) c.same_on-2.ensures.grows)

pub returns-clause-grows : goal.returns-clause-grows
returns-clause-grows c = within_answered (both ((goal.at.returns-clause-grows c).After-same_on-2))

pub returns-in_err-same_on-clause-grows : goal.returns-in_err-same_on-clause-grows
returns-in_err-same_on-clause-grows c = within_more (omega arith) (within_refused c.in_err-same_on.was c.from_residual.ensures.1 (ones ((goal.at.returns-in_err-same_on-clause-grows c).After-same_on)))

pub returns-then-not-branch-clause-grows : goal.returns-then-not-branch-clause-grows
returns-then-not-branch-clause-grows c = within_more (omega arith) (within_answered (ones ((goal.at.returns-then-not-branch-clause-grows c).After-same_on)))

pub returns-in_err-zeros-clause-grows : goal.returns-in_err-zeros-clause-grows
returns-in_err-zeros-clause-grows c = within_refused c.in_err-zeros.was c.from_residual-in_err-zeros.ensures.1 (both ((goal.at.returns-in_err-zeros-clause-grows c).After-same_on-2))
