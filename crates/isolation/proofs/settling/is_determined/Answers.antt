use Rattle.std.proofs.Common.{◌∙◌, sym, subst, arith}
use Rattle.isolation.proofs.Common.{All, length-map, within_more, Rails, AreRailsOf, rails_under}
use Rattle.bdd_store.proofs.GrowthLemmas.{KeepsNodes-refl}
use Rattle.fixpoint.proofs.KeptLemmas.{adds_nothing}
use Rattle.isolation.proofs.settling.is_determined.Goals as goal

pub are_known-requires : goal.are_known-requires
are_known-requires c = subst (All (AreRailsOf c.args.d.now)) (sym (c.deref.ensures.value ∙ c.in_ok-rails.ensures)) c.requires.proper

pub returns-clause-known : goal.returns-clause-known
returns-clause-known c = rw (c.deref.ensures.value, c.in_ok-rails.ensures) at c.are_known.ensures.known

pub returns-clause-unknown : goal.returns-clause-unknown
returns-clause-unknown c = rw (c.deref.ensures.value, c.in_ok-rails.ensures) at c.are_known.ensures.unknown

pub returns-clause-grows : goal.returns-clause-grows
returns-clause-grows c = grind (arith, within_more, length-map {B = Rails} c.args.solved.now (rails_under c.args.d.now))

pub returns-in_err-rails-clause-grows : goal.returns-in_err-rails-clause-grows
returns-in_err-rails-clause-grows c = record { keeps = KeepsNodes-refl _; adds = adds_nothing c.from_residual.ensures.1 }
