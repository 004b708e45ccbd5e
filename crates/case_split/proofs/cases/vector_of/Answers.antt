use Rattle.std.proofs.Common.{ℕ, length, ap, subst, sym, ◌∙◌}
use Rattle.std.proofs.lemmas.List.{length-replicate}
use Rattle.cyc_base.specs.declared.trit.Trit.TheVariants.{X}
use Rattle.case_split.specs.Cases.{AreOfColumns}
use Rattle.loops.specs.Sweeps.{first_gate}
use Rattle.case_split.proofs.CaseLemmas.{knows_none}
use Rattle.case_split.proofs.cases.vector_of.Goals as goal

pub returns-clause-below : goal.returns-clause-below
returns-clause-below c v wide all = c.know.ensures.below v (knows_none v (first_gate c.args.net.now) c.in_ok-given.given.items c.in_ok-given.ensures wide) all

pub know-requires : goal.know-requires
know-requires c = subst (λ (n : ℕ). AreOfColumns n c.args.values.now) (sym (ap length c.in_ok-given.ensures ∙ length-replicate (first_gate c.args.net.now) X)) c.requires

pub returns-clause-width : goal.returns-clause-width
returns-clause-width c = c.know.ensures.width ∙ ap length c.in_ok-given.ensures ∙ length-replicate (first_gate c.args.net.now) X
