use Rattle.std.proofs.Common.{◌≡◌, ◌∙◌, ℕ, length, subst, sym}
use Rattle.std.specs.List.{Contains}
use Rattle.std.proofs.lemmas.Bool.{eqb-true}
use Rattle.refusals.specs.Acceptance.{SomeCareVector}
use Rattle.clause_decision.proofs.Common.{IsLeastCount, LoopAt, gates_in, loops_in}
use Rattle.clause_decision.specs.declared.counting.Sign.TheVariants as signs
use Rattle.clause_decision.specs.Scopes.{AreKnownOnCare}
use Rattle.clause_decision.proofs.SweepingLemmas.{few-needed, first-needed}
use Rattle.clause_decision.proofs.counting.needs_one_sweep.Goals as goal

pub returns : goal.returns
returns c care some known one gate inside =
    let l : LoopAt = c.in_ok-block.block in
    let one_cut : 1 ≡ length l.cuts = sym (eqb-true _ _ one) ∙ c.cut_count.ensures.count in
    subst (λ (l : LoopAt). SomeCareVector l.net care → AreKnownOnCare l.net care → Contains (gates_in l) gate → IsLeastCount l.net (loops_in l) care gate 1) c.in_ok-block.ensures
    (λ some known inside. few-needed l c.cut_count.ensures.is care 1 one_cut (first-needed l c.cut_count.ensures.is care signs.Open (some, known)) gate inside)
    some known inside
