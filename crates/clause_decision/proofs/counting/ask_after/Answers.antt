use Rattle.std.proofs.Common.{◌≡◌, ◌∙◌, ◌+◌, ℕ, subst, sym, ap, arith}
use Rattle.clause_decision.proofs.Common.{IfOk-weaker, problem, AreFedKnown, first_number, TellsTooFew, LoopAt, gates_in, loops_in}
use Rattle.refusals.specs.Acceptance.{SomeCareVector}
use Rattle.clause_decision.specs.declared.counting.Sign.{Sign}
use Rattle.clause_decision.specs.Changes.{TellsChange}
use Rattle.clause_decision.specs.Countings.{Serves}
use Rattle.clause_decision.specs.Scopes.{AreKnownOnCare}
use Rattle.clause_decision.specs.Sweepings.{IsAsked}
use Rattle.clause_decision.proofs.ChangeLemmas.{change-tells, outside-apart, tells-change}
use Rattle.clause_decision.proofs.SweepingLemmas.{open-tells}
use Rattle.clause_decision.proofs.counting.ask_after.Goals as goal

pub returns-in-Open-clause-asked : goal.returns-in-Open-clause-asked
returns-in-Open-clause-asked c care scope k scope_is marked serves on =
    let l : LoopAt = c.args.block.now in
    let both : SomeCareVector l.net care × AreKnownOnCare l.net care = subst (λ (s : Sign). Serves s l.net care (gates_in l)) c.in-Open.is serves in
    let number : k + 1 ≡ k + first_number c.args.search.sign = sym (ap (λ (s : Sign). k + first_number s) c.in-Open.is) in
    IfOk-weaker c.ask_open.result _ _ (λ reply (asked : IsAsked l.net care scope.gates (loops_in l) (gates_in l) c.ask_open.new.swept (k + 1) reply). record {
      swept = asked.swept;
      tells = subst (λ (n : ℕ). TellsTooFew l.net (loops_in l) care (gates_in l) c.ask_open.new.swept.cone.rails.items n reply) number
          (open-tells l c.cuts-places.ensures.is care both.1 c.ask_open.new.swept.cone.rails.items (k + 1) reply asked.tells);
    })
    (c.ask_open.ensures.asked l.net care scope (loops_in l) (gates_in l) (k + 1) c.cuts-places.ensures.is.net scope_is marked both.1 (rw c.cuts-places.ensures.cuts c.cuts-places.ensures.is.cuts) on.swept)

pub returns-in_ok-ask_changes-in-Changing-clause-asked : goal.returns-in_ok-ask_changes-in-Changing-clause-asked
returns-in_ok-ask_changes-in-Changing-clause-asked c care scope k scope_is marked serves on =
    let l : LoopAt = c.args.block.now in
    let f = c.args.swept.now.cone.formula in
    let rails = c.args.swept.now.cone.rails.items in
    let inside = c.args.swept.now.cone.inside in
    let allowed = c.args.swept.now.cone.allowed in
    let after = c.args.swept.now.copies.items in
    let reply = c.in_ok-ask_changes-in-Changing.field-0 in
    let fed : AreFedKnown l.net care (gates_in l) = subst (λ (s : Sign). Serves s l.net care (gates_in l)) c.in-Changing.is serves in
    let same : k ≡ k + 0 = omega arith in
    let number : k ≡ k + first_number c.args.search.sign = same ∙ sym (ap (λ (s : Sign). k + first_number s) c.in-Changing.is) in
    let told : TellsChange (problem f) inside allowed c.args.before.now after c.cuts-places.result.now reply = c.in_ok-ask_changes-in-Changing.ensures in
    record {
      swept = on.swept;
      tells = subst (λ (n : ℕ). TellsTooFew l.net (loops_in l) care (gates_in l) rails n reply) number
          (change-tells l c.cuts-places.ensures.is care rails k reply
          (tells-change l.net care scope.gates (loops_in l) (gates_in l) c.cuts-places.result.now f rails c.args.before.now after inside allowed k c.cuts-places.ensures.is.net scope_is.closed scope_is.width marked fed
          (outside-apart l c.cuts-places.ensures.is)
          on.swept.cone (rw c.cuts-places.ensures.cuts c.cuts-places.ensures.is.cuts) on.reads_before on.swept.reads reply told));
    }
