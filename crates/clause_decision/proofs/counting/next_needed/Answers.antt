use Rattle.std.proofs.Common.{◌≡◌, ◌+◌, ℕ, List, subst, sym, arith}
use Rattle.clause_decision.proofs.Common.{Rails, first_number, NeedAtLeast, TellsTooFew, LoopAt, gates_in, loops_in}
use Rattle.clause_decision.specs.Countings.{IsAskedAfter}
use Rattle.clause_decision.specs.Sweepings.{IsSweptOn}
use Rattle.clause_decision.proofs.counting.next_needed.Goals as goal

pub returns-then-sweeps-needed : goal.returns-then-sweeps-needed
returns-then-sweeps-needed c scope k scope_is marked serves swept is need = record {
  swept = (c.in_ok-before.ensures.swept c.args.care.now scope k scope_is marked swept).swept;
  tells = (c.if-sweeps-needed.true, need);
}

pub returns : goal.returns
returns c scope k scope_is marked serves swept is need =
    let l : LoopAt = c.args.block.now in
    let on : IsSweptOn l.net c.args.care.now scope.gates (loops_in l) (gates_in l) c.deref.result.now c.sweep_on.new.swept k =
    subst (λ (before : List Rails). IsSweptOn l.net c.args.care.now scope.gates (loops_in l) (gates_in l) before c.sweep_on.new.swept k) (sym c.deref.ensures.value) (c.in_ok-before.ensures.swept c.args.care.now scope k scope_is marked swept) in
    let asked : IsAskedAfter l.net c.args.care.now scope.gates (loops_in l) (gates_in l) c.ask_after.new.swept (k + 1) (k + first_number c.args.search.sign) c.in_ok-reply.reply = c.in_ok-reply.ensures.asked c.args.care.now scope k scope_is marked serves on in
    let low = c.requires.needed in
    let high = c.if-sweeps-needed.false in
    let same : c.args.needed ≡ c.args.sweeps = omega (arith, low, high) in
    record {
      swept = asked.swept;
      tells = c.in_ok-needed_by.ensures
          (subst (λ (n : ℕ). TellsTooFew l.net (loops_in l) c.args.care.now (gates_in l) c.ask_after.new.swept.cone.rails.items n c.in_ok-reply.reply) is asked.tells)
          (subst (λ (n : ℕ). NeedAtLeast l.net (loops_in l) c.args.care.now (gates_in l) n) same need);
    }
