use Rattle.std.proofs.Common.{◌≡◌, ◌<◌, ◌+◌, ◌-◌, ℕ, List, subst, arith}
use Rattle.clause_decision.proofs.Common.{Parts, first_number, NeedAtLeast, IsSwept, LoopAt, gates_in, loops_in}
use Rattle.clause_decision.specs.Countings.{IsCountedTo, TellsNeeded}
use Rattle.clause_decision.proofs.SweepingLemmas.{few-needed}
use Rattle.clause_decision.proofs.counting.count_sweeps.Goals as goal
use Rattle.clause_decision.proofs.counting.count_sweeps.Goals.{In_ok-next_needed}

pub loop-sweeps-init : goal.loop-sweeps-init
loop-sweeps-init c =
    let l : LoopAt = c.args.block.now in
    let P : Parts → List ℕ → ℕ → Type 0 = (λ net gates n. IsSwept net c.args.care.now c.args.scope.now.gates (loops_in l) gates c.in_ok-swept.swept n) in
    let first_is = c.first_of-sweeps.ensures in
    let some = c.in_ok-needed.ensures.0 in
    let none : 0 ≡ c.first_of-sweeps.result - first_number c.args.search.sign = omega (arith, first_is) in
    record {
      swept =
          subst (P l.net (gates_in l)) none
          (subst (λ gates. P l.net gates 0) c.gates.ensures.gates (subst (λ net. P net c.gates.result.now 0) c.net.ensures.net (c.in_ok-swept.ensures (loops_in l))));
      first = omega (arith, first_is);
      low = omega (arith, some, first_is);
      more = c.in_ok-needed.ensures.1;
    }

-- what one more sweep tells
counted : (c : In_ok-next_needed) → IsCountedTo c.args.block.now.net c.args.care.now c.args.scope.now.gates (loops_in c.args.block.now) (gates_in c.args.block.now) c.next_needed.new.swept
    (c.loop-sweeps.sweeps - first_number c.args.search.sign + 1) c.loop-sweeps.sweeps c.in_ok-next_needed.field-0
counted c =
    c.in_ok-next_needed.ensures c.args.scope.now (c.loop-sweeps.sweeps - first_number c.args.search.sign) c.requires.scope c.requires.within c.requires.serves c.loop-sweeps.invariant.swept
    (let first = c.loop-sweeps.invariant.first in omega (arith, first)) c.loop-sweeps.invariant.more

pub returns-in-These : goal.returns-in-These
returns-in-These c = grind (arith, counted (goal.at.returns-in-These c).In_ok-next_needed)

pub loop-sweeps-preserved : goal.loop-sweeps-preserved
loop-sweeps-preserved c =
    let l : LoopAt = c.args.block.now in
    let at = goal.at.loop-sweeps-preserved c in
    let first = c.loop-sweeps.invariant.first in
    let told : (c.loop-sweeps.sweeps < c.in-AtLeast.number) × NeedAtLeast l.net (loops_in l) c.args.care.now (gates_in l) c.in-AtLeast.number =
    subst (TellsNeeded l.net (loops_in l) c.args.care.now (gates_in l) c.loop-sweeps.sweeps) c.in-AtLeast.is (counted at.In_ok-next_needed).tells in
    let same : c.loop-sweeps.sweeps - first_number c.args.search.sign + 1 ≡ c.loop-sweeps.sweeps + 1 - first_number c.args.search.sign = omega (arith, first) in
    let more = told.0 in
    record {
      swept = subst (λ (n : ℕ). IsSwept l.net c.args.care.now c.args.scope.now.gates (loops_in l) (gates_in l) c.next_needed.new.swept n) same (counted at.In_ok-next_needed).swept;
      first = omega (arith, first);
      low = omega (arith, more);
      more = told.1;
    }

pub returns : goal.returns
returns c =
    let past = c.loop-sweeps-test.false in
    let low = c.loop-sweeps.invariant.low in
    few-needed c.args.block.now c.cut_count-most.ensures.is c.args.care.now c.cut_count-most.result c.cut_count-most.ensures.count
    (λ a j inside less. c.loop-sweeps.invariant.more a j inside (omega (arith, less, past, low)))

pub returns-then-needed-most : goal.returns-then-needed-most
returns-then-needed-most c = grind (arith, few-needed c.args.block.now c.cut_count-most.ensures.is c.args.care.now c.cut_count-most.result c.cut_count-most.ensures.count)

pub returns-then-needed-most-2 : goal.returns-then-needed-most-2
returns-then-needed-most-2 c =
    let l : LoopAt = c.args.block.now in
    let told : (c.loop-sweeps.sweeps < c.in-AtLeast.number) × NeedAtLeast l.net (loops_in l) c.args.care.now (gates_in l) c.in-AtLeast.number =
    subst (TellsNeeded l.net (loops_in l) c.args.care.now (gates_in l) c.loop-sweeps.sweeps) c.in-AtLeast.is (counted (goal.at.returns-then-needed-most-2 c).In_ok-next_needed).tells in
    let high = c.if-needed-most-2.true in
    few-needed l c.cut_count-most.ensures.is c.args.care.now c.cut_count-most.result c.cut_count-most.ensures.count (λ a j inside less. told.1 a j inside (omega (arith, less, high)))
