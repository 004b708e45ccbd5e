use Rattle.std.proofs.Common.{ℕ, ◌+◌, ◌<◌, ◌≤◌, List, [], ◌∷◌, ◌++◌, length, arith}
use Rattle.std.proofs.lemmas.List.{length-append}
use Rattle.std.proofs.lemmas.List.Elements.{All-push}
use Rattle.case_search.proofs.cones.numbers_of.Goals as goal
use Rattle.case_search.proofs.cones.numbers_of.Goals.{in-Some+in_ok-push, in_default}

one_longer : (numbers : List ℕ) (number n : ℕ) → length numbers ≤ n → length (numbers ++ number ∷ []) ≤ n + 1
one_longer numbers number n few = omega (arith, length-append numbers (number ∷ []))

pub loop-gate-preserved : goal.loop-gate-preserved
loop-gate-preserved c =
    elim c.match-number_of.branch [
      | in-Some+in_ok-push w ↦
          rw (w.numbers-is, w.in_ok-push.ensures.items) (record {
            within = All-push (λ (n : ℕ). n < length c.args.own.now.gates) c.loop-gate.numbers.items w.in-Some.number c.loop-gate.invariant.within w.in-Some.ensures;
            few = one_longer c.loop-gate.numbers.items w.in-Some.number c.loop-gate.gate-index c.loop-gate.invariant.few;
          })
      | in_default w ↦
          rw w.numbers-is (record { within = c.loop-gate.invariant.within; few = (let few = c.loop-gate.invariant.few in omega arith) })
    ]
