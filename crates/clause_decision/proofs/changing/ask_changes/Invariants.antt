use Rattle.std.proofs.Common.{◌≡◌, take}
use Rattle.std.specs.List.{All}
use Rattle.clause_decision.proofs.Common.{problem, HasNoModelUnder, change_literals}
use Rattle.clause_decision.proofs.changing.ask_changes.Given as goal

abbrev pub invariant-loop-place : goal.invariant-loop-place
invariant-loop-place l =
    (l.query ≡ problem l.swept.cone.formula)
    × All (λ i. HasNoModelUnder (problem l.swept.cone.formula) (change_literals l.swept.cone.inside l.swept.cone.allowed l.before l.swept.copies.items i)) (take l.place-index l.places)
