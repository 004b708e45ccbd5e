-- The laws of the ternary fixpoint.
use Rattle.std.specs.Prelude.{◌≡◌, ◌≤◌, ℕ, List, length, slice_index_or, slice_set}
use Rattle.cyc_base.specs.declared.trit.Trit.{Trit}
use Rattle.cyc_base.specs.declared.trit.Trit.TheVariants.{X}
use Rattle.cyc_base.specs.Values.{EachBelow}
use Rattle.netlist.specs.declared.parts.Parts.{Parts}
use Rattle.netlist.specs.Fixpoint.{step, steps, fix, fix_gates}

-- where more is known of the inputs, latches and gates, no less is known after a step
abbrev pub StepIsMonotone : Type 0
StepIsMonotone = (net : Parts) (v w low high : List Trit) →
    EachBelow v w → EachBelow low high → EachBelow (step net v low) (step net w high)

-- no step forgets what an earlier one determined
abbrev pub StepsRise : Type 0
StepsRise = (net : Parts) (v : List Trit) (j k : ℕ) → j ≤ k → EachBelow (steps net v j) (steps net v k)

abbrev pub FixIsFixpoint : Type 0
FixIsFixpoint = (net : Parts) (v : List Trit) → step net v (fix_gates net v) ≡ fix_gates net v

abbrev pub FixIsLeast : Type 0
FixIsLeast = (net : Parts) (v s : List Trit) → step net v s ≡ s → EachBelow (fix_gates net v) s

-- it is below each state of the gates that is above its own step
abbrev pub FixIsBelowClosed : Type 0
FixIsBelowClosed = (net : Parts) (v s : List Trit) → EachBelow (step net v s) s → EachBelow (fix_gates net v) s

-- as many steps as there are gates reach it, and each further one stays there
abbrev pub FixIsReached : Type 0
FixIsReached = (net : Parts) (v : List Trit) (k : ℕ) → length net.gates ≤ k → steps net v k ≡ fix_gates net v

abbrev pub FixIsMonotone : Type 0
FixIsMonotone = (net : Parts) (v w : List Trit) → EachBelow v w → EachBelow (fix net v) (fix net w)

-- a state below the fixpoint stays there when one gate alone is computed again
abbrev pub OneGateStaysBelowFix : Type 0
OneGateStaysBelowFix = (net : Parts) (v s : List Trit) (n : ℕ) →
    EachBelow s (fix_gates net v) →
    EachBelow (slice_set s n (slice_index_or (step net v s) n X)) (fix_gates net v)

-- and where it is a fixpoint itself, it is that one: in whatever order the gates were computed
abbrev pub FixpointBelowIsFix : Type 0
FixpointBelowIsFix = (net : Parts) (v s : List Trit) →
    EachBelow s (fix_gates net v) → step net v s ≡ s → s ≡ fix_gates net v
