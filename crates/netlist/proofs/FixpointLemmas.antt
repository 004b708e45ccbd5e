-- The steps rise from all unknown, so that they stand still after as many steps as there are gates, at the least fixpoint.
use Rattle.std.proofs.Common.{◌≡◌, ◌⊎◌, inl, inr, ℕ, zero, suc, ◌<◌, ◌≤◌, ◌+◌, ◌-◌, List, [], ◌∷◌, length, map, replicate, get_or, refl, ap, sym, ◌∙◌, arith, subst}
use Rattle.std.proofs.lemmas.List.{get_or-map, length-append, length-map, length-replicate}
use Rattle.cyc_base.specs.declared.trit.Trit.{Trit}
use Rattle.cyc_base.specs.declared.trit.Trit.TheVariants.{Zero, One, X}
use Rattle.cyc_base.specs.Values.{Below, EachBelow}
use Rattle.cyc_base.proofs.OrderLemmas.{EachBelow-refl, EachBelow-trans, EachBelow-append, EachBelow-antisym, EachBelow-set, EachBelow-at, EachBelow-map, EachBelow-length, EachBelow-unknown}
use Rattle.cover_logic.proofs.ExtensionLemmas.{ext_is_monotone}
use Rattle.netlist.specs.declared.parts.Gate.{Gate}
use Rattle.netlist.specs.declared.parts.Parts.{Parts}
use Rattle.netlist.specs.Netlists.{count, gate_at}
use Rattle.netlist.specs.Fixpoint.{wires, wire, gate_value, step, steps, fix, fix_gates}
use Rattle.netlist.specs.Laws.{StepIsMonotone, StepsRise, FixIsFixpoint, FixIsLeast, FixIsBelowClosed, FixIsReached, FixIsMonotone, OneGateStaysBelowFix, FixpointBelowIsFix}

-- the value of a gate keeps the order of the signals
pub gate_value_is_monotone : (gate : Gate) (low high : List Trit) → EachBelow low high → Below (gate_value low gate) (gate_value high gate)
gate_value_is_monotone gate low high h = grind (arith, ext_is_monotone gate.cover (map (wire low) gate.pins) (map (wire high) gate.pins), EachBelow-map (wire low) (wire high) gate.pins, EachBelow-at low high)

pub step_is_monotone : StepIsMonotone
step_is_monotone net v w low high h k = grind (arith, EachBelow-map (gate_value (wires v low)) (gate_value (wires w high)) net.gates, gate_value_is_monotone, EachBelow-append v w low high h k)

pub length-step : (net : Parts) (v s : List Trit) → length (step net v s) ≡ length net.gates
length-step net v s = length-map net.gates (gate_value (wires v s))

pub length-steps : (net : Parts) (v : List Trit) (k : ℕ) → length (steps net v k) ≡ length net.gates
length-steps net v k = grind (arith, length-replicate, length-step)

-- all unknown is below any state of the gates
pub unknown_below_state : (n : ℕ) (s : List Trit) → length s ≡ n → EachBelow (replicate n X) s
unknown_below_state n s e = rw e at (EachBelow-unknown s)

pub next_step_is_above : (net : Parts) (v : List Trit) (k : ℕ) → EachBelow (steps net v k) (steps net v (suc k))
next_step_is_above net v zero = unknown_below_state (length net.gates) (steps net v (suc zero)) (length-steps net v (suc zero))
next_step_is_above net v (suc k) = grind (arith, step_is_monotone net v v (steps net v k) (steps net v (suc k)) (EachBelow-refl v) (next_step_is_above net v k), EachBelow-refl v, next_step_is_above net v k)

steps_rise_by : (net : Parts) (v : List Trit) (j d : ℕ) → EachBelow (steps net v j) (steps net v (d + j))
steps_rise_by net v j zero = let e : zero + j ≡ j = omega arith in rw e (EachBelow-refl (steps net v j))
steps_rise_by net v j (suc d) =
    let e : suc d + j ≡ suc (d + j) = omega arith in
    grind (arith, EachBelow-trans (steps net v j) (steps net v (d + j)) (steps net v (suc (d + j))) (steps_rise_by net v j d) (next_step_is_above net v (d + j)), steps_rise_by net v j d, next_step_is_above net v (d + j))

pub steps_rise : StepsRise
steps_rise net v j k l = let e : (k - j) + j ≡ k = omega arith in rw e at (steps_rise_by net v j (k - j))

-- how many values are known
pub known_count : List Trit → ℕ
known_count [] = 0
known_count (X ∷ s) = known_count s
known_count (Zero ∷ s) = suc (known_count s)
known_count (One ∷ s) = suc (known_count s)

pub known_count-le : (s : List Trit) → known_count s ≤ length s
unfolding known_count
known_count-le [] = omega arith
known_count-le (X ∷ s) = omega (arith, known_count-le s)
known_count-le (Zero ∷ s) = omega (arith, known_count-le s)
known_count-le (One ∷ s) = omega (arith, known_count-le s)

-- going up, a list stays as it is or has more values that are known
pub same_or_more : (s t : List Trit) → EachBelow s t → (s ≡ t) ⊎ (known_count s < known_count t)
unfolding known_count
same_or_more [] [] h = inl refl
same_or_more [] (y ∷ t) h = absurd h
same_or_more (x ∷ s) [] h = absurd h
same_or_more (X ∷ s) (X ∷ t) h = elim (same_or_more s t h.1) [ inl e ↦ inl (ap (λ l. X ∷ l) e) | inr l ↦ inr l ]
same_or_more (X ∷ s) (Zero ∷ t) h = elim (same_or_more s t h.1) [ inl e ↦ inr (omega (arith, ap known_count e)) | inr l ↦ inr (omega arith) ]
same_or_more (X ∷ s) (One ∷ t) h = elim (same_or_more s t h.1) [ inl e ↦ inr (omega (arith, ap known_count e)) | inr l ↦ inr (omega arith) ]
same_or_more (Zero ∷ s) (y ∷ t) h = grind (arith, same_or_more s t h.1)
same_or_more (One ∷ s) (y ∷ t) h = grind (arith, same_or_more s t h.1)

-- each step stands still, or has determined one gate more
still_or_more : (net : Parts) (v : List Trit) (k : ℕ) → (steps net v k ≡ steps net v (suc k)) ⊎ (k < known_count (steps net v (suc k)))
still_or_more net v zero = grind (arith, same_or_more (steps net v zero) (steps net v (suc zero)) (next_step_is_above net v zero), next_step_is_above net v zero)
still_or_more net v (suc k) = grind (arith, still_or_more net v k, same_or_more (steps net v (suc k)) (steps net v (suc (suc k))) (next_step_is_above net v (suc k)), next_step_is_above net v (suc k))

pub fix_is_fixpoint : FixIsFixpoint
fix_is_fixpoint net v = grind (arith, still_or_more net v (length net.gates), known_count-le (steps net v (suc (length net.gates))), length-steps net v (suc (length net.gates)))

-- the steps stay below each state that is above its own step
pub steps_below_closed : (net : Parts) (v s : List Trit) → EachBelow (step net v s) s → (k : ℕ) → EachBelow (steps net v k) s
steps_below_closed net v s h zero = grind (arith, unknown_below_state (length net.gates) s, EachBelow-length (step net v s) s h, length-step net v s)
steps_below_closed net v s h (suc k) =
    grind (arith, EachBelow-trans (step net v (steps net v k)) (step net v s) s (step_is_monotone net v v (steps net v k) s (EachBelow-refl v) (steps_below_closed net v s h k)) h, step_is_monotone net v v (steps net v k) s (EachBelow-refl v) (steps_below_closed net v s h k), EachBelow-refl v, steps_below_closed net v s h k)

pub fix_is_below_closed : FixIsBelowClosed
fix_is_below_closed net v s h = steps_below_closed net v s h (length net.gates)

pub fix_is_least : FixIsLeast
fix_is_least net v s e = fix_is_below_closed net v s (subst (λ (t : List Trit). EachBelow t s) (sym e) (EachBelow-refl s))

-- no step goes above the fixpoint
pub steps_below_fix : (net : Parts) (v : List Trit) (k : ℕ) → EachBelow (steps net v k) (fix_gates net v)
steps_below_fix net v k = grind (arith, steps_below_closed net v (fix_gates net v), fix_is_fixpoint net v, EachBelow-refl (fix_gates net v))

pub fix_is_reached : FixIsReached
fix_is_reached net v k l = grind (arith, EachBelow-antisym (steps net v k) (fix_gates net v) (steps_below_fix net v k) (steps_rise net v (length net.gates) k l), steps_below_fix net v k, steps_rise net v (length net.gates) k l)

pub steps_are_monotone : (net : Parts) (v w : List Trit) (k : ℕ) → EachBelow v w → EachBelow (steps net v k) (steps net w k)
steps_are_monotone net v w zero h = EachBelow-refl (replicate (length net.gates) X)
steps_are_monotone net v w (suc k) h = step_is_monotone net v w (steps net v k) (steps net w k) h (steps_are_monotone net v w k h)

pub fix_is_monotone : FixIsMonotone
fix_is_monotone net v w h = EachBelow-append v w (fix_gates net v) (fix_gates net w) h (steps_are_monotone net v w (length net.gates) h)

pub fixpoint_below_is_fix : FixpointBelowIsFix
fixpoint_below_is_fix net v s h e = EachBelow-antisym s (fix_gates net v) h (fix_is_least net v s e)

pub one_gate_stays_below_fix : OneGateStaysBelowFix
one_gate_stays_below_fix net v s n h =
    grind (arith, fix_is_fixpoint net v, step_is_monotone net v v s (fix_gates net v) (EachBelow-refl v) h, EachBelow-refl v, EachBelow-set s (fix_gates net v) n (get_or (step net v s) n X) h, EachBelow-at (step net v s) (fix_gates net v) n)

-- what stands at a gate's place
pub get_or-step : (net : Parts) (v s : List Trit) (n : ℕ) → n < length net.gates → get_or (step net v s) n X ≡ gate_value (wires v s) (gate_at net n)
get_or-step net v s n l = get_or-map (gate_value (wires v s)) net.gates n _ X l

pub get_or-fix : (net : Parts) (v : List Trit) (n : ℕ) → n < length net.gates → get_or (fix_gates net v) n X ≡ gate_value (fix net v) (gate_at net n)
get_or-fix net v n l = ap (λ s. get_or s n X) (sym (fix_is_fixpoint net v)) ∙ get_or-step net v (fix_gates net v) n l

pub length-fix_gates : (net : Parts) (v : List Trit) → length (fix_gates net v) ≡ length net.gates
length-fix_gates net v = length-steps net v (length net.gates)

pub length-fix : (net : Parts) (v : List Trit) → length v ≡ length net.inputs + length net.latches → length (fix net v) ≡ count net
length-fix net v w = omega (arith, length-append v (fix_gates net v), length-fix_gates net v)
