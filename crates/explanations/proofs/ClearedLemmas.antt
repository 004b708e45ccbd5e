-- Gates that stay unknown, as long as all of them do: the fixpoint without their values is closed under a step.
use Rattle.std.proofs.Common.{◌≡◌, inl, inr, ℕ, zero, suc, ◌+◌, ◌-◌, ◌<◌, ◌≤◌, Bool, true, false, List, [], ◌∷◌, length, map, get_or, refl, ap, sym, ◌∙◌, subst, arith}
use Rattle.std.proofs.lemmas.Bool.{cases_lt}
use Rattle.std.proofs.lemmas.List.{get_or_append_left, get_or-append_right}
use Rattle.cyc_base.specs.declared.sig.Sig.{Sig}
use Rattle.cyc_base.specs.declared.trit.Trit.{Trit}
use Rattle.cyc_base.specs.declared.trit.Trit.TheVariants.{X}
use Rattle.cyc_base.specs.Values.{Below, EachBelow}
use Rattle.cyc_base.proofs.OrderLemmas.{Below-refl, EachBelow-refl, EachBelow-at, EachBelow-append, EachBelow-length, EachBelow-from_at}
use Rattle.cover_logic.specs.Extensions.{ext}
use Rattle.netlist.specs.declared.parts.Parts.{Parts}
use Rattle.netlist.specs.Fixpoint.{wires, wire, gate_value, step, fix_gates, fix}
use Rattle.netlist.specs.Netlists.{gate_at, gate_sig}
use Rattle.netlist.proofs.FixpointLemmas.{gate_value_is_monotone, length-step, fix_is_fixpoint, fix_is_below_closed, length-fix_gates, get_or-step}

unfoldable pub hidden : Bool → Trit → Trit
hidden true x = X
hidden false x = x

hidden-below : (b : Bool) (x : Trit) → Below (hidden b x) x
unfolding hidden
hidden-below true x = tt
hidden-below false x = Below-refl x

hidden-x : (b : Bool) → hidden b X ≡ X
unfolding hidden
hidden-x true = refl
hidden-x false = refl

cleared : (ℕ → Bool) → ℕ → List Trit → List Trit
cleared on n [] = []
cleared on n (x ∷ xs) = hidden (on n) x ∷ cleared on (suc n) xs

cleared-below : (on : ℕ → Bool) (n : ℕ) (xs : List Trit) → EachBelow (cleared on n xs) xs
unfolding cleared
cleared-below on n [] = tt
cleared-below on n (x ∷ xs) = (hidden-below (on n) x, cleared-below on (suc n) xs)

cleared-at : (on : ℕ → Bool) (n k : ℕ) (xs : List Trit) → get_or (cleared on n xs) k X ≡ hidden (on (n + k)) (get_or xs k X)
unfolding cleared
cleared-at on n k [] = sym (hidden-x (on (n + k)))
cleared-at on n zero (x ∷ xs) = ap (λ i. hidden (on i) x) (omega arith)
cleared-at on n (suc k) (x ∷ xs) = cleared-at on (suc n) k xs ∙ ap (λ i. hidden (on i) (get_or xs k X)) (omega arith)

pub below_x : (a : Trit) → Below a X → a ≡ X
below_x a h = grind arith

-- the value of a gate in the fixpoint is that of its cover
pub fix_at_gate : (net : Parts) (v : List Trit) (g : ℕ) → length v ≡ length net.inputs + length net.latches → g < length net.gates → get_or (fix net v) (length net.inputs + length net.latches + g) X ≡ gate_value (fix net v) (gate_at net g)
fix_at_gate net v g w l = grind (arith, get_or-append_right v (fix_gates net v) (length v) (length net.inputs + length net.latches + g) X, fix_is_fixpoint net v, get_or-step net v (fix_gates net v) g l)

-- The gates of a set are X in the fixpoint where each of them is X, whatever the others are, as long as the gates of the
-- set are X and the other signals have the fixpoint's values.
module _ (net : Parts) (given : List Trit) (on : ℕ → Bool) (width : length given ≡ length net.inputs + length net.latches)
    (behind : (n : ℕ) → on n ≡ true → length net.inputs + length net.latches ≤ n)
    (stays : (g : ℕ) → g < length net.gates → on (gate_sig net g).0 ≡ true →
    (values : List Trit) → values ≡ map (λ (s : Sig). hidden (on s.0) (wire (fix net given) s)) (gate_at net g).pins → ext (gate_at net g).cover values ≡ X) where
  state : List Trit
  state = cleared on (length net.inputs + length net.latches) (fix_gates net given)

  state_below : EachBelow state (fix_gates net given)
  unfolding state
  state_below = cleared-below on (length net.inputs + length net.latches) (fix_gates net given)

  length-state : length state ≡ length net.gates
  length-state = EachBelow-length state (fix_gates net given) state_below ∙ length-fix_gates net given

  state-at : (g : ℕ) → get_or state g X ≡ hidden (on (length net.inputs + length net.latches + g)) (get_or (fix_gates net given) g X)
  unfolding state
  state-at g = cleared-at on (length net.inputs + length net.latches) g (fix_gates net given)

  -- a column is never in the set
  column_apart : (n : ℕ) → n < length given → on n ≡ false
  column_apart n l = grind (arith, behind n)

  wire-at : (n : ℕ) → get_or (wires given state) n X ≡ hidden (on n) (get_or (fix net given) n X)
  unfolding hidden
  wire-at n =
      elim (cases_lt n (length given)) [
        | inl l ↦
            get_or_append_left given state X n l ∙ sym (get_or_append_left given (fix_gates net given) X n l)
            ∙ ap (λ b. hidden b (get_or (fix net given) n X)) (sym (column_apart n l))
        | inr past ↦
            get_or-append_right given state (length given) n X refl past
            ∙ state-at (n - length given)
            ∙ ap (λ i. hidden (on i) (get_or (fix_gates net given) (n - length given) X)) (omega arith)
            ∙ ap (hidden (on n)) (sym (get_or-append_right given (fix_gates net given) (length given) n X refl past))
      ]

  pins-at : (signals : List Sig) → map (wire (wires given state)) signals ≡ map (λ (s : Sig). hidden (on s.0) (wire (fix net given) s)) signals
  pins-at [] = refl
  pins-at (s ∷ signals) = ap (λ v. v ∷ map (wire (wires given state)) signals) (wire-at s.0) ∙ ap (λ vs. hidden (on s.0) (wire (fix net given) s) ∷ vs) (pins-at signals)

  step_below : (g : ℕ) → g < length net.gates → (b : Bool) → on (gate_sig net g).0 ≡ b → Below (gate_value (wires given state) (gate_at net g)) (hidden b (get_or (fix_gates net given) g X))
  unfolding hidden
  step_below g l true e = subst (λ (v : Trit). Below v X) (sym (stays g l e (map (wire (wires given state)) (gate_at net g).pins) (pins-at (gate_at net g).pins))) tt
  step_below g l false e =
      subst (λ (v : Trit). Below (gate_value (wires given state) (gate_at net g)) v)
      (sym (get_or-step net given (fix_gates net given) g l) ∙ ap (λ s. get_or s g X) (fix_is_fixpoint net given))
      (gate_value_is_monotone (gate_at net g) (wires given state) (fix net given) (EachBelow-append given given state (fix_gates net given) (EachBelow-refl given) state_below))

  state_closed : EachBelow (step net given state) state
  state_closed =
      EachBelow-from_at (step net given state) state (length-step net given state ∙ sym length-state)
      (λ g l.
      let inside : g < length net.gates = (let s = length-step net given state in omega arith) in
      subst (λ (v : Trit). Below v (get_or state g X)) (sym (get_or-step net given state g inside))
      (subst (λ (v : Trit). Below (gate_value (wires given state) (gate_at net g)) v) (sym (state-at g))
      (step_below g inside (on (gate_sig net g).0) refl)))

  pub cleared_gates_stay_unknown : (n : ℕ) → on n ≡ true → get_or (fix net given) n X ≡ X
  unfolding hidden
  cleared_gates_stay_unknown n e =
      let past = behind n e in
      let low = EachBelow-at (fix_gates net given) state (n - length given) (fix_is_below_closed net given state state_closed) in
      let place : length net.inputs + length net.latches + (n - length given) ≡ n = omega arith in
      grind (arith, get_or-append_right given (fix_gates net given) (length given) n X, below_x (get_or (fix_gates net given) (n - length given) X), state-at (n - length given))
