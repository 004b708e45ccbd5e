-- The sides of a cycle hold it open wherever the signals are as they say.
use Rattle.std.proofs.Common.{◌≡◌, inl, inr, ℕ, zero, suc, ◌+◌, ◌<◌, ◌≤◌, cond, Bool, true, false, List, [], ◌∷◌, length, map, get_or, refl, sym, subst, arith, true≢false}
use Rattle.std.specs.Prelude.{◌==◌}
use Rattle.std.specs.List.{All, AllZip}
use Rattle.std.proofs.lemmas.Bool.{eqb-true, eq-eqb, or_cases, or_left, or_right}
use Rattle.cyc_base.specs.declared.sig.Sig.{Sig}
use Rattle.cyc_base.specs.declared.trit.Trit.{Trit}
use Rattle.netlist.specs.declared.parts.Parts.{Parts}
use Rattle.netlist.specs.Fixpoint.{wire, fix}
use Rattle.netlist.specs.Netlists.{gate_at, gate_sig}
use Rattle.explanations.specs.declared.pins.Pin.{Pin}
use Rattle.explanations.specs.declared.pins.Pin.TheVariants.{Open, Free}
use Rattle.explanations.specs.Pins.{MayBe}
use Rattle.explanations.specs.Sides.{is_one_of, beside, StaysBeside}
use Rattle.explanations.specs.Laws.{SidesHoldCycle}
use Rattle.explanations.proofs.ClearedLemmas.{hidden, cleared_gates_stay_unknown}
use Rattle.explanations.proofs.HeldLemmas.{zip_map}

-- a signal that is one of some gates comes behind the columns
one_is_behind : (net : Parts) (gates : List ℕ) (n : ℕ) → is_one_of net gates n ≡ true → length net.inputs + length net.latches ≤ n
one_is_behind net [] n e = absurd (true≢false (sym e))
one_is_behind net (g ∷ gates) n e =
    elim (or_cases ((gate_sig net g).0 == n) (is_one_of net gates n) e) [
      | inl here ↦ let is = eqb-true (gate_sig net g).0 n here in omega arith
      | inr later ↦ one_is_behind net gates n later
    ]

-- what holds of all these gates holds of each
one_has : (net : Parts) (P : ℕ → Type 0) (gates : List ℕ) (g : ℕ) → All P gates → is_one_of net gates (gate_sig net g).0 ≡ true → P g
one_has net P [] g all e = absurd (true≢false (sym e))
one_has net P (h ∷ gates) g all e =
    elim (or_cases ((gate_sig net h).0 == (gate_sig net g).0) (is_one_of net gates (gate_sig net g).0) e) [
      | inl here ↦ let is = eqb-true (gate_sig net h).0 (gate_sig net g).0 here in subst P (omega arith) (all 0 h (omega arith))
      | inr later ↦ one_has net P gates g (λ k d l. all (suc k) d (omega arith)) later
    ]

one_at : (net : Parts) (gates : List ℕ) (k d : ℕ) → k < length gates → is_one_of net gates (gate_sig net (get_or gates k d)).0 ≡ true
one_at net [] k d l = absurd (omega arith)
one_at net (g ∷ gates) zero d l = or_left ((gate_sig net g).0 == (gate_sig net g).0) (is_one_of net gates (gate_sig net g).0) (eq-eqb (gate_sig net g).0 (gate_sig net g).0 refl)
one_at net (g ∷ gates) (suc k) d l = or_right ((gate_sig net g).0 == (gate_sig net (get_or gates k d)).0) (is_one_of net gates (gate_sig net (get_or gates k d)).0) (one_at net gates k d (omega arith))

-- what a gate sees of a signal where the cycle's gates are unknown
hidden_may_be : (on : Bool) (side : Pin) (value : Trit) → MayBe side value → MayBe (cond on Open side) (hidden on value)
unfolding hidden
hidden_may_be true side value m = refl
hidden_may_be false side value m = m

pub sides_hold_cycle : SidesHoldCycle
sides_hold_cycle net given cycle sides width holds are = λ k d l.
    cleared_gates_stay_unknown net given (is_one_of net cycle) width (one_is_behind net cycle)
    (λ g inside e values is.
    one_has net (λ h. StaysBeside net (is_one_of net cycle) sides h) cycle g holds e values
    (subst (λ (vs : List Trit). AllZip MayBe (map (beside (is_one_of net cycle) sides) (gate_at net g).pins) vs) (sym is)
    (zip_map (beside (is_one_of net cycle) sides) (λ (s : Sig). hidden (is_one_of net cycle s.0) (wire (fix net given) s))
    (λ s. hidden_may_be (is_one_of net cycle s.0) (get_or sides s.0 Free) (wire (fix net given) s) (are s.0)) (gate_at net g).pins)))
    (gate_sig net (get_or cycle k d)).0 (one_at net cycle k d l)
