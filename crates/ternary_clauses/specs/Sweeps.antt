-- One sweep of a loop, as clauses.
use Rattle.std.specs.Prelude.{◌≡◌, ◌⊎◌, ℕ, ◌<◌, ◌≤◌, Bool, false, if◌then◌else◌, List, length, All, Contains, map, ◌++◌, slice_index}
use Rattle.std.specs.List.{AllZip}
use Rattle.cyc_base.specs.declared.sig.Sig.{Sig}
use Rattle.cyc_base.specs.declared.trit.Trit.{Trit}
use Rattle.cover_logic.specs.Extensions.{ext}
use Rattle.netlist.specs.declared.parts.Parts.{Parts}
use Rattle.netlist.specs.Netlists.{count, gate_at}
use Rattle.netlist.specs.Fixpoint.{wire, fix}
use Rattle.loops.specs.Cuts.{Loops, is_cut}
use Rattle.loops.specs.Placing.{Rise}
use Rattle.loops.specs.Sweeps.{first_gate, gate_of, in_loop_of, value_in, sweep}
use Rattle.clause_formulas.specs.declared.formula.Formula.{Formula}
use Rattle.ternary_clauses.specs.declared.rails.Rails.{Rails}
use Rattle.clause_formulas.specs.Formulas.{IsFormula, IsModel, HasModelFrom, Grows}
use Rattle.ternary_clauses.specs.Rails.{Reads, AreWithin, AreRailsOf, rails_at}
use Rattle.ternary_clauses.specs.Lifts.{SaysGate}

-- under the assignment the rails stand for the values of these gates in a state, place by place
abbrev pub ReadsPlaces : (gates : List ℕ) (rails : List Rails) (m : List Bool) (s : List Trit) → Type 0
ReadsPlaces gates rails m s = (i : ℕ) → i < length gates → Reads m (rails_at rails i) (value_in s (slice_index gates i))

-- what is outside the loop of these gates stands for its value at the fixpoint
abbrev pub ReadsOutside : (net : Parts) (loops : Loops) (gates : List ℕ) (rails : List Rails) (m : List Bool) (v : List Trit) → Type 0
ReadsOutside net loops gates rails m v = (n : ℕ) → Contains gates n →
    All (λ pin. in_loop_of net loops n pin ≡ false → Reads m (rails_at rails pin.0) (wire (fix net v) pin)) (gate_at net n).pins

-- The new formula says nothing but that new rails stand for the loop of these gates after a sweep, where others stand for
-- it before the sweep.
pub record SaysSweep (net : Parts) (loops : Loops) (gates : List ℕ) (rails before : List Rails) (old new : Formula) (after : List Rails) : Type 0 where
  pub grows : Grows old new
  pub within : All (AreWithin new.variables) after
  pub size : length after ≡ length gates
  pub sound : (m : List Bool) (v c : List Trit) → IsModel m new → ReadsOutside net loops gates rails m v → ReadsPlaces gates before m c →
      ReadsPlaces gates after m (sweep net loops v c)
  pub complete : (m : List Bool) (v c : List Trit) → length m ≡ old.variables → IsModel m old → ReadsOutside net loops gates rails m v →
      ReadsPlaces gates before m c → HasModelFrom new m

-- ---- while it is built

-- a model, with values for these further variables, in which the rails stand for these values
pub record HasCopies (f : Formula) (copies : List Rails) (k : ℕ) (m : List Bool) (values : ℕ → Trit) : Type 0 where
  pub more : List Bool
  pub width : length (m ++ more) ≡ f.variables
  pub model : IsModel (m ++ more) f
  pub reads : (i : ℕ) → i < k → Reads (m ++ more) (rails_at copies i) (values i)

-- so many new rails, which stand for any values
pub record AreCopies (old new : Formula) (copies : List Rails) (k : ℕ) : Type 0 where
  pub grows : Grows old new
  pub within : All (AreWithin new.variables) copies
  pub size : length copies ≡ k
  pub own : (i : ℕ) → i < k → AreRailsOf new (rails_at copies i)
  pub complete : (m : List Bool) (values : ℕ → Trit) → length m ≡ old.variables → IsModel m old → HasCopies new copies k m values

-- a loop's gates with the rails of all signals, and their own before a sweep and after it
pub record CopiedLoop : Type 0 where
  pub net : Parts
  pub gates : List ℕ
  -- marks of the cut wires
  pub cut : List Bool
  pub rails : List Rails
  pub before : List Rails
  pub after : List Rails

-- the gates are the netlist's, in flat order, and there are rails for each of them and for each signal
pub record IsCopiedLoop (c : CopiedLoop) : Type 0 where
  pub rise : Rise c.gates
  pub inside : (i : ℕ) → i < length c.gates → slice_index c.gates i < length c.net.gates
  pub cut : length c.cut ≡ length c.net.gates
  pub rails : length c.rails ≡ count c.net
  pub before : length c.before ≡ length c.gates
  pub after : length c.after ≡ length c.gates

-- the rails are literals of the first so many variables
pub record IsCopyWithin (variables : ℕ) (c : CopiedLoop) : Type 0 where
  pub rails : All (AreWithin variables) c.rails
  pub before : All (AreWithin variables) c.before
  pub after : All (AreWithin variables) c.after

-- they are of the formula, and those after the sweep stand for values in each model
pub record IsCopyOf (f : Formula) (c : CopiedLoop) : Type 0 where
  pub formula : IsFormula f
  pub within : IsCopyWithin f.variables c
  pub own : (i : ℕ) → i < length c.gates → AreRailsOf f (rails_at c.after i)

-- the rails of a signal that is none of these gates
pub record IsOutside (c : CopiedLoop) (pin : Sig) (r : Rails) : Type 0 where
  pub no_gate : first_gate c.net ≤ pin.0 → ¬ Contains c.gates (gate_of c.net pin)
  pub is : r ≡ rails_at c.rails pin.0

-- the rails of one of these gates: before the sweep if it is a cut wire, and else after it
pub record IsInside (c : CopiedLoop) (pin : Sig) (r : Rails) : Type 0 where
  pub gate : first_gate c.net ≤ pin.0
  pub place : ℕ
  pub within : place < length c.gates
  pub here : slice_index c.gates place ≡ gate_of c.net pin
  pub is : r ≡ (if is_cut c.cut (gate_of c.net pin) then rails_at c.before place else rails_at c.after place)

-- what a gate of the loop sees of a signal
abbrev pub IsSeen : CopiedLoop → Sig → Rails → Type 0
IsSeen c pin r = IsOutside c pin r ⊎ IsInside c pin r

-- under the assignment what the gates see stands for these values
abbrev pub ReadsSeen : CopiedLoop → List Bool → (ℕ → Sig → Trit) → Type 0
ReadsSeen c m see = (i : ℕ) → i < length c.gates →
    All (λ pin. (r : Rails) → IsSeen c pin r → Reads m r (see i pin)) (gate_at c.net (slice_index c.gates i)).pins

-- the value of a gate where it sees these values
abbrev pub value_seen : CopiedLoop → (ℕ → Sig → Trit) → ℕ → Trit
value_seen c see i = ext (gate_at c.net (slice_index c.gates i)).cover (map (see i) (gate_at c.net (slice_index c.gates i)).pins)

-- the copy of the gate at this place is bound to what the gate sees
pub record BindsCopy (c : CopiedLoop) (i : ℕ) (old new : Formula) : Type 0 where
  pub pins : List Rails
  pub seen : AllZip (IsSeen c) (gate_at c.net (slice_index c.gates i)).pins pins
  pub says_gate : SaysGate old new pins (rails_at c.after i) (gate_at c.net (slice_index c.gates i)).cover

-- the copies of the first k gates are bound
pub record AreCopied (c : CopiedLoop) (old new : Formula) (k : ℕ) : Type 0 where
  pub grows : Grows old new
  pub reads : (m : List Bool) (see : ℕ → Sig → Trit) → IsModel m new → ReadsSeen c m see →
      (i : ℕ) → i < k → Reads m (rails_at c.after i) (value_seen c see i)
  pub complete : (m : List Bool) (see : ℕ → Sig → Trit) → length m ≡ old.variables → IsModel m old → ReadsSeen c m see →
      ((i : ℕ) → i < length c.gates → Reads m (rails_at c.after i) (value_seen c see i)) → HasModelFrom new m
