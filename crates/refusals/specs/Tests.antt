-- The tests of states and vectors that a decision asks for.
use Rattle.std.specs.Prelude.{◌≡◌, ◌≢◌, ◌<◌, ◌&&◌, ℕ, Bool, true, not, List, None, is_some, find, All}
use Rattle.cyc_base.specs.declared.trit.Trit.TheVariants.{X}
use Rattle.cyc_base.specs.Values.{bits}
use Rattle.cyc_base.specs.Vectors.{vectors}
use Rattle.netlist.specs.declared.parts.Parts.{Parts}
use Rattle.netlist.specs.Fixpoint.{fix, wire}
use Rattle.netlist.specs.Netlists.{gate_sig, columns}
use Rattle.care_sets.specs.Care.{CareSet, is_in_invariant, is_care_vector, IsCareVector}
use Rattle.refusals.specs.declared.observe.Observe.{Observe}
use Rattle.refusals.specs.Acceptance.{observed}
use Rattle.refusals.specs.Refusals.{is_among, is_initial, is_undetermined, leaves}

-- a state that the inits permit, outside the invariant
abbrev pub is_outside : Parts → CareSet → List Bool → Bool
is_outside net care q = is_initial net q && not (is_in_invariant care q)

-- a care vector at which the gate is unknown
abbrev pub is_unknown_at : Parts → CareSet → ℕ → List Bool → Bool
is_unknown_at net care gate v = is_care_vector net care v && is_undetermined net (gate_sig net gate) v

-- a care vector whose next state isn't in the invariant
abbrev pub is_leaving : Parts → CareSet → List Bool → Bool
is_leaving net care v = is_care_vector net care v && leaves net care v

-- the gate is unknown at some care vector
abbrev pub is_unknown : Parts → CareSet → ℕ → Bool
is_unknown net care gate = is_some (find (is_unknown_at net care gate) (vectors (columns net)))

-- on care, what the latches load is known
abbrev pub LoadsAreKnown : Parts → CareSet → Type 0
LoadsAreKnown net care = (v : List Bool) → IsCareVector net care v → All (λ latch. wire (fix net (bits v)) latch.from ≢ X) net.latches

-- an observed gate, before which no observed one is unknown on care
pub record IsFirstToRefuse (net : Parts) (care : CareSet) (what : Observe) (n : ℕ) : Type 0 where
  pub seen : is_among (observed net what) (gate_sig net n) ≡ true
  pub before : (m : ℕ) → m < n → is_among (observed net what) (gate_sig net m) ≡ true → find (is_unknown_at net care m) (vectors (columns net)) ≡ None
