-- When a netlist is accepted on a care set, vector by vector, where these of its signals are observed.
use Rattle.std.specs.Prelude.{◌≡◌, ◌≢◌, ◌++◌, Bool, true, List, length, map, All}
use Rattle.std.specs.List.{range_with_len}
use Rattle.cyc_base.specs.declared.sig.Sig.{Sig}
use Rattle.cyc_base.specs.declared.trit.Trit.TheVariants.{X}
use Rattle.cyc_base.specs.Values.{bits}
use Rattle.netlist.specs.declared.parts.Parts.{Parts}
use Rattle.netlist.specs.Netlists.{gate_sig}
use Rattle.netlist.specs.Fixpoint.{wire, fix, next, IsInitialState}
use Rattle.care_sets.specs.Care.{CareSet, is_in_invariant, IsCareVector}
use Rattle.refusals.specs.declared.observe.Observe.{Observe}
use Rattle.refusals.specs.declared.observe.Observe.TheVariants as observe

-- the signals of the gates, in flat order
abbrev pub gate_sigs : Parts → List Sig
gate_sigs net = map (gate_sig net) (range_with_len 0 (length net.gates))

-- the observed signals: all gates, or the outputs and the latches' sources
abbrev pub observed : Parts → Observe → List Sig
observed net observe.All = gate_sigs net
observed net observe.Outputs = net.outputs ++ map (λ latch. latch.from) net.latches

-- each of these signals is determined in the fixpoint of the vector
abbrev pub AreDetermined : Parts → List Bool → List Sig → Type 0
AreDetermined net v = All (λ s. wire (fix net (bits v)) s ≢ X)

pub record SomeCareVector (net : Parts) (care : CareSet) : Type 0 where
  pub vector : List Bool
  pub counts : IsCareVector net care vector

-- the latches' next state is known, and in the invariant
pub record NextIsInInvariant (net : Parts) (care : CareSet) (v : List Bool) : Type 0 where
  pub state : List Bool
  pub is : next net (bits v) ≡ bits state
  pub inside : is_in_invariant care state ≡ true

pub record Accepts (net : Parts) (care : CareSet) (what : Observe) : Type 0 where
  -- each state that the inits permit is in the invariant
  pub initial : (q : List Bool) → IsInitialState net q → is_in_invariant care q ≡ true
  -- a care vector exists
  pub possible : SomeCareVector net care
  -- on each care vector no observed signal is unknown in the fixpoint
  pub determined : (v : List Bool) → IsCareVector net care v → AreDetermined net v (observed net what)
  -- on each care vector the next state is in the invariant
  pub closed : (v : List Bool) → IsCareVector net care v → NextIsInInvariant net care v
