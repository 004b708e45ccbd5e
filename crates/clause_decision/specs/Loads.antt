-- What the latches load that an invariant reads.
use Rattle.std.specs.Prelude.{◌≡◌, ◌<◌, ◌-◌, ℕ, true, length, IfSome, Contains, slice_index_or}
use Rattle.netlist.specs.declared.parts.Parts.{Parts}
use Rattle.netlist.specs.declared.parts.Latch.{Latch}
use Rattle.netlist.specs.Netlists.{gate_sig, is_marked}
use Rattle.care_sets.specs.Care.{CareSet}
use Rattle.clause_decision.specs.declared.scope.Scope.{Scope}

-- a gate that drives one of those latches is in the scope
abbrev pub HasLoads : Parts → CareSet → Scope → Type 0
HasLoads net care scope = IfSome care.invariant (λ model. (column n : ℕ) (none : Latch) → Contains model.columns column → n < length net.gates →
    (slice_index_or net.latches (column - length net.inputs) none).from ≡ gate_sig net n → is_marked scope.gates n ≡ true)
