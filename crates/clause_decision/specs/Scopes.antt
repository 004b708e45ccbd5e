-- Which gates the clauses speak of.
use Rattle.std.specs.Prelude.{◌≡◌, ◌≢◌, ◌<◌, ℕ, Bool, true, false, List, length, All, slice_index_or}
use Rattle.cyc_base.specs.declared.trit.Trit.TheVariants.{X}
use Rattle.cyc_base.specs.Values.{bits}
use Rattle.netlist.specs.Netlists.{columns, is_marked}
use Rattle.netlist.specs.declared.parts.Parts.{Parts}
use Rattle.netlist.specs.Fixpoint.{fix_gates}
use Rattle.netlist.specs.Walks.{Feeds}
use Rattle.loops.specs.Sweeps.{value_in}
use Rattle.care_sets.specs.Care.{CareSet, IsCareVector}
use Rattle.clause_decision.specs.declared.scope.Scope.{Scope}

-- with each gate those that feed it are marked
abbrev pub AreClosed : Parts → List Bool → Type 0
AreClosed net marks = (m n : ℕ) → Feeds net m n → is_marked marks n ≡ true → is_marked marks m ≡ true

-- no marked gate is X in the least fixpoint of any Boolean vector
abbrev pub AreNeverUnknown : Parts → List Bool → Type 0
AreNeverUnknown net marks = (v : List Bool) → length v ≡ columns net → (n : ℕ) → n < length net.gates → is_marked marks n ≡ true →
    value_in (fix_gates net (bits v)) n ≢ X

-- a mark for each gate of the netlist: those that are spoken of, and those that no Boolean vector leaves unknown
pub record IsScopeOf (net : Parts) (scope : Scope) : Type 0 where
  pub width : length scope.gates ≡ length net.gates
  pub closed : AreClosed net scope.gates
  pub known_width : length scope.known ≡ length net.gates
  pub known : AreNeverUnknown net scope.known

-- the gates are spoken of
abbrev pub AreInScope : Parts → Scope → List ℕ → Type 0
AreInScope net scope = All (λ n. is_marked scope.gates n ≡ true)

-- no gate is X at a care vector
abbrev pub AreKnownOnCare : Parts → CareSet → Type 0
AreKnownOnCare net care = (v : List Bool) → IsCareVector net care v → (n : ℕ) → n < length net.gates → value_in (fix_gates net (bits v)) n ≢ X
