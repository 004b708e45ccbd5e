-- What a decision by clauses asks of gates and loops.
use Rattle.std.specs.Prelude.{◌≡◌, ◌<◌, ◌-◌, ℕ, Bool, List, length, Contains, All, IfSome, None, Some, slice_index_or}
use Rattle.netlist.specs.declared.parts.Latch.{Latch}
use Rattle.netlist.specs.declared.parts.Parts.{Parts}
use Rattle.netlist.specs.Netlists.{gate_sig}
use Rattle.loops.specs.declared.structure.Blocks.{Blocks}
use Rattle.care_sets.specs.Care.{CareSet}
use Rattle.refusals.specs.Refusals.{initial_refusal, empty_refusal, refusal}
use Rattle.refusals.specs.declared.observe.Observe.{Observe}
use Rattle.verdict.specs.Determination.{IsOpen}
use Rattle.verdict.specs.declared.clauses.Beginning.{Beginning}
use Rattle.verdict.specs.declared.clauses.Beginning.TheVariants as beginnings

-- the gates that drive the latches which the invariant reads
abbrev pub AreDrivers : Parts → CareSet → List ℕ → Type 0
AreDrivers net care gates = IfSome care.invariant (λ model. (column n : ℕ) (none : Latch) → Contains model.columns column → n < length net.gates →
    (slice_index_or net.latches (column - length net.inputs) none).from ≡ gate_sig net n → Contains gates n)

-- those of the first so many columns
pub record AreDriversBefore (net : Parts) (columns : List ℕ) (done : ℕ) (gates : List ℕ) : Type 0 where
  pub within : All (λ n. n < length net.gates) gates
  pub all : (k d n : ℕ) (none : Latch) → k < done → n < length net.gates →
      (slice_index_or net.latches (slice_index_or columns k d - length net.inputs) none).from ≡ gate_sig net n → Contains gates n

-- the gates of loops that aren't settled, in flat order
pub record AreOpenGates (net : Parts) (blocks : Blocks) (settled : List Bool) (gates : List ℕ) : Type 0 where
  pub within : All (λ n. n < length net.gates) gates
  pub all : (n : ℕ) → IsOpen net blocks settled n → Contains gates n

-- how far the decision comes without the gates: refused whatever is observed, or neither the initial states nor the care
-- set refuse it; or nothing is said
pub record MayGoOn (net : Parts) (care : CareSet) : Type 0 where
  pub initial : initial_refusal net care ≡ None
  pub some : empty_refusal net care ≡ None

abbrev pub IsBeginning : Parts → CareSet → Beginning → Type 0
IsBeginning net care (beginnings.Refused r) = (what : Observe) → refusal net care what ≡ Some r
IsBeginning net care beginnings.Care = MayGoOn net care
IsBeginning net care beginnings.Undecided = Unit {0}
