-- Whether the observed gates of a netlist are seen to be determined on care.
use Rattle.std.specs.Prelude.{◌≡◌, ◌<◌, ℕ, Bool, true, List, length}
use Rattle.netlist.specs.declared.parts.Parts.{Parts}
use Rattle.netlist.specs.Netlists.{gate_sig, columns}
use Rattle.refusals.specs.Tests.{is_unknown_at}
use Rattle.refusals.specs.Acceptance.{observed}
use Rattle.refusals.specs.Refusals.{is_among}
use Rattle.refusals.specs.declared.refusal.Refusal.{Refusal}
use Rattle.refusals.specs.declared.refusal.Refusal.TheVariants.{Initial, EmptyCare, Undetermined, Leaves}
use Rattle.verdict.specs.declared.determinacy.Determinacy.{Determinacy}
use Rattle.verdict.specs.declared.determinacy.Determinacy.TheVariants as determinacies
use Rattle.verdict.specs.Loose.{IsLooseNumber}
use Rattle.verdict.specs.Questions.{Asked}

-- an observed gate that is unknown at a care vector
pub record IsUnknownObserved (q : Asked) (v : List Bool) (n : ℕ) : Type 0 where
  pub within : n < length q.net.gates
  pub width : length v ≡ columns q.net
  pub unknown : is_unknown_at q.net q.care n v ≡ true
  pub seen : is_among (observed q.net q.what) (gate_sig q.net n) ≡ true

-- no observed gate is unknown on care, and so many others are, or this one is, or nothing is said
abbrev pub IsDeterminacy : Asked → Determinacy → Type 0
IsDeterminacy q (determinacies.Determined loose) = IsLooseNumber q.net q.care q.what loose
IsDeterminacy q (determinacies.Unknown vector gate) = IsUnknownObserved q vector.items gate
IsDeterminacy q determinacies.Undecided = Unit {0}

-- the refusal has this vector, and the wire of this gate
abbrev pub IsUnknownGateAt : Parts → List Bool → ℕ → Refusal → Type 0
IsUnknownGateAt net v n (Initial q) = ⊥
IsUnknownGateAt net v n EmptyCare = ⊥
IsUnknownGateAt net v n (Undetermined w s) = (w ≡ v) × (s ≡ gate_sig net n)
IsUnknownGateAt net v n (Leaves w q) = ⊥
