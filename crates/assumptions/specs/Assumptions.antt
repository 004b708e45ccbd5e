-- The weakest assumption under which a netlist is harmless: rows of vectors are excluded, one after another.
use Rattle.std.specs.Prelude.{◌≡◌, ◌<◌, ◌≤◌, ◌↔◌, ◌⊎◌, ℕ, Bool, true, List, length, take, All, Some, IfSome, is_some, slice_index_or, codes}
use Rattle.netlist.specs.Netlists.{columns}
use Rattle.assumptions.specs.declared.search.TheConstants.{MAX_ROWS}
use Rattle.cyc_base.specs.declared.limits.TheConstants.{MAX_FLAT_ITEMS}
use Rattle.netlist.specs.declared.parts.Parts.{Parts}
use Rattle.care_sets.specs.Binding.{IsCareOf}
use Rattle.care_sets.specs.Care.{CareSet, is_allowed, IsCareVector}
use Rattle.care_sets.specs.declared.model.CareModel.{CareModel}
use Rattle.refusals.specs.Acceptance.{Accepts, AreDetermined, observed}
use Rattle.refusals.specs.Refusals.{refusal}
use Rattle.refusals.specs.declared.observe.Observe.{Observe}
use Rattle.refusals.specs.declared.refusal.Refusal.{Refusal}
use Rattle.refusals.specs.declared.refusal.Refusal.TheVariants.{Initial, EmptyCare, Undetermined, Leaves}
use Rattle.care_rows.specs.Rows.{IsIn, IsInNone, IsSteadySignal}
use Rattle.care_rows.specs.Restricted.{IsModelSize}
use Rattle.care_rows.specs.declared.rows.Row.{Row}
use Rattle.assumptions.specs.declared.assumption.Assumption.{Assumption}
use Rattle.assumptions.specs.declared.assumption.Assumption.TheVariants.{Stands, Weakest, Refused, TooManyRows, TooLarge}

-- no loop takes part in the wires of the row, and each vector in it leaves an observed wire undetermined
pub record IsOpenRow (net : Parts) (what : Observe) (row : Row) : Type 0 where
  pub steady : All (λ e. IsSteadySignal net e.wire) row.values
  pub opens : (v : List Bool) → length v ≡ columns net → IsIn net v row → ¬ AreDetermined net v (observed net what)

-- a vector that counts is in the row, and in none of these others
pub record HasNewVector (net : Parts) (care : CareSet) (others : List Row) (row : Row) : Type 0 where
  pub vector : List Bool
  pub counts : IsCareVector net care vector
  pub inside : IsIn net vector row
  pub beyond : IsInNone net vector others

-- rows as they are found one after another
pub record AreFound (net : Parts) (care : CareSet) (what : Observe) (rows : List Row) : Type 0 where
  pub each : All (IsOpenRow net what) rows
  pub new : (k : ℕ) (d : Row) → k < length rows → HasNewVector net care (take k rows) (slice_index_or rows k d)

-- the care set with such rows excluded: the same invariant, and an assumption that lets a vector through just where the old
-- one does and the vector is in none of the rows
pub record IsStrengthened (net : Parts) (care : CareSet) (what : Observe) (rows : List Row) (stronger : CareSet) : Type 0 where
  pub found : AreFound net care what rows
  pub bound : IsCareOf net stronger
  pub invariant : stronger.invariant ≡ care.invariant
  pub lets : (v : List Bool) → length v ≡ columns net → (is_allowed stronger v ≡ true) ↔ ((is_allowed care v ≡ true) × IsInNone net v rows)

-- a model `assume` that is small enough to be read again
pub record IsAssumeModel (model : CareModel) : Type 0 where
  pub named : model.net.name ≡ codes "assume"
  pub small : length model.net.gates ≤ MAX_FLAT_ITEMS

-- the netlist is accepted where some rows are excluded, at most 4,096 of them
pub record IsWeakest (net : Parts) (care : CareSet) (what : Observe) (stronger : CareSet) : Type 0 where
  pub rows : List Row
  pub few : length rows ≤ MAX_ROWS
  pub strengthened : IsStrengthened net care what rows stronger
  pub accepted : Accepts net stronger what
  pub some : is_some stronger.assume ≡ true
  pub assume : IfSome stronger.assume IsAssumeModel

-- it is accepted without, on a care set that has a model
pub record IsAccepted (net : Parts) (care : CareSet) (what : Observe) : Type 0 where
  pub accepted : Accepts net care what
  pub some : (is_some care.assume ≡ true) ⊎ (is_some care.invariant ≡ true)

abbrev pub IsUndetermined : Refusal → Type 0
IsUndetermined (Initial q) = ⊥
IsUndetermined EmptyCare = ⊥
IsUndetermined (Undetermined v s) = Unit {0}
IsUndetermined (Leaves v q) = ⊥

-- it is refused where some rows are excluded
pub record IsRefusedBeside (net : Parts) (care : CareSet) (what : Observe) (rows : List Row) (r : Refusal) : Type 0 where
  pub stronger : CareSet
  pub strengthened : IsStrengthened net care what rows stronger
  pub refused : refusal net stronger what ≡ Some r

-- and not for an undetermined wire: the invariant fails, or nothing is left of the care set
pub record IsRefused (net : Parts) (care : CareSet) (what : Observe) (r : Refusal) : Type 0 where
  pub rows : List Row
  pub few : length rows ≤ MAX_ROWS
  pub refused : IsRefusedBeside net care what rows r
  pub other : ¬ IsUndetermined r

-- 4,096 rows leave an observed wire undetermined at some vector
pub record HasManyRows (net : Parts) (care : CareSet) (what : Observe) : Type 0 where
  pub rows : List Row
  pub many : length rows ≡ MAX_ROWS
  pub refusal_left : Refusal
  pub refused : IsRefusedBeside net care what rows refusal_left
  pub open_left : IsUndetermined refusal_left

-- the model that excludes some rows would have so many gates, over 4,000,000
pub record IsTooLarge (net : Parts) (care : CareSet) (what : Observe) (gates : ℕ) : Type 0 where
  pub rows : List Row
  pub few : length rows ≤ MAX_ROWS
  pub found : AreFound net care what rows
  pub size : IsModelSize net care rows gates
  pub over : MAX_FLAT_ITEMS < gates

-- what is found of the assumptions under which a netlist is harmless
abbrev pub IsAssumption : Parts → CareSet → Observe → Assumption → Type 0
IsAssumption net care what Stands = IsAccepted net care what
IsAssumption net care what (Weakest stronger) = IsWeakest net care what stronger
IsAssumption net care what (Refused r) = IsRefused net care what r
IsAssumption net care what TooManyRows = HasManyRows net care what
IsAssumption net care what (TooLarge gates) = IsTooLarge net care what gates
