-- How rows are made of an explanation, and care sets of rows.
use Rattle.std.specs.Prelude.{◌≡◌, ◌⊎◌, ◌<◌, ◌≤◌, ◌↔◌, ◌+◌, ◌-◌, ◌++◌, ℕ, Bool, true, false, List, [], ◌∷◌, length, map, All, Contains, Some, None, slice_index_or}
use Rattle.std.specs.declared.option.Option.{Option}
use Rattle.assumptions.specs.declared.search.TheConstants.{MAX_ROWS}
use Rattle.cyc_base.specs.declared.sig.Sig.{Sig}
use Rattle.cyc_base.specs.declared.trit.Trit.{Trit}
use Rattle.cyc_base.specs.declared.trit.Trit.TheVariants.{Zero, One, X}
use Rattle.netlist.specs.declared.parts.Parts.{Parts}
use Rattle.netlist.specs.Netlists.{signal, columns, is_marked}
use Rattle.care_sets.specs.Binding.{IsCareOf, Binds}
use Rattle.care_sets.specs.Care.{CareSet, is_allowed}
use Rattle.care_sets.specs.declared.model.CareModel.{CareModel}
use Rattle.explanations.specs.Explained.{both}
use Rattle.explanations.specs.declared.explanation.Explanation.{Explanation}
use Rattle.explanations.specs.declared.pins.Pin.{Pin}
use Rattle.explanations.specs.declared.pins.Pin.TheVariants.{Known, Open, Free}
use Rattle.refusals.specs.declared.observe.Observe.{Observe}
use Rattle.refusals.specs.declared.observe.Observe.TheVariants as observe
use Rattle.care_rows.specs.Rows.{IsInNone}
use Rattle.care_rows.specs.declared.rows.Row.{Row}
use Rattle.care_rows.specs.declared.rows.WireValue.{WireValue}
use Rattle.loops.specs.Looped.{Looped}
use Rattle.refusals.specs.declared.refusal.Refusal.{Refusal}
use Rattle.isolation.specs.Alone.{SettleInOneSweep}
use Rattle.verdict.specs.Witnessed.{IsSomeRefusal}
use Rattle.assumptions.specs.declared.assumption.Assumption.{Assumption}
use Rattle.assumptions.specs.Assumptions.{AreFound, IsAssumption, IsAssumeModel, IsOpenRow, HasNewVector, IsStrengthened}

abbrev pub wire_value : ℕ → Bool → WireValue
wire_value n value = record { wire = signal n; value = value }

-- the known ones among the first n pins, each as the value of the signal of its number
pub record AreKnownPins (pins : List Pin) (n : ℕ) (values : List WireValue) : Type 0 where
  pub all : (s : ℕ) (b : Bool) → s < n → slice_index_or pins s Free ≡ Known b → Contains values (wire_value s b)
  pub only : All (λ e. (e.wire.0 < n) × (slice_index_or pins e.wire.0 Free ≡ Known e.value)) values

-- a pin more: its value is added where it is known
abbrev pub HasPushed : ℕ → Pin → List WireValue → List WireValue → Type 0
HasPushed n (Known b) old new = new ≡ old ++ wire_value n b ∷ []
HasPushed n Open old new = new ≡ old
HasPushed n Free old new = new ≡ old

abbrev pub IsRowOf : List Pin → Row → Type 0
IsRowOf pins row = AreKnownPins pins (length pins) row.values

-- the side is known, and of a signal that no loop takes part in; or it is free
abbrev pub IsSteadySide : List Bool → ℕ → Pin → Type 0
IsSteadySide steady s (Known b) = is_marked steady s ≡ true
IsSteadySide steady s Open = ⊥
IsSteadySide steady s Free = Unit {0}

abbrev pub AreSteadySides : List Bool → List Pin → Type 0
AreSteadySides steady sides = (s : ℕ) → s < length sides → IsSteadySide steady s (slice_index_or sides s Free)

-- the value of a column as a pin: free where it is X
abbrev pub pin_of : Trit → Pin
pin_of Zero = Known false
pin_of One = Known true
pin_of X = Free

-- the number of the gate that drives a signal
abbrev pub driver_of : Parts → Sig → ℕ
driver_of net s = s.0 - columns net

-- the row of the cycle of an explanation: its sides, where they are steady, or else the columns that it needs
abbrev pub IsCycleRow : List Bool → Explanation → Row → Type 0
IsCycleRow steady why row = (AreSteadySides steady why.sides × IsRowOf why.sides row) ⊎ IsRowOf (map pin_of why.needs) row

-- the row of an explanation
abbrev pub IsRowBy : Observe → List Bool → Explanation → Row → Type 0
IsRowBy observe.All steady why row = IsCycleRow steady why row
IsRowBy observe.Outputs steady why row = IsRowOf (map pin_of (both why.needs why.also)) row

-- the care set whose assumption is this model, beside the invariant of another
pub record IsBeside (net : Parts) (care : CareSet) (model : Parts) (stronger : CareSet) : Type 0 where
  pub assume : CareModel
  pub is : stronger.assume ≡ Some assume
  pub binds : Binds net 0 model assume
  pub invariant : stronger.invariant ≡ care.invariant
  pub bound : IsCareOf net stronger

-- a care set with rows excluded
pub record Excludes (net : Parts) (care : CareSet) (rows : List Row) (stronger : CareSet) : Type 0 where
  pub bound : IsCareOf net stronger
  pub invariant : stronger.invariant ≡ care.invariant
  pub lets : (v : List Bool) → length v ≡ columns net → (is_allowed stronger v ≡ true) ↔ ((is_allowed care v ≡ true) × IsInNone net v rows)
  pub assume : CareModel
  pub is : stronger.assume ≡ Some assume
  pub small : IsAssumeModel assume

-- a row that a refusal for an undetermined wire leads to
pub record IsNextRow (net : Parts) (care : CareSet) (what : Observe) (rows : List Row) (row : Row) : Type 0 where
  pub opens : IsOpenRow net what row
  pub new : HasNewVector net care rows row

-- one more row is found
pub record HasOneMore (net : Parts) (care : CareSet) (what : Observe) (old new : List Row) : Type 0 where
  pub found : AreFound net care what new
  pub more : length new ≡ length old + 1
  pub few : length new ≤ MAX_ROWS

-- what a round finds: an assumption, or one more row
abbrev pub IsRound : Parts → CareSet → Observe → List Row → List Row → Option Assumption → Type 0
IsRound net care what old new (Some found) = IsAssumption net care what found
IsRound net care what old new None = HasOneMore net care what old new

-- a mark for each block: loops with one are settled by themselves in one sweep
pub record AreSettled (l : Looped) (settled : List Bool) : Type 0 where
  pub width : length settled ≡ length l.blocks.list
  pub settle : SettleInOneSweep l.net l.blocks settled

-- the netlist is refused where some rows are excluded, and where a wire is undetermined this may be any such wire and vector
pub record IsShownBeside (net : Parts) (care : CareSet) (what : Observe) (rows : List Row) (r : Refusal) : Type 0 where
  pub stronger : CareSet
  pub strengthened : IsStrengthened net care what rows stronger
  pub refused : IsSomeRefusal net stronger what r
