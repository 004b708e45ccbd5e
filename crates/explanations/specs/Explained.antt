-- Why a wire is undetermined at a vector.
use Rattle.std.specs.Prelude.{◌≡◌, ◌≢◌, ◌⊎◌, ◌≤◌, ◌<◌, ◌+◌, ◌++◌, ℕ, Bool, true, false, List, ◌∷◌, length, map, slice_index, slice_index_or, slice_set, zip, All, Contains}
use Rattle.cyc_base.specs.declared.trit.Trit.{Trit}
use Rattle.cyc_base.specs.declared.trit.Trit.TheVariants.{Zero, One, X}
use Rattle.cyc_base.specs.Values.{bits, EachBelow}
use Rattle.netlist.specs.declared.parts.Parts.{Parts}
use Rattle.netlist.specs.Fixpoint.{wire, fix}
use Rattle.netlist.specs.Netlists.{count, gate_sig}
use Rattle.explanations.specs.declared.explanation.Explanation.{Explanation}
use Rattle.explanations.specs.Cycles.{HasNoneTwice, last}
use Rattle.explanations.specs.Matters.{Sways}
use Rattle.explanations.specs.Sides.{AreSides}
use Rattle.explanations.specs.declared.needs.Holding.{Holding}
use Rattle.explanations.specs.declared.needs.Run.{Run}
use Rattle.explanations.specs.declared.shortest.ShortCycle.{ShortCycle}
use Rattle.explanations.specs.Held.{IsGreatest, AreMarked, HoldsOpen}

-- a gate that is unknown where the signals have these values
pub record IsUnknown (net : Parts) (known : List Trit) (g : ℕ) : Type 0 where
  pub gate : g < length net.gates
  pub unknown : wire known (gate_sig net g) ≡ X

-- a flip of each gate of the list but the last may flip the next
abbrev pub IsLine : Parts → List Trit → List ℕ → Type 0
IsLine net known gates = (k : ℕ) → k + 1 < length gates → Sways net known (slice_index gates k) (slice_index gates (k + 1))

-- unknown gates of which a flip of each may flip the next, and of the last the first
pub record IsOpenCycle (net : Parts) (known : List Trit) (gates : List ℕ) : Type 0 where
  pub some : 0 < length gates
  pub line : IsLine net known gates
  pub closes : Sways net known (last gates) (slice_index gates 0)
  pub unknown : All (IsUnknown net known) gates

-- behind a gate of the cycle, unknown gates up to a goal, of which a flip of each may flip the next. Without any the goal
-- is on the cycle.
pub record Leads (net : Parts) (known : List Trit) (cycle way : List ℕ) (goal : ℕ) : Type 0 where
  pub start : ℕ
  pub on : Contains cycle start
  pub line : IsLine net known (start ∷ way)
  pub ends : last (start ∷ way) ≡ goal
  pub unknown : All (IsUnknown net known) way

-- the values of a vector that hold gates open, and none of them can be left out alone
pub record AreNeeded (net : Parts) (v : List Bool) (gates : List ℕ) (needs : List Trit) : Type 0 where
  pub of_vector : EachBelow needs (bits v)
  pub enough : HoldsOpen net needs gates
  pub each : (column : ℕ) → column < length needs → slice_index_or needs column X ≢ X → ¬ HoldsOpen net (slice_set needs column X) gates

-- the value that is needed already, or else the other
abbrev pub or_else : Trit → Trit → Trit
or_else X other = other
or_else Zero other = Zero
or_else One other = One

abbrev pub both : List Trit → List Trit → List Trit
both needs also = map (λ p. or_else p.0 p.1) (zip needs also)

-- the further values of a vector that hold gates open together with those that are needed, and none of them can be left out alone
pub record AreFurther (net : Parts) (v : List Bool) (needs : List Trit) (gates : List ℕ) (also : List Trit) : Type 0 where
  pub of_vector : EachBelow also (bits v)
  pub apart : (column : ℕ) → slice_index_or needs column X ≢ X → slice_index_or also column X ≡ X
  pub enough : HoldsOpen net (both needs also) gates
  pub each : (column : ℕ) → slice_index_or also column X ≢ X → ¬ HoldsOpen net (both needs (slice_set also column X)) gates

-- why a gate is unknown at a vector
pub record Explains (net : Parts) (v : List Bool) (goal : ℕ) (why : Explanation) : Type 0 where
  pub cycle : IsOpenCycle net (fix net (bits v)) why.cycle
  pub leads : Leads net (fix net (bits v)) why.cycle why.way goal
  pub off : All (λ g. ¬ Contains why.cycle g) why.way
  pub once : HasNoneTwice why.way
  pub shortest : (way : List ℕ) → Leads net (fix net (bits v)) why.cycle way goal → length why.way ≤ length way
  pub fewest : (cycle way : List ℕ) → IsOpenCycle net (fix net (bits v)) cycle → Leads net (fix net (bits v)) cycle way goal → length why.cycle ≤ length cycle
  pub sides : AreSides net (fix net (bits v)) why.cycle why.sides
  pub needs : AreNeeded net v why.cycle why.needs
  pub also : AreFurther net v why.needs (why.cycle ++ why.way) why.also

-- what holds a cycle and a way from it open
pub record AreReasons (net : Parts) (v : List Bool) (found : ShortCycle) (why : Explanation) : Type 0 where
  pub cycle : why.cycle ≡ found.cycle
  pub way : why.way ≡ found.way
  pub sides : AreSides net (fix net (bits v)) why.cycle why.sides
  pub needs : AreNeeded net v why.cycle why.needs
  pub also : AreFurther net v why.needs (why.cycle ++ why.way) why.also

-- ---- leaving columns out one by one

-- what some columns alone determine, and the greatest set that this holds open
pub record IsHolding (net : Parts) (given : List Trit) (marks : List Bool) : Type 0 where
  pub width : length given ≡ length net.inputs + length net.latches
  pub size : length marks ≡ count net
  pub greatest : IsGreatest net (fix net given) marks

-- what is known is what the values determine
abbrev pub IsSettled : Parts → Holding → Type 0
IsSettled net holding = holding.known.items ≡ fix net holding.given.items

-- Of the first n columns each was left out that can be, but for those that are kept.
pub record IsNeeding (net : Parts) (v : List Bool) (gates : List ℕ) (kept : List Trit) (n : ℕ) (given : List Trit) (marks : List Bool) : Type 0 where
  pub holding : IsHolding net given marks
  pub of_vector : EachBelow given (bits v)
  pub keeps : EachBelow kept given
  pub among : AreMarked net marks gates
  pub each : (column : ℕ) → column < n → slice_index_or kept column X ≡ X → slice_index_or given column X ≢ X → ¬ HoldsOpen net (slice_set given column X) gates

-- the values without those of a run of columns, but for those that are kept
pub record IsWithoutRun (kept : List Trit) (first last : ℕ) (given fewer : List Trit) : Type 0 where
  pub size : length fewer ≡ length given
  pub before : (n : ℕ) → n < first → slice_index_or fewer n X ≡ slice_index_or given n X
  pub inside : (n : ℕ) → first ≤ n → n < last → slice_index_or fewer n X ≡ slice_index_or kept n X
  pub behind : (n : ℕ) → last ≤ n → slice_index_or fewer n X ≡ slice_index_or given n X

-- the gates aren't held open without the run
pub record IsNeededRun (net : Parts) (gates : List ℕ) (kept : List Trit) (first last : ℕ) (given : List Trit) : Type 0 where
  pub fewer : List Trit
  pub is : IsWithoutRun kept first last given fewer
  pub not : ¬ HoldsOpen net fewer gates

-- a run of columns is left out, or else nothing changes and it can't be
abbrev pub HasTriedWithout : Parts → List ℕ → List Trit → Run → Holding → Holding → Bool → Type 0
HasTriedWithout net gates kept run old new true =
    IsWithoutRun kept run.first (run.first + run.count) old.given.items new.given.items
    × IsHolding net new.given.items new.marks.items
    × AreMarked net new.marks.items gates
HasTriedWithout net gates kept run old new false =
    (new.given.items ≡ old.given.items)
    × (new.marks.items ≡ old.marks.items)
    × IsNeededRun net gates kept run.first (run.first + run.count) old.given.items

-- the run that is tried behind one that was left out, or wasn't: there is none left only behind the last column
pub record IsNextRun (columns : ℕ) (run : Run) (out : Bool) (next : Run) : Type 0 where
  pub within : next.first + next.count ≤ columns
  pub some : next.first < columns → 0 < next.count
  pub out_of : out ≡ true → next.first ≡ run.first + run.count
  pub stays : out ≡ false → (next.first ≡ run.first) × (next.count < run.count) ⊎ (next.first ≡ run.first + 1) × (run.count ≡ 1)

-- a value that isn't needed already
abbrev pub beyond : Trit → Trit → Trit
beyond X value = value
beyond Zero value = X
beyond One value = X

-- all unknown gates
pub record AreAllUnknown (net : Parts) (known : List Trit) (n : ℕ) (marks : List Bool) : Type 0 where
  pub size : length marks ≡ n
  pub all : (s : ℕ) → s < n → length net.inputs + length net.latches ≤ s → slice_index_or known s X ≡ X → slice_index_or marks s false ≡ true
  pub only : (s : ℕ) → slice_index_or marks s false ≡ true → (length net.inputs + length net.latches ≤ s) × (slice_index_or known s X ≡ X)
