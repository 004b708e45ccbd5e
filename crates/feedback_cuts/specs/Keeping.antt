-- The gates that are no cut wires, while the cut is found: who reads whom, and their levels.
use Rattle.std.specs.Prelude.{◌≡◌, ◌⊎◌, ◌<◌, ◌≤◌, ◌+◌, ◌↔◌, ℕ, Bool, true, false, List, [], length, replicate, slice_index_or, set, Contains}
use Rattle.std.specs.List.{All}
use Rattle.cyc_base.specs.declared.sig.Sig.{Sig}
use Rattle.netlist.specs.declared.parts.Parts.{Parts}
use Rattle.netlist.specs.Netlists.{gate_at}
use Rattle.loops.specs.declared.structure.Blocks.{Blocks}
use Rattle.feedback_cuts.specs.declared.cuts.CutSearch.{CutSearch}
use Rattle.feedback_cuts.specs.Landmarks.{AreLandmarks}
use Rattle.loops.specs.Links.{IsLoopPin, IsLoopSource}
use Rattle.loops.specs.Rows.{InRow, row_at}
use Rattle.feedback_cuts.specs.Searching.{Connects, IsFree, IsReady, level_at}
use Rattle.loops.specs.Walks.{AnyGate}

-- the first k of these gates are raised to a level at least
pub record IsRaised (gates : List ℕ) (k least : ℕ) (old new : List ℕ) : Type 0 where
  pub size : length new ≡ length old
  pub rises : (x : ℕ) → level_at old x ≤ level_at new x
  pub moved : (x : ℕ) → (level_at new x ≡ level_at old x) ⊎ (Contains gates x × (level_at new x ≡ least))
  pub reached : (j d : ℕ) → j < k → least ≤ level_at new (slice_index_or gates j d)

-- a gate to which the goal leads by both rows
pub record Meeting (readers sources : List (List ℕ)) (goal : ℕ) : Type 0 where
  pub gate : ℕ
  pub forth : Connects (InRow readers) AnyGate goal gate
  pub back : Connects (InRow sources) AnyGate goal gate

-- a search up to a level that has found all, and none of the other row
pub record HasEnded (rows : List (List ℕ)) (levels : List ℕ) (high goal : ℕ) (others found : List ℕ) : Type 0 where
  pub begins : (x : ℕ) → InRow rows goal x → level_at levels x ≤ high → Contains found x
  pub closed : (x y : ℕ) → Contains found x → InRow rows x y → level_at levels y ≤ high → Contains found y
  pub apart : (x : ℕ) → Contains found x → ¬ Contains others x

-- no level is above so many
abbrev pub AreLow : ℕ → List ℕ → Type 0
AreLow n levels = (x : ℕ) → level_at levels x ≤ n

-- what the goal reaches is raised over all that it reads
pub record IsAhead (readers sources : List (List ℕ)) (goal : ℕ) (old new : List ℕ) : Type 0 where
  pub high : ℕ
  pub found : List ℕ
  pub low : high ≤ goal
  pub above : (p : ℕ) → InRow sources goal p → level_at old p ≤ high
  pub ended : HasEnded readers old high goal (row_at sources goal) found
  pub raised : IsRaised found (length found) (high + 1) old new

-- whether both rows of the goal meet: where they don't, levels are raised so that what it reads is below what reads it
abbrev pub HasParted : List (List ℕ) → List (List ℕ) → ℕ → List ℕ → List ℕ → Bool → Type 0
HasParted readers sources goal old new true = Meeting readers sources goal × (new ≡ old)
HasParted readers sources goal old new false = IsAhead readers sources goal old new

-- the rows of the first k readers have gained the gate
pub record HaveGained (readers : List ℕ) (gate k : ℕ) (old new : List (List ℕ)) : Type 0 where
  pub size : length new ≡ length old
  pub keeps : (x y : ℕ) → InRow old x y → InRow new x y
  pub each : (j d : ℕ) → j < k → InRow new (slice_index_or readers j d) gate
  pub only : (x y : ℕ) → InRow new x y → InRow old x y ⊎ (Contains readers x × (y ≡ gate))

-- the sources of the first k pins that are free
pub record AreSourcesBelow (net : Parts) (blocks : Blocks) (cut : List Bool) (gate k : ℕ) (row : List ℕ) : Type 0 where
  pub each : (a j : ℕ) (d : Sig) → j < k → IsLoopSource net blocks gate (slice_index_or (gate_at net gate).pins j d) a →
      IsFree cut gate a → Contains row a
  pub only : (a : ℕ) → Contains row a → IsLoopPin net blocks a gate × IsFree cut gate a

-- the rows of the sources of the first k pins have gained the gate
pub record HaveGainedPins (net : Parts) (blocks : Blocks) (gate k : ℕ) (old new : List (List ℕ)) : Type 0 where
  pub size : length new ≡ length old
  pub keeps : (x y : ℕ) → InRow old x y → InRow new x y
  pub each : (a j : ℕ) (d : Sig) → j < k → IsLoopSource net blocks gate (slice_index_or (gate_at net gate).pins j d) a →
      InRow new a gate
  pub only : (x y : ℕ) → InRow new x y → InRow old x y ⊎ (IsLoopPin net blocks x gate × (y ≡ gate))

-- the gates before n that are no cut wires: their rows along R, and levels that rise along it
pub record IsKept (R : ℕ → ℕ → Type 0) (cut : List Bool) (n : ℕ) (readers sources : List (List ℕ)) (levels : List ℕ) : Type 0 where
  pub readers_size : length readers ≡ length cut
  pub sources_size : length sources ≡ length cut
  pub levels_size : length levels ≡ length cut
  pub read_by : (x y : ℕ) → InRow readers x y ↔ (R x y × IsFree cut n y)
  pub reads : (x y : ℕ) → IsFree cut n y → InRow sources y x ↔ (R x y × IsFree cut n x)
  pub reads_within : (x y : ℕ) → InRow sources y x → x < length cut
  pub rise : (x y : ℕ) → R x y → IsFree cut n x → IsFree cut n y → level_at levels x ≤ level_at levels y
  pub low : AreLow n levels

-- a row and a level for each gate, and rows that name gates alone
pub record AreLinks (readers sources : List (List ℕ)) (levels : List ℕ) : Type 0 where
  pub readers_size : length readers ≡ length levels
  pub sources_size : length sources ≡ length levels
  pub readers_within : All (All (λ gate. gate < length levels)) readers
  pub sources_within : All (All (λ gate. gate < length levels)) sources

-- a search for cut wires that has gone through no gate
pub record IsFresh (gates : ℕ) (search : CutSearch) : Type 0 where
  pub readers : search.kept.readers.items ≡ replicate gates []
  pub sources : search.kept.sources.items ≡ replicate gates []
  pub levels : search.kept.levels.items ≡ replicate gates 0
  pub ready : IsReady gates 0 search.search.marks.items
  pub landmarks : (rows : List (List ℕ)) (width : ℕ) → AreLandmarks rows width search.landmarks.list.items

-- and one that has gone through the gates before n
pub record IsCutSearch (R : ℕ → ℕ → Type 0) (cut : List Bool) (n : ℕ) (search : CutSearch) : Type 0 where
  pub kept : IsKept R cut n search.kept.readers.items search.kept.sources.items search.kept.levels.items
  pub ready : IsReady (length cut) n search.search.marks.items
  pub landmarks : AreLandmarks search.kept.readers.items (length cut) search.landmarks.list.items

-- a gate's level is between those of the gates behind it and of those ahead of it
pub record IsPlaced (behind ahead : List ℕ) (gate : ℕ) (old new : List ℕ) : Type 0 where
  pub level : ℕ
  pub is : new ≡ set old gate level
  pub above : (p : ℕ) → Contains behind p → level_at old p ≤ level
  pub below : (s : ℕ) → Contains ahead s → level ≤ level_at old s
  pub low : (n : ℕ) → AreLow n old → level ≤ n
