-- A search along rows of gates. Its goal is a number that its marks have.
use Rattle.std.specs.Prelude.{◌≡◌, ◌⊎◌, ◌<◌, ◌≤◌, ◌+◌, ◌-◌, ◌==◌, ℕ, suc, Bool, true, false, if◌then◌else◌, List, [], ◌∷◌, length, slice_index_or, All, Contains}
use Rattle.std.specs.List.{AllByRecursion}
use Rattle.feedback_cuts.specs.declared.search.Search.{Search}
use Rattle.loops.specs.Cuts.{is_cut}
use Rattle.loops.specs.Rows.{InRow, row_at}
use Rattle.loops.specs.Walks.{AnyGate}

-- a path along R from a to b with these gates in between
abbrev pub Path : (ℕ → ℕ → Type 0) → ℕ → List ℕ → ℕ → Type 0
Path R a [] b = R a b
Path R a (x ∷ via) b = R a x × Path R x via b

-- a path along R leads from a to b through gates of this kind
pub record Connects (R : ℕ → ℕ → Type 0) (P : ℕ → Type 0) (a b : ℕ) : Type 0 where
  pub via : List ℕ
  pub kind : AllByRecursion P via
  pub path : Path R a via b

-- a gate that a walk from the goal may pass: before the goal, and no cut wire
pub record IsFree (cut : List Bool) (goal n : ℕ) : Type 0 where
  pub before : n < goal
  pub uncut : is_cut cut n ≡ false

-- the level of a gate
abbrev pub level_at : List ℕ → ℕ → ℕ
level_at levels n = slice_index_or levels n 0

-- a mark says in which search a gate was found
abbrev pub IsMarked : ℕ → List ℕ → ℕ → Type 0
IsMarked goal marks n = slice_index_or marks n 0 ≡ goal + 1

-- a gate that a search up to a level enters
pub record IsNew (levels : List ℕ) (high goal : ℕ) (marks : List ℕ) (n : ℕ) : Type 0 where
  pub admitted : level_at levels n ≤ high
  pub unmarked : ¬ IsMarked goal marks n

-- how many gates this search hasn't found
abbrev pub unmarked_count : ℕ → List ℕ → ℕ
unmarked_count goal [] = 0
unmarked_count goal (m ∷ marks) = if m == goal + 1 then unmarked_count goal marks else suc (unmarked_count goal marks)

-- no search for a later goal has left a mark
pub record IsReady (width stamp : ℕ) (marks : List ℕ) : Type 0 where
  pub size : length marks ≡ width
  pub bound : All (λ m. m ≤ stamp) marks

-- a gate of the row that a search marked
pub record Meets (goal : ℕ) (row marks : List ℕ) : Type 0 where
  pub gate : ℕ
  pub listed : Contains row gate
  pub marked : IsMarked goal marks gate

-- what following the first k gates of a row did to the marks and to what was found
pub record Follows (levels : List ℕ) (high goal : ℕ) (row : List ℕ) (k : ℕ) (marks after found more : List ℕ) : Type 0 where
  pub size : length after ≡ length marks
  pub bound : All (λ m. m ≤ goal + 1) marks → All (λ m. m ≤ goal + 1) after
  pub longer : length found ≤ length more
  pub same : (j d : ℕ) → j < length found → slice_index_or more j d ≡ slice_index_or found j d
  pub keeps : (x : ℕ) → IsMarked goal marks x → IsMarked goal after x
  pub marked : (x : ℕ) → IsMarked goal after x → IsMarked goal marks x ⊎ Contains more x
  pub each : (j d : ℕ) → j < k → level_at levels (slice_index_or row j d) ≤ high → IsMarked goal after (slice_index_or row j d)
  pub only : (x : ℕ) → Contains more x → Contains found x ⊎ (Contains row x × IsMarked goal after x)
  pub falls : unmarked_count goal after + length more ≤ unmarked_count goal marks + length found

-- each gate to which this one leads, up to a level, was found
abbrev pub IsPassed : List (List ℕ) → List ℕ → ℕ → ℕ → List ℕ → ℕ → Type 0
IsPassed rows levels high goal marks n = (y : ℕ) → InRow rows n y → level_at levels y ≤ high → IsMarked goal marks y

-- the gate itself, or one to which rows lead from it
abbrev pub Reaches : List (List ℕ) → ℕ → ℕ → Type 0
Reaches rows a b = (a ≡ b) ⊎ Connects (InRow rows) AnyGate a b

-- a gate that was found from a row on
pub record IsFound (rows : List (List ℕ)) (width goal : ℕ) (row marks : List ℕ) (n : ℕ) : Type 0 where
  pub within : n < width
  pub marked : IsMarked goal marks n
  pub start : ℕ
  pub listed : Contains row start
  pub reach : Reaches rows start n

-- a search underway, which has passed k of the gates that it found
pub record IsSearching (rows : List (List ℕ)) (levels : List ℕ) (high goal : ℕ) (row marks after found : List ℕ) (k : ℕ) : Type 0 where
  pub size : length after ≡ length marks
  pub bound : All (λ m. m ≤ goal + 1) marks → All (λ m. m ≤ goal + 1) after
  pub marked : (x : ℕ) → IsMarked goal after x → IsMarked goal marks x ⊎ Contains found x
  pub reached : (x : ℕ) → Contains found x → IsFound rows (length levels) goal row after x
  pub begins : (x : ℕ) → Contains row x → level_at levels x ≤ high → IsMarked goal after x
  pub within : k ≤ length found
  pub passed : (j d : ℕ) → j < k → IsPassed rows levels high goal after (slice_index_or found j d)

-- how many gates are still to be passed at most
abbrev pub work_left : ℕ → List ℕ → List ℕ → ℕ → ℕ
work_left goal marks found k = unmarked_count goal marks + length found - k

-- how it ends: one of the others is marked, or none is and all that it found was passed
abbrev pub EndsAt : ℕ → List ℕ → List ℕ → List ℕ → ℕ → Bool → Type 0
EndsAt goal others marks found k true = Meets goal others marks
EndsAt goal others marks found k false = (k ≡ length found) × ((n : ℕ) → Contains others n → ¬ IsMarked goal marks n)

pub record HasSearched (rows : List (List ℕ)) (levels : List ℕ) (high goal : ℕ) (row others : List ℕ) (old new : Search) (met : Bool) : Type 0 where
  pub passed : ℕ
  pub searching : IsSearching rows levels high goal row old.marks.items new.marks.items new.found.items passed
  pub ends : EndsAt goal others new.marks.items new.found.items passed met
