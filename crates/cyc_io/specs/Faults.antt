-- Counts of faults, by which a refusal shows its cause.
use Rattle.std.specs.Prelude.{◌≡◌, ◌≢◌, ◌⊎◌, ℕ, ◌+◌, ◌-◌, ◌^◌, ◌<◌, ◌≤◌, nat_lt, if◌then◌else◌, List}

-- The count is greater than it was, or stands at the last value of its type.
abbrev pub Rose : ℕ → ℕ → Type 0
Rose before now = before < now ⊎ 2 ^ 64 - 1 ≤ now

-- one more, and no further than the last value
abbrev pub next_count : ℕ → ℕ
next_count count = if nat_lt count (2 ^ 64 - 1) then count + 1 else count

-- a count for each name
abbrev pub Counts : Type 0
Counts = List ℕ → ℕ

-- no count fell, and none changed but that of this name
pub record ChangesCountOf (name : List ℕ) (before now : Counts) : Type 0 where
  pub later : (other : List ℕ) → before other ≤ now other
  pub others : (other : List ℕ) → other ≢ name → now other ≡ before other

-- the count of this name goes on, and each other one stays
pub record RaisesOnly (name : List ℕ) (before now : Counts) : Type 0 where
  pub raised : now name ≡ next_count (before name)
  pub others : (other : List ℕ) → other ≢ name → now other ≡ before other

-- each count stays
abbrev pub SameCounts : Counts → Counts → Type 0
SameCounts before now = (name : List ℕ) → now name ≡ before name
