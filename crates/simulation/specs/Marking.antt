-- Which blocks become due where a signal changes.
use Rattle.std.specs.Prelude.{◌≡◌, ◌<◌, ℕ, Bool, true, List, length, slice_index_or}
use Rattle.simulation.specs.Stability.{is_due}

-- what is due stays due
abbrev pub StayDue : List Bool → List Bool → Type 0
StayDue old new = (place : ℕ) → is_due old place ≡ true → is_due new place ≡ true

-- the blocks of the first k of these gates became due, and what was due still is
pub record AreMarked (gates home : List ℕ) (k : ℕ) (old new : List Bool) : Type 0 where
  pub size : length new ≡ length old
  pub each : (i d : ℕ) → i < k → is_due new (slice_index_or home (slice_index_or gates i d) 0) ≡ true
  pub stay : StayDue old new
