-- One gate among the readers of its pins.
use Rattle.std.specs.Prelude.{◌≡◌, ◌⊎◌, ◌<◌, ℕ, List, length, slice_index_or, Contains}
use Rattle.cyc_base.specs.declared.sig.Sig.{Sig}
use Rattle.simulation.specs.Plans.{readers_of}

-- the gate was added to the readers of its first k pins, and to no others
pub record AreListed (gate : ℕ) (pins : List Sig) (k : ℕ) (old new : List (List ℕ)) : Type 0 where
  pub size : length new ≡ length old
  pub each : (i : ℕ) (d : Sig) → i < k → Contains (readers_of new (slice_index_or pins i d)) gate
  pub keeps : (s : Sig) (n : ℕ) → Contains (readers_of old s) n → Contains (readers_of new s) n
  pub only : (s : Sig) (n : ℕ) → Contains (readers_of new s) n → Contains (readers_of old s) n ⊎ (n ≡ gate)
