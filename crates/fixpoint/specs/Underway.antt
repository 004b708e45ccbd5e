-- How far the sweeps of one loop have come.
use Rattle.std.specs.Prelude.{◌≡◌, ◌<◌, ◌≤◌, ◌+◌, ℕ, Bool, true, false, List, length, map, All}
use Rattle.bdd_store.specs.Arena.{Arena}
use Rattle.dual_rail.specs.declared.rail.Rails.{Rails}
use Rattle.dual_rail.specs.Rails.{AreRailsOf, values_of}
use Rattle.loops.specs.Looped.{Looped}
use Rattle.loops.specs.Sweeps.{value_in}
use Rattle.fixpoint.specs.Solved.{Vectors, AreStepsOf, step_at}
use Rattle.fixpoint.specs.Sweeping.{IsSolvedBelow, AreFresh, CutsAre, after_sweeps}

-- a loop after as many sweeps as it has steps
pub record IsUnderway (l : Looped) (a : Arena) (v : Vectors) (b : ℕ) (cuts : List ℕ) (steps : List (List Rails)) (before rails : List Rails) : Type 0 where
  pub solved : IsSolvedBelow l a v b before rails
  pub cuts_are : CutsAre l a (after_sweeps l v (length steps)) b before
  pub fresh : AreFresh l (b + 1) before
  pub each : (j : ℕ) (bits : List Bool) → j < length steps → values_of a (step_at steps j) bits ≡ map (value_in (after_sweeps l v j bits)) cuts
  pub proper : All (All (AreRailsOf a)) steps
  pub few : length steps ≤ length cuts

-- the cut wires stand still: the loop is solved, and these are its steps
pub record IsAtRest (l : Looped) (a : Arena) (v : Vectors) (b : ℕ) (cuts : List ℕ) (steps : List (List Rails)) (before rails : List Rails) : Type 0 where
  pub solved : IsSolvedBelow l a v (b + 1) before rails
  pub fresh : AreFresh l (b + 1) before
  pub steps_are : AreStepsOf l.net l.blocks l.cut a v (record { block = b; cuts = cuts; steps = steps })

-- after one sweep more
abbrev pub IsSweptOnce : Looped → Arena → Vectors → ℕ → List ℕ → List (List Rails) → List Rails → List Rails → Bool → Type 0
IsSweptOnce l a v b cuts steps before rails true = IsAtRest l a v b cuts steps before rails
IsSweptOnce l a v b cuts steps before rails false = IsUnderway l a v b cuts steps before rails
