-- A sweep that sets the gates of one loop one after another.
use Rattle.std.specs.Prelude.{◌≡◌, ℕ, Bool, true, false, List, [], ◌∷◌, slice_set, Contains}
use Rattle.std.specs.List.{AllByRecursion}
use Rattle.cyc_base.specs.declared.trit.Trit.{Trit}
use Rattle.netlist.specs.declared.parts.Parts.{Parts}
use Rattle.netlist.specs.Walks.{Feeds}
use Rattle.loops.specs.Cuts.{Loops}
use Rattle.loops.specs.Sweeps.{gate_in}

-- gate n reads gate g, which is no cut wire
pub record ReadsUncut (net : Parts) (cut : ℕ → Bool) (n g : ℕ) : Type 0 where
  pub feeds : Feeds net g n
  pub uncut : cut g ≡ false

-- each gate stands once, after the gates of the list that it reads and that are no cut wires
abbrev pub IsInOrder : Parts → (ℕ → Bool) → List ℕ → Type 0
IsInOrder net cut [] = Unit {0}
IsInOrder net cut (n ∷ order) =
    AllByRecursion (λ g. (¬ (g ≡ n)) × (¬ ReadsUncut net cut n g)) order × IsInOrder net cut order

-- such an order of these gates
pub record IsOrderOf (net : Parts) (cut : ℕ → Bool) (gates order : List ℕ) : Type 0 where
  pub only : (n : ℕ) → Contains order n → Contains gates n
  pub each : (n : ℕ) → Contains gates n → Contains order n
  pub follows : IsInOrder net cut order

-- these are the gates of gate a's loop
abbrev pub AreGatesOfLoop : Loops → ℕ → List ℕ → Type 0
AreGatesOfLoop loops a gates = ((n : ℕ) → loops.same a n ≡ true → Contains gates n) × ((n : ℕ) → Contains gates n → loops.same a n ≡ true)

-- the gates set, one after another in this order, to the value of their covers; cut wires are read from c
abbrev pub sweep_in : Parts → Loops → List Trit → List Trit → List ℕ → List Trit → List Trit
sweep_in net loops v c [] s = s
sweep_in net loops v c (n ∷ order) s =
    sweep_in net loops v c order (slice_set s n (gate_in net loops v c s n))
