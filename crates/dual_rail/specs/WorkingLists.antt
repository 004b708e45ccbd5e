-- The functions that a lift works with, and numbers that are at least their sizes, or those of their combinations.
use Rattle.std.specs.Prelude.{◌≡◌, ℕ, ◌+◌, ◌≤◌, Bool, true, false, List, ◌++◌, drop, length}
use Rattle.bdd_store.specs.Arena.{Arena}
use Rattle.bdd_store.specs.Subfunctions.{nodes}
use Rattle.cyc_base.specs.declared.trit.Trit.{Trit}
use Rattle.cyc_base.specs.declared.trit.Trit.TheVariants.{Zero, One}
use Rattle.cover_logic.specs.Extensions.{exact}
use Rattle.dual_rail.specs.declared.rail.Rails.{Rails}
use Rattle.dual_rail.specs.Rails.{values_of}

-- w is at least the number of variables plus one, and at least the number of subfunctions of each Boolean
-- combination of at most three functions of a list
pub record IsWide (vars : ℕ) (IsOfList : (List Bool → Bool) → Type 0) (w : ℕ) : Type 0 where
  pub variables : vars + 1 ≤ w
  pub combinations : (c : Bool → Bool → Bool → Bool) (f g h : List Bool → Bool) →
      IsOfList f → IsOfList g → IsOfList h → nodes vars (λ bits. c (f bits) (g bits) (h bits)) ≤ w

-- w is at least the number of subfunctions of each function of a list
abbrev pub BoundsEach : ℕ → ((List Bool → Bool) → Type 0) → ℕ → Type 0
BoundsEach vars IsOfList w = (f : List Bool → Bool) → IsOfList f → nodes vars f ≤ w

-- whether a value is this Boolean one
abbrev pub is_bit : Bool → Trit → Bool
is_bit true One = true
is_bit false Zero = true
is_bit b trit = false

-- A function that a lift of f works with: it says that f's extension, with some first pins fixed, is 1, or that it
-- is 0, on the values of the other pins.
pub record IsExtended (a : Arena) (pins : List Rails) (f g : List Bool → Bool) : Type 0 where
  pub first : List Bool
  pub short : length first ≤ length pins
  pub bit : Bool
  pub same : (bits : List Bool) →
      g bits ≡ is_bit bit (exact (λ rest. f (first ++ rest)) (drop (length first) (values_of a pins bits)))
