-- Three values as two nodes: where a value is surely 1, and where it is surely 0.
use Rattle.std.specs.Prelude.{◌≡◌, Bool, false, List, ◌&&◌, if◌then◌else◌, map}
use Rattle.bdd_store.specs.Arena.{Arena, den, IsNodeOf}
use Rattle.cyc_base.specs.declared.trit.Trit.{Trit}
use Rattle.cyc_base.specs.declared.trit.Trit.TheVariants.{Zero, One, X}
use Rattle.dual_rail.specs.declared.rail.Rails.{Rails}

-- the value that is surely 1, or surely 0, or neither
abbrev pub trit_of : Bool → Bool → Trit
trit_of one zero = if one then One else (if zero then Zero else X)

-- the value that rails stand for at a vector
abbrev pub value_of : Arena → Rails → List Bool → Trit
value_of a r bits = trit_of (den a r.one bits) (den a r.zero bits)

-- and that of each of a list of rails
abbrev pub values_of : Arena → List Rails → List Bool → List Trit
values_of a rails bits = map (λ r. value_of a r bits) rails

-- proper rails: two nodes that no vector makes both true
pub record AreRailsOf (a : Arena) (r : Rails) : Type 0 where
  pub one : IsNodeOf a r.one
  pub zero : IsNodeOf a r.zero
  pub proper : (bits : List Bool) → (den a r.one bits && den a r.zero bits) ≡ false
