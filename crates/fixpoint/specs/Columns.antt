-- A vector's columns laid on the variables of diagrams.
use Rattle.std.specs.Prelude.{◌≡◌, ◌<◌, ℕ, Bool, List, length, All, slice_index_or}
use Rattle.bdd_store.specs.Arena.{Arena}
use Rattle.bdd_ops.specs.Least.{by_variable}
use Rattle.bdd_ops.specs.Operations.{bit_at}
use Rattle.cyc_base.specs.Values.{bit, bits}
use Rattle.dual_rail.specs.declared.rail.Rails.{Rails}
use Rattle.dual_rail.specs.Rails.{AreRailsOf, value_of, values_of}
use Rattle.fixpoint.specs.Sweeping.{rails_at}

-- the rails of the columns of the first variables stand for these
pub record AreFirstColumns (a : Arena) (columns : List ℕ) (first : ℕ) (rails : List Rails) : Type 0 where
  pub width : length rails ≡ a.vars
  pub proper : All (AreRailsOf a) rails
  pub values : (k : ℕ) → k < first → (w : List Bool) → value_of a (rails_at rails (slice_index_or columns k 0)) w ≡ bit (bit_at k w)

-- the rails of all columns: at each vector they stand for it
pub record AreColumns (a : Arena) (columns : List ℕ) (rails : List Rails) : Type 0 where
  pub width : length rails ≡ a.vars
  pub proper : All (AreRailsOf a) rails
  pub values : (v : List Bool) → length v ≡ a.vars → values_of a rails (by_variable columns v) ≡ bits v
