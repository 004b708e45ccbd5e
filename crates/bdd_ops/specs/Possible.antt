-- Which values functions take where the first bits of a vector by column are given.
use Rattle.std.specs.Prelude.{◌≡◌, ◌↔◌, ◌<◌, ◌||◌, ℕ, suc, Bool, true, false, List, length, take, set, slice_get, Option, Some, None, if◌then◌else◌}
use Rattle.std.specs.List.{slice_index_or}
use Rattle.bdd_store.specs.Arena.{Arena, value_at}
use Rattle.bdd_ops.specs.declared.least_by.Values.{Values}
use Rattle.bdd_ops.specs.Least.{by_variable}

-- the function has this value at a vector of so many bits that begins with these
pub record Takes (f : List Bool → Bool) (count : ℕ) (first : List Bool) (value : Bool) : Type 0 where
  pub vector : List Bool
  pub long : length vector ≡ count
  pub begins : take (length first) vector ≡ first
  pub value_there : f vector ≡ value

-- the bit at this column makes no difference to the function
abbrev pub IsUnread : (List Bool → Bool) → ℕ → Type 0
IsUnread f column = (v : List Bool) (bit : Bool) → f (set v column bit) ≡ f v

-- each column that the function reads has a mark
abbrev pub MarksRead : (List Bool → Bool) → List Bool → Type 0
MarksRead f marks = (column : ℕ) → slice_index_or marks column false ≡ false → IsUnread f column

-- exactly these values
pub record AreValuesOf (f : List Bool → Bool) (count : ℕ) (first : List Bool) (values : Values) : Type 0 where
  pub one : (values.one ≡ true) ↔ Takes f count first true
  pub zero : (values.zero ≡ true) ↔ Takes f count first false

-- of the complement, where there is a mark
abbrev pub flipped_values : Bool → Values → Values
flipped_values mark v = if mark then record { one = v.zero; zero = v.one } else v

abbrev pub either : Values → Values → Values
either u v = record { one = u.one || v.one; zero = u.zero || v.zero }

-- of a branching node: of the branch for this bit, and of both where the bit is open
abbrev pub branch_values : Values → Values → Option Bool → Values
branch_values lo hi (Some bit) = if bit then hi else lo
branch_values lo hi None = either lo hi

-- the function at an index, of a node without a mark, by column
abbrev pub value_by : Arena → List ℕ → ℕ → List Bool → Bool
value_by s columns i v = value_at s.entries i (by_variable columns v)

-- the functions at all indices up to the last take the values that are found
abbrev pub AreFound : Arena → List ℕ → List Bool → List Values → ℕ → Type 0
AreFound s columns first found last = (i : ℕ) (v : Values) → i < suc last → slice_get found i ≡ Some v → AreValuesOf (value_by s columns i) s.vars first v
