-- The variables that a solver has of those of a formula, under numbers of its own.
use Rattle.std.specs.Prelude.{◌≡◌, ◌<◌, ◌≤◌, ℕ, ◌+◌, ◌*◌, ◌/◌, ◌%◌, ◌==◌, Bool, true, false, if◌then◌else◌, List, length, slice_index_or, All}
use Rattle.sat.specs.Cnf.{literal, assignment}
use Rattle.sat.specs.declared.lit.Lit.{Lit}
use Rattle.clause_queries.specs.declared.names.Names.{Names}

-- the variable with a number, or what is none
abbrev pub name_of : Names → ℕ → ℕ
name_of n number = slice_index_or n.names.items number 4294967295

-- the number of a variable that has one
abbrev pub number_of : Names → ℕ → ℕ
number_of n variable = slice_index_or n.numbers.items variable 0

-- whether it has
abbrev pub has : Names → ℕ → Bool
has n variable = name_of n (number_of n variable) == variable

-- each number is that of a variable of the formula, which has it
pub record AreNames (n : Names) : Type 0 where
  pub few : length n.numbers.items ≤ 2147483647
  pub within : (i : ℕ) → i < length n.names.items → name_of n i < length n.numbers.items
  pub numbered : (i : ℕ) → i < length n.names.items → number_of n (name_of n i) ≡ i

-- the variable of this literal is the formula's, and has a number
pub record HasNumber (n : Names) (l : ℕ) : Type 0 where
  pub within : l / 2 < length n.numbers.items
  pub has_it : has n (l / 2) ≡ true

-- the variables of these literals have numbers, as far as they are the formula's
abbrev pub AreNumbered : Names → List ℕ → Type 0
AreNumbered n = All (λ l. l / 2 < length n.numbers.items → has n (l / 2) ≡ true)

-- further variables have numbers
pub record AreMoreNames (old new : Names) : Type 0 where
  pub are : AreNames new
  pub width : length new.numbers.items ≡ length old.numbers.items
  pub more : length old.names.items ≤ length new.names.items
  pub same : (i : ℕ) → i < length old.names.items → name_of new i ≡ name_of old i
  pub kept : (v : ℕ) → has old v ≡ true → v < length old.numbers.items → has new v ≡ true

-- the solver's literal for one of the formula's
abbrev pub own : Names → ℕ → Lit
own n l = literal (number_of n (l / 2)) ((l % 2) == 1)

-- the literal of the formula that one of the solver's stands for
abbrev pub named : Names → Lit → ℕ
named n l = 2 * name_of n (l.code / 2) + l.code % 2

-- the value of a variable in a model of the solver's
abbrev pub value_by : Names → List Bool → ℕ → Bool
value_by n model variable = if has n variable then assignment model (number_of n variable) else false
