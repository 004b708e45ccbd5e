-- Names that are given to signals one after another.
use Rattle.std.specs.Prelude.{◌≡◌, ◌⊎◌, ◌++◌, ℕ, List, Some, None, option_map}
use Rattle.std.specs.Str.{bytes_eq}
use Rattle.netlist.specs.declared.parts.PartsFault.{PartsFault}
use Rattle.netlist.specs.declared.parts.PartsFault.TheVariants.{NameTwice, Memory}
use Rattle.netlist.specs.Netlists.{signal}
use Rattle.netlist.specs.Faults.{repeat_after}

-- `new` are the names after those that are added to `old`, all of them new
pub record AddsAll (old names new : List (List ℕ)) : Type 0 where
  pub last : new ≡ old ++ names
  pub fresh : repeat_after bytes_eq old names ≡ None

-- the fault is that of the first of the names that is among the old ones or an earlier one of them
abbrev pub RepeatsIn : List (List ℕ) → List (List ℕ) → PartsFault → Type 0
RepeatsIn old names fault = option_map (λ p. NameTwice (signal p.0)) (repeat_after bytes_eq old names) ≡ Some fault

-- memory ran out, or a name repeats
abbrev pub StopsAt : List (List ℕ) → List (List ℕ) → PartsFault → Type 0
StopsAt old names fault = (fault ≡ Memory) ⊎ RepeatsIn old names fault
