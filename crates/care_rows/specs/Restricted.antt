-- The model that keeps an assumption and excludes rows.
use Rattle.std.specs.Prelude.{◌≡◌, ◌↔◌, ◌⊎◌, ◌+◌, ◌-◌, ◌/◌, ◌<◌, ℕ, Bool, true, List, length, map, filter, codes}
use Rattle.std.specs.List.{flat_map, range_with_len, sum_by}
use Rattle.std.specs.Option.{option_map_or}
use Rattle.netlist.specs.Netlists.{is_marked, columns}
use Rattle.care_rows.specs.declared.telling.TheConstants.{PIECE}
use Rattle.cyc_base.specs.declared.limits.TheConstants.{MAX_FLAT_ITEMS}
use Rattle.netlist.specs.Orders.{numbers_from}
use Rattle.netlist.specs.declared.parts.Parts.{Parts}
use Rattle.loops.specs.Cones.{IsConeOf}
use Rattle.care_sets.specs.Binding.{Binds, HasNoFault}
use Rattle.care_sets.specs.Care.{CareSet, holds_at, is_allowed}
use Rattle.care_sets.specs.declared.model.CareModel.{CareModel}
use Rattle.care_rows.specs.Rows.{IsInNone}
use Rattle.care_rows.specs.declared.fault.RestrictFault.{RestrictFault}
use Rattle.care_rows.specs.declared.fault.RestrictFault.TheVariants.{Memory, TooLarge}
use Rattle.care_rows.specs.declared.rows.Row.{Row}

-- the model can be bound, and lets a vector through just where the assumption did and the vector is in none of the rows
pub record IsRestricted (net : Parts) (care : CareSet) (rows : List Row) (model : Parts) : Type 0 where
  pub passes : HasNoFault net 0 model
  pub named : model.name ≡ codes "assume"
  pub lets : (bound : CareModel) → Binds net 0 model bound → (v : List Bool) → length v ≡ columns net →
      (holds_at bound v ≡ true) ↔ ((is_allowed care v ≡ true) × IsInNone net v rows)

-- the gates that drive the wires of the rows
abbrev pub gates_of_rows : Parts → List Row → List ℕ
gates_of_rows net rows = flat_map (λ row. numbers_from (columns net) (map (λ e. e.wire) row.values)) rows

-- how many gates tell whether so many wires have their values: one for each 1,023 wires, and at least one
abbrev pub telling_gates : ℕ → ℕ
telling_gates wires = (wires - 1) / PIECE + 1

-- how many gates the model has: those of the assumption, those that the rows take, those that tell of each row, and those
-- that tell of all
pub record IsModelSize (net : Parts) (care : CareSet) (rows : List Row) (size : ℕ) : Type 0 where
  pub cone : List Bool
  pub taken : IsConeOf net (gates_of_rows net rows) cone
  pub is : size ≡ length (filter (is_marked cone) (range_with_len 0 (length net.gates)))
      + option_map_or (λ model. length model.net.gates) care.assume 0
      + sum_by (λ row. telling_gates (length row.values)) rows
      + telling_gates (option_map_or (λ model. 1) care.assume 0 + length rows)

-- the model would be too large
pub record IsTooLarge (net : Parts) (care : CareSet) (rows : List Row) (fault : RestrictFault) : Type 0 where
  pub gates : ℕ
  pub size : IsModelSize net care rows gates
  pub over : MAX_FLAT_ITEMS < gates
  pub is : fault ≡ TooLarge gates

abbrev pub IsRestrictFault : Parts → CareSet → List Row → RestrictFault → Type 0
IsRestrictFault net care rows fault = (fault ≡ Memory) ⊎ IsTooLarge net care rows fault
