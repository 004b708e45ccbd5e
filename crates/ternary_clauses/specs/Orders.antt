-- Gates whose pins are taken in another order.
use Rattle.std.specs.Prelude.{◌≡◌, ℕ, Bool, List, length, map, All}
use Rattle.std.specs.List.{swap}
use Rattle.cyc_base.specs.declared.trit.Trit.{Trit}
use Rattle.cover_logic.specs.declared.row.Row.{Row}
use Rattle.cover_logic.specs.Covers.{Cover, IsCover}
use Rattle.cover_logic.specs.Extensions.{ext}
use Rattle.ternary_clauses.specs.declared.rails.Rails.{Rails}
use Rattle.ternary_clauses.specs.Rails.{ReadsAll, AreWithin}

-- a row, and a cover, with two pins in each other's place
abbrev pub exchanged_row : ℕ → ℕ → Row → Row
exchanged_row a b row = record { lits = swap row.lits a b }

abbrev pub exchanged_cover : Cover → ℕ → ℕ → Cover
exchanged_cover cover a b = record { pins = cover.pins; plane = cover.plane; rows = map (exchanged_row a b) cover.rows }

-- under the assignment these rails stand for values at which the cover's extension is this one
pub record IsReadAs (m : List Bool) (cover : Cover) (pins : List Rails) (t : Trit) : Type 0 where
  pub trits : List Trit
  pub size : length trits ≡ cover.pins
  pub reads : ReadsAll m pins trits
  pub is : ext cover trits ≡ t

-- another cover over rails of its own that is the same gate: wherever the pins stand for values, it has the same extension
pub record IsSameGate (cover : Cover) (pins : List Rails) (other : Cover) (others : List Rails) : Type 0 where
  pub proper : IsCover other
  pub width : other.pins ≡ cover.pins
  pub size : length others ≡ other.pins
  pub within : (v : ℕ) → All (AreWithin v) pins → All (AreWithin v) others
  pub at : (m : List Bool) (trits : List Trit) → length trits ≡ cover.pins → ReadsAll m pins trits → IsReadAs m other others (ext cover trits)
