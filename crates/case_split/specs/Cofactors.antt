-- A cover with known values put in: its cofactor (Boole 1854; Shannon 1949).
use Rattle.std.specs.Prelude.{◌≡◌, ◌<◌, ℕ, Bool, true, false, if◌then◌else◌, List, [], ◌∷◌, length, map, filter, All, Option, Some, None, is_some, slice_index_or}
use Rattle.std.specs.List.{list_all, list_any, zip}
use Rattle.cyc_base.specs.declared.sig.Sig.{Sig}
use Rattle.cyc_base.specs.declared.trit.Trit.{Trit}
use Rattle.cyc_base.specs.Values.{Below}
use Rattle.cover_logic.specs.Covers.{Cover}
use Rattle.cover_logic.specs.Extensions.{ext}
use Rattle.cover_logic.specs.Partial.{may_allow}
use Rattle.cover_logic.specs.declared.row.Lit.{Lit}
use Rattle.cover_logic.specs.declared.row.Lit.TheVariants as lit
use Rattle.cover_logic.specs.declared.row.Row.{Row}
use Rattle.case_split.specs.declared.cofactors.Cofactor.{Cofactor}
use Rattle.case_split.specs.declared.cofactors.Cofactor.TheVariants.{Folded, Left}
use Rattle.case_split.specs.declared.operands.Operand.{Operand}
use Rattle.case_split.specs.declared.operands.Operand.TheVariants.{Constant, Wire}
use Rattle.case_split.specs.Operands.{value_by, known_value, IsWithin}

-- no constant among what is on the pins contradicts these literals
abbrev pub is_live : List Lit → List Operand → Bool
is_live lits operands = list_all (λ pin. may_allow pin.0 (known_value pin.1)) (zip lits operands)

-- the rows that no constant contradicts
abbrev pub live_rows : List Row → List Operand → List Row
live_rows rows operands = filter (λ row. is_live row.lits operands) rows

abbrev pub is_literal : Lit → Bool
is_literal lit.Any = false
is_literal lit.Zero = true
is_literal lit.One = true

-- one of these rows asks a value of this pin
abbrev pub is_asked : List Row → ℕ → Bool
is_asked live pin = list_any (λ row. is_literal (slice_index_or row.lits pin lit.Any)) live

-- the wire that is left at this pin: none where the operand is a constant or no row asks
abbrev pub left_at : List Row → ℕ → Operand → Option Sig
left_at live pin (Constant b) = None
left_at live pin (Wire s) = if is_asked live pin then Some s else None

-- for each pin the wire that is left there
pub record AreLeft (live : List Row) (operands : List Operand) (left : List (Option Sig)) : Type 0 where
  pub width : length left ≡ length operands
  pub each : (i : ℕ) (d : Operand) → i < length operands → slice_index_or left i None ≡ left_at live i (slice_index_or operands i d)

abbrev pub wires_of : List (Option Sig) → List Sig
wires_of [] = []
wires_of (None ∷ left) = wires_of left
wires_of (Some s ∷ left) = s ∷ wires_of left

-- what a row asks of the wires that are left
abbrev pub left_lits : List Lit → List (Option Sig) → List Lit
left_lits lits left = map (λ pin. pin.0) (filter (λ pin. is_some pin.1) (zip lits left))

abbrev pub left_row : List (Option Sig) → Row → Row
left_row left row = record { lits = left_lits row.lits left }

-- a cover of these wires tells at least what the given one does of the operands, and the wires are among these
pub record IsLeft (cover : Cover) (operands : List Operand) (rest : Cover) (pins : List Sig) : Type 0 where
  pub tells : (f : Sig → Trit) → Below (ext cover (map (value_by f) operands)) (ext rest (map f pins))
  pub width : length pins ≡ rest.pins
  pub within : (bound : ℕ) → All (IsWithin bound) operands → All (λ s. s.0 < bound) pins

-- the same of an operand alone
pub record IsFolded (cover : Cover) (operands : List Operand) (operand : Operand) : Type 0 where
  pub tells : (f : Sig → Trit) → Below (ext cover (map (value_by f) operands)) (value_by f operand)
  pub within : (bound : ℕ) → All (IsWithin bound) operands → IsWithin bound operand

abbrev pub IsCofactor : Cover → List Operand → Cofactor → Type 0
IsCofactor cover operands (Folded operand) = IsFolded cover operands operand
IsCofactor cover operands (Left rest pins) = IsLeft cover operands rest pins.items
