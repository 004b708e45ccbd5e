-- What a gate may see on its pins, and where it stays unknown whatever that is.
use Rattle.std.specs.Prelude.{◌≡◌, ◌↔◌, ℕ, suc, Bool, true, false, not, List, [], ◌∷◌, length}
use Rattle.std.specs.List.{list_any, AllZip}
use Rattle.cyc_base.specs.declared.trit.Trit.{Trit}
use Rattle.cyc_base.specs.declared.trit.Trit.TheVariants.{X}
use Rattle.cyc_base.specs.Values.{bit}
use Rattle.cover_logic.specs.Covers.{Cover}
use Rattle.cover_logic.specs.Extensions.{ext}
use Rattle.cover_logic.specs.Partial.{asks}
use Rattle.explanations.specs.declared.pins.Pin.{Pin}
use Rattle.explanations.specs.declared.pins.Pin.TheVariants.{Known, Open, Free}

-- what is known of a pin
abbrev pub trit_of : Pin → Trit
trit_of (Known b) = bit b
trit_of Open = X
trit_of Free = X

abbrev pub is_free : Pin → Bool
is_free (Known b) = false
is_free Open = false
is_free Free = true

-- a value that the pin may have: its own where it is known, X where it stays open, and any where it is free
abbrev pub MayBe : Pin → Trit → Type 0
MayBe (Known b) value = value ≡ bit b
MayBe Open value = value ≡ X
MayBe Free value = Unit {0}

-- the gate is unknown whatever its pins are
abbrev pub StaysOpen : Cover → List Pin → Type 0
StaysOpen cover pins = (values : List Trit) → AllZip MayBe pins values → ext cover values ≡ X

-- some values of the pins determine the gate with this value
pub record CanBe (cover : Cover) (pins : List Pin) (wanted : Bool) : Type 0 where
  pub values : List Trit
  pub may : AllZip MayBe pins values
  pub is : ext cover values ≡ bit wanted

-- of a pin at b: the value that no row may ask for, so that the gate has the wanted value there wherever it has it at not b.
-- A row that matches at not b is to match at b too where the rows list the wanted value, and else the reverse.
abbrev pub spoiling : Bool → Bool → Bool → Bool
spoiling true true b = not b
spoiling false false b = not b
spoiling true false b = b
spoiling false true b = b

abbrev pub IsBetter : Cover → ℕ → Bool → Bool → Type 0
IsBetter cover pin wanted b = list_any (λ row. asks row.lits pin (spoiling cover.plane wanted b)) cover.rows ≡ false

-- other values of the pins, by which the gate can have the wanted value just where it can by these
pub record AreAsGood (cover : Cover) (wanted : Bool) (pins chosen : List Pin) : Type 0 where
  pub size : length chosen ≡ length pins
  pub can : CanBe cover chosen wanted ↔ CanBe cover pins wanted

abbrev pub free_count : List Pin → ℕ
free_count [] = 0
free_count (Free ∷ pins) = suc (free_count pins)
free_count (Known b ∷ pins) = free_count pins
free_count (Open ∷ pins) = free_count pins
