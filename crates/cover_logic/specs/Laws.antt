-- The laws of the value and of the exact extension.
use Rattle.std.specs.Prelude.{◌≡◌, ◌↔◌, Bool, List}
use Rattle.cyc_base.specs.declared.trit.Trit.{Trit}
use Rattle.cyc_base.specs.Values.{bit, bits, Below, EachBelow, Completes}
use Rattle.cover_logic.specs.Covers.{Cover, value}
use Rattle.cover_logic.specs.Extensions.{ext}

-- the extension is b exactly where the value is b at each completion
abbrev pub ExtIsExact : Type 0
ExtIsExact = (cover : Cover) (trits : List Trit) (b : Bool) →
    (ext cover trits ≡ bit b) ↔ ((bs : List Bool) → Completes trits bs → value cover bs ≡ b)

-- at Boolean pins it is the value
abbrev pub ExtAtBits : Type 0
ExtAtBits = (cover : Cover) (bs : List Bool) → ext cover (bits bs) ≡ bit (value cover bs)

abbrev pub IsMonotone : (List Trit → Trit) → Type 0
IsMonotone f = (low high : List Trit) → EachBelow low high → Below (f low) (f high)

-- it says nothing that the value does not bear out at each completion
abbrev pub IsBelowValue : Cover → (List Trit → Trit) → Type 0
IsBelowValue cover f = (trits : List Trit) (bs : List Bool) →
    Completes trits bs → Below (f trits) (bit (value cover bs))

-- it is below the value where all pins are Boolean
abbrev pub IsBelowValueAtBits : Cover → (List Trit → Trit) → Type 0
IsBelowValueAtBits cover f = (bs : List Bool) → Below (f (bits bs)) (bit (value cover bs))

-- the extension is a monotone function below the value, and tells at least what each other one tells
pub record IsMostInformative (cover : Cover) : Type 0 where
  pub monotone : IsMonotone (ext cover)
  pub below : IsBelowValue cover (ext cover)
  pub most : (f : List Trit → Trit) → IsBelowValue cover f → (trits : List Trit) → Below (f trits) (ext cover trits)
  pub most_at_bits : (f : List Trit → Trit) → IsMonotone f → IsBelowValueAtBits cover f → (trits : List Trit) → Below (f trits) (ext cover trits)

-- Boolean pins in the order are equal, and so are their values
abbrev pub ValueIsMonotone : Type 0
ValueIsMonotone = (cover : Cover) (low high : List Bool) →
    EachBelow (bits low) (bits high) → Below (bit (value cover low)) (bit (value cover high))
