-- The three values, and the order of what they tell.
use Rattle.std.specs.Prelude.{◌≡◌, ◌≢◌, Bool, true, false, List, map, Some, None}
use Rattle.std.specs.declared.option.Option.{Option}
use Rattle.std.specs.List.{AllZip}
use Rattle.cyc_base.specs.declared.trit.Trit.{Trit}
use Rattle.cyc_base.specs.declared.trit.Trit.TheVariants.{Zero, One, X}

-- a Boolean value as one of the three
abbrev pub bit : Bool → Trit
bit false = Zero
bit true = One

-- a list of Boolean values as ternary ones
abbrev pub bits : List Bool → List Trit
bits = map bit

-- the Boolean value that a value is, if it is one
abbrev pub known_bit : Trit → Option Bool
known_bit Zero = Some false
known_bit One = Some true
known_bit X = None

-- X is below each value, and each value is below itself
abbrev pub Below : Trit → Trit → Type 0
Below X other = Unit {0}
Below Zero other = other ≡ Zero
Below One other = other ≡ One

-- a list is below another of the same length where each value is
abbrev pub EachBelow : List Trit → List Trit → Type 0
EachBelow = AllZip Below

-- each X is replaced by 0 or 1, and all else stays: Boolean values above ternary ones
abbrev pub Completes : List Trit → List Bool → Type 0
Completes trits bs = EachBelow trits (bits bs)
