-- What a search is to do where no clause forces anything.
use Rattle.std.specs.Prelude.{◌≡◌, List}
use Rattle.std.specs.List.{All}
use Rattle.sat.specs.declared.lit.Lit.{Lit}
use Rattle.sat.specs.declared.values.Truth.{Truth}
use Rattle.sat.specs.declared.values.Truth.TheVariants.{Open, True}
use Rattle.sat.specs.declared.decisions.Next.{Next}
use Rattle.sat.specs.declared.decisions.Next.TheVariants.{Assume, Decide, Fails, Full}
use Rattle.sat.specs.Values.{value_of}

-- what is decided is open, and all assumptions are true where nothing is left
abbrev pub IsNext : List Truth → List Lit → Next → Type 0
IsNext values assumptions (Assume l) = value_of values l ≡ Open
IsNext values assumptions (Decide l) = value_of values l ≡ Open
IsNext values assumptions (Fails l) = Unit {0}
IsNext values assumptions Full = All (λ l. value_of values l ≡ True) assumptions
