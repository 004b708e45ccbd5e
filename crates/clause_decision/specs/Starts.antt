-- What inits ask of the state of the latches.
use Rattle.std.specs.Prelude.{ℕ, List, [], ◌∷◌, ◌++◌}
use Rattle.netlist.specs.declared.parts.Init.{Init}
use Rattle.netlist.specs.declared.parts.Init.TheVariants.{Zero, One, Either}
use Rattle.netlist.specs.declared.parts.Latch.{Latch}
use Rattle.ternary_clauses.specs.declared.rails.Rails.{Rails}

-- the literal that is true where the latch may start with its value, if its init asks for one
abbrev pub asked_of : Init → Rails → List ℕ
asked_of Zero latch = latch.zero ∷ []
asked_of One latch = latch.one ∷ []
asked_of Either latch = []

-- those of all latches
abbrev pub asked_starts : List Latch → List Rails → List ℕ
asked_starts [] rails = []
asked_starts (latch ∷ latches) [] = []
asked_starts (latch ∷ latches) (r ∷ rails) = asked_of latch.init r ++ asked_starts latches rails
