-- Vectors of Boolean values, and their lexicographic order.
use Rattle.std.specs.Prelude.{ℕ, zero, suc, Bool, true, false, List, [], ◌∷◌, ◌++◌, map}

-- all vectors of so many values, in lexicographic order, 0 before 1
abbrev pub vectors : ℕ → List (List Bool)
vectors zero = [] ∷ []
vectors (suc width) = map (λ v. false ∷ v) (vectors width) ++ map (λ v. true ∷ v) (vectors width)

-- at the first place where the two lists differ the first has 0. A list is at most each one that it begins.
abbrev pub AtMost : List Bool → List Bool → Type 0
AtMost [] ws = Unit {0}
AtMost (v ∷ vs) [] = ⊥
AtMost (false ∷ vs) (false ∷ ws) = AtMost vs ws
AtMost (false ∷ vs) (true ∷ ws) = Unit {0}
AtMost (true ∷ vs) (false ∷ ws) = ⊥
AtMost (true ∷ vs) (true ∷ ws) = AtMost vs ws
